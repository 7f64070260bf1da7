-- How tokens are spelled, and the spaces between them.
use Rattle.std.specs.Prelude.{◌≡◌, ℕ, Bool, true, false, ◌==◌, ◌||◌, if◌then◌else◌, List, [], ◌∷◌, ◌++◌, Option, codes, chars, decimal, encode_utf8_all, string_bytes}
use Rattle.jql_syntax.specs.Tree.{Tree}
use Rattle.jql_syntax.specs.declared.token.Mark.{Mark}
use Rattle.jql_syntax.specs.declared.token.Mark.TheVariants.{Equals, NotEquals, Greater, GreaterOrEqual, Less, LessOrEqual, Contains, Lacks, Open, Close, Comma, And, Or, Not, Empty, In, Is, Was, Changed, Order, By, Ascending, Descending, After, Before, On, During, From, To}
use Rattle.jql_syntax.specs.declared.token.Token.{Token}
use Rattle.jql_syntax.specs.declared.token.Token.TheVariants.{Marked, Word, Name, Quoted, Custom, Bad}
use Rattle.jql_syntax.specs.declared.query.SortKey.{SortKey}
use Rattle.jql_print.specs.Print.{printed}
use Rattle.jql_print.specs.declared.line.Line.{Line}

-- signs, and keywords in capitals
abbrev pub mark_spelling : Mark → List ℕ
mark_spelling Equals = codes "="
mark_spelling NotEquals = codes "!="
mark_spelling Greater = codes ">"
mark_spelling GreaterOrEqual = codes ">="
mark_spelling Less = codes "<"
mark_spelling LessOrEqual = codes "<="
mark_spelling Contains = codes "~"
mark_spelling Lacks = codes "!~"
mark_spelling Open = codes "("
mark_spelling Close = codes ")"
mark_spelling Comma = codes ","
mark_spelling And = codes "AND"
mark_spelling Or = codes "OR"
mark_spelling Not = codes "NOT"
mark_spelling Empty = codes "EMPTY"
mark_spelling In = codes "IN"
mark_spelling Is = codes "IS"
mark_spelling Was = codes "WAS"
mark_spelling Changed = codes "CHANGED"
mark_spelling Order = codes "ORDER"
mark_spelling By = codes "BY"
mark_spelling Ascending = codes "ASC"
mark_spelling Descending = codes "DESC"
mark_spelling After = codes "AFTER"
mark_spelling Before = codes "BEFORE"
mark_spelling On = codes "ON"
mark_spelling During = codes "DURING"
mark_spelling From = codes "FROM"
mark_spelling To = codes "TO"

-- \ stands before " and \
abbrev pub escaped : List ℕ → List ℕ
escaped [] = []
escaped (c ∷ cs) = if (c == 34) || (c == 92) then 92 ∷ c ∷ escaped cs else c ∷ escaped cs

-- the characters of a token: texts stand in ", numbers have no leading zeros
abbrev pub spelling : Token → List ℕ
spelling (Marked m) = mark_spelling m
spelling (Word w) = chars w
spelling (Name w) = chars w
spelling (Quoted w) = 34 ∷ (escaped (chars w) ++ 34 ∷ [])
spelling (Custom n) = codes "cf[" ++ (decimal n ++ 93 ∷ [])
spelling (Bad k) = []

-- no space stands behind ( and a function's name
abbrev pub is_tight : Token → Bool
is_tight (Marked Open) = true
is_tight (Name w) = true
is_tight _ = false

-- and none before ) and a comma
abbrev pub closes : Token → Bool
closes (Marked Close) = true
closes (Marked Comma) = true
closes _ = false

abbrev pub gap : Bool → Token → List ℕ
gap tight t = if tight || closes t then [] else 32 ∷ []

-- the characters of tokens that stand behind a place with no space, or with one
abbrev pub spellings : Bool → List Token → List ℕ
spellings tight [] = []
spellings tight (t ∷ ts) = gap tight t ++ (spelling t ++ spellings (is_tight t) ts)

-- the text of tokens
abbrev pub text_of : List Token → List ℕ
text_of ts = encode_utf8_all (spellings true ts)

-- the one spelling of the query with this condition and these sort keys
abbrev pub query_text : Option Tree → List SortKey → List ℕ
query_text q keys = text_of (printed q keys)

-- the tokens were written at the end: whatever follows, it is as if it followed them
abbrev pub Writes : Line → Line → (List Token → List Token) → Type 0
Writes old new text =
    (rest : List Token)
    → string_bytes new.text ++ encode_utf8_all (spellings new.is_tight rest)
    ≡ string_bytes old.text ++ encode_utf8_all (spellings old.is_tight (text rest))
