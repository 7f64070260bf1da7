-- The tokens of a text, character by character.
use Rattle.std.specs.Prelude.{ℕ, zero, suc, ◌-◌, ◌==◌, nat_le, Bool, false, not, ◌&&◌, ◌||◌, if◌then◌else◌, List, [], ◌∷◌, length, map, Option, Some, None, option_map, option_and_then, Result, Ok, Err, codes, encode_utf8_all, chars}
use Rattle.std.specs.Char.{is_control, is_ascii_digit}
use Rattle.std.specs.Str.{str_eq_ignore_ascii_case}
use Rattle.relative_dates.specs.Reading.{number_of}
use Rattle.jql_syntax.specs.declared.token.Mark.{Mark}
use Rattle.jql_syntax.specs.declared.token.Mark.TheVariants.{Equals, NotEquals, Greater, GreaterOrEqual, Less, LessOrEqual, Contains, Lacks, Open, Close, Comma, And, Or, Not, Empty, In, Is, Was, Changed, Order, By, Ascending, Descending, After, Before, On, During, From, To}
use Rattle.jql_syntax.specs.declared.token.Kind.{Kind}
use Rattle.jql_syntax.specs.declared.token.Kind.TheVariants.{Character, Unclosed, BadNumber}
use Rattle.jql_syntax.specs.declared.token.Token.{Token}
use Rattle.jql_syntax.specs.declared.token.Token.TheVariants.{Marked, Word, Name, Quoted, Custom, Bad}
use Rattle.jql_syntax.specs.declared.token.Placed.{Placed}

-- space, tab, line feed and carriage return
abbrev pub is_white : ℕ → Bool
is_white c = (c == 32) || ((c == 9) || ((c == 10) || (c == 13)))

abbrev pub is_quote : ℕ → Bool
is_quote c = (c == 34) || (c == 39)

-- = ! < > ~ & | ( ) ,
abbrev pub is_sign : ℕ → Bool
is_sign c =
    (c == 61) || ((c == 33)
    || ((c == 60)
    || ((c == 62)
    || ((c == 126) || ((c == 38) || ((c == 124) || ((c == 40) || ((c == 41) || (c == 44)))))))))

-- what stands outside of quotes in no token: control characters, \, [ and ]
abbrev pub is_banned : ℕ → Bool
is_banned c = is_control c || ((c == 92) || ((c == 91) || (c == 93)))

abbrev pub is_word_char : ℕ → Bool
is_word_char c = not (is_white c || (is_quote c || (is_sign c || is_banned c)))

-- the longest front of such characters, and what is behind it
abbrev pub front : (ℕ → Bool) → List ℕ → List ℕ
front p [] = []
front p (c ∷ cs) = if p c then c ∷ front p cs else []

abbrev pub past : (ℕ → Bool) → List ℕ → List ℕ
past p [] = []
past p (c ∷ cs) = if p c then past p cs else c ∷ cs

abbrev pub begins_with : (ℕ → Bool) → List ℕ → Bool
begins_with p [] = false
begins_with p (c ∷ cs) = p c

-- what is behind the character, where it stands first
abbrev pub after_char : ℕ → List ℕ → Option (List ℕ)
after_char c [] = None
after_char c (d ∷ cs) = if d == c then Some cs else None

-- a token and what is behind it
abbrev pub Piece : Type 0
Piece = Token × List ℕ

-- ---- signs: the longest first

abbrev pub longer_or : Mark → Mark → List ℕ → Option (List ℕ) → Mark × List ℕ
longer_or longer short cs (Some rest) = (longer, rest)
longer_or longer short cs None = (short, cs)

-- the sign that may go on with another character
abbrev pub or_longer : ℕ → Mark → Mark → List ℕ → Mark × List ℕ
or_longer d longer short cs = longer_or longer short cs (after_char d cs)

-- ! may go on with = or ~
abbrev pub or_lacks : List ℕ → Option (List ℕ) → Mark × List ℕ
or_lacks cs (Some rest) = (NotEquals, rest)
or_lacks cs None = or_longer 126 Lacks Not cs

unfoldable pub sign_at : ℕ → List ℕ → Option (Mark × List ℕ)
sign_at c cs =
    if c == 61 then Some (Equals, cs)
    else (if c == 33 then Some (or_lacks cs (after_char 61 cs))
    else (if c == 60 then Some (or_longer 61 LessOrEqual Less cs)
    else (if c == 62 then Some (or_longer 61 GreaterOrEqual Greater cs)
    else (if c == 126 then Some (Contains, cs)
    else (if c == 38 then Some (or_longer 38 And And cs)
    else (if c == 124 then Some (or_longer 124 Or Or cs)
    else (if c == 40 then Some (Open, cs)
    else (if c == 41 then Some (Close, cs)
    else (if c == 44 then Some (Comma, cs)
    else None)))))))))

-- ---- quoted texts

-- a quoted text ends, with its characters and what is behind it, or is refused
pub data Quote : Type 0 where
  closed : List ℕ → List ℕ → Quote
  refused : Kind → Quote

-- one character more at the front
abbrev pub onto : ℕ → Quote → Quote
onto c (closed text rest) = closed (c ∷ text) rest
onto c (refused k) = refused k

-- behind a backslash a quote or a backslash
abbrev pub is_escaped : ℕ → Bool
is_escaped d = is_quote d || (d == 92)

-- behind the opening quote
abbrev pub quote_at : ℕ → List ℕ → Quote
quote_at q [] = refused Unclosed
quote_at q (c ∷ []) = if c == q then closed [] [] else refused Unclosed
quote_at q (c ∷ d ∷ cs) =
    if c == q then closed [] (d ∷ cs)
    else (if c == 92 then (if is_escaped d then onto d (quote_at q cs) else refused Character)
    else onto c (quote_at q (d ∷ cs)))

-- a character in quotes, maybe behind a backslash, and what is behind it
abbrev pub unescaped : ℕ → List ℕ → Result (ℕ × List ℕ) Kind
unescaped c [] = if c == 92 then Err Unclosed else Ok (c, [])
unescaped c (d ∷ cs) =
    if c == 92 then (if is_escaped d then Ok (d, cs) else Err Character) else Ok (c, d ∷ cs)

abbrev pub quoted : Quote → Piece
quoted (closed text rest) = (Quoted (encode_utf8_all text), rest)
quoted (refused k) = (Bad k, [])

-- ---- fields by number

-- cf[ and digits and ] without spaces, and a number from 10000 to 19999
abbrev pub numbered : ℕ → Token
numbered n =
    if nat_le 10000 n && nat_le n 19999 then Custom n else Bad BadNumber

abbrev pub bracketed : List ℕ → Option Piece
bracketed cs =
    if not (begins_with is_ascii_digit cs) then None
    else option_map (λ rest. (numbered (number_of (front is_ascii_digit cs)), rest))
    (after_char 93 (past is_ascii_digit cs))

unfoldable pub field_number_at : ℕ → List ℕ → Option Piece
field_number_at c cs =
    if c == 99 then option_and_then bracketed (option_and_then (after_char 91) (after_char 102 cs))
    else None

-- ---- words

abbrev pub is_keyword : List ℕ → List ℕ → Bool
is_keyword word keyword = str_eq_ignore_ascii_case word keyword

-- the keywords of what is asked of a change
unfoldable pub predicate_keyword_of : List ℕ → Option Mark
predicate_keyword_of w =
    if is_keyword w (codes "AFTER") then Some After
    else (if is_keyword w (codes "BEFORE") then Some Before
    else (if is_keyword w (codes "ON") then Some On
    else (if is_keyword w (codes "DURING") then Some During
    else (if is_keyword w (codes "FROM") then Some From
    else (if is_keyword w (codes "TO") then Some To
    else None)))))

-- those, and CHANGED and those of the order
unfoldable pub later_keyword_of : List ℕ → Option Mark
later_keyword_of w =
    if is_keyword w (codes "CHANGED") then Some Changed
    else (if is_keyword w (codes "ORDER") then Some Order
    else (if is_keyword w (codes "BY") then Some By
    else (if is_keyword w (codes "ASC") then Some Ascending
    else (if is_keyword w (codes "DESC") then Some Descending
    else predicate_keyword_of w))))

-- the keyword that a word is, whatever the case of its ASCII letters
unfoldable pub keyword_of : List ℕ → Option Mark
keyword_of w =
    if is_keyword w (codes "AND") then Some And
    else (if is_keyword w (codes "OR") then Some Or
    else (if is_keyword w (codes "NOT") then Some Not
    else (if is_keyword w (codes "EMPTY") then Some Empty
    else (if is_keyword w (codes "NULL") then Some Empty
    else (if is_keyword w (codes "IN") then Some In
    else (if is_keyword w (codes "IS") then Some Is
    else (if is_keyword w (codes "WAS") then Some Was
    else later_keyword_of w)))))))

-- the next token is a parenthesis
abbrev pub opens_next : List ℕ → Bool
opens_next [] = false
opens_next (c ∷ cs) = if is_white c then opens_next cs else c == 40

abbrev pub word_or : List ℕ → List ℕ → Option Mark → Token
word_or w rest (Some m) = Marked m
word_or w rest None = if opens_next rest then Name w else Word w

-- the character and the longest run of such behind it
abbrev pub run_of : ℕ → List ℕ → List ℕ
run_of c cs = encode_utf8_all (c ∷ front is_word_char cs)

abbrev pub word_at : ℕ → List ℕ → Piece
word_at c cs =
    (word_or (run_of c cs) (past is_word_char cs) (keyword_of (run_of c cs)), past is_word_char cs)

-- ---- a text

abbrev pub number_or_word : ℕ → List ℕ → Option Piece → Piece
number_or_word c cs (Some piece) = piece
number_or_word c cs None = word_at c cs

abbrev pub signed_or : ℕ → List ℕ → Option (Mark × List ℕ) → Piece
signed_or c cs (Some sign) = (Marked sign.0, sign.1)
signed_or c cs None =
    if is_quote c then quoted (quote_at c cs)
    else (if is_banned c then (Bad Character, [])
    else number_or_word c cs (field_number_at c cs))

-- the token that begins with the character
unfoldable pub piece_at : ℕ → List ℕ → Piece
piece_at c cs = signed_or c cs (sign_at c cs)

-- the bytes that characters take
abbrev pub size : List ℕ → ℕ
size cs = length (encode_utf8_all cs)

-- what is behind a token that can't be read isn't looked at
abbrev pub rest_of : Piece → List ℕ
rest_of (Bad k, rest) = []
rest_of (_, rest) = rest

-- The tokens of the end of a text with so many bytes. There are no more of them than bytes, so many at most.
unfoldable pub tokens_of : ℕ → ℕ → List ℕ → List Placed
tokens_of zero total cs = []
tokens_of (suc most) total [] = []
tokens_of (suc most) total (c ∷ cs) =
    if is_white c then tokens_of most total cs
    else record { place = total - size (c ∷ cs); token = (piece_at c cs).0 }
    ∷ tokens_of most total (rest_of (piece_at c cs))

-- the tokens of a text
abbrev pub tokens : List ℕ → List Placed
tokens text = tokens_of (length text) (length text) (chars text)

-- tokens without their places
abbrev pub words : List Placed → List Token
words ps = map (λ p. p.token) ps
