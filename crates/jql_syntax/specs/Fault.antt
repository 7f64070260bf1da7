-- Which texts are queries, and the first fault of one that is none.
use Rattle.std.specs.Prelude.{◌≡◌, ℕ, ◌<◌, ◌≤◌, List, [], ◌∷◌, length, drop, Option, Result, Ok, Err, option_map}
use Rattle.std.specs.Str.{IsUtf8}
use Rattle.jql_syntax.specs.Tree.{Tree}
use Rattle.jql_syntax.specs.View.{view}
use Rattle.jql_syntax.specs.Form.{one, unit, date_text}
use Rattle.jql_syntax.specs.Grammar.{limit, query}
use Rattle.jql_syntax.specs.Reads.{Begins, Leads, Reads}
use Rattle.jql_syntax.specs.Tokens.{tokens, words}
use Rattle.jql_syntax.specs.declared.token.Mark.TheVariants.{Not, Open}
use Rattle.jql_syntax.specs.declared.token.Kind.{Kind}
use Rattle.jql_syntax.specs.declared.token.Kind.TheVariants.{Character, Unclosed, Expected, TooDeep, TooLong, BadDate, BadNumber}
use Rattle.jql_syntax.specs.declared.token.Token.{Token}
use Rattle.jql_syntax.specs.declared.token.Token.TheVariants.{Marked, Word, Quoted, Bad}
use Rattle.jql_syntax.specs.declared.token.Placed.{Placed}
use Rattle.jql_syntax.specs.declared.query.SortKey.{SortKey}
use Rattle.jql_syntax.specs.declared.query.Expr.{Expr}
use Rattle.jql_syntax.specs.declared.reader.JqlFault.{JqlFault}
use Rattle.jql_syntax.specs.declared.reader.JqlFault.TheVariants.{Bad as BadText, Memory}

-- so many bytes a query's text has at most
abbrev pub most_bytes : ℕ
most_bytes = 4096

-- a NOT or a parenthesis, a text that no parenthesis follows, and what can't be read, stands first
abbrev pub IsOpener : List Token → Type 0
IsOpener (Marked Not ∷ ts) = Unit {0}
IsOpener (Marked Open ∷ ts) = Unit {0}
IsOpener _ = ⊥

abbrev pub IsText : List Token → Type 0
IsText (Word w ∷ ts) = Unit {0}
IsText (Quoted w ∷ ts) = Unit {0}
IsText _ = ⊥

abbrev pub IsBad : List Token → Type 0
IsBad (Bad k ∷ ts) = Unit {0}
IsBad _ = ⊥

-- The kind of a fault at a place: the token can't be read; it is a NOT or a parenthesis where a unit may stand, and none may be opened any more;
-- it is a text where a date is wanted, and no date; or something else is wanted.
pub data IsKind (ts rest : List Token) : Kind → Type 0 where
  kind_bad : {k : Kind} {after : List Token} → rest ≡ Bad k ∷ after → IsKind ts rest k
  kind_deep : IsOpener rest → Leads (unit 0) (query limit) ts rest → IsKind ts rest TooDeep
  kind_date : IsText rest → Leads (one date_text) (query limit) ts rest → IsKind ts rest BadDate
  kind_other : (IsBad rest → ⊥) → (IsOpener rest → Leads (unit 0) (query limit) ts rest → ⊥)
      → (IsText rest → Leads (one date_text) (query limit) ts rest → ⊥) → IsKind ts rest Expected

-- where the first of these tokens begins, or the text's end
abbrev pub place_of : ℕ → List Placed → ℕ
place_of end [] = end
place_of end (p ∷ ps) = p.place

-- The tokens are no query. Those before the fault begin one, and with the token at the fault, if there is one, they don't.
pub record IsFault (ts : List Placed) (end place : ℕ) (kind : Kind) : Type 0 where
  pub number : ℕ
  pub within : number ≤ length ts
  pub unread : (q : Option Tree) (keys : List SortKey) → Reads (words ts) q keys → ⊥
  pub begins : Begins (query limit) (words ts) (words (drop number ts))
  pub stops : (t : Token) (after : List Token) → words (drop number ts) ≡ t ∷ after
      → Begins (query limit) (words ts) after → ⊥
  pub place_is : place ≡ place_of end (drop number ts)
  pub kind_is : IsKind (words ts) (words (drop number ts)) kind

-- a text's first fault: its length comes before all others
pub data FirstFault (text : List ℕ) (place : ℕ) (kind : Kind) : Type 0 where
  too_long : most_bytes < length text → place ≡ most_bytes → kind ≡ TooLong
      → FirstFault text place kind
  at_token : length text ≤ most_bytes → IsFault (tokens text) (length text) place kind
      → FirstFault text place kind

-- the text is the query with this condition, if any, and these sort keys
abbrev pub IsQuery : List ℕ → Option Tree → List SortKey → Type 0
IsQuery text q keys = (length text ≤ most_bytes) × Reads (words (tokens text)) q keys

-- some text is this query
pub record IsWritten (q : Option Tree) (keys : List SortKey) : Type 0 where
  pub text : List ℕ
  pub utf8 : IsUtf8 text
  pub is_query : IsQuery text q keys

abbrev pub number_of_kind : Kind → ℕ
number_of_kind Character = 1
number_of_kind Unclosed = 2
number_of_kind Expected = 3
number_of_kind TooDeep = 4
number_of_kind TooLong = 5
number_of_kind BadDate = 6
number_of_kind BadNumber = 7

-- what comes of a text that is the query, unless memory runs out
abbrev pub Gives : Result (Option Expr × List SortKey) JqlFault → Option Tree → List SortKey
    → Type 0
Gives (Ok x) q keys = (option_map view x.0 ≡ q) × (x.1 ≡ keys)
Gives (Err (BadText place kind)) q keys = ⊥
Gives (Err Memory) q keys = Unit {0}

-- Want of memory is any text's answer.
abbrev pub Explains : List ℕ → JqlFault → Type 0
Explains text (BadText place n) =
    (kind : Kind) × (n ≡ number_of_kind kind) × FirstFault text place kind
Explains text Memory = Unit {0}

-- a fault of tokens, as it is answered
abbrev pub FaultOf : List Placed → ℕ → JqlFault → Type 0
FaultOf ts end (BadText place n) =
    (kind : Kind) × (n ≡ number_of_kind kind) × IsFault ts end place kind
FaultOf ts end Memory = Unit {0}

-- what comes of a text with this first fault, unless memory runs out
abbrev pub Faults : Result (Option Expr × List SortKey) JqlFault → ℕ → Kind → Type 0
Faults (Ok x) place kind = ⊥
Faults (Err (BadText p n)) place kind = (p ≡ place) × (n ≡ number_of_kind kind)
Faults (Err Memory) place kind = Unit {0}
