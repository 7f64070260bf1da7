-- Forms of texts: which tokens may stand where, and what they stand for.
use Rattle.std.specs.Prelude.{◌≡◌, ℕ, true, List, [], ◌∷◌}
use Rattle.std.specs.Option.{is_some}
use Rattle.relative_dates.specs.Reading.{read_term}
use Rattle.jql_syntax.specs.Node.{Node, text, number, Label}
use Rattle.jql_syntax.specs.declared.token.Mark.{Mark}
use Rattle.jql_syntax.specs.declared.token.Token.{Token}
use Rattle.jql_syntax.specs.declared.token.Token.TheVariants.{Marked, Word, Name, Quoted, Custom}

-- a kind of token: a sign or keyword, a text anywhere but before a parenthesis, a text of a date, a word before a parenthesis, a word, any text, a number
pub data Class : Type 0 where
  sign : Mark → Class
  plain_text : Class
  date_text : Class
  function_name : Class
  bare_word : Class
  any_text : Class
  field_number : Class

-- a token of the kind, and the parts that it stands for
pub data IsOf : Class → Token → List Node → Type 0 where
  of_sign : {m : Mark} → IsOf (sign m) (Marked m) []
  of_word : {w : List ℕ} → IsOf plain_text (Word w) (text w ∷ [])
  of_quoted : {w : List ℕ} → IsOf plain_text (Quoted w) (text w ∷ [])
  of_date_word : {w : List ℕ} → is_some (read_term w) ≡ true → IsOf date_text (Word w) (text w ∷ [])
  of_date_quoted : {w : List ℕ} → is_some (read_term w) ≡ true
      → IsOf date_text (Quoted w) (text w ∷ [])
  of_name : {w : List ℕ} → IsOf function_name (Name w) (text w ∷ [])
  of_bare_word : {w : List ℕ} → IsOf bare_word (Word w) (text w ∷ [])
  of_bare_name : {w : List ℕ} → IsOf bare_word (Name w) (text w ∷ [])
  of_any_word : {w : List ℕ} → IsOf any_text (Word w) (text w ∷ [])
  of_any_name : {w : List ℕ} → IsOf any_text (Name w) (text w ∷ [])
  of_any_quoted : {w : List ℕ} → IsOf any_text (Quoted w) (text w ∷ [])
  of_number : {n : ℕ} → IsOf field_number (Custom n) (number n ∷ [])

-- One token, nothing, one form after another, one or the other, any number of times, a rule that makes something of its parts,
-- and a unit of a condition where so many NOTs and parentheses may still be opened.
pub data Form : Type 0 where
  one : Class → Form
  nothing : Form
  both : Form → Form → Form
  either : Form → Form → Form
  many : Form → Form
  rule : Label → Form → Form
  unit : ℕ → Form
