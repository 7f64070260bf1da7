-- Tokens that are read again as they are spelled.
use Rattle.std.proofs.Common.{◌≡◌, ℕ, ◌≤◌, List, [], ◌∷◌, true, None}
use Rattle.std.specs.Prelude.{encode_utf8_all}
use Rattle.std.specs.List.{list_all}
use Rattle.std.specs.Str.{IsUtf8, all_scalars}
use Rattle.jql_syntax.specs.Tokens.{is_word_char, keyword_of}
use Rattle.jql_syntax.specs.declared.token.Mark.TheVariants.{Open}
use Rattle.jql_syntax.specs.declared.token.Token.{Token}
use Rattle.jql_syntax.specs.declared.token.Token.TheVariants.{Marked, Word, Name, Quoted, Custom, Bad}

-- one word character or more, and no keyword
pub record IsName (w : List ℕ) : Type 0 where
  pub first : ℕ
  pub more : List ℕ
  pub are_scalars : all_scalars (first ∷ more) ≡ true
  pub spelled : encode_utf8_all (first ∷ more) ≡ w
  pub word_chars : list_all is_word_char (first ∷ more) ≡ true
  pub no_keyword : keyword_of w ≡ None

-- a parenthesis is opened next
abbrev pub OpensNext : List Token → Type 0
OpensNext (Marked Open ∷ ts) = Unit {0}
OpensNext _ = ⊥

abbrev pub Spells : List Token → Type 0
Spells [] = Unit {0}
Spells (Marked m ∷ ts) = Spells ts
Spells (Word w ∷ ts) = IsName w × (OpensNext ts → ⊥) × Spells ts
Spells (Name w ∷ ts) = IsName w × OpensNext ts × Spells ts
Spells (Quoted w ∷ ts) = IsUtf8 w × Spells ts
Spells (Custom n ∷ ts) = (10_000 ≤ n) × (n ≤ 19_999) × Spells ts
Spells (Bad k ∷ ts) = ⊥

-- tokens of a text
abbrev pub IsGood : Token → Type 0
IsGood (Marked m) = Unit {0}
IsGood (Word w) = IsName w
IsGood (Name w) = IsName w
IsGood (Quoted w) = IsUtf8 w
IsGood (Custom n) = (10_000 ≤ n) × (n ≤ 19_999)
IsGood (Bad k) = Unit {0}

abbrev pub AreGood : List Token → Type 0
AreGood [] = Unit {0}
AreGood (t ∷ ts) = IsGood t × AreGood ts
