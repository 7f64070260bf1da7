-- Lists of words by their length, and numbers in them.
use Rattle.std.proofs.Common.{◌≡◌, ◌<◌, ◌≤◌, ℕ, List, [], ◌∷◌, length, map, get_or, string_bytes, String, Global, arith, refl, sym, ◌∙◌}
use Rattle.std.proofs.lemmas.Fmt.{decimal_injective}
use Rattle.tracker_cli.specs.Outcome.{IsGenerate}

-- two words are all
pub two_words : (xs : List (String Global)) (v w : String Global) → 2 ≤ length xs → length xs < 3 → v ≡ get_or xs 0 v → w ≡ get_or xs 1 w
    → map string_bytes xs ≡ string_bytes v ∷ string_bytes w ∷ []
two_words [] v w some few one two = absurd (omega arith)
two_words (x ∷ []) v w some few one two = absurd (omega arith)
two_words (x ∷ y ∷ []) v w some few one two = rw (one, two) refl
two_words (x ∷ y ∷ z ∷ zs) v w some few one two = absurd (omega arith)

same_second : (u v w x : List ℕ) → u ∷ v ∷ [] ≡ w ∷ x ∷ [] → v ≡ x
same_second u v w x is = cc is

-- words ask for one load
pub same_load : (words : List (List ℕ)) (n k : ℕ) → IsGenerate words n → IsGenerate words k → n ≡ k
same_load words n k (word, are, number) (other, were, count) =
    decimal_injective n k (omega (arith, number.2)) (omega (arith, count.2)) (sym number.0 ∙ same_second _ word _ other (sym are ∙ were) ∙ count.0)
