-- A list of one word.
use Rattle.std.proofs.Common.{◌≡◌, ℕ, List, [], ◌∷◌, length, map, get_or, string_bytes, String, Global, arith, refl, ap, ◌∙◌, sym}
use Rattle.std.proofs.lemmas.List.{length-map}
use Rattle.tracker_backup.specs.Asking.{Asks}
use Rattle.tracker_backup.specs.declared.words.Word.{Word}
use Rattle.tracker_backup.specs.declared.words.Word.TheVariants as word

pub one_word : (xs : List (String Global)) (w : String Global) → length xs ≡ 1 → w ≡ get_or xs 0 w → map string_bytes xs ≡ string_bytes w ∷ []
one_word [] w one is = absurd (omega (arith, one))
one_word (x ∷ []) w one is = ap (λ (s : String Global). string_bytes s ∷ []) (sym is)
one_word (x ∷ y ∷ xs) w one is = absurd (omega (arith, one))

-- a command has one word
pub asks_one : (asked : Word) (xs : List (String Global)) → Asks asked (map string_bytes xs) → length xs ≡ 1
asks_one word.Dump xs asks = sym (length-map xs string_bytes) ∙ ap length asks
asks_one word.Restore xs asks = sym (length-map xs string_bytes) ∙ ap length asks
