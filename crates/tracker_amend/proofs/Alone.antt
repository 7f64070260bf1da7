-- A list of one word.
use Rattle.std.proofs.Common.{◌≡◌, ℕ, List, [], ◌∷◌, length, map, get_or, string_bytes, String, Global, arith, sym, ap, ◌∙◌}
use Rattle.std.proofs.lemmas.List.{length-map}
use Rattle.tracker_amend.specs.Amend.{IsAmend}

pub one_word : (xs : List (String Global)) (w : String Global) → length xs ≡ 1 → w ≡ get_or xs 0 w → map string_bytes xs ≡ string_bytes w ∷ []
one_word [] w one is = absurd (omega (arith, one))
one_word (x ∷ []) w one is = ap (λ (s : String Global). string_bytes s ∷ []) (sym is)
one_word (x ∷ y ∷ xs) w one is = absurd (omega (arith, one))

-- the command has one word
pub amends_one : (xs : List (String Global)) → IsAmend (map string_bytes xs) → length xs ≡ 1
amends_one xs is = sym (length-map xs string_bytes) ∙ ap length is
