-- The words of a server.
use Rattle.std.proofs.Common.{◌≡◌, ◌<◌, ◌≤◌, ℕ, List, [], ◌∷◌, length, map, get_or, string_bytes, String, Global, codes, arith, refl, ◌∙◌}
use Rattle.tracker_cli.specs.Numerals.{IsNumberOf, IsPort}
use Rattle.tracker_serve.specs.Serving.{IsServe}

-- three words are all
pub three_words : (xs : List (String Global)) (u v w : String Global) → 3 ≤ length xs → length xs < 4 → u ≡ get_or xs 0 u → v ≡ get_or xs 1 v → w ≡ get_or xs 2 w
    → map string_bytes xs ≡ string_bytes u ∷ string_bytes v ∷ string_bytes w ∷ []
three_words [] u v w some few one two three = absurd (omega arith)
three_words (x ∷ []) u v w some few one two three = absurd (omega arith)
three_words (x ∷ y ∷ []) u v w some few one two three = absurd (omega arith)
three_words (x ∷ y ∷ z ∷ []) u v w some few one two three = rw (one, two, three) refl
three_words (a ∷ x ∷ y ∷ z ∷ zs) u v w some few one two three = absurd (omega arith)

-- these are a server's
pub serves : (words : List (List ℕ)) (first second third port_text count_text : List ℕ) (port workers : ℕ) → words ≡ first ∷ second ∷ third ∷ [] → first ≡ codes "serve"
    → port_text ≡ second → count_text ≡ third → IsPort port_text port → IsNumberOf 1 16 count_text workers → IsServe words port workers
serves words first second third port_text count_text port workers are is same_port same_count number count =
    (port_text, count_text, are ∙ (rw (is, same_port, same_count) refl), number, count)
