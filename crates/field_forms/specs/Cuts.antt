-- A text cut at a byte.
use Rattle.std.specs.Prelude.{ℕ, ◌==◌, List, [], ◌∷◌, length, nat_lt, Option, Some, None, if◌then◌else◌}
use Rattle.std.specs.List.{position_or_len, before_first, after_first}

-- the parts before and after the first such byte
abbrev pub cut_at : ℕ → List ℕ → Option (List ℕ × List ℕ)
cut_at mark text =
    if nat_lt (position_or_len (λ b. b == mark) text) (length text)
    then Some (before_first (λ b. b == mark) text, after_first (λ b. b == mark) text)
    else None

-- one byte more at the front of the first piece
abbrev pub onto_first : ℕ → List (List ℕ) → List (List ℕ)
onto_first b [] = []
onto_first b (piece ∷ pieces) = (b ∷ piece) ∷ pieces

-- the pieces between such bytes
abbrev pub pieces_at : ℕ → List ℕ → List (List ℕ)
pieces_at mark [] = [] ∷ []
pieces_at mark (b ∷ text) =
    if b == mark then [] ∷ pieces_at mark text else onto_first b (pieces_at mark text)
