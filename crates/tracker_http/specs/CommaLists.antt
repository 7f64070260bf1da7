-- The pieces of a comma list.
use Rattle.std.specs.Prelude.{◌≡◌, ◌<◌, ◌==◌, ℕ, List, [], ◌∷◌, length, Option, Some, None}
use Rattle.std.specs.List.{slice_split}

unfoldable pub pieces : List ℕ → List (List ℕ)
pieces list = slice_split (λ b. b == 44) list

-- the first piece and what follows its comma, or the list has one piece alone
abbrev pub CutsPiece : List ℕ → Option (List ℕ × List ℕ) → Type 0
CutsPiece list None = pieces list ≡ list ∷ []
CutsPiece list (Some (piece, later)) =
    (pieces list ≡ piece ∷ pieces later) × (length later < length list)
