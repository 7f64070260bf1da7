use Rattle.std.proofs.Common.{◌≡◌, ◌++◌, length}
use Rattle.field_forms.specs.Cuts.{pieces_at}
use denote.Text.{Utf8}
use denote.Shadow.{shadow}
use Rattle.field_forms.proofs.cut.pieces_at.Given as goal

abbrev pub invariant-loop-piece : goal.invariant-loop-piece
invariant-loop-piece l =
    shadow (Utf8 l.left) × (pieces_at l.mark l.text ≡ l.pieces ++ pieces_at l.mark l.left)

abbrev pub decreases-loop-piece : goal.decreases-loop-piece
decreases-loop-piece l = length l.left
