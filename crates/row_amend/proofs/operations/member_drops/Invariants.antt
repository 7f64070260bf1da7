use Rattle.std.proofs.Common.{◌≡◌}
use Rattle.amended_rows.specs.Amended.{member_drops}
use Rattle.row_amend.proofs.operations.member_drops.Given as goal

abbrev pub invariant-loop-place : goal.invariant-loop-place
invariant-loop-place l = l.ops.items ≡ member_drops l.place
