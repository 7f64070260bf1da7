use Rattle.std.proofs.Common.{◌≡◌, take, length}
use Rattle.field_values.proofs.names.is_same_list.Given as goal

abbrev pub invariant-loop-place : goal.invariant-loop-place
invariant-loop-place l = (take l.place l.one ≡ take l.place l.other) × (length l.one ≡ length l.other)
