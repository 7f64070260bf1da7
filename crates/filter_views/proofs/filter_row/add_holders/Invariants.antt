use Rattle.std.proofs.Common.{◌≡◌, ◌≤◌, ◌+◌, ◌++◌, drop, length, vec_len, vec_capacity}
use Rattle.filter_views.specs.Fields.{holders_from}
use Rattle.filter_views.proofs.filter_row.add_holders.Given as goal

-- what was told, and what is left, for which there is room
abbrev pub invariant-loop-at : goal.invariant-loop-at
invariant-loop-at l = record {
  told : l.room.items ++ holders_from (l.at + 1) (drop l.at l.truths) ≡ l.fn.room.items ++ holders_from 1 l.truths;
  slots : vec_len l.room + length l.truths ≤ vec_capacity l.room + l.at;
}
