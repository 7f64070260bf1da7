use Rattle.std.proofs.Common.{◌≡◌, ◌+◌, ◌≤◌, ℕ, None, get_or, vec_len, vec_capacity}
use Rattle.board.proofs.room.room_for_numbers.Given as goal

abbrev pub invariant-loop-made : goal.invariant-loop-made
invariant-loop-made l = record {
  same : (issue : ℕ) → get_or l.ranks.items issue None ≡ get_or l.initial.ranks.items issue None;
  count : vec_len l.ranks ≡ vec_len l.initial.ranks + l._made;
  room : vec_len l.initial.ranks + l.more ≤ vec_capacity l.ranks;
}
