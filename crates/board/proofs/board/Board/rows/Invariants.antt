use Rattle.std.proofs.Common.{◌≡◌, ◌≤◌, take, length, vec_len, vec_capacity}
use Rattle.board.specs.Board.{members_in}
use Rattle.board.proofs.board.Board.rows.Given as goal

abbrev pub invariant-loop-issue : goal.invariant-loop-issue
invariant-loop-issue l = record {
  members : l.room.items ≡ members_in l.order.pairs (take l.issue-index l.members);
  room : length l.members ≤ vec_capacity l.room;
  count : vec_len l.room ≤ l.issue-index;
}
