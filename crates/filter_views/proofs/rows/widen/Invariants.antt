use Rattle.std.proofs.Common.{◌≤◌, ◌<◌, ℕ}
use Rattle.filter_views.specs.Fields.{Widen, room_at}
use Rattle.filter_views.proofs.rows.widen.Given as goal

abbrev pub invariant-loop-at : goal.invariant-loop-at
invariant-loop-at l = record {
  same : Widen l.fn.rows l.rows;
  room : (k : ℕ) → k < l.at → l.most ≤ room_at l.rows k;
}
