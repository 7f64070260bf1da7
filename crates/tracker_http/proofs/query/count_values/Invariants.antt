use Rattle.std.proofs.Common.{◌≡◌, ◌+◌, ◌≤◌, drop, length}
use Rattle.tracker_http.specs.Query.{values_of}
use Rattle.tracker_http.proofs.query.count_values.Given as goal

abbrev pub invariant-loop-pair : goal.invariant-loop-pair
invariant-loop-pair l = record {
  total : l.count + length (values_of l.name (drop l.pair-index l.pairs)) ≡ length (values_of l.name l.pairs);
  small : l.count ≤ l.pair-index;
}
