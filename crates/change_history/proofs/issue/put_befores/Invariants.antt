use Rattle.std.proofs.Common.{◌≡◌, ◌+◌, ◌≤◌, ◌++◌, drop, vec_len, vec_capacity}
use Rattle.change_history.specs.Places.{spots_after, befores_by}
use Rattle.change_history.proofs.issue.put_befores.Given as goal

abbrev pub invariant-loop-index : goal.invariant-loop-index
invariant-loop-index l = record {
  spots : spots_after (record { bounds = l.fn.bounds; others = l.fn.others.items }) l.first l.entries
      ≡ spots_after (record { bounds = l.bounds; others = l.others.items }) (l.first + l.index) (drop l.index l.entries);
  len : vec_len l.others ≤ vec_len l.fn.others + l.index;
  capacity : vec_capacity l.fn.others ≤ vec_capacity l.others;
  befores_items : l.fn.befores.items ++ befores_by (record { bounds = l.fn.bounds; others = l.fn.others.items }) l.first l.entries
      ≡ l.befores.items ++ befores_by (record { bounds = l.bounds; others = l.others.items }) (l.first + l.index) (drop l.index l.entries);
  befores_len : vec_len l.befores ≡ vec_len l.fn.befores + l.index;
  befores_capacity : vec_capacity l.fn.befores ≤ vec_capacity l.befores;
}
