use Rattle.std.proofs.Common.{◌≡◌, ◌+◌, ◌≤◌, drop}
use Rattle.tracker_http.specs.Fields.{count_named}
use Rattle.tracker_http.specs.Spans.{fields_at}
use Rattle.tracker_http.proofs.fields.count_named.Given as goal

abbrev pub invariant-loop-span : goal.invariant-loop-span
invariant-loop-span l = record {
  total : l.count + count_named l.name (fields_at l.bytes (drop l.span-index l.spans)) ≡ count_named l.name (fields_at l.bytes l.spans);
  small : l.count ≤ l.span-index;
}
