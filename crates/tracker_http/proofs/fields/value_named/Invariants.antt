use Rattle.std.proofs.Common.{◌≡◌, drop}
use Rattle.tracker_http.specs.Fields.{value_named}
use Rattle.tracker_http.specs.Spans.{fields_at}
use Rattle.tracker_http.proofs.fields.value_named.Given as goal

abbrev pub invariant-loop-span : goal.invariant-loop-span
invariant-loop-span l = value_named l.name (fields_at l.bytes (drop l.span-index l.spans)) ≡ value_named l.name (fields_at l.bytes l.spans)
