use Rattle.std.proofs.Common.{◌≡◌, drop}
use Rattle.std.specs.List.{list_any}
use Rattle.tracker_http.specs.Fields.{says_close}
use Rattle.tracker_http.specs.Spans.{fields_at}
use Rattle.tracker_http.proofs.fields.closes.Given as goal

abbrev pub invariant-loop-span : goal.invariant-loop-span
invariant-loop-span l = list_any says_close (fields_at l.bytes (drop l.span-index l.spans)) ≡ list_any says_close (fields_at l.bytes l.spans)
