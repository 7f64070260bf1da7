use Rattle.std.proofs.Common.{◌≡◌, length}
use Rattle.std.specs.List.{list_any}
use Rattle.tracker_http.specs.Fields.{is_close}
use Rattle.tracker_http.specs.CommaLists.{pieces}
use Rattle.tracker_http.proofs.fields.has_close.Given as goal

abbrev pub invariant-pieces : goal.invariant-pieces
invariant-pieces l = list_any is_close (pieces l.rest) ≡ list_any is_close (pieces l.value)

abbrev pub decreases-pieces : goal.decreases-pieces
decreases-pieces l = length l.rest
