use Rattle.std.proofs.Common.{◌≡◌, drop}
use Rattle.std.specs.Prelude.{slice_get}
use Rattle.tracker_http.specs.Query.{values_of}
use Rattle.tracker_http.proofs.query.first_value.Given as goal

abbrev pub invariant-loop-pair : goal.invariant-loop-pair
invariant-loop-pair l = slice_get (values_of l.name (drop l.pair-index l.pairs)) 0 ≡ slice_get (values_of l.name l.pairs) 0
