use Rattle.std.proofs.Common.{◌≡◌, map, ◌++◌}
use Rattle.form_urlencoded.specs.Form.{raw_pairs}
use Rattle.tracker_http.specs.Query.{pair_of, pairs_of}
use Rattle.tracker_http.proofs.query.pairs_of.Given as goal

abbrev pub invariant-pairs : goal.invariant-pairs
invariant-pairs l = l.pairs ++ map pair_of (raw_pairs l.name-iterator.input.now) ≡ pairs_of l.fn.query
