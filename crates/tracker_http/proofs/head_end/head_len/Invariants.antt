use Rattle.std.proofs.Common.{◌≡◌, ◌+◌, drop, option_map}
use Rattle.tracker_http.specs.HeadPlaces.{len_from}
use Rattle.tracker_http.specs.declared.head_end.HeadPlace.TheVariants.{Before}
use Rattle.tracker_http.proofs.head_end.head_len.Given as goal

abbrev pub invariant-loop-at : goal.invariant-loop-at
invariant-loop-at l = option_map (λ n. l.at + n) (len_from l.place (drop l.at l.bytes)) ≡ len_from Before l.bytes
