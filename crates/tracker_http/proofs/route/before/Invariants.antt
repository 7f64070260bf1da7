use Rattle.std.proofs.Common.{◌≡◌, ◌++◌, drop, take}
use Rattle.tracker_http.specs.Routes.{before}
use Rattle.tracker_http.proofs.route.before.Given as goal

abbrev pub invariant-loop-at : goal.invariant-loop-at
invariant-loop-at l = take l.at l.bytes ++ before l.mark (drop l.at l.bytes) ≡ before l.mark l.bytes
