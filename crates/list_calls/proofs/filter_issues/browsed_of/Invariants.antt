use Rattle.std.proofs.Common.{◌≡◌, ◌++◌, drop, map}
use Rattle.std.specs.List.{filter_map}
use Rattle.list_calls.specs.Found.{browsed}
use Rattle.list_calls.proofs.filter_issues.browsed_of.Given as goal

abbrev pub invariant-loop-member : goal.invariant-loop-member
invariant-loop-member l =
    filter_map (browsed l.state.machine l.owner.0 l.caller.0) l.members
    ≡ map (λ i. i.now.history) l.issues.items ++ filter_map (browsed l.state.machine l.owner.0 l.caller.0) (drop l.member-index l.members)
