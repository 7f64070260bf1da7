use Rattle.std.proofs.Common.{◌≡◌, map, take}
use Rattle.setup_reading.proofs.name_lists.transition_names.Given as goal

abbrev pub invariant-loop-transition : goal.invariant-loop-transition
invariant-loop-transition l = l.names ≡ map (λ x. x.name) (take l.transition-index l.transitions)
