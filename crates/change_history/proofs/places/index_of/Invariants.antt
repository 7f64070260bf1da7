use Rattle.std.proofs.Common.{◌≡◌, ◌+◌, drop, option_map}
use Rattle.change_history.specs.Places.{index_of}
use Rattle.change_history.proofs.places.index_of.Given as goal

abbrev pub invariant-loop-index : goal.invariant-loop-index
invariant-loop-index l = index_of l.places l.field ≡ option_map (λ k. k + l.index) (index_of (drop l.index l.places) l.field)
