use Rattle.std.proofs.Common.{◌≡◌, take}
use Rattle.tracker_calls.proofs.copied.copy_all.Given as goal

abbrev pub invariant-loop-thing : goal.invariant-loop-thing
invariant-loop-thing g l = l.copy ≡ take l.thing-index l.thing-items
