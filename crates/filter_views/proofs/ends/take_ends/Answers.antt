use Rattle.std.proofs.Common.{◌∙◌, ◌+◌, refl}
use Rattle.filter_views.proofs.Takes.{takes_none, takes_more}
use Rattle.filter_views.proofs.ends.take_ends.Goals as goal

pub loop-at-init : goal.loop-at-init
loop-at-init c = record { taken = takes_none _ _ _ c.requires.agree c.requires.heap; capacity = refl }

pub loop-at-preserved : goal.loop-at-preserved
loop-at-preserved c = record { taken = takes_more _ _ _ _ _ _ _ c.loop-at.at (c.loop-at.at + 1) refl c.loop-at.invariant.taken c.take_end.ensures.put; capacity = c.take_end.ensures.capacity ∙ c.loop-at.invariant.capacity }
