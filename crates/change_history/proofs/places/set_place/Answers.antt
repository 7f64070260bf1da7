use Rattle.std.proofs.Common.{◌∙◌, sym}
use Rattle.change_history.proofs.Placing.{set_place-found, set_place-new}
use Rattle.change_history.proofs.places.set_place.Goals as goal

pub returns-in-Some-clause-items : goal.returns-in-Some-clause-items
returns-in-Some-clause-items c = set_place-found _ _ _ _ (rw c.deref.ensures.value at (sym c.in-Some.ensures.index))

pub returns-in-None-clause-items : goal.returns-in-None-clause-items
returns-in-None-clause-items c = c.push_reserved.ensures.items ∙ set_place-new _ _ _ (rw c.deref.ensures.value at (sym c.in-None.ensures.index))
