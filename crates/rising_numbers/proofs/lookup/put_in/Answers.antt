use Rattle.std.proofs.Common.{◌∙◌}
use Rattle.rising_numbers.proofs.Placed.{by_gap, put_at, put_in_gap}
use Rattle.rising_numbers.proofs.Search.{stands_found}
use Rattle.rising_numbers.proofs.lookup.put_in.Goals as goal

pub insert_at-requires-clause-room : goal.insert_at-requires-clause-room
insert_at-requires-clause-room g c = c.requires.room (by_gap g.T.Numbered.number (g.T.Numbered.number c.args.thing) _ _ (rw (c.deref.ensures.value, c.number.ensures) at c.in-Err.ensures.absent))

pub returns-in-Ok-clause-items : goal.returns-in-Ok-clause-items
returns-in-Ok-clause-items g c = put_at _ 1 c.in-Ok.place c.args.thing _ c.requires.rising (rw (c.deref.ensures.value, c.number.ensures) at c.in-Ok.ensures.there)

pub returns-in-Ok-clause-new : goal.returns-in-Ok-clause-new
returns-in-Ok-clause-new g c = stands_found _ _ (g.T.Numbered.number c.args.thing) c.in-Ok.place 1 c.requires.rising (rw (c.deref.ensures.value, c.number.ensures) at c.in-Ok.ensures.there)

pub returns-in-Err-clause-items : goal.returns-in-Err-clause-items
returns-in-Err-clause-items g c = c.insert_at.ensures.items ∙ put_in_gap g.T.Numbered.number c.in-Err.place c.args.thing _ (rw (c.deref.ensures.value, c.number.ensures) at c.in-Err.ensures.absent)

pub returns-in-Err-clause-new : goal.returns-in-Err-clause-new
returns-in-Err-clause-new g c = by_gap g.T.Numbered.number (g.T.Numbered.number c.args.thing) _ _ (rw (c.deref.ensures.value, c.number.ensures) at c.in-Err.ensures.absent)
