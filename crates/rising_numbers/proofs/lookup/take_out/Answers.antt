use Rattle.std.proofs.Common.{◌∙◌}
use Rattle.rising_numbers.proofs.Placed.{by_gap, taken_at}
use Rattle.rising_numbers.proofs.lookup.take_out.Goals as goal

pub returns-in-Ok-clause-items : goal.returns-in-Ok-clause-items
returns-in-Ok-clause-items g c = c.remove-thing.ensures.items ∙ taken_at _ 1 c.args.no c.in-Ok.place _ c.requires.rising (rw c.deref.ensures.value at c.in-Ok.ensures.there)

pub returns-in_default-clause-items : goal.returns-in_default-clause-items
returns-in_default-clause-items g c = absurd (c.requires.there (by_gap _ c.args.no _ _ (rw c.deref.ensures.value at c.in_default.ensures.absent)))
