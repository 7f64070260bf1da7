use Rattle.std.proofs.Common.{◌∙◌, sym, ap, ◌<◌, ◌^◌, arith, FitsSigned, w32}
use Rattle.std.proofs.lemmas.Int.{to_z-of_z, to_z_pos}
use Rattle.jiff_core.proofs.SignedLemmas.{signed_arith}
use Rattle.relative_dates.specs.Calendar.{step_at}
use Rattle.relative_dates.proofs.StepLemmas.{IsZone-with, IsRefusal-memory}
use Rattle.relative_dates.proofs.calendar.Calendar.add_step.Goals as goal

pub returns-in_default-push-clause-refused : goal.returns-in_default-push-clause-refused
returns-in_default-push-clause-refused c =
    let small : c.args.from < 2 ^ 63 = omega (arith, c.requires.from) in
    let m : FitsSigned w32 c.args.minutes = c.ranges.minutes in
    let f : FitsSigned w32 c.self.inside.first_offset = omega (arith, signed_arith, c.self.invariant.zone.first_in) in
    let fine = simp (to_z-of_z, to_z_pos, c.deref.ensures.value) at (sym c.refusal.ensures ∙ c.in_default.is) in
    rw (← c.self.view_is) (IsRefusal-memory _ fine)

pub invariant_of-self-2 : goal.invariant_of-self-2
invariant_of-self-2 c =
    let small : c.args.from < 2 ^ 63 = omega (arith, c.requires.from) in
    let m : FitsSigned w32 c.args.minutes = c.ranges.minutes in
    let f : FitsSigned w32 c.self.inside.first_offset = omega (arith, signed_arith, c.self.invariant.zone.first_in) in
    let fine = simp (to_z-of_z, to_z_pos, c.deref.ensures.value) at (sym c.refusal.ensures ∙ c.in_default.is) in
    let items = simp (to_z-of_z, to_z_pos) at c.in-Ok.ensures.items in
    let zone = IsZone-with (record { first_offset = c.self.inside.first_offset; steps = c.self.inside.steps.items }) (step_at c.args.from c.args.minutes) c.self.invariant.zone ((omega (arith, signed_arith, c.requires.from), omega (arith, signed_arith, c.requires.from)), c.requires.minutes) fine in
    rw items (record { zone = zone; monday_or_later = c.self.invariant.monday_or_later; sunday_or_earlier = c.self.invariant.sunday_or_earlier })

pub returns-clause-ok : goal.returns-clause-ok
returns-clause-ok c =
    let small : c.args.from < 2 ^ 63 = omega (arith, c.requires.from) in
    let m : FitsSigned w32 c.args.minutes = c.ranges.minutes in
    let f : FitsSigned w32 c.self.inside.first_offset = omega (arith, signed_arith, c.self.invariant.zone.first_in) in
    let fine = simp (to_z-of_z, to_z_pos, c.deref.ensures.value) at (sym c.refusal.ensures ∙ c.in_default.is) in
    let items = simp (to_z-of_z, to_z_pos) at c.in-Ok.ensures.items in
    rw (← c.self.view_is) (fine, ap (λ xs. record { zone = record { first_offset = c.self.inside.first_offset; steps = xs }; first_day = c.self.inside.first_day }) items)
