use Rattle.std.proofs.Common.{sym, pos, ◌*ℤ◌, arith, FitsSigned, w32, w64, rules}
use Rattle.std.proofs.lemmas.Int.{to_z-of_z}
use Rattle.jiff_core.proofs.SignedLemmas.{signed_arith}
use Rattle.relative_dates.proofs.FirstLemmas.{first_at-is}
use Rattle.relative_dates.proofs.calendar.Calendar.start_of.Goals as goal

pub returns-clause-value : goal.returns-clause-value
returns-clause-value c =
    let day : FitsSigned w64 c.args.day = c.ranges.day in
    let r : FitsSigned w64 c.first_moment.result = search rules in
    let f : FitsSigned w32 c.self.inside.first_offset = omega (arith, signed_arith, c.self.invariant.zone.first_in) in
    let p : FitsSigned w64 (c.args.day *ℤ pos 86_400) = omega (arith, signed_arith) in
    let first = simp (to_z-of_z, c.deref.ensures.value) at c.first_moment.ensures in
    simp to_z-of_z (rw (← c.self.view_is) (sym (first_at-is _ _ _ c.self.invariant.zone first)))

pub returns-clause-first : goal.returns-clause-first
returns-clause-first c =
    let day : FitsSigned w64 c.args.day = c.ranges.day in
    let r : FitsSigned w64 c.first_moment.result = search rules in
    let f : FitsSigned w32 c.self.inside.first_offset = omega (arith, signed_arith, c.self.invariant.zone.first_in) in
    let p : FitsSigned w64 (c.args.day *ℤ pos 86_400) = omega (arith, signed_arith) in
    let first = simp (to_z-of_z, c.deref.ensures.value) at c.first_moment.ensures in
    simp to_z-of_z (rw (← c.self.view_is) first)
