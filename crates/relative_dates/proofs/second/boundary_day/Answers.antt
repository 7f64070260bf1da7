use Rattle.std.proofs.Common.{refl, ◌+ℤ◌, arith, FitsSigned, w32, w64, rules}
use Rattle.std.proofs.lemmas.Int.{to_z-of_z}
use Rattle.jiff_core.proofs.SignedLemmas.{signed_arith}
use Rattle.relative_dates.proofs.second.boundary_day.Goals as goal

pub returns-clause-value : goal.returns-clause-value
returns-clause-value c =
    let day : FitsSigned w32 c.args.day = c.ranges.day in
    let e : FitsSigned w32 c.edge_day-edge.result = search rules in
    let g : FitsSigned w32 c.get.result = search rules in
    let l : FitsSigned w32 c.months_later-later.result = search rules in
    let f : FitsSigned w64 c.from.result = search rules in
    let f2 : FitsSigned w64 c.from-2.result = search rules in
    let d : FitsSigned w32 c.args.boundary.now.shift.days = search rules in
    let edge = simp to_z-of_z at c.edge_day-edge.ensures.value in
    let later = simp to_z-of_z at c.months_later-later.ensures.value in
    let wide = simp to_z-of_z at c.from.ensures in
    let days = simp to_z-of_z at c.from-2.ensures in
    let sum : FitsSigned w64 (c.from.result +ℤ c.from-2.result) = omega (arith, signed_arith) in
    simp to_z-of_z (rw (wide, days, later, edge, c.get.ensures.value) refl)
