use Rattle.std.proofs.Common.{refl, pos, ◌+ℤ◌, ◌-ℤ◌, ◌*ℤ◌, arith, FitsSigned, w32, w64, rules}
use Rattle.std.proofs.lemmas.Int.{to_z-of_z}
use Rattle.jiff_core.proofs.SignedLemmas.{signed_arith}
use Rattle.relative_dates.specs.Term.{boundary_second}
use Rattle.relative_dates.proofs.second.boundary_second.Goals as goal

pub returns-clause-value : goal.returns-clause-value
unfolding boundary_second
returns-clause-value c =
    let day : FitsSigned w64 c.args.day = c.ranges.day in
    let day_small : FitsSigned w32 c.args.day = omega (arith, signed_arith, c.requires) in
    let b : FitsSigned w64 c.boundary_day-day.result = search rules in
    let a : FitsSigned w64 c.first_at.result = search rules in
    let f : FitsSigned w64 c.from.result = search rules in
    let e : FitsSigned w64 c.before_edge.result = search rules in
    let m : FitsSigned w32 c.args.boundary.now.shift.minutes = search rules in
    let p : FitsSigned w64 (c.boundary_day-day.result *ℤ pos 86_400) = omega (arith, signed_arith, c.boundary_day-day.ensures.bound) in
    let near = simp to_z-of_z at c.first_at.ensures.near in
    let value = simp to_z-of_z at c.first_at.ensures.value in
    let minutes = simp to_z-of_z at c.from.ensures in
    let q : FitsSigned w64 (pos 60 *ℤ c.from.result) = omega (arith, signed_arith) in
    let s : FitsSigned w64 (c.first_at.result +ℤ (pos 60 *ℤ c.from.result)) = omega (arith, signed_arith, c.boundary_day-day.ensures.bound) in
    let r : FitsSigned w64 ((c.first_at.result +ℤ (pos 60 *ℤ c.from.result)) -ℤ c.before_edge.result) = omega (arith, signed_arith, c.boundary_day-day.ensures.bound, c.before_edge.ensures.bound) in
    let on = simp to_z-of_z at c.boundary_day-day.ensures.value in
    simp to_z-of_z (rw (value, on, c.first_day.ensures.value, minutes, c.before_edge.ensures.value) refl)

pub overflow_sub-result : goal.overflow_sub-result
overflow_sub-result c =
    let b : FitsSigned w64 c.boundary_day-day.result = search rules in
    let a : FitsSigned w64 c.first_at.result = search rules in
    let f : FitsSigned w64 c.from.result = search rules in
    let e : FitsSigned w64 c.before_edge.result = search rules in
    let m : FitsSigned w32 c.args.boundary.now.shift.minutes = search rules in
    let p : FitsSigned w64 (c.boundary_day-day.result *ℤ pos 86_400) = omega (arith, signed_arith, c.boundary_day-day.ensures.bound) in
    let near = simp to_z-of_z at c.first_at.ensures.near in
    let minutes = simp to_z-of_z at c.from.ensures in
    let q : FitsSigned w64 (pos 60 *ℤ c.from.result) = omega (arith, signed_arith) in
    let s : FitsSigned w64 (c.first_at.result +ℤ (pos 60 *ℤ c.from.result)) = omega (arith, signed_arith, c.boundary_day-day.ensures.bound) in
    simp to_z-of_z (omega (arith, signed_arith, c.boundary_day-day.ensures.bound, c.before_edge.ensures.bound))

pub returns-clause-bound : goal.returns-clause-bound
returns-clause-bound c =
    let b : FitsSigned w64 c.boundary_day-day.result = search rules in
    let a : FitsSigned w64 c.first_at.result = search rules in
    let f : FitsSigned w64 c.from.result = search rules in
    let e : FitsSigned w64 c.before_edge.result = search rules in
    let m : FitsSigned w32 c.args.boundary.now.shift.minutes = search rules in
    let p : FitsSigned w64 (c.boundary_day-day.result *ℤ pos 86_400) = omega (arith, signed_arith, c.boundary_day-day.ensures.bound) in
    let near = simp to_z-of_z at c.first_at.ensures.near in
    let minutes = simp to_z-of_z at c.from.ensures in
    let q : FitsSigned w64 (pos 60 *ℤ c.from.result) = omega (arith, signed_arith) in
    let s : FitsSigned w64 (c.first_at.result +ℤ (pos 60 *ℤ c.from.result)) = omega (arith, signed_arith, c.boundary_day-day.ensures.bound) in
    let r : FitsSigned w64 ((c.first_at.result +ℤ (pos 60 *ℤ c.from.result)) -ℤ c.before_edge.result) = omega (arith, signed_arith, c.boundary_day-day.ensures.bound, c.before_edge.ensures.bound) in
    simp to_z-of_z (omega (arith, signed_arith, c.boundary_day-day.ensures.bound, c.before_edge.ensures.bound), omega (arith, signed_arith, c.boundary_day-day.ensures.bound, c.before_edge.ensures.bound))
