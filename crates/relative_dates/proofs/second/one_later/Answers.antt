use Rattle.std.proofs.Common.{arith, FitsSigned, w32, rules}
use Rattle.std.proofs.lemmas.Int.{to_z-of_z}
use Rattle.jiff_core.proofs.SignedLemmas.{signed_arith}
use Rattle.relative_dates.proofs.MonthLemmas.{months_later_near}
use Rattle.relative_dates.proofs.second.one_later.Goals as goal

pub returns-in-Month-clause-near : goal.returns-in-Month-clause-near
returns-in-Month-clause-near c =
    let day : FitsSigned w32 c.args.day = c.ranges.day in
    let r : FitsSigned w32 c.months_later.result = search rules in
    let is = simp to_z-of_z at c.months_later.ensures.value in
    let near = months_later_near c.args.day 1 (omega (arith, signed_arith, c.requires)) (omega arith) in
    simp to_z-of_z (omega (arith, signed_arith, c.requires))

pub returns-in-Year-clause-near : goal.returns-in-Year-clause-near
returns-in-Year-clause-near c =
    let day : FitsSigned w32 c.args.day = c.ranges.day in
    let r : FitsSigned w32 c.months_later-in-Year.result = search rules in
    let is = simp to_z-of_z at c.months_later-in-Year.ensures.value in
    let near = months_later_near c.args.day 12 (omega (arith, signed_arith, c.requires)) (omega arith) in
    simp to_z-of_z (omega (arith, signed_arith, c.requires))
