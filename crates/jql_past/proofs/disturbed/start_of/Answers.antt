use Rattle.std.proofs.Common.{FitsSigned, w64, rules}
use Rattle.std.proofs.lemmas.Int.{to_z-of_z}
use Rattle.jql_past.proofs.Bounds.{midnight_bound}
use Rattle.jql_past.proofs.disturbed.start_of.Goals as goal

pub returns-clause-bound : goal.returns-clause-bound
returns-clause-bound c =
    let day : FitsSigned w64 c.args.day = c.ranges.day in
    let r : FitsSigned w64 c.start_of.result = search rules in
    let first = simp to_z-of_z at c.start_of.ensures.first in
    simp to_z-of_z (midnight_bound _ c.args.day c.start_of.result c.first_day.ensures.calendar.zone c.requires first)
