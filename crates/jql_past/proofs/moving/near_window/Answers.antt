use Rattle.std.proofs.Common.{FitsSigned, w64}
use Rattle.std.proofs.lemmas.Int.{to_z-of_z}
use Rattle.jql_meaning.specs.Edges.{date}
use Rattle.jql_past.specs.Near.{ahead, IsNear}
use Rattle.jql_past.proofs.Nexts.{next_of_two}
use Rattle.jql_past.proofs.moving.near_window.Goals as goal

pub returns-in-During : goal.returns-in-During
returns-in-During c =
    let second : FitsSigned w64 c.args.second = c.ranges.second in
    let reach : FitsSigned w64 c.args.reach = c.ranges.reach in
    let one = simp to_z-of_z at c.near_date.ensures in
    let other = simp to_z-of_z at c.near_date-in-During.ensures in
    rw (c.in-During.is, c.earlier.ensures)
    (next_of_two (λ edge. IsNear c.args.second c.args.reach (ahead edge)) (date c.in-During.from) (date c.in-During.to) c.args.at c.near_date.result c.near_date-in-During.result one other)
