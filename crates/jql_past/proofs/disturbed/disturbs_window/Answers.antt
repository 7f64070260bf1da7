use Rattle.jql_meaning.specs.Surroundings.{surroundings_of}
use Rattle.jql_meaning.specs.Edges.{date}
use Rattle.jql_past.specs.Near.{IsDisturbed}
use Rattle.jql_past.proofs.Nexts.{next_of_two}
use Rattle.jql_past.proofs.disturbed.disturbs_window.Goals as goal

pub returns-in-During : goal.returns-in-During
returns-in-During c =
    rw (c.in-During.is, c.earlier.ensures)
    (next_of_two (IsDisturbed (surroundings_of c.args.context.now) c.args.predicates.now c.args.at) (date c.in-During.from) (date c.in-During.to) c.args.at
    c.disturbs_date.result c.disturbs_date-in-During.result c.disturbs_date.ensures c.disturbs_date-in-During.ensures)

pub returns-in-On : goal.returns-in-On
returns-in-On c = rw c.in-On.is c.disturbs_day.ensures
