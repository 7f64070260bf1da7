use Rattle.jql_meaning.specs.Surroundings.{surroundings_of}
use Rattle.jql_past.proofs.Truth.{stays}
use Rattle.jql_past.proofs.end.next_past.Goals as goal

pub returns : goal.returns
returns c =
    stays (surroundings_of c.args.context.now) c.args.issue.now.history c.args.leaf.now c.args.at c.first_day.ensures.calendar.zone c.next_change.result c.next_change.ensures
