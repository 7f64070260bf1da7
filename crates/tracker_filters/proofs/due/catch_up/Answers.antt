use Rattle.jql_meaning.specs.Surroundings.{surroundings_of}
use Rattle.change_history.specs.History.{histories_of}
use Rattle.tracker_filters.proofs.Rights.{pending_ends}
use Rattle.tracker_filters.proofs.due.catch_up.Goals as goal

pub returns-clause-right : goal.returns-clause-right
returns-clause-right g c =
    pending_ends (surroundings_of c.args.context.now) c.args.to (histories_of c.args.issues.now) c.args.filters.now c.loop-cell.views c.in_default.ensures.none c.loop-cell.invariant.pending
