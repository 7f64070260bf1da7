use Rattle.std.proofs.Common.{subst, sym}
use Rattle.jql_meaning.specs.Surroundings.{surroundings_of}
use Rattle.jql_past.specs.declared.windows.Interval.{Interval}
use Rattle.jql_past.specs.Interval.{IsOfWindows}
use Rattle.jql_past.proofs.Intervals.{interval_is}
use Rattle.jql_past.proofs.windows.common_interval.Goals as goal

pub returns : goal.returns
returns c =
    subst (λ (i : Interval). IsOfWindows (surroundings_of c.args.context.now) c.args.at c.args.predicates.now i) (sym c.interval_of.ensures)
    (interval_is (surroundings_of c.args.context.now) c.args.at c.args.predicates.now c.first_day.ensures.calendar.zone)
