use Rattle.std.proofs.Common.{arith}
use Rattle.tracker_filters.proofs.Ends.{none_before, none_counted, later_counted}
use Rattle.tracker_filters.proofs.due.next_due_by.Goals as goal

pub returns-in_default-clause-count : goal.returns-in_default-clause-count
returns-in_default-clause-count c = none_counted c.args.views.now c.args.to c.in_default.ensures.grid c.in_default.ensures.next

pub returns-clause-none : goal.returns-clause-none
returns-clause-none c =
    none_before c.args.views.now c.args.to _ c.in-Some.ensures.next (omega (arith, c.if-seconds.false, c.seconds.ensures, c.seconds-2.ensures))

pub returns-clause-count : goal.returns-clause-count
returns-clause-count c =
    later_counted c.args.views.now c.args.to _ c.in-Some.ensures.grid c.in-Some.ensures.next (omega (arith, c.if-seconds.false, c.seconds.ensures, c.seconds-2.ensures))
