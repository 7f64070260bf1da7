use Rattle.std.proofs.Common.{ap, arith}
use Rattle.field_values.specs.declared.numbers.IssueNo.{IssueNo}
use Rattle.tracker_machine.proofs.Keepable.{number_at}
use Rattle.rank_calls.proofs.moves.number_of.Goals as goal

pub returns-clause-next : goal.returns-clause-next
returns-clause-next c =
    let m = c.args.state.now.machine in
    let h = c.args.found.issue.now.history in
    let own = number_at 1 m.histories c.args.found.place h c.is_tracker.ensures.numbers c.requires in
    omega (arith, own.0, ap (λ (no : IssueNo). no.0) c.no.ensures)

pub returns-clause-one : goal.returns-clause-one
returns-clause-one c =
    let m = c.args.state.now.machine in
    let h = c.args.found.issue.now.history in
    let own = number_at 1 m.histories c.args.found.place h c.is_tracker.ensures.numbers c.requires in
    let no = ap (λ (no : IssueNo). no.0) c.no.ensures in
    (omega (arith, own.0, no), omega (arith, own.0, own.1, no, c.is_tracker.ensures.each))
