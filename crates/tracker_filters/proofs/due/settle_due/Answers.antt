use Rattle.std.proofs.Common.{◌<◌, ◌-◌, length, refl, sym, arith}
use Rattle.std.proofs.lemmas.List.{length-map}
use Rattle.std.proofs.lemmas.Option.{slice_get_read}
use Rattle.change_history.specs.History.{RoomyHistory, histories_of}
use Rattle.jql_meaning.specs.Surroundings.{surroundings_of}
use Rattle.filter_views.specs.Cell.{Cell}
use Rattle.tracker_filters.proofs.Lists.{history_at}
use Rattle.tracker_filters.proofs.Rights.{pending_settled}
use Rattle.tracker_filters.proofs.Ends.{due_there, filter_there, fewer_due}
use Rattle.tracker_filters.proofs.due.settle_due.Goals as goal

pub bounds-issues-issue : goal.bounds-issues-issue
bounds-issues-issue g c =
    let there = due_there c.args.views.now c.args.to c.args.cell.0.0 c.args.cell.1.0 c.requires.grid c.requires.due in
    omega (arith, there.1.0, there.1.1, c.requires.cells.issues, length-map c.args.issues.now (λ (i : RoomyHistory). i.history))

pub settle-requires-clause-filter : goal.settle-requires-clause-filter
settle-requires-clause-filter g c = (due_there c.args.views.now c.args.to c.args.cell.0.0 c.args.cell.1.0 c.requires.grid c.requires.due).0

pub settle-requires-clause-issue : goal.settle-requires-clause-issue
settle-requires-clause-issue g c = (due_there c.args.views.now c.args.to c.args.cell.0.0 c.args.cell.1.0 c.requires.grid c.requires.due).1

pub returns-in-Some-clause-pending : goal.returns-in-Some-clause-pending
returns-in-Some-clause-pending g c =
    let issues = c.args.issues.now in
    let n = c.args.cell.0.0 in
    let i = c.args.cell.1.0 in
    let there = due_there c.args.views.now c.args.to n i c.requires.grid c.requires.due in
    let within : i - 1 < length issues = omega (arith, there.1.0, there.1.1, c.requires.cells.issues, length-map issues (λ (i : RoomyHistory). i.history)) in
    let cell : Cell = record { holds = c.evaluate-verdict.result.holds; end = c.evaluate-verdict.result.until } in
    let issue = c.index-issues-issue.result in
    pending_settled (surroundings_of c.args.context.now) c.args.to (histories_of issues) c.args.filters.now c.args.views.now c.settle.new.self n i c.in-Some.filter.now issue.history cell
    there.1.0 (sym c.in-Some.ensures) (history_at issues (i - 1) issue (slice_get_read issues (length issues) (i - 1) issue refl within c.index-issues-issue.is))
    c.evaluate-verdict.ensures.right c.settle.ensures.settled c.requires.pending

pub returns-in-Some-clause-fewer : goal.returns-in-Some-clause-fewer
returns-in-Some-clause-fewer g c =
    let cell : Cell = record { holds = c.evaluate-verdict.result.holds; end = c.evaluate-verdict.result.until } in
    fewer_due (surroundings_of c.args.context.now) c.args.to c.in-Some.filter.now c.index-issues-issue.result.history c.args.views.now c.settle.new.self c.args.cell.0.0 c.args.cell.1.0 cell
    c.requires.grid c.settle.ensures.grid c.requires.due c.evaluate-verdict.ensures.right c.settle.ensures.settled

-- a due cell's filter is there
pub returns-in_default-clause-fewer : goal.returns-in_default-clause-fewer
returns-in_default-clause-fewer g c =
    let there = due_there c.args.views.now c.args.to c.args.cell.0.0 c.args.cell.1.0 c.requires.grid c.requires.due in
    absurd (filter_there c.args.filters.now (histories_of c.args.issues.now) c.args.views.now c.args.cell.0.0 c.requires.cells there.0 (sym c.in_default.ensures))

pub returns-in_default-clause-steps : goal.returns-in_default-clause-steps
returns-in_default-clause-steps g c =
    let there = due_there c.args.views.now c.args.to c.args.cell.0.0 c.args.cell.1.0 c.requires.grid c.requires.due in
    absurd (filter_there c.args.filters.now (histories_of c.args.issues.now) c.args.views.now c.args.cell.0.0 c.requires.cells there.0 (sym c.in_default.ensures))
