use Rattle.std.proofs.Common.{◌+◌, length, refl, arith}
use Rattle.std.proofs.lemmas.List.{length-map}
use Rattle.std.proofs.lemmas.Option.{slice_get_read}
use Rattle.change_history.specs.History.{RoomyHistory, histories_of}
use Rattle.jql_meaning.specs.Surroundings.{surroundings_of}
use Rattle.filter_views.specs.Cell.{Cell}
use Rattle.tracker_filters.proofs.Lists.{history_at}
use Rattle.tracker_filters.proofs.Regrouping.{one_cell_more, all_cells}
use Rattle.tracker_filters.proofs.members.settle_row.Goals as goal

pub loop-issue-preserved : goal.loop-issue-preserved
loop-issue-preserved g c =
    let issues = c.args.issues.now in
    let hs = histories_of issues in
    let k = c.loop-issue.issue-index in
    let issue = c.issue-item.result in
    let at = history_at issues k issue (slice_get_read issues (length issues) k issue refl c.loop-issue-test.true c.issue-item.is) in
    let cell : Cell = record { holds = c.evaluate-verdict.result.holds; end = c.evaluate-verdict.result.until } in
    record {
      count = omega (arith, c.loop-issue.invariant.count);
      settled = one_cell_more (surroundings_of c.args.context.now) c.args.at c.args.filter.now hs k (c.loop-issue.no + 1) issue.history cell c.args.views.now c.loop-issue.views c.settle.new.self
          at (omega (arith, c.loop-issue.invariant.count)) c.evaluate-verdict.ensures.right c.settle.ensures.settled c.loop-issue.invariant.settled;
      steps = omega (arith, c.evaluate-verdict.ensures.steps, c.loop-issue.invariant.steps);
    }

pub returns-clause-settled : goal.returns-clause-settled
returns-clause-settled g c =
    let issues = c.args.issues.now in
    let many = length-map issues (λ (i : RoomyHistory). i.history) in
    all_cells (surroundings_of c.args.context.now) c.args.at c.args.filter.now (histories_of issues) c.loop-issue.issue-index c.args.views.now c.loop-issue.views
    (omega (arith, many, c.loop-issue-test.false)) c.loop-issue.invariant.settled
