use Rattle.std.proofs.Common.{length, refl, arith}
use Rattle.std.proofs.lemmas.List.{length-map}
use Rattle.std.proofs.lemmas.Option.{slice_get_read}
use Rattle.change_history.specs.History.{RoomyHistory, histories_of}
use Rattle.jql_meaning.specs.Surroundings.{surroundings_of}
use Rattle.tracker_filters.proofs.Lists.{history_at}
use Rattle.tracker_filters.proofs.Sprinting.{one_more, all_settled, cost_more}
use Rattle.tracker_filters.proofs.sprint.settle_sprint.Goals as goal

pub loop-issue-preserved : goal.loop-issue-preserved
loop-issue-preserved g c =
    let issues = c.args.issues.now in
    let hs = histories_of issues in
    let k = c.loop-issue.issue-index in
    let issue = c.issue-item.result in
    let at = history_at issues k issue (slice_get_read issues (length issues) k issue refl c.loop-issue-test.true c.issue-item.is) in
    record {
      settled = one_more (surroundings_of c.args.context.now) c.args.at c.args.filters.now hs c.args.sprint.0 k issue.history c.args.views.now c.loop-issue.views c.settle_if_in.new.views
          at (c.requires.numbered k issue.history at) c.settle_if_in.ensures.settled c.loop-issue.invariant.settled;
      steps = let more = cost_more (length c.args.filters.now) c.args.sprint.0 k issue.history hs at in omega (arith, more, c.settle_if_in.ensures.steps, c.loop-issue.invariant.steps);
    }

pub returns-clause-settled : goal.returns-clause-settled
returns-clause-settled g c =
    let issues = c.args.issues.now in
    let many = length-map issues (λ (i : RoomyHistory). i.history) in
    all_settled (surroundings_of c.args.context.now) c.args.at c.args.filters.now (histories_of issues) c.args.sprint.0 c.loop-issue.issue-index c.args.views.now c.loop-issue.views
    (omega (arith, many, c.loop-issue-test.false)) c.loop-issue.invariant.settled
