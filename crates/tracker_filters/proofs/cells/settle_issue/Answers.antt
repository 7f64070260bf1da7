use Rattle.std.proofs.Common.{length, refl, subst, arith}
use Rattle.std.proofs.lemmas.Option.{slice_get_read}
use Rattle.field_values.specs.declared.numbers.IssueNo.{IssueNo}
use Rattle.jql_meaning.specs.Surroundings.{surroundings_of}
use Rattle.filter_views.specs.Cell.{Cell}
use Rattle.filter_views.specs.Views.{Settles}
use Rattle.tracker_filters.proofs.Settling.{row_there, one_filter_more, all_filters}
use Rattle.tracker_filters.proofs.cells.settle_issue.Goals as goal

pub settle-requires-clause-filter : goal.settle-requires-clause-filter
settle-requires-clause-filter g c =
    let fs = c.args.filters.now in
    row_there fs c.loop-filter.filter-index c.filter-item.result c.args.views.now c.loop-filter.views c.requires.rows c.loop-filter.invariant.settled.same
    (slice_get_read fs (length fs) c.loop-filter.filter-index c.filter-item.result refl c.loop-filter-test.true c.filter-item.is)

pub loop-filter-preserved : goal.loop-filter-preserved
loop-filter-preserved g c =
    let fs = c.args.filters.now in
    let at = slice_get_read fs (length fs) c.loop-filter.filter-index c.filter-item.result refl c.loop-filter-test.true c.filter-item.is in
    let cell : Cell = record { holds = c.evaluate-verdict.result.holds; end = c.evaluate-verdict.result.until } in
    let settled = subst (λ (n : IssueNo). Settles c.loop-filter.views c.settle.new.self c.filter-item.result.no.0 n.0 cell) c.no-no.ensures c.settle.ensures.settled in
    record {
      settled = one_filter_more (surroundings_of c.args.context.now) c.args.at fs c.args.issue.now.history c.args.issue.now.history.no.0 c.loop-filter.filter-index c.filter-item.result cell c.args.views.now c.loop-filter.views c.settle.new.self
          c.requires.rising at c.evaluate-verdict.ensures.right settled c.loop-filter.invariant.settled;
      steps = omega (arith, c.evaluate-verdict.ensures.steps, c.loop-filter.invariant.steps);
    }

pub returns-clause-settled : goal.returns-clause-settled
returns-clause-settled g c =
    all_filters (surroundings_of c.args.context.now) c.args.at c.args.filters.now c.args.issue.now.history c.args.issue.now.history.no.0 c.loop-filter.filter-index c.args.views.now c.loop-filter.views
    c.loop-filter-test.false c.loop-filter.invariant.settled
