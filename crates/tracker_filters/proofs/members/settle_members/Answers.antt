use Rattle.std.proofs.Common.{length, refl, arith, ap, ◌∙◌}
use Rattle.std.proofs.lemmas.Option.{slice_get_read}
use Rattle.filter_views.specs.Views.{Shape}
use Rattle.jql_meaning.specs.Surroundings.{surroundings_of}
use Rattle.change_history.specs.History.{histories_of}
use Rattle.tracker_filters.proofs.Settling.{row_there}
use Rattle.tracker_filters.proofs.Regrouping.{one_asked, all_asked, members_cost_more}
use Rattle.tracker_filters.proofs.members.settle_members.Goals as goal

pub settle_if_asking-requires-clause-there : goal.settle_if_asking-requires-clause-there
settle_if_asking-requires-clause-there g c =
    let fs = c.args.filters.now in
    row_there fs c.loop-filter.filter-index c.filter-item.result c.args.views.now c.loop-filter.views c.requires.rows c.loop-filter.invariant.settled.same
    (slice_get_read fs (length fs) c.loop-filter.filter-index c.filter-item.result refl c.loop-filter-test.true c.filter-item.is)

pub settle_if_asking-requires-clause-many : goal.settle_if_asking-requires-clause-many
settle_if_asking-requires-clause-many g c = ap (λ (s : Shape). s.issues) c.loop-filter.invariant.settled.same ∙ c.requires.many

pub loop-filter-preserved : goal.loop-filter-preserved
loop-filter-preserved g c =
    let fs = c.args.filters.now in
    let k = c.loop-filter.filter-index in
    let filter = c.filter-item.result in
    let at = slice_get_read fs (length fs) k filter refl c.loop-filter-test.true c.filter-item.is in
    record {
      settled = one_asked (surroundings_of c.args.context.now) c.args.at fs (histories_of c.args.issues.now) k filter c.args.views.now c.loop-filter.views c.settle_if_asking.new.views
          c.requires.rising at c.settle_if_asking.ensures.settled c.loop-filter.invariant.settled;
      steps = let more = members_cost_more (length c.args.issues.now) k filter fs at in omega (arith, more, c.settle_if_asking.ensures.steps, c.loop-filter.invariant.steps);
    }

pub returns-clause-settled : goal.returns-clause-settled
returns-clause-settled g c =
    all_asked (surroundings_of c.args.context.now) c.args.at c.args.filters.now (histories_of c.args.issues.now) c.loop-filter.filter-index c.args.views.now c.loop-filter.views
    c.loop-filter-test.false c.loop-filter.invariant.settled
