use Rattle.std.proofs.Common.{List, sym, subst, arith}
use Rattle.field_values.specs.declared.status.Status.{Status}
use Rattle.fields.specs.SetupParts.{parts}
use Rattle.change_history.specs.History.{RoomyHistory, histories_of}
use Rattle.tracker_work.specs.Seen.{Seen, done_of}
use Rattle.tracker_work.specs.Load.{MayBeLoaded}
use Rattle.tracker_filters.specs.Sprint.{AreNumbered}
use Rattle.tracker_state.proofs.Sprinting.{are_numbered}
use Rattle.tracker_loading.specs.Assembled.{made_with}
use Rattle.tracker_loading.specs.Making.{order_of}
use Rattle.tracker_loading.proofs.Loadable.{work_may_be_loaded}
use Rattle.tracker_loading.proofs.Ordered.{as_many}
use Rattle.tracker_loading.proofs.Filters.{are_saved}
use Rattle.tracker_loading.proofs.assemble.derived.Goals as goal

pub ranks_of-requires-clause-few : goal.ranks_of-requires-clause-few
ranks_of-requires-clause-few c =
    let ranks = c.args.given.ranks.items in
    let tracker = c.requires.tracker in
    let many = as_many ranks (order_of ranks) c.args.given.balance c.requires.whole.permuted tracker.ranked in
    let each = tracker.each in
    let few = tracker.few_issues in
    omega (arith, many, each, few)

pub filters_of-requires-clause-saved : goal.filters_of-requires-clause-saved
filters_of-requires-clause-saved c =
    are_saved (parts c.args.base.now.setup) c.args.given.filters.items c.args.base.now.boards.boards c.requires.tracker.saved

pub filters_of-requires-clause-numbered : goal.filters_of-requires-clause-numbered
filters_of-requires-clause-numbered c =
    let m = made_with c.args.base.now c.args.given in
    subst (λ (issues : List RoomyHistory). AreNumbered (histories_of issues)) (sym c.as_slice-issues.ensures) (are_numbered m c.requires.tracker)

pub load-requires : goal.load-requires
load-requires c =
    let base = c.args.base.now in
    let m = made_with base c.args.given in
    let made : (statuses : List Status) (issues : List RoomyHistory) → Seen =
    λ statuses issues. record {
      done = done_of statuses;
      sprints = c.args.given.sprints.sprints;
      histories = histories_of issues;
      change = c.args.base.now.change;
    } in
    subst (λ (statuses : List Status). MayBeLoaded (made statuses c.as_vec.result.now.items)) (sym c.as_slice-statuses.ensures)
    (subst (λ (issues : List RoomyHistory). MayBeLoaded (made base.setup.status issues)) (sym c.as_vec.ensures) (work_may_be_loaded m c.requires.tracker))
