use Rattle.std.proofs.Common.{◌≡◌, ◌&&◌, Bool, slice_get, IfSome, subst}
use Rattle.tracker_machine.specs.Filters.{is_shown}
use Rattle.tracker_state.specs.State.{saved_as}
use Rattle.filter_lists.proofs.Cells.{none_shown, shown_from}
use Rattle.filter_lists.proofs.Walk.{is_bound}
use Rattle.filter_lists.proofs.lists.shows.Goals as goal

pub returns-then-not-holds : goal.returns-then-not-holds
returns-then-not-holds c =
    let s = c.args.state.now in
    let f = c.args.filter.now in
    none_shown s.machine c.args.user.0 f (slice_get s.machine.histories c.args.place) c.holds.result
    (is_bound s.machine.setup s.watched.filters f c.have_seen.ensures.bound c.requires) c.if-not-holds.true c.holds.ensures

pub returns : goal.returns
returns c =
    let s = c.args.state.now in
    let f = c.args.filter.now in
    subst (λ (b : Bool). IfSome (slice_get s.machine.histories c.args.place) (λ h. (b && c.may_both.result) ≡ is_shown s.machine c.args.user.0 (saved_as f) h)) c.if-not-holds.false
    (shown_from s.machine c.args.user.0 f (slice_get s.machine.histories c.args.place) c.holds.result c.may_both.result
    (is_bound s.machine.setup s.watched.filters f c.have_seen.ensures.bound c.requires) c.holds.ensures c.may_both.ensures)
