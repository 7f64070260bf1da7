use Rattle.std.proofs.Common.{◌≡◌, ℕ, List, sym, subst}
use Rattle.change_history.specs.History.{History, histories_of}
use Rattle.jql_bound.specs.declared.context.Context.{Context}
use Rattle.jql_meaning.specs.Surroundings.{surroundings_of}
use Rattle.tracker_filters.specs.Watched.{WatchedFilters, AreWatched, histories_in}
use Rattle.tracker_filters.specs.Members.{DifferInMembers, SettlesMembers}
use Rattle.tracker_filters.proofs.Regrouping.{watched_members}
use Rattle.tracker_filters.proofs.filters.Filters.see_members.Goals as goal

pub invariant_of-self : goal.invariant_of-self
invariant_of-self g c =
    let s = c.self.inside in
    let hs = histories_in s.seen.items in
    let one = surroundings_of s.around.value in
    let other = surroundings_of c.args.context.now in
    let same : histories_of c.args.issues.now ≡ hs = subst (λ (w : WatchedFilters). histories_of c.args.issues.now ≡ w.histories) (sym c.self.view_is) c.requires.issues in
    let differ = subst (λ (w : WatchedFilters). DifferInMembers w.around other) (sym c.self.view_is) c.requires.differ in
    let same_moment : c.args.at ≡ s.moment.value = subst (λ (w : WatchedFilters). c.args.at ≡ w.moment) (sym c.self.view_is) c.requires.moment in
    let settled = subst (λ (all : List History). SettlesMembers other s.moment.value s.list.items all s.views c.settle_members.new.views) same
    (subst (λ (t : ℕ). SettlesMembers other t s.list.items (histories_of c.args.issues.now) s.views c.settle_members.new.views) same_moment
    (rw c.deref.ensures.value at c.settle_members.ensures.settled)) in
    subst (λ (x : Context). AreWatched s.list.items c.settle_members.new.views hs (surroundings_of x) s.moment.value) (sym c.of.ensures)
    (watched_members s.list.items hs one other s.moment.value s.views c.settle_members.new.views differ settled c.self.invariant)
