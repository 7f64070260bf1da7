use Rattle.std.proofs.Common.{◌≡◌, ◌<◌, ◌+◌, ◌++◌, ◌∷◌, [], ◌^◌, ℕ, List, length, rules, sym, subst, ap, ◌∙◌}
use Rattle.field_values.specs.declared.numbers.IssueNo.{IssueNo}
use Rattle.change_history.specs.History.{History}
use Rattle.jql_meaning.specs.Surroundings.{Surroundings, surroundings_of}
use Rattle.tracker_filters.specs.Watched.{WatchedFilters, AreWatched, histories_in}
use Rattle.tracker_filters.specs.Cells.{SettlesIssue}
use Rattle.tracker_filters.proofs.Lists.{seen_new}
use Rattle.tracker_filters.proofs.Watching.{watched_new}
use Rattle.tracker_filters.proofs.filters.Filters.see_new.Goals as goal

pub invariant_of-self : goal.invariant_of-self
invariant_of-self g c =
    let s = c.self.inside in
    let hs = histories_in s.seen.items in
    let h = c.args.issue.now.history in
    let around = surroundings_of s.around.value in
    let new = c.settle_issue.new.views in
    let next : h.no.0 ≡ length hs + 1 = subst (λ (w : WatchedFilters). h.no.0 ≡ length w.histories + 1) (sym c.self.view_is) c.requires.next in
    let same_around : surroundings_of c.args.context.now ≡ around = subst (λ (w : WatchedFilters). surroundings_of c.args.context.now ≡ w.around) (sym c.self.view_is) c.requires.around in
    let same_moment : c.args.at ≡ s.moment.value = subst (λ (w : WatchedFilters). c.args.at ≡ w.moment) (sym c.self.view_is) c.requires.moment in
    let small : c.no.result.0 < 2 ^ 32 = search rules in
    let few : h.no.0 < 2 ^ 32 = subst (λ (n : IssueNo). n.0 < 2 ^ 32) c.no.ensures small in
    let settled = subst (λ (a : Surroundings). SettlesIssue a s.moment.value s.list.items h h.no.0 c.add_issue.new.self new) same_around
    (subst (λ (t : ℕ). SettlesIssue (surroundings_of c.args.context.now) t s.list.items h h.no.0 c.add_issue.new.self new) same_moment
    (rw c.deref.ensures.value at c.settle_issue.ensures.settled)) in
    let histories : histories_in c.push_reserved.new.self.items ≡ hs ++ h ∷ [] = ap histories_in c.push_reserved.ensures.items ∙ seen_new s.seen.items c.of.result c.args.issue.now c.of.ensures in
    subst (λ (all : List History). AreWatched s.list.items new all around s.moment.value) (sym histories)
    (watched_new s.list.items hs around s.moment.value s.views c.add_issue.new.self new h next few c.add_issue.ensures settled c.self.invariant)
