use Rattle.std.proofs.Common.{◌≡◌, ◌-◌, ℕ, List, set, sym, subst, ap, ◌∙◌}
use Rattle.field_values.specs.declared.numbers.IssueNo.{IssueNo}
use Rattle.change_history.specs.History.{History}
use Rattle.jql_meaning.specs.Surroundings.{Surroundings, surroundings_of}
use Rattle.tracker_filters.specs.Watched.{WatchedFilters, AreWatched, histories_in}
use Rattle.tracker_filters.specs.Cells.{SettlesIssue}
use Rattle.tracker_filters.proofs.Lists.{seen_change}
use Rattle.tracker_filters.proofs.Watching.{watched_change}
use Rattle.tracker_filters.proofs.filters.Filters.see_change.Goals as goal

pub invariant_of-self : goal.invariant_of-self
invariant_of-self g c =
    let s = c.self.inside in
    let hs = histories_in s.seen.items in
    let h = c.args.issue.now.history in
    let around = surroundings_of s.around.value in
    let new = c.settle_issue.new.views in
    let same_around : surroundings_of c.args.context.now ≡ around = subst (λ (w : WatchedFilters). surroundings_of c.args.context.now ≡ w.around) (sym c.self.view_is) c.requires.around in
    let same_moment : c.args.at ≡ s.moment.value = subst (λ (w : WatchedFilters). c.args.at ≡ w.moment) (sym c.self.view_is) c.requires.moment in
    let settled = subst (λ (a : Surroundings). SettlesIssue a s.moment.value s.list.items h h.no.0 s.views new) same_around
    (subst (λ (t : ℕ). SettlesIssue (surroundings_of c.args.context.now) t s.list.items h h.no.0 s.views new) same_moment
    (rw c.deref.ensures.value at c.settle_issue.ensures.settled)) in
    let histories : histories_in (set s.seen.items (c.no.result.0 - 1) c.of.result) ≡ set hs (h.no.0 - 1) h =
    seen_change s.seen.items (c.no.result.0 - 1) c.of.result c.args.issue.now c.of.ensures ∙ ap (λ (n : IssueNo). set hs (n.0 - 1) h) c.no.ensures in
    subst (λ (all : List History). AreWatched s.list.items new all around s.moment.value) (sym histories)
    (watched_change s.list.items hs around s.moment.value s.views new h c.requires.there.0 settled c.self.invariant)

pub returns-clause-histories : goal.returns-clause-histories
returns-clause-histories g c =
    let s = c.self.inside in
    let h = c.args.issue.now.history in
    seen_change s.seen.items (c.no.result.0 - 1) c.of.result c.args.issue.now c.of.ensures
    ∙ ap (λ (n : IssueNo). set (histories_in s.seen.items) (n.0 - 1) h) c.no.ensures
    ∙ ap (λ (w : WatchedFilters). set w.histories (h.no.0 - 1) h) c.self.view_is
