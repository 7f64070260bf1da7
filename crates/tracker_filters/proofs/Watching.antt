-- What the filters keep true of themselves, call by call.
use Rattle.std.proofs.Common.{◌≡◌, ◌≢◌, ℕ, zero, suc, slice_get, ◌+◌, ◌-◌, ◌<◌, ◌≤◌, ◌^◌, true, Some, None, Option, Result, Ok, Err, OnOk, OnErr, IfSome, List, [], ◌∷◌, ◌++◌, length, set, map, nat_eq, if◌then◌else◌, ◌==◌, refl, sym, ◌∙◌, ap, subst, arith}
use Rattle.std.specs.List.{list_any}
use Rattle.std.proofs.lemmas.Bool.Decides.{nat_tests}
use Rattle.field_values.specs.declared.numbers.IssueNo.{IssueNo}
use Rattle.field_values.specs.Years.{last_second}
use Rattle.change_history.specs.History.{History}
use Rattle.jql_meaning.specs.Surroundings.{Surroundings, numbered}
use Rattle.jql_meaning.specs.Truth.{query_holds}
use Rattle.jql_eval.specs.Told.{Told}
use Rattle.filter_views.specs.Cell.{Views, is_there, cell_of, issues_held, filters as numbers_in}
use Rattle.filter_views.specs.Views.{Shape, shape, AddsIssue, RemovesFilter}
use Rattle.filter_views.specs.Grid.{IsGrid}
use Rattle.tracker_filters.specs.declared.filter.Filter.{Filter}
use Rattle.rising_numbers.specs.ByNumber.{by_number, put_by_number, without_number}
use Rattle.tracker_filters.specs.Saved.{number, condition_of, MayPut}
use Rattle.tracker_filters.specs.Watched.{AreRight, AreWatched, holders_from}
use Rattle.tracker_filters.specs.Cells.{SettlesIssue, SettlesFilter, ArePending}
use Rattle.tracker_filters.specs.Ready.{AreVerdicts}
use Rattle.rising_numbers.proofs.ByNumber.{rise_put, rise_without, by_put}
use Rattle.rising_numbers.proofs.Lengths.{length_without, length_put_most}
use Rattle.rising_numbers.proofs.Listed.{is_listed}
use Rattle.tracker_limits.specs.Limits.{most_filters}
use Rattle.tracker_filters.proofs.Named.{own_names_put, own_names_without}
use Rattle.tracker_filters.proofs.Rights.{all_same, right_new, right_change, right_put, right_without, pending_begins}
use Rattle.tracker_filters.proofs.Shapes.{cells_same, cells_new, cells_change, cells_without}
use Rattle.tracker_filters.proofs.Holders.{members_are}

-- ---- room

-- where only room may have come, it is so in any case
pub only_filter_room : {T E : Type 0} (r : Result T E) (v w : Views) → OnOk r (w ≡ record v { filter_room = w.filter_room }) → OnErr r (w ≡ v) → w ≡ record v { filter_room = w.filter_room }
only_filter_room (Ok x) v w same err = same
only_filter_room (Err e) v w same err = subst (λ (x : Views). x ≡ record v { filter_room = x.filter_room }) (sym err) refl

pub only_issue_room : {T E : Type 0} (r : Result T E) (v w : Views) → OnOk r (w ≡ record v { issue_room = w.issue_room }) → OnErr r (w ≡ v) → w ≡ record v { issue_room = w.issue_room }
only_issue_room (Ok x) v w same err = same
only_issue_room (Err e) v w same err = subst (λ (x : Views). x ≡ record v { issue_room = x.issue_room }) (sym err) refl

module _ (fs : List Filter) (hs : List History) (around : Surroundings) (moment : ℕ) where
  pub watched_roomier : (v w : Views) → numbers_in w ≡ numbers_in v → w.issues ≡ v.issues → ((n j : ℕ) → cell_of w n j ≡ cell_of v n j) → AreWatched fs v hs around moment → AreWatched fs w hs around moment
  watched_roomier v w rows issues cells kept = record {
    saved = kept.saved;
    cells = record { rows = rows ∙ kept.cells.rows; issues = issues ∙ kept.cells.issues; few = kept.cells.few };
    right = all_same around moment hs fs v w cells kept.right;
  }

  pub filter_roomier : (v w : Views) → w ≡ record v { filter_room = w.filter_room } → AreWatched fs v hs around moment → AreWatched fs w hs around moment
  filter_roomier v w same kept = watched_roomier v w (ap numbers_in same) (ap (λ (x : Views). x.issues) same) (λ n j. ap (λ (x : Views). cell_of x n j) same) kept

  pub issue_roomier : (v w : Views) → w ≡ record v { issue_room = w.issue_room } → AreWatched fs v hs around moment → AreWatched fs w hs around moment
  issue_roomier v w same kept = watched_roomier v w (ap numbers_in same) (ap (λ (x : Views). x.issues) same) (λ n j. ap (λ (x : Views). cell_of x n j) same) kept

  -- ---- issues

  pub watched_new : (v mid w : Views) (h : History) → h.no.0 ≡ length hs + 1 → h.no.0 < 2 ^ 32 → AddsIssue v mid → SettlesIssue around moment fs h h.no.0 mid w → AreWatched fs v hs around moment → AreWatched fs w (hs ++ h ∷ []) around moment
  watched_new v mid w h next few adds settled kept = record {
    saved = kept.saved;
    cells = cells_same fs (hs ++ h ∷ []) mid w settled.same (cells_new fs hs h v mid (omega (arith, next, few)) adds kept.cells);
    right = right_new around moment hs h fs h.no.0 mid w next (all_same around moment hs fs v mid adds.cells kept.right) settled;
  }

  pub watched_change : (v w : Views) (h : History) → 0 < h.no.0 → SettlesIssue around moment fs h h.no.0 v w → AreWatched fs v hs around moment → AreWatched fs w (set hs (h.no.0 - 1) h) around moment
  watched_change v w h positive settled kept = record {
    saved = kept.saved;
    cells = cells_change fs hs (h.no.0 - 1) h w (cells_same fs hs v w settled.same kept.cells);
    right = right_change around moment hs h fs h.no.0 v w positive kept.right settled;
  }

  -- ---- a moment

  pub watched_later : (to : ℕ) (v w : Views) → shape w ≡ shape v → AreRight around to hs fs w → AreWatched fs v hs around moment → AreWatched fs w hs around to
  watched_later to v w same right kept = record { saved = kept.saved; cells = cells_same fs hs v w same kept.cells; right = right }

  pub begins : (to : ℕ) (v : Views) → moment ≤ to → to ≤ last_second → AreWatched fs v hs around moment → ArePending around to hs fs v
  begins to v later known kept = pending_begins around moment to hs fs v later known kept.right

  -- ---- filters

  pub watched_put : (f : Filter) (verdicts : List Told) (v mid w : Views) → MayPut fs f → AreVerdicts around moment (condition_of f) hs verdicts
      → numbers_in mid ≡ map number (put_by_number number f fs) → mid.issues ≡ v.issues → ((n j : ℕ) → cell_of mid n j ≡ cell_of v n j) → SettlesFilter verdicts f.no.0 mid w
      → AreWatched fs v hs around moment → AreWatched (put_by_number number f fs) w hs around moment
  watched_put f verdicts v mid w may made rows issues cells settled kept = record {
    saved = record {
      rising = rise_put number 1 f fs (omega (arith, may.positive)) kept.saved.rising;
      names = own_names_put 1 f fs kept.saved.rising may.alone kept.saved.names;
      few = length_put_most number most_filters f fs kept.saved.rising kept.saved.few may.few;
    };
    cells = record {
      rows = ap (λ (s : Shape). s.filters) settled.same ∙ rows;
      issues = ap (λ (s : Shape). s.issues) settled.same ∙ issues ∙ kept.cells.issues;
      few = kept.cells.few;
    };
    right = right_put around moment hs fs f verdicts mid w (all_same around moment hs fs v mid cells kept.right) made settled;
  }

  pub watched_without : (n : ℕ) (v w : Views) → RemovesFilter v w n → AreWatched fs v hs around moment → AreWatched (without_number number n fs) w hs around moment
  watched_without n v w removed kept = record {
    saved = record {
      rising = rise_without number 1 n fs kept.saved.rising;
      names = own_names_without n fs kept.saved.names;
      few = let less = length_without number n fs in omega (arith, less, kept.saved.few);
    };
    cells = cells_without fs hs n v w removed kept.cells;
    right = right_without around moment hs fs n v w kept.saved.rising kept.right removed;
  }

  -- a filter that can be found has a row of cells
  pub found_there : (n : ℕ) (v : Views) → by_number number n fs ≢ None → AreWatched fs v hs around moment → is_there v n ≡ true
  found_there n v some kept = by (by_number number n fs) refl
    where
      by : (o : Option Filter) → by_number number n fs ≡ o → is_there v n ≡ true
      by None is = absurd (some is)
      by (Some f) is = subst (λ ns. list_any (nat_eq n) ns ≡ true) (sym kept.cells.rows) (is_listed number n f fs is)

  -- its cells tell its members
  pub members_told : (n : ℕ) (v : Views) (issues : List IssueNo) → IsGrid v → issues ≡ issues_held v n → AreWatched fs v hs around moment → IfSome (by_number number n fs) (λ f. issues ≡ holders_from 1 around moment (condition_of f) hs)
  members_told n v issues grid held kept = by (by_number number n fs) refl
    where
      by : (o : Option Filter) → by_number number n fs ≡ o → IfSome o (λ f. issues ≡ holders_from 1 around moment (condition_of f) hs)
      by None is = tt
      by (Some f) is = held ∙ members_are around moment hs fs v n f kept.right kept.cells grid is

  -- and each of them tells the query's truth
  pub holds_told : (n issue : ℕ) (v : Views) → AreWatched fs v hs around moment → IfSome (by_number number n fs) (λ f. IfSome (numbered hs issue) (λ h. (cell_of v n issue).holds ≡ query_holds around h moment (condition_of f)))
  holds_told n issue v kept = by_filter (by_number number n fs) refl
    where
      by_history : (f : Filter) (place : ℕ) (o : Option History) → by_number number n fs ≡ Some f → slice_get hs place ≡ o → IfSome o (λ h. (cell_of v n (place + 1)).holds ≡ query_holds around h moment (condition_of f))
      by_history f place None found is = tt
      by_history f place (Some h) found is = (kept.right.each n place f h found is).truth

      by_issue : (f : Filter) (i : ℕ) → by_number number n fs ≡ Some f → IfSome (numbered hs i) (λ h. (cell_of v n i).holds ≡ query_holds around h moment (condition_of f))
      by_issue f zero found = tt
      by_issue f (suc k) found =
          let place : suc k - 1 ≡ k = omega arith in
          let next : k + 1 ≡ suc k = omega arith in
          let read : numbered hs (suc k) ≡ slice_get hs (suc k - 1) = grind (arith, nat_tests) in
          subst (λ (o : Option History). IfSome o (λ h. (cell_of v n (suc k)).holds ≡ query_holds around h moment (condition_of f))) (sym (read ∙ ap (slice_get hs) place))
          (subst (λ j. IfSome (slice_get hs k) (λ h. (cell_of v n j).holds ≡ query_holds around h moment (condition_of f))) next (by_history f k (slice_get hs k) found refl))

      by_filter : (o : Option Filter) → by_number number n fs ≡ o → IfSome o (λ f. IfSome (numbered hs issue) (λ h. (cell_of v n issue).holds ≡ query_holds around h moment (condition_of f)))
      by_filter None is = tt
      by_filter (Some f) is = by_issue f issue is

-- the filter that was put in has a row
pub put_there : (fs : List Filter) (f : Filter) (v : Views) → numbers_in v ≡ map number (put_by_number number f fs) → is_there v f.no.0 ≡ true
put_there fs f v rows =
    let own : by_number number (number f) (put_by_number number f fs) ≡ Some f = by_put number (number f) f fs ∙ itself in
    subst (λ ns. list_any (nat_eq f.no.0) ns ≡ true) (sym rows) (is_listed number f.no.0 f (put_by_number number f fs) own)
  where
    itself : (if number f == number f then Some f else by_number number (number f) fs) ≡ Some f
    itself = grind (arith, nat_tests)
