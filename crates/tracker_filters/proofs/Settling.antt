-- Cells that are settled one after the other.
use Rattle.std.proofs.Common.{◌⊎◌, ◌≡◌, ℕ, ◌+◌, ◌<◌, ◌≤◌, true, Some, List, length, map, slice_get, nat_eq, refl, sym, ◌∙◌, ap, subst, inl, inr, arith}
use Rattle.std.specs.List.{list_any}
use Rattle.std.proofs.lemmas.Bool.{cases_lt}
use Rattle.std.proofs.lemmas.Option.{same_Some, slice_get_within}
use Rattle.change_history.specs.History.{History}
use Rattle.jql_meaning.specs.Surroundings.{Surroundings}
use Rattle.jql_eval.specs.Told.{Told}
use Rattle.filter_views.specs.Cell.{Cell, Views, cell_of, is_there, filters as numbers_in}
use Rattle.filter_views.specs.Views.{Shape, shape, Settles}
use Rattle.tracker_filters.specs.declared.filter.Filter.{Filter}
use Rattle.rising_numbers.specs.ByNumber.{RiseFrom}
use Rattle.tracker_filters.specs.Saved.{number}
use Rattle.tracker_filters.specs.Watched.{CellIsRight}
use Rattle.tracker_filters.specs.Cells.{SettlesIssue, SettlesFilter, cell_from}
use Rattle.rising_numbers.proofs.Listed.{listed_at}
use Rattle.rising_numbers.proofs.Placed.{found_at, rising_between}

-- the first filters' cells of the issue are right, and no other issue's cell has changed
pub record SettledFilters (around : Surroundings) (moment : ℕ) (fs : List Filter) (h : History) (issue count : ℕ) (old new : Views) : Type 0 where
  pub right : (j : ℕ) (f : Filter) → j < count → slice_get fs j ≡ Some f → CellIsRight around moment f h (cell_of new f.no.0 issue)
  pub others : (n j : ℕ) → (j ≡ issue → ⊥) → cell_of new n j ≡ cell_of old n j
  pub same : shape new ≡ shape old

pub no_filter_yet : (around : Surroundings) (moment : ℕ) (fs : List Filter) (h : History) (issue : ℕ) (v : Views) → SettledFilters around moment fs h issue 0 v v
no_filter_yet around moment fs h issue v = record { right = λ j f lt at. absurd (omega (arith, lt)); others = λ n j ne. refl; same = refl }

pub one_filter_more : (around : Surroundings) (moment : ℕ) (fs : List Filter) (h : History) (issue k : ℕ) (f : Filter) (c : Cell) (old mid new : Views) → RiseFrom number 1 fs → slice_get fs k ≡ Some f
    → CellIsRight around moment f h c → Settles mid new f.no.0 issue c → SettledFilters around moment fs h issue k old mid → SettledFilters around moment fs h issue (k + 1) old new
one_filter_more around moment fs h issue k f c old mid new rising at right settled so_far = record {
  right = λ j g lt at_g. by j g at_g (cases_lt j k) lt;
  others = λ n j ne. settled.others n j (λ a b. ne b) ∙ so_far.others n j ne;
  same = settled.same ∙ so_far.same;
}
  where
    by : (j : ℕ) (g : Filter) → slice_get fs j ≡ Some g → (j < k) ⊎ (k ≤ j) → j < k + 1 → CellIsRight around moment g h (cell_of new g.no.0 issue)
    by j g at_g (inl before) lt =
        let less : number g < number f = rising_between number 1 j k g f fs rising before at_g at in
        subst (CellIsRight around moment g h) (sym (settled.others g.no.0 issue (λ a b. absurd (omega (arith, a, less))))) (so_far.right j g before at_g)
    by j g at_g (inr after) lt =
        let place : k ≡ j = omega (arith, after, lt) in
        let filter : f ≡ g = same_Some f g (sym at ∙ ap (slice_get fs) place ∙ at_g) in
        subst (λ (x : Filter). CellIsRight around moment x h (cell_of new x.no.0 issue)) filter (subst (CellIsRight around moment f h) (sym settled.this) right)

pub all_filters : (around : Surroundings) (moment : ℕ) (fs : List Filter) (h : History) (issue count : ℕ) (old new : Views) → length fs ≤ count → SettledFilters around moment fs h issue count old new → SettlesIssue around moment fs h issue old new
all_filters around moment fs h issue count old new all so_far = record {
  right = λ n f found. let at = found_at number n f fs found in
      let within = slice_get_within fs at.0 f at.1 in
      subst (λ m. CellIsRight around moment f h (cell_of new m issue)) at.2 (so_far.right at.0 f (omega (arith, within, all)) at.1);
  others = so_far.others;
  same = so_far.same;
}

-- a filter of the list has a row of cells
pub row_there : (fs : List Filter) (k : ℕ) (f : Filter) (old new : Views) → numbers_in old ≡ map number fs → shape new ≡ shape old → slice_get fs k ≡ Some f → is_there new f.no.0 ≡ true
row_there fs k f old new rows same at = subst (λ ns. list_any (nat_eq f.no.0) ns ≡ true) (sym (ap (λ (s : Shape). s.filters) same ∙ rows)) (listed_at number k f fs at)

-- the filter's cells of the first issues are the verdicts on these, and no other filter's cell has changed
pub record SettledIssues (verdicts : List Told) (filter count : ℕ) (old new : Views) : Type 0 where
  pub these : (place : ℕ) (t : Told) → place < count → slice_get verdicts place ≡ Some t → cell_of new filter (place + 1) ≡ cell_from t
  pub others : (n j : ℕ) → (n ≡ filter → ⊥) → cell_of new n j ≡ cell_of old n j
  pub same : shape new ≡ shape old

pub no_issue_yet : (verdicts : List Told) (filter : ℕ) (v : Views) → SettledIssues verdicts filter 0 v v
no_issue_yet verdicts filter v = record { these = λ place t lt at. absurd (omega (arith, lt)); others = λ n j ne. refl; same = refl }

pub one_issue_more : (verdicts : List Told) (filter k issue : ℕ) (t : Told) (old mid new : Views) → slice_get verdicts k ≡ Some t → issue ≡ k + 1 → Settles mid new filter issue (cell_from t)
    → SettledIssues verdicts filter k old mid → SettledIssues verdicts filter (k + 1) old new
one_issue_more verdicts filter k issue t old mid new at is settled so_far = record {
  these = λ place u lt at_u. by place u at_u (cases_lt place k) lt;
  others = λ n j ne. settled.others n j (λ a b. ne a) ∙ so_far.others n j ne;
  same = settled.same ∙ so_far.same;
}
  where
    by : (place : ℕ) (u : Told) → slice_get verdicts place ≡ Some u → (place < k) ⊎ (k ≤ place) → place < k + 1 → cell_of new filter (place + 1) ≡ cell_from u
    by place u at_u (inl before) lt = settled.others filter (place + 1) (λ a b. absurd (omega (arith, b, is, before))) ∙ so_far.these place u before at_u
    by place u at_u (inr after) lt =
        let here : place ≡ k = omega (arith, after, lt) in
        let verdict : t ≡ u = same_Some t u (sym at ∙ ap (slice_get verdicts) (sym here) ∙ at_u) in
        ap (cell_of new filter) {x = place + 1} {y = issue} (omega (arith, is, here)) ∙ settled.this ∙ ap cell_from verdict

pub all_issues : (verdicts : List Told) (filter count : ℕ) (old new : Views) → length verdicts ≤ count → SettledIssues verdicts filter count old new → SettlesFilter verdicts filter old new
all_issues verdicts filter count old new all so_far = record {
  these = λ place t at. let within = slice_get_within verdicts place t at in so_far.these place t (omega (arith, within, all)) at;
  others = so_far.others;
  same = so_far.same;
}
