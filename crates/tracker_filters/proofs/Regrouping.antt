-- Cells of the filters that ask for members, settled one filter after the other.
use Rattle.std.proofs.Common.{◌⊎◌, ◌≡◌, ℕ, ◌+◌, ◌*◌, ◌<◌, ◌≤◌, Bool, true, false, Some, List, length, take, slice_get, get_or, if◌then◌else◌, refl, sym, ◌∙◌, ap, subst, inl, inr, arith}
use Rattle.std.specs.Bool.{MatchBool}
use Rattle.std.proofs.lemmas.Bool.{cases_lt, cases_eq, false≢true}
use Rattle.std.proofs.lemmas.List.Sums.{sum_by_more, sum_by-le}
use Rattle.std.proofs.lemmas.Option.{same_Some, slice_get_within, get_or_from_slice_get}
use Rattle.change_history.specs.History.{History}
use Rattle.jql_meaning.specs.Surroundings.{Surroundings}
use Rattle.filter_views.specs.Cell.{Cell, Views, cell_of}
use Rattle.filter_views.specs.Views.{shape, Settles}
use Rattle.tracker_filters.specs.declared.filter.Filter.{Filter}
use Rattle.rising_numbers.specs.ByNumber.{RiseFrom, by_number}
use Rattle.rising_numbers.proofs.Placed.{found_at, rising_between}
use Rattle.tracker_filters.specs.Saved.{number, condition_of}
use Rattle.tracker_filters.specs.Watched.{CellIsRight, AreWatched}
use Rattle.tracker_filters.specs.Members.{DifferInMembers, query_asks, asks_members, asking_cost, members_cost, SettlesRow, SettlesMembers}
use Rattle.tracker_filters.proofs.Shapes.{cells_same}
use Rattle.tracker_filters.proofs.Unasked.{right_unasked}

-- ---- one filter's cells

-- those of the first issues are right, and no other filter's cell has changed
pub record SettledCells (around : Surroundings) (moment : ℕ) (f : Filter) (hs : List History) (count : ℕ) (old new : Views) : Type 0 where
  pub right : (place : ℕ) (h : History) → place < count → slice_get hs place ≡ Some h → CellIsRight around moment f h (cell_of new f.no.0 (place + 1))
  pub others : (n j : ℕ) → (n ≡ f.no.0 → ⊥) → cell_of new n j ≡ cell_of old n j
  pub same : shape new ≡ shape old

module _ (around : Surroundings) (moment : ℕ) (f : Filter) (hs : List History) where
  pub no_cell_yet : (v : Views) → SettledCells around moment f hs 0 v v
  no_cell_yet v = record { right = λ place h lt at. absurd (omega (arith, lt)); others = λ n j ne. refl; same = refl }

  pub one_cell_more : (k issue : ℕ) (h : History) (c : Cell) (old mid new : Views) → slice_get hs k ≡ Some h → issue ≡ k + 1 → CellIsRight around moment f h c → Settles mid new f.no.0 issue c
      → SettledCells around moment f hs k old mid → SettledCells around moment f hs (k + 1) old new
  one_cell_more k issue h c old mid new at_h is right settled so_far = record {
    right = λ place g lt at. elim (cases_lt place k) [
      | inl before ↦ subst (CellIsRight around moment f g) (sym (settled.others f.no.0 (place + 1) (λ a b. absurd (omega (arith, b, is, before))))) (so_far.right place g before at)
      | inr after ↦
          let here : k ≡ place = omega (arith, after, lt) in
          let history : h ≡ g = same_Some h g (sym at_h ∙ ap (slice_get hs) here ∙ at) in
          let cell : cell_of new f.no.0 (place + 1) ≡ c = ap (cell_of new f.no.0) {x = place + 1} {y = issue} (omega (arith, is, here)) ∙ settled.this in
          subst (λ (x : History). CellIsRight around moment f x (cell_of new f.no.0 (place + 1))) history (subst (CellIsRight around moment f h) (sym cell) right)
    ];
    others = λ n j ne. settled.others n j (λ a b. ne a) ∙ so_far.others n j ne;
    same = settled.same ∙ so_far.same;
  }

  pub all_cells : (count : ℕ) (old new : Views) → length hs ≤ count → SettledCells around moment f hs count old new → SettlesRow around moment f hs old new
  all_cells count old new all so_far = record {
    right = λ place h at. let within = slice_get_within hs place h at in so_far.right place h (omega (arith, within, all)) at;
    others = so_far.others;
    same = so_far.same;
  }

-- ---- those of the filters that ask

-- filters of one number are one
same_place : (fs : List Filter) (j k : ℕ) (f g : Filter) → RiseFrom number 1 fs → slice_get fs j ≡ Some f → slice_get fs k ≡ Some g → number f ≡ number g → j ≡ k
same_place fs j k f g rising at_f at_g same = by (cases_lt j k) (cases_lt k j)
  where
    by : (j < k) ⊎ (k ≤ j) → (k < j) ⊎ (j ≤ k) → j ≡ k
    by (inl before) behind = let less = rising_between number 1 j k f g fs rising before at_f at_g in absurd (omega (arith, less, same))
    by (inr le) (inl behind) = let less = rising_between number 1 k j g f fs rising behind at_g at_f in absurd (omega (arith, less, same))
    by (inr le) (inr ge) = omega (arith, le, ge)

-- the cells of the first filters are right where these ask for members, and no other filter's cell has changed
pub record SettledAsking (around : Surroundings) (moment : ℕ) (fs : List Filter) (hs : List History) (count : ℕ) (old new : Views) : Type 0 where
  pub right : (j place : ℕ) (f : Filter) (h : History) → j < count → slice_get fs j ≡ Some f → slice_get hs place ≡ Some h → asks_members f ≡ true → CellIsRight around moment f h (cell_of new f.no.0 (place + 1))
  pub others : (j i : ℕ) (f : Filter) → slice_get fs j ≡ Some f → asks_members f ≡ false → cell_of new f.no.0 i ≡ cell_of old f.no.0 i
  pub same : shape new ≡ shape old

module _ (around : Surroundings) (moment : ℕ) (fs : List Filter) (hs : List History) where
  pub none_asked : (v : Views) → SettledAsking around moment fs hs 0 v v
  none_asked v = record { right = λ j place f h lt at_f at_h asks. absurd (omega (arith, lt)); others = λ j i f at asks. refl; same = refl }

  pub one_asked : (k : ℕ) (g : Filter) (old mid new : Views) → RiseFrom number 1 fs → slice_get fs k ≡ Some g → MatchBool (asks_members g) (SettlesRow around moment g hs mid new) (new ≡ mid)
      → SettledAsking around moment fs hs k old mid → SettledAsking around moment fs hs (k + 1) old new
  one_asked k g old mid new rising at_g made so_far = by (asks_members g) refl made
    where
      same_filter : (j : ℕ) (f : Filter) → slice_get fs j ≡ Some f → k ≡ j → g ≡ f
      same_filter j f at here = same_Some g f (sym at_g ∙ ap (slice_get fs) here ∙ at)

      by : (b : Bool) → asks_members g ≡ b → MatchBool b (SettlesRow around moment g hs mid new) (new ≡ mid) → SettledAsking around moment fs hs (k + 1) old new
      by true own settled = record {
        right = λ j place f h lt at at_h asks. elim (cases_eq j k) [
          | inl here ↦ subst (λ (x : Filter). CellIsRight around moment x h (cell_of new x.no.0 (place + 1))) (same_filter j f at (sym here)) (settled.right place h at_h)
          | inr ne ↦
              let before : j < k = omega (arith, lt, ne) in
              subst (CellIsRight around moment f h) (sym (settled.others f.no.0 (place + 1) (λ e. ne (same_place fs j k f g rising at at_g e)))) (so_far.right j place f h before at at_h asks)
        ];
        others = λ j i f at asks. settled.others f.no.0 i (λ e. false≢true (sym asks ∙ ap asks_members (sym (same_filter j f at (sym (same_place fs j k f g rising at at_g e)))) ∙ own)) ∙ so_far.others j i f at asks;
        same = settled.same ∙ so_far.same;
      }
      by false out same_views =
          let stays : (n i : ℕ) → cell_of new n i ≡ cell_of mid n i = λ n i. ap (λ (v : Views). cell_of v n i) same_views in
          record {
            right = λ j place f h lt at at_h asks. elim (cases_lt j k) [
              | inl before ↦ subst (CellIsRight around moment f h) (sym (stays f.no.0 (place + 1))) (so_far.right j place f h before at at_h asks)
              | inr after ↦ absurd (false≢true (sym out ∙ ap asks_members (same_filter j f at (omega (arith, lt, after))) ∙ asks))
            ];
            others = λ j i f at asks. stays f.no.0 i ∙ so_far.others j i f at asks;
            same = ap shape same_views ∙ so_far.same;
          }

  pub all_asked : (count : ℕ) (old new : Views) → length fs ≤ count → SettledAsking around moment fs hs count old new → SettlesMembers around moment fs hs old new
  all_asked count old new all so_far = record {
    right = λ n place f h found at_h asks.
        let at = found_at number n f fs found in
        let within = slice_get_within fs at.0 f at.1 in
        subst (λ m. CellIsRight around moment f h (cell_of new m (place + 1))) at.2 (so_far.right at.0 place f h (omega (arith, within, all)) at.1 at_h asks);
    others = λ n i f found asks.
        let at = found_at number n f fs found in
        subst (λ m. cell_of new m i ≡ cell_of old m i) at.2 (so_far.others at.0 i f at.1 asks);
    same = so_far.same;
  }

-- ---- what that costs

-- what the filters up to the next one cost
pub members_cost_more : (issues count : ℕ) (f : Filter) (fs : List Filter) → slice_get fs count ≡ Some f → members_cost (take (count + 1) fs) issues ≡ members_cost (take count fs) issues + asking_cost issues f
members_cost_more issues count f fs at =
    sum_by_more (asking_cost issues) fs count f (slice_get_within fs count f at)
    ∙ ap (λ (x : Filter). members_cost (take count fs) issues + asking_cost issues x) (get_or_from_slice_get fs count f f at)

-- at most each filter is asked of each issue
pub members_cost_most : (fs : List Filter) (n : ℕ) → members_cost fs n ≤ length fs * n
members_cost_most fs n = sum_by-le (asking_cost n) n fs (λ k d lt. most (asks_members (get_or fs k d)))
  where
    most : (b : Bool) → (if b then n else 0) ≤ n
    most true = omega arith
    most false = omega arith

-- ---- what the filters keep true of themselves

unasked : (f : Filter) → asks_members f ≡ false → query_asks (condition_of f) ≡ false
unfolding asks_members
unasked f none = none

pub watched_members : (fs : List Filter) (hs : List History) (one other : Surroundings) (moment : ℕ) (v w : Views) → DifferInMembers one other → SettlesMembers other moment fs hs v w → AreWatched fs v hs one moment → AreWatched fs w hs other moment
watched_members fs hs one other moment v w differ settled kept = record {
  saved = kept.saved;
  cells = cells_same fs hs v w settled.same kept.cells;
  right = record { each = λ n place f h found at. by n place f h found at (asks_members f) refl };
}
  where
    by : (n place : ℕ) (f : Filter) (h : History) → by_number number n fs ≡ Some f → slice_get hs place ≡ Some h → (b : Bool) → asks_members f ≡ b → CellIsRight other moment f h (cell_of w n (place + 1))
    by n place f h found at true asks = settled.right n place f h found at asks
    by n place f h found at false asks =
        subst (CellIsRight other moment f h) (sym (settled.others n (place + 1) f found asks))
        (right_unasked one other h (condition_of f) moment _ _ differ (unasked f asks) (kept.right.each n place f h found at))
