-- Cells of a sprint's issues, settled one issue after the other.
use Rattle.std.proofs.Common.{◌≡◌, ℕ, ◌+◌, ◌<◌, ◌≤◌, Bool, true, false, Some, List, length, take, slice_get, refl, sym, ◌∙◌, ap, subst, inl, inr, arith}
use Rattle.std.specs.Bool.{MatchBool}
use Rattle.std.proofs.lemmas.Bool.{cases_lt, false≢true}
use Rattle.std.proofs.lemmas.List.Sums.{sum_by_more}
use Rattle.std.proofs.lemmas.Option.{same_Some, slice_get_within, get_or_from_slice_get}
use Rattle.field_values.specs.declared.numbers.SprintNo.{SprintNo}
use Rattle.change_history.specs.History.{History}
use Rattle.jql_meaning.specs.Surroundings.{Surroundings}
use Rattle.jql_meaning.specs.Sprints.{DifferInOneSprint, IsNotIn}
use Rattle.jql_meaning.proofs.Sprints.{others_stand}
use Rattle.jql_eval.proofs.Rights.{right_elsewhere}
use Rattle.filter_views.specs.Cell.{Views, cell_of}
use Rattle.filter_views.specs.Views.{shape}
use Rattle.tracker_filters.specs.declared.filter.Filter.{Filter}
use Rattle.rising_numbers.specs.ByNumber.{by_number}
use Rattle.tracker_filters.specs.Saved.{number, condition_of}
use Rattle.tracker_filters.specs.Watched.{CellIsRight, AreWatched}
use Rattle.tracker_filters.specs.Cells.{SettlesIssue}
use Rattle.tracker_filters.specs.Sprint.{is_in_sprint, DifferInEmptySprint, HoldOneSprint, cost_in, sprint_cost, SettlesSprint}
use Rattle.tracker_filters.proofs.Shapes.{cells_same}

-- the cells of the first issues are settled, and the others stand
pub record SettledFirst (around : Surroundings) (moment : ℕ) (fs : List Filter) (hs : List History) (sprint count : ℕ) (old new : Views) : Type 0 where
  pub right : (n place : ℕ) (f : Filter) (h : History) → place < count → by_number number n fs ≡ Some f → slice_get hs place ≡ Some h → is_in_sprint sprint h ≡ true → CellIsRight around moment f h (cell_of new n (place + 1))
  pub others : (n place : ℕ) (h : History) → place < count → slice_get hs place ≡ Some h → is_in_sprint sprint h ≡ false → cell_of new n (place + 1) ≡ cell_of old n (place + 1)
  pub behind : (n place : ℕ) → count ≤ place → cell_of new n (place + 1) ≡ cell_of old n (place + 1)
  pub same : shape new ≡ shape old

module _ (around : Surroundings) (moment : ℕ) (fs : List Filter) (hs : List History) (sprint : ℕ) where
  pub none_yet : (v : Views) → SettledFirst around moment fs hs sprint 0 v v
  none_yet v = record { right = λ n place f h lt found at own. absurd (omega (arith, lt)); others = λ n place h lt at own. refl; behind = λ n place le. refl; same = refl }

  pub one_more : (count : ℕ) (h : History) (old mid new : Views) → slice_get hs count ≡ Some h → h.no.0 ≡ count + 1 → MatchBool (is_in_sprint sprint h) (SettlesIssue around moment fs h h.no.0 mid new) (new ≡ mid) → SettledFirst around moment fs hs sprint count old mid → SettledFirst around moment fs hs sprint (count + 1) old new
  one_more count h old mid new at_h numbered made so_far = by (is_in_sprint sprint h) refl made
    where
      same_history : (place : ℕ) (k : History) → count ≤ place → place < count + 1 → slice_get hs place ≡ Some k → h ≡ k
      same_history place k ge lt at =
          let here : count ≡ place = omega (arith, ge, lt) in
          same_Some h k (sym at_h ∙ ap (slice_get hs) here ∙ at)

      by : (b : Bool) → is_in_sprint sprint h ≡ b → MatchBool b (SettlesIssue around moment fs h h.no.0 mid new) (new ≡ mid) → SettledFirst around moment fs hs sprint (count + 1) old new
      by true own settled =
          let stays : (n place : ℕ) → (place ≡ count → ⊥) → cell_of new n (place + 1) ≡ cell_of mid n (place + 1) = λ n place ne. settled.others n (place + 1) (λ e. ne (omega (arith, e, numbered))) in
          record {
            right = λ n place f k lt found at is_in. elim (cases_lt place count) [
              | inl before ↦ subst (CellIsRight around moment f k) (sym (stays n place (λ e. omega (arith, e, before)))) (so_far.right n place f k before found at is_in)
              | inr after ↦
                  let here : h.no.0 ≡ place + 1 = omega (arith, numbered, after, lt) in
                  subst (λ (x : History). CellIsRight around moment f x (cell_of new n (place + 1))) (same_history place k after lt at)
                  (subst (λ i. CellIsRight around moment f h (cell_of new n i)) here (settled.right n f found))
            ];
            others = λ n place k lt at is_out. elim (cases_lt place count) [
              | inl before ↦ stays n place (λ e. omega (arith, e, before)) ∙ so_far.others n place k before at is_out
              | inr after ↦ absurd (false≢true (sym is_out ∙ ap (is_in_sprint sprint) (sym (same_history place k after lt at)) ∙ own))
            ];
            behind = λ n place le. stays n place (λ e. omega (arith, e, le)) ∙ so_far.behind n place (omega (arith, le));
            same = settled.same ∙ so_far.same;
          }
      by false out same_views =
          let stays : (n place : ℕ) → cell_of new n (place + 1) ≡ cell_of mid n (place + 1) = λ n place. ap (λ (v : Views). cell_of v n (place + 1)) same_views in
          record {
            right = λ n place f k lt found at is_in. elim (cases_lt place count) [
              | inl before ↦ subst (CellIsRight around moment f k) (sym (stays n place)) (so_far.right n place f k before found at is_in)
              | inr after ↦ absurd (false≢true (sym out ∙ ap (is_in_sprint sprint) (same_history place k after lt at) ∙ is_in))
            ];
            others = λ n place k lt at is_out. elim (cases_lt place count) [
              | inl before ↦ stays n place ∙ so_far.others n place k before at is_out
              | inr after ↦ stays n place ∙ so_far.behind n place after
            ];
            behind = λ n place le. stays n place ∙ so_far.behind n place (omega (arith, le));
            same = ap shape same_views ∙ so_far.same;
          }

  pub all_settled : (count : ℕ) (old new : Views) → length hs ≤ count → SettledFirst around moment fs hs sprint count old new → SettlesSprint around moment fs hs sprint old new
  all_settled count old new all so_far = record {
    right = λ n place f h found at is_in. let within = slice_get_within hs place h at in so_far.right n place f h (omega (arith, within, all)) found at is_in;
    others = λ n place h at is_out. let within = slice_get_within hs place h at in so_far.others n place h (omega (arith, within, all)) at is_out;
    same = so_far.same;
  }

-- what the issues up to the next one cost
pub cost_more : (filters sprint count : ℕ) (h : History) (hs : List History) → slice_get hs count ≡ Some h → sprint_cost filters sprint (take (count + 1) hs) ≡ sprint_cost filters sprint (take count hs) + cost_in filters sprint h
cost_more filters sprint count h hs at =
    sum_by_more (cost_in filters sprint) hs count h (slice_get_within hs count h at)
    ∙ ap (λ (x : History). sprint_cost filters sprint (take count hs) + cost_in filters sprint x) (get_or_from_slice_get hs count h h at)

pub watched_sprint : (fs : List Filter) (hs : List History) (one other : Surroundings) (moment : ℕ) (sprint : SprintNo) (v w : Views) → DifferInOneSprint one other sprint → HoldOneSprint hs sprint → SettlesSprint other moment fs hs sprint.0 v w → AreWatched fs v hs one moment → AreWatched fs w hs other moment
watched_sprint fs hs one other moment sprint v w differ hold settled kept = record {
  saved = kept.saved;
  cells = cells_same fs hs v w settled.same kept.cells;
  right = record { each = λ n place f h found at. by n place f h found at (is_in_sprint sprint.0 h) refl };
}
  where
    by : (n place : ℕ) (f : Filter) (h : History) → by_number number n fs ≡ Some f → slice_get hs place ≡ Some h → (b : Bool) → is_in_sprint sprint.0 h ≡ b → CellIsRight other moment f h (cell_of w n (place + 1))
    by n place f h found at true is = settled.right n place f h found at is
    by n place f h found at false is =
        subst (CellIsRight other moment f h) (sym (settled.others n place h at is))
        (right_elsewhere one other h (condition_of f) moment _ _ (others_stand one other h sprint differ (hold place h at is)) (kept.right.each n place f h found at))

-- a sprint that no issue is in decides nothing
pub watched_beside : (fs : List Filter) (hs : List History) (one other : Surroundings) (moment : ℕ) (v : Views) → DifferInEmptySprint one other hs → AreWatched fs v hs one moment → AreWatched fs v hs other moment
watched_beside fs hs one other moment v differ kept = record {
  saved = kept.saved;
  cells = kept.cells;
  right = record {
    each = λ n place f h found at.
        let absent : IsNotIn h differ.sprint = subst (λ (x : History). IsNotIn x differ.sprint) (get_or_from_slice_get hs place h h at) (differ.empty place h (slice_get_within hs place h at)) in
        right_elsewhere one other h (condition_of f) moment _ _ (others_stand one other h differ.sprint differ.differ absent) (kept.right.each n place f h found at);
  };
}
