-- The rows of cells that there are.
use Rattle.std.proofs.Common.{◌≡◌, ◌≢◌, ℕ, ◌+◌, ◌<◌, ◌^◌, Some, None, Option, List, [], ◌∷◌, ◌++◌, length, set, map, refl, sym, ◌∙◌, ap, subst, length-append}
use Rattle.std.proofs.lemmas.List.{length-set}
use Rattle.change_history.specs.History.{History}
use Rattle.filter_views.specs.Cell.{Views, filters as numbers_in}
use Rattle.filter_views.specs.Views.{Shape, shape, AddsFilter, AddsIssue, RemovesFilter, with_filter, without_filter}
use Rattle.tracker_filters.specs.declared.filter.Filter.{Filter}
use Rattle.rising_numbers.specs.ByNumber.{RiseFrom, by_number, put_by_number, without_number}
use Rattle.tracker_filters.specs.Saved.{number}
use Rattle.tracker_filters.specs.Watched.{AreCellsOf}
use Rattle.rising_numbers.proofs.Listed.{numbers_put_again}
use Rattle.tracker_filters.proofs.Numbers.{numbers_put_new, numbers_without}

pub cells_same : (fs : List Filter) (hs : List History) (v w : Views) → shape w ≡ shape v → AreCellsOf fs hs v → AreCellsOf fs hs w
cells_same fs hs v w same cells = record {
  rows = ap (λ (s : Shape). s.filters) same ∙ cells.rows;
  issues = ap (λ (s : Shape). s.issues) same ∙ cells.issues;
  few = cells.few;
}

pub cells_new : (fs : List Filter) (hs : List History) (h : History) (v w : Views) → length hs + 1 < 2 ^ 32 → AddsIssue v w → AreCellsOf fs hs v → AreCellsOf fs (hs ++ h ∷ []) w
cells_new fs hs h v w few adds cells =
    let many : length (hs ++ h ∷ []) ≡ length hs + 1 = length-append hs (h ∷ []) in
    record {
      rows = ap (λ (s : Shape). s.filters) adds.same ∙ cells.rows;
      issues = ap (λ (s : Shape). s.issues) adds.same ∙ ap (λ n. n + 1) cells.issues ∙ sym many;
      few = subst (λ n. n < 2 ^ 32) (sym many) few;
    }

pub cells_change : (fs : List Filter) (hs : List History) (k : ℕ) (h : History) (v : Views) → AreCellsOf fs hs v → AreCellsOf fs (set hs k h) v
cells_change fs hs k h v cells =
    let many : length (set hs k h) ≡ length hs = length-set hs k h in
    record { rows = cells.rows; issues = cells.issues ∙ sym many; few = subst (λ n. n < 2 ^ 32) (sym many) cells.few }

pub rows_put_new : (fs : List Filter) (f : Filter) (v w : Views) → by_number number (number f) fs ≡ None → AddsFilter v w (number f) → numbers_in v ≡ map number fs → numbers_in w ≡ map number (put_by_number number f fs)
rows_put_new fs f v w none adds rows = ap (λ (s : Shape). s.filters) adds.same ∙ ap (with_filter (number f)) rows ∙ sym (numbers_put_new number f fs none)

-- a filter that takes another one's place takes its row
pub rows_put_again : (fs : List Filter) (f : Filter) (v : Views) → RiseFrom number 1 fs → by_number number (number f) fs ≢ None → numbers_in v ≡ map number fs → numbers_in v ≡ map number (put_by_number number f fs)
rows_put_again fs f v rising some rows = by (by_number number (number f) fs) refl
  where
    by : (o : Option Filter) → by_number number (number f) fs ≡ o → numbers_in v ≡ map number (put_by_number number f fs)
    by None is = absurd (some is)
    by (Some g) is = rows ∙ sym (numbers_put_again number 1 f g fs rising is)

pub cells_without : (fs : List Filter) (hs : List History) (n : ℕ) (v w : Views) → RemovesFilter v w n → AreCellsOf fs hs v → AreCellsOf (without_number number n fs) hs w
cells_without fs hs n v w removed cells = record {
  rows = ap (λ (s : Shape). s.filters) removed.same ∙ ap (without_filter n) cells.rows ∙ sym (numbers_without number n fs);
  issues = ap (λ (s : Shape). s.issues) removed.same ∙ cells.issues;
  few = cells.few;
}
