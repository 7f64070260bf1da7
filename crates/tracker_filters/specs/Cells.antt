-- Cells on the way: those of one issue, those of one filter, and those that are due.
use Rattle.std.specs.Prelude.{ℕ, ◌≡◌, ◌+◌, true, false, List, slice_get, Some}
use Rattle.change_history.specs.History.{History}
use Rattle.jql_meaning.specs.Surroundings.{Surroundings}
use Rattle.jql_eval.specs.Told.{Told}
use Rattle.filter_views.specs.Cell.{Cell, Views, cell_of}
use Rattle.filter_views.specs.Views.{shape}
use Rattle.filter_views.specs.Counts.{is_over}
use Rattle.tracker_filters.specs.declared.filter.Filter.{Filter}
use Rattle.rising_numbers.specs.ByNumber.{by_number}
use Rattle.tracker_filters.specs.Saved.{number}
use Rattle.tracker_filters.specs.Watched.{CellIsRight}

-- each filter's cell of one issue is right, and no other issue's cell changes
pub record SettlesIssue (around : Surroundings) (moment : ℕ) (fs : List Filter) (h : History)
    (issue : ℕ) (old new : Views) : Type 0 where
  pub right : (n : ℕ) (f : Filter) → by_number number n fs ≡ Some f
      → CellIsRight around moment f h (cell_of new n issue)
  pub others : (n j : ℕ) → (j ≡ issue → ⊥) → cell_of new n j ≡ cell_of old n j
  pub same : shape new ≡ shape old

-- what a verdict tells, as a cell
abbrev pub cell_from : Told → Cell
cell_from t = record { holds = t.holds; end = t.until }

-- one filter's cells are these verdicts, and no other filter's cell changes
pub record SettlesFilter (verdicts : List Told) (filter : ℕ) (old new : Views) : Type 0 where
  pub these : (place : ℕ) (t : Told) → slice_get verdicts place ≡ Some t
      → cell_of new filter (place + 1) ≡ cell_from t
  pub others : (n j : ℕ) → (n ≡ filter → ⊥) → cell_of new n j ≡ cell_of old n j
  pub same : shape new ≡ shape old

-- the end of this cell has come
abbrev pub IsDue : Views → ℕ → ℕ → ℕ → Type 0
IsDue v to n issue = is_over to (cell_of v n issue).end ≡ true

-- no cell's end has come
abbrev pub NoneIsDue : Views → ℕ → Type 0
NoneIsDue v to = (n issue : ℕ) → is_over to (cell_of v n issue).end ≡ false

-- each cell whose end hasn't come is right at that moment
pub record ArePending (around : Surroundings) (to : ℕ) (hs : List History) (fs : List Filter)
    (v : Views) : Type 0 where
  pub each : (n place : ℕ) (f : Filter) (h : History) → by_number number n fs ≡ Some f
      → slice_get hs place ≡ Some h →
      is_over to (cell_of v n (place + 1)).end ≡ false
      → CellIsRight around to f h (cell_of v n (place + 1))
