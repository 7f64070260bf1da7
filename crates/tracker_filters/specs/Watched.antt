-- Filters with their verdicts, and what these have seen.
use Rattle.std.specs.Prelude.{ℕ, ◌≡◌, ◌+◌, ◌<◌, ◌^◌, List, [], ◌∷◌, length, map, slice_get, Option, Some, if◌then◌else◌}
use Rattle.std.specs.declared.snapshot.Snapshot.{Snapshot}
use Rattle.field_values.specs.declared.numbers.IssueNo.{IssueNo}
use Rattle.change_history.specs.declared.issue.Issue.{Issue}
use Rattle.change_history.specs.History.{History}
use Rattle.jql_bound.specs.Condition.{Condition}
use Rattle.jql_meaning.specs.Surroundings.{Surroundings}
use Rattle.jql_meaning.specs.Truth.{query_holds}
use Rattle.jql_eval.specs.Right.{IsRight}
use Rattle.filter_views.specs.Cell.{Cell, Views, cell_of, filters as numbers_in}
use Rattle.tracker_filters.specs.declared.filter.Filter.{Filter}
use Rattle.rising_numbers.specs.ByNumber.{by_number}
use Rattle.tracker_filters.specs.Saved.{number, condition_of, AreSaved}

-- the filters by number, their cells, for how many filters and issues there is room, and what the cells have seen: the issues'
-- histories by their numbers from 1, what decides beside them, and the moment
pub record WatchedFilters : Type 0 where
  pub filters : List Filter
  pub views : Views
  pub filter_room : ℕ
  pub issue_room : ℕ
  pub histories : List History
  pub around : Surroundings
  pub moment : ℕ

abbrev pub histories_in : List (Snapshot Issue) → List History
histories_in seen = map (λ s. s.value.history) seen

-- the cell tells whether the filter holds of the issue at the moment, and a later and critical end until which that stays
abbrev pub CellIsRight : Surroundings → ℕ → Filter → History → Cell → Type 0
CellIsRight around moment f h cell = IsRight around h (condition_of f) moment cell.holds cell.end

-- each cell is right
pub record AreRight (around : Surroundings) (moment : ℕ) (hs : List History) (fs : List Filter)
    (v : Views) : Type 0 where
  pub each : (n place : ℕ) (f : Filter) (h : History) → by_number number n fs ≡ Some f
      → slice_get hs place ≡ Some h →
      CellIsRight around moment f h (cell_of v n (place + 1))

-- there is a row of cells for each filter, with a cell for each issue
pub record AreCellsOf (fs : List Filter) (hs : List History) (v : Views) : Type 0 where
  pub rows : numbers_in v ≡ map number fs
  pub issues : v.issues ≡ length hs
  pub few : length hs < 2 ^ 32

-- what the filters keep true of themselves
pub record AreWatched (fs : List Filter) (v : Views) (hs : List History) (around : Surroundings)
    (moment : ℕ) : Type 0 where
  pub saved : AreSaved fs
  pub cells : AreCellsOf fs hs v
  pub right : AreRight around moment hs fs v

-- there is room for one filter more
pub record HasFilterRoom (w : WatchedFilters) : Type 0 where
  pub list : length w.filters < w.filter_room
  pub rows : length w.views.table < w.views.filter_room

-- there is room for one issue more
pub record HasIssueRoom (w : WatchedFilters) : Type 0 where
  pub list : length w.histories < w.issue_room
  pub cells : w.views.issues < w.views.issue_room

-- the numbers of the issues of which a query holds, where the first issue has this one
abbrev pub holders_from : ℕ → Surroundings → ℕ → Option Condition → List History → List IssueNo
holders_from n around moment query [] = []
holders_from n around moment query (h ∷ hs) =
    if query_holds around h moment query
    then record { 0 = n } ∷ holders_from (n + 1) around moment query hs
    else holders_from (n + 1) around moment query hs
