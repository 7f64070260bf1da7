-- Cells of the issues that are in one sprint.
use Rattle.std.specs.Prelude.{ℕ, ◌≡◌, ◌+◌, ◌==◌, Bool, true, false, List, slice_get, Some, sum_by, if◌then◌else◌}
use Rattle.std.specs.List.{All}
use Rattle.field_values.specs.declared.numbers.TheConstants.FieldNo as number_of
use Rattle.field_values.specs.declared.numbers.SprintNo.{SprintNo}
use Rattle.field_values.specs.declared.value.Value.{Value}
use Rattle.change_history.specs.History.{History, present}
use Rattle.jql_meaning.specs.Surroundings.{Surroundings}
use Rattle.jql_meaning.specs.Sprints.{DifferInOneSprint, IsNotIn}
use Rattle.filter_views.specs.Cell.{Views, cell_of}
use Rattle.filter_views.specs.Views.{shape}
use Rattle.tracker_filters.specs.declared.filter.Filter.{Filter}
use Rattle.rising_numbers.specs.ByNumber.{by_number}
use Rattle.tracker_filters.specs.Saved.{number}
use Rattle.tracker_filters.specs.Watched.{CellIsRight}

abbrev pub is_sprint : ℕ → Value → Bool
is_sprint n (Value.Sprint own) = own.0 == n
is_sprint n v = false

-- the issue's field sprint holds this one
abbrev pub is_in_sprint : ℕ → History → Bool
is_in_sprint n h = is_sprint n (present h number_of.SPRINT)

-- an issue whose field sprint doesn't hold it is nowhere in it
abbrev pub HoldOneSprint : List History → SprintNo → Type 0
HoldOneSprint hs sprint =
    (place : ℕ) (h : History) → slice_get hs place ≡ Some h → is_in_sprint sprint.0 h ≡ false
    → IsNotIn h sprint

-- what decides beside issues differs in one sprint, and no issue is in it
pub record DifferInEmptySprint (one other : Surroundings) (hs : List History) : Type 0 where
  pub sprint : SprintNo
  pub differ : DifferInOneSprint one other sprint
  pub empty : All (λ h. IsNotIn h sprint) hs

-- the issues stand by their numbers from 1
abbrev pub AreNumbered : List History → Type 0
AreNumbered hs = (place : ℕ) (h : History) → slice_get hs place ≡ Some h → h.no.0 ≡ place + 1

-- so many filters are asked of an issue that is in the sprint, and none of another
abbrev pub cost_in : ℕ → ℕ → History → ℕ
cost_in filters sprint h = if is_in_sprint sprint h then filters else 0

abbrev pub sprint_cost : ℕ → ℕ → List History → ℕ
sprint_cost filters sprint hs = sum_by (cost_in filters sprint) hs

-- each filter's cells of the sprint's issues are right, and no other cell changes
pub record SettlesSprint (around : Surroundings) (moment : ℕ) (fs : List Filter) (hs : List History)
    (sprint : ℕ) (old new : Views) : Type 0 where
  pub right : (n place : ℕ) (f : Filter) (h : History) → by_number number n fs ≡ Some f
      → slice_get hs place ≡ Some h →
      is_in_sprint sprint h ≡ true → CellIsRight around moment f h (cell_of new n (place + 1))
  pub others : (n place : ℕ) (h : History) → slice_get hs place ≡ Some h
      → is_in_sprint sprint h ≡ false →
      cell_of new n (place + 1) ≡ cell_of old n (place + 1)
  pub same : shape new ≡ shape old
