-- How calls change the views.
use Rattle.std.specs.Prelude.{ℕ, ◌≡◌, ◌<◌, ◌+◌, ◌-◌, ◌==◌, false, List, [], ◌∷◌, Option, Some, None, length, nat_lt, MatchOption, if◌then◌else◌}
use Rattle.field_values.specs.declared.numbers.FilterNo.{FilterNo}
use Rattle.field_values.specs.declared.numbers.IssueNo.{IssueNo}
use Rattle.filter_views.specs.declared.due.Due.{Due}
use Rattle.filter_views.specs.Due.{is_before, due_at}
use Rattle.filter_views.specs.Heap.{IsHeap}
use Rattle.filter_views.specs.Cell.{Cell, Views, unset, cell_of, filters}

-- what there is but for the cells: the filters by number, the issues, and the room
pub record Shape : Type 0 where
  pub filters : List ℕ
  pub issues : ℕ
  pub filter_room : ℕ
  pub issue_room : ℕ

abbrev pub shape : Views → Shape
shape v =
    record {
      filters = filters v;
      issues = v.issues;
      filter_room = v.filter_room;
      issue_room = v.issue_room;
    }

-- one cell becomes this one, and all else stands
pub record Settles (old new : Views) (f issue : ℕ) (cell : Cell) : Type 0 where
  pub this : cell_of new f issue ≡ cell
  pub others : (g j : ℕ) → (g ≡ f → j ≡ issue → ⊥) → cell_of new g j ≡ cell_of old g j
  pub same : shape new ≡ shape old

-- the numbers stay in order
abbrev pub with_filter : ℕ → List ℕ → List ℕ
with_filter f [] = f ∷ []
with_filter f (g ∷ gs) = if nat_lt f g then f ∷ g ∷ gs else g ∷ with_filter f gs

abbrev pub without_filter : ℕ → List ℕ → List ℕ
without_filter f [] = []
without_filter f (g ∷ gs) = if g == f then gs else g ∷ without_filter f gs

-- a filter comes, whose cells are new ones; no cell changes
pub record AddsFilter (old new : Views) (f : ℕ) : Type 0 where
  pub cells : (g j : ℕ) → cell_of new g j ≡ cell_of old g j
  pub fresh : (j : ℕ) → cell_of new f j ≡ unset
  pub same : shape new ≡ record (shape old) { filters = with_filter f (filters old) }

-- the next issue comes, whose cells are new ones; no cell changes
pub record AddsIssue (old new : Views) : Type 0 where
  pub cells : (g j : ℕ) → cell_of new g j ≡ cell_of old g j
  pub fresh : (g : ℕ) → cell_of new g (old.issues + 1) ≡ unset
  pub same : shape new ≡ record (shape old) { issues = old.issues + 1 }

-- a filter goes with its cells and its room; no other cell changes
pub record RemovesFilter (old new : Views) (f : ℕ) : Type 0 where
  pub gone : (j : ℕ) → cell_of new f j ≡ unset
  pub others : (g j : ℕ) → (g ≡ f → ⊥) → cell_of new g j ≡ cell_of old g j
  pub same : shape new
      ≡ record (shape old) {
        filters = without_filter f (filters old);
        filter_room = old.filter_room
            - 1;
      }

-- the end of this cell
abbrev pub end_of_cell : ℕ → ℕ → ℕ → Due
end_of_cell end f issue =
    record { end = end; filter = record { 0 = f }; issue = record { 0 = issue } }

-- this is the end of a cell, and no cell's end comes before it: ends are in order by moment, then by filter, then by issue
pub record IsLeastEnd (v : Views) (d : Due) : Type 0 where
  pub there : (cell_of v d.filter.0 d.issue.0).end ≡ Some d.end
  pub least : (f issue end : ℕ) → (cell_of v f issue).end ≡ Some end
      → is_before (end_of_cell end f issue) d ≡ false

-- the least end; there is none exactly where no cell has an end
abbrev pub IsNextDue : Views → Option (ℕ × FilterNo × IssueNo) → Type 0
IsNextDue v result =
    MatchOption result ((f issue : ℕ) → (cell_of v f issue).end ≡ None)
    (λ next. IsLeastEnd v (record { end = next.0; filter = next.1; issue = next.2 }))

-- the heap has each cell that has an end, once, with its end, and nothing else, and is in order
pub record IsHeapOf (v : Views) (ds : List Due) : Type 0 where
  pub order : IsHeap ds
  pub only : (k : ℕ) → k < length ds
      → let d = due_at ds k in (cell_of v d.filter.0 d.issue.0).end ≡ Some d.end
  pub each : (f issue end : ℕ) → (cell_of v f issue).end ≡ Some end
      → (k : ℕ) × (k < length ds) × (due_at ds k ≡ end_of_cell end f issue)
  pub once : (j k : ℕ) → j < k → k < length ds → (due_at ds j).filter.0 ≡ (due_at ds k).filter.0
      → (due_at ds j).issue.0 ≡ (due_at ds k).issue.0 → ⊥
