-- The heap and the rows agree: each cell with an end knows its place.
use Rattle.std.specs.Prelude.{ℕ, ◌≡◌, ◌≢◌, ◌-◌, take, ◌<◌, ◌≤◌, Option, Some, None, List, length, nat_lt, if◌then◌else◌}
use Rattle.filter_views.specs.declared.due.Due.{Due}
use Rattle.filter_views.specs.RowParts.{RowParts}
use Rattle.filter_views.specs.Due.{due_at}
use Rattle.filter_views.specs.FilterRow.{no_place, place_in, frames, AreRising}
use Rattle.filter_views.specs.Heap.{IsHeap}

-- it is the end of this cell
pub record IsOf (d : Due) (f issue : ℕ) : Type 0 where
  pub same_filter : d.filter.0 ≡ f
  pub same_issue : d.issue.0 ≡ issue

pub record Agree (ds : List Due) (rs : List RowParts) : Type 0 where
  pub rising : AreRising rs
  pub few : length ds < no_place
  pub own : (k : ℕ) → k < length ds → let d = due_at ds k in place_in rs d.filter.0 d.issue.0 ≡ k
  pub none : (f issue : ℕ) → length ds ≤ place_in rs f issue → place_in rs f issue ≡ no_place
  pub back : (f issue : ℕ) → place_in rs f issue < length ds
      → IsOf (due_at ds (place_in rs f issue)) f issue

-- the end at a place of the heap, where it is one
abbrev pub end_at : List Due → ℕ → Option ℕ
end_at ds k = let d = due_at ds k in if nat_lt k (length ds) then Some d.end else None

-- the end of a cell
abbrev pub end_in : List Due → List RowParts → ℕ → ℕ → Option ℕ
end_in ds rs f issue = end_at ds (place_in rs f issue)

-- entries may have moved, and nothing else changes
pub record OnlyMoves (ds : List Due) (rs : List RowParts) (es : List Due)
    (ss : List RowParts) : Type 0 where
  pub size : length es ≡ length ds
  pub same : frames ss ≡ frames rs
  pub ends : (f issue : ℕ) → end_in es ss f issue ≡ end_in ds rs f issue

-- the cell's end becomes this one, its place is found, and all other ends stay
pub record PutsEnd (ds : List Due) (rs : List RowParts) (es : List Due) (ss : List RowParts)
    (f issue : ℕ) (end : Option ℕ) : Type 0 where
  pub agree : Agree es ss
  pub heap : IsHeap es
  pub same : frames ss ≡ frames rs
  pub here : end_in es ss f issue ≡ end
  pub others : (g j : ℕ) → (g ≡ f → j ≡ issue → ⊥) → end_in es ss g j ≡ end_in ds rs g j

-- the entry at a place goes to the end of the list, and nothing but the last one moves
pub record MovesToEnd (ds es : List Due) (at : ℕ) : Type 0 where
  pub last : due_at es (length ds - 1) ≡ due_at ds at
  pub others : (k : ℕ) → k ≢ at → k < length ds - 1 → due_at es k ≡ due_at ds k

-- the last entry goes, and its cell has no end then
pub record DropsLast (ds : List Due) (rs : List RowParts) (es : List Due)
    (ss : List RowParts) : Type 0 where
  pub agree : Agree es ss
  pub front : es ≡ take (length ds - 1) ds
  pub same : frames ss ≡ frames rs
  pub here : let d = due_at ds (length ds - 1) in end_in es ss d.filter.0 d.issue.0 ≡ None
  pub others : (g j : ℕ) → (let d = due_at ds (length ds - 1) in g ≡ d.filter.0 → j ≡ d.issue.0 → ⊥)
      → end_in es ss g j ≡ end_in ds rs g j

-- the cells of a filter have no end up to this issue, and all other ends stay
pub record TakesEnds (ds : List Due) (rs : List RowParts) (es : List Due) (ss : List RowParts)
    (f issues : ℕ) : Type 0 where
  pub agree : Agree es ss
  pub heap : IsHeap es
  pub same : frames ss ≡ frames rs
  pub gone : (j : ℕ) → 0 < j → j ≤ issues → end_in es ss f j ≡ None
  pub others : (g j : ℕ) → (g ≡ f → ⊥) → end_in es ss g j ≡ end_in ds rs g j
