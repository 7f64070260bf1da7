-- What is kept in the fields, and how the views are read from it.
use Rattle.std.specs.Prelude.{ℕ, ◌≡◌, ◌≤◌, ◌<◌, ◌+◌, ◌*◌, ◌^◌, Bool, false, Option, List, [], ◌∷◌, ◌++◌, length, map, slice_index_or, if◌then◌else◌}
use Rattle.field_values.specs.declared.numbers.IssueNo.{IssueNo}
use Rattle.filter_views.specs.declared.due.Due.{Due}
use Rattle.filter_views.specs.RowParts.{RowParts}
use Rattle.filter_views.specs.Cell.{Cell, FilterCells, Views}
use Rattle.filter_views.specs.FilterRow.{no_place, no_row, truth_at, place_at, truth_in, place_in}
use Rattle.filter_views.specs.Heap.{IsHeap}
use Rattle.filter_views.specs.Agreement.{Agree, end_at, end_in}

-- truths and places stand side by side
abbrev pub cells : List Due → List Bool → List ℕ → List Cell
cells ds [] ps = []
cells ds (t ∷ ts) [] = []
cells ds (t ∷ ts) (p ∷ ps) = record { holds = t; end = end_at ds p } ∷ cells ds ts ps

abbrev pub filter_cells : List Due → RowParts → FilterCells
filter_cells ds r = record { filter = r.filter; cells = cells ds r.truths r.places }

abbrev pub table : List Due → List RowParts → List FilterCells
table ds rs = map (filter_cells ds) rs

abbrev pub views : List RowParts → List RowParts → List Due → ℕ → ℕ → Views
views rs spare ds issues room =
    record {
      table = table ds rs;
      issues = issues;
      filter_room = length rs
          + length spare;
      issue_room = room;
    }

-- a row but for what stands in it
pub record Size : Type 0 where
  pub filter : ℕ
  pub truths : ℕ
  pub places : ℕ
  pub room : ℕ

abbrev pub size : RowParts → Size
size r =
    record { filter = r.filter; truths = length r.truths; places = length r.places; room = r.room }

abbrev pub sizes : List RowParts → List Size
sizes rs = map size rs

-- each row has a cell for each issue, and room
abbrev pub AllFit : ℕ → ℕ → List Size → Type 0
AllFit issues room [] = Unit {0}
AllFit issues room (s ∷ ss) =
    (s.truths ≡ issues) × (s.places ≡ issues) × (room ≤ s.room) × AllFit issues room ss

-- a row whose cells are new
pub record IsBlank (r : RowParts) : Type 0 where
  pub truths : (j : ℕ) → truth_at r j ≡ false
  pub places : (j : ℕ) → place_at r j ≡ no_place

abbrev pub AllBlank : List RowParts → Type 0
AllBlank [] = Unit {0}
AllBlank (r ∷ rs) = IsBlank r × AllBlank rs

-- the rows, the rows that are ready for filters to come, and the heap, which has room for the ends of all cells
pub record IsKept (rs spare : List RowParts) (ds : List Due)
    (row_slots due_slots issues room : ℕ) : Type 0 where
  pub agree : Agree ds rs
  pub heap : IsHeap ds
  pub fit : AllFit issues room (sizes rs)
  pub ready : AllFit issues room (sizes spare)
  pub blank : AllBlank spare
  pub row_room : length rs + length spare ≤ row_slots
  pub due_room : (length rs + length spare) * room ≤ due_slots
  pub enough : issues ≤ room
  pub few : issues < 2 ^ 32

-- a row with a new cell for the next issue
abbrev pub with_issue : RowParts → RowParts
with_issue r = record r { truths = r.truths ++ false ∷ []; places = r.places ++ no_place ∷ [] }

-- one cell's truth becomes this one, and nothing else changes
pub record PutsTruth (old new : List RowParts) (f issue : ℕ) (holds : Bool) : Type 0 where
  pub here : truth_in new f issue ≡ holds
  pub others : (g j : ℕ) → (g ≡ f → j ≡ issue → ⊥) → truth_in new g j ≡ truth_in old g j
  pub places : (g j : ℕ) → place_in new g j ≡ place_in old g j
  pub same : sizes new ≡ sizes old

-- rows may have more room, and nothing else changes
abbrev pub Widen : List RowParts → List RowParts → Type 0
Widen [] [] = Unit {0}
Widen (r ∷ rs) [] = ⊥
Widen [] (s ∷ ss) = ⊥
Widen (r ∷ rs) (s ∷ ss) = (s ≡ record r { room = s.room }) × (r.room ≤ s.room) × Widen rs ss

-- each row has room for this many issues
abbrev pub AllHaveRoom : ℕ → List RowParts → Type 0
AllHaveRoom most [] = Unit {0}
AllHaveRoom most (r ∷ rs) = (most ≤ r.room) × AllHaveRoom most rs

-- the issues that are true, the first one being of this number
abbrev pub holders_from : ℕ → List Bool → List IssueNo
holders_from n [] = []
holders_from n (t ∷ ts) =
    if t then record { 0 = n } ∷ holders_from (n + 1) ts else holders_from (n + 1) ts

-- each row has room for one more cell
abbrev pub AllAreShort : List RowParts → Type 0
AllAreShort [] = Unit {0}
AllAreShort (r ∷ rs) = (length r.truths < r.room) × (length r.places < r.room) × AllAreShort rs

-- a row for a filter to come, with its cells and room
pub record IsReady (issues most : ℕ) (r : RowParts) : Type 0 where
  pub blank : IsBlank r
  pub truths : length r.truths ≡ issues
  pub places : length r.places ≡ issues
  pub room : most ≤ r.room

abbrev pub room_at : List RowParts → ℕ → ℕ
room_at rs k = let r = slice_index_or rs k no_row in r.room

-- one cell becomes this one, and all other cells stay
pub record WritesCell (ds : List Due) (rs : List RowParts) (es : List Due) (ss : List RowParts)
    (f issue : ℕ) (holds : Bool) (end : Option ℕ) : Type 0 where
  pub agree : Agree es ss
  pub heap : IsHeap es
  pub same : sizes ss ≡ sizes rs
  pub truth : truth_in ss f issue ≡ holds
  pub truths : (g j : ℕ) → (g ≡ f → j ≡ issue → ⊥) → truth_in ss g j ≡ truth_in rs g j
  pub end_here : end_in es ss f issue ≡ end
  pub ends : (g j : ℕ) → (g ≡ f → j ≡ issue → ⊥) → end_in es ss g j ≡ end_in ds rs g j
