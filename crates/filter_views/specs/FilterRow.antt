-- Rows of cells, and what stands in them.
use Rattle.std.specs.Prelude.{ℕ, ◌≡◌, ◌≤◌, ◌<◌, ◌==◌, Bool, false, List, [], ◌∷◌, length, map, slice_index_or, if◌then◌else◌}
use Rattle.filter_views.specs.RowParts.{RowParts}

-- the place of a cell that has no end
abbrev pub no_place : ℕ
no_place = 18446744073709551615

-- issues are numbered from 1
abbrev pub HasNumber : ℕ → ℕ → Type 0
HasNumber issue issues = (0 < issue) × (issue ≤ issues)

-- by number, so that nothing stands at 0
abbrev pub truth_at : RowParts → ℕ → Bool
truth_at r issue = slice_index_or (false ∷ r.truths) issue false

abbrev pub place_at : RowParts → ℕ → ℕ
place_at r issue = slice_index_or (no_place ∷ r.places) issue no_place

-- what a row is but for its places
pub record Frame : Type 0 where
  pub filter : ℕ
  pub truths : List Bool
  pub width : ℕ
  pub room : ℕ

abbrev pub frame : RowParts → Frame
frame r = record { filter = r.filter; truths = r.truths; width = length r.places; room = r.room }

abbrev pub frames : List RowParts → List Frame
frames rs = map frame rs

abbrev pub no_row : RowParts
no_row = record { filter = 0; truths = []; places = []; room = 0 }

abbrev pub filter_at : List RowParts → ℕ → ℕ
filter_at rs k = let r = slice_index_or rs k no_row in r.filter

-- the filters' numbers rise
abbrev pub AreRising : List RowParts → Type 0
AreRising rs = (j k : ℕ) → j < k → k < length rs → filter_at rs j < filter_at rs k

-- the filter's row stands at this place
pub record IsAt (rs : List RowParts) (f k : ℕ) : Type 0 where
  pub in_range : k < length rs
  pub is_it : filter_at rs k ≡ f

-- the filter's row would go to this place: smaller numbers stand before it, and greater ones from it on
pub record IsGapFor (rs : List RowParts) (f k : ℕ) : Type 0 where
  pub in_range : k ≤ length rs
  pub smaller_before : (j : ℕ) → j < k → filter_at rs j < f
  pub greater_after : (j : ℕ) → k ≤ j → j < length rs → f < filter_at rs j

-- the first row of the filter, and an empty one where there is none
abbrev pub row_of : List RowParts → ℕ → RowParts
row_of [] f = no_row
row_of (r ∷ rs) f = if r.filter == f then r else row_of rs f

abbrev pub truth_in : List RowParts → ℕ → ℕ → Bool
truth_in rs f issue = truth_at (row_of rs f) issue

abbrev pub place_in : List RowParts → ℕ → ℕ → ℕ
place_in rs f issue = place_at (row_of rs f) issue

-- there is a cell for the filter and the issue
abbrev pub IsCell : List RowParts → ℕ → ℕ → Type 0
IsCell rs f issue = HasNumber issue (length (row_of rs f).places)

-- one cell's place becomes this one, and nothing else changes
pub record PutsPlace (old new : List RowParts) (f issue place : ℕ) : Type 0 where
  pub here : place_in new f issue ≡ place
  pub others : (g j : ℕ) → (g ≡ f → j ≡ issue → ⊥) → place_in new g j ≡ place_in old g j
  pub same : frames new ≡ frames old
