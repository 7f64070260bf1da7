-- Worked values, computed from the definitions.
use Rattle.std.specs.Prelude.{ℕ, ◌≡◌, Bool, true, false, [], ◌∷◌, Option, Some, None, refl}
use Rattle.field_values.specs.declared.numbers.IssueNo.{IssueNo}
use Rattle.filter_views.specs.Cell.{Cell, FilterCells, Views, cell_of, issues_held}
use Rattle.filter_views.specs.Counts.{due}

abbrev cell : Bool → Option ℕ → Cell
cell holds end = record { holds = holds; end = end }

abbrev issue : ℕ → IssueNo
issue n = record { 0 = n }

abbrev second : FilterCells
second =
    record { filter = 2; cells = cell true (Some 5) ∷ cell false None ∷ cell true (Some 9) ∷ [] }

abbrev seventh : FilterCells
seventh =
    record { filter = 7; cells = cell false (Some 9) ∷ cell true (Some 3) ∷ cell false None ∷ [] }

-- filters 2 and 7 over three issues
abbrev two : Views
two = record { table = second ∷ seventh ∷ []; issues = 3; filter_room = 2; issue_room = 3 }

pub members_by_number : issues_held two 2 ≡ issue 1 ∷ issue 3 ∷ []
members_by_number = refl

pub members_of_no_filter : issues_held two 5 ≡ []
members_of_no_filter = refl

pub an_end : (cell_of two 7 1).end ≡ Some 9
an_end = refl

pub none_due_before : due two 2 ≡ 0
none_due_before = refl

-- an end at the moment itself is due
pub due_at_five : due two 5 ≡ 2
due_at_five = refl

pub due_at_nine : due two 9 ≡ 4
due_at_nine = refl
