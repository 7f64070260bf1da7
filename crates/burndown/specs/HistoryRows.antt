-- Worked histories, computed by the definitions.
use Rattle.std.specs.Prelude.{ℕ, ◌≡◌, ◌==◌, ◌*◌, ℤ, pos, negsuc, Bool, List, [], ◌∷◌, codes}
use Rattle.std.proofs.Common.{refl}
use Rattle.field_values.specs.declared.numbers.ChoiceNo.{ChoiceNo}
use Rattle.field_values.specs.declared.numbers.FieldNo.{FieldNo}
use Rattle.field_values.specs.declared.value.Value.{Value}
use Rattle.field_values.specs.declared.value.Value.TheVariants as value
use Rattle.change_history.specs.declared.change.Change.{Change}
use Rattle.change_history.specs.declared.entry.Entry.{Entry}
use Rattle.change_history.specs.History.{History}
use Rattle.sprints.specs.declared.state.SprintState.{SprintState}
use Rattle.sprints.specs.declared.state.SprintState.TheVariants.{Future, Active, Closed}
use Rattle.burndown.specs.declared.share.BurnRow.{BurnRow}
use Rattle.burndown.specs.Reading.{status, points, sprint, share_of}
use Rattle.burndown.specs.Chart.{start_by, left_by, rows_by}

-- the third status is of the category done
abbrev is_done : ChoiceNo → Bool
is_done choice = choice.0 == 2

abbrev to_status : ℕ → Value
to_status n = value.Choice (record { 0 = n })

abbrev of_points : ℤ → Value
of_points thousandths = value.Number thousandths

abbrev in_sprint : ℕ → Value
in_sprint n = value.Sprint (record { 0 = n })

abbrev first_holds : FieldNo → Value → Change
first_holds field to = record { field = field; to = to }

abbrev entry : ℕ → FieldNo → Value → Value → Entry
entry change field from to =
    record {
      change = change;
      at = 10 * change;
      author = record { 0 = 0 };
      field = field;
      from = from;
      to = to;
    }

-- 3 points in sprint 1, then 5 points, started, done and opened again
abbrev reopened : History
reopened = record {
  no = record { 0 = 1 };
  key = codes "OPS-1";
  change = 1;
  at = 10;
  author = record { 0 = 0 };
  opening = first_holds status (to_status 0) ∷ first_holds points (of_points (pos 3000))
      ∷ first_holds sprint (in_sprint 1) ∷ [];
  entries =
      entry 2 points (of_points (pos 3000)) (of_points (pos 5000)) ∷
      entry 3 status (to_status 0) (to_status 1) ∷
      entry 4 status (to_status 1) (to_status 2) ∷
      entry 5 status (to_status 2) (to_status 0) ∷ [];
}

-- without points at first, and in no sprint; then in sprint 1 with 2 points, both by one group
abbrev drawn_in : History
drawn_in = record {
  no = record { 0 = 2 };
  key = codes "OPS-2";
  change = 6;
  at = 60;
  author = record { 0 = 0 };
  opening = first_holds status (to_status 0) ∷ [];
  entries =
      entry 8 points value.Empty (of_points (pos 2000)) ∷
      entry 8 sprint value.Empty (in_sprint 1) ∷ [];
}

abbrev issues : List History
issues = reopened ∷ drawn_in ∷ []

abbrev row : ℕ → ℕ → ℤ → ℤ → BurnRow
row change issue by left =
    record { at = 10 * change; change = change; issue = record { 0 = issue }; by = by; left = left }

-- a sprint that began after the first group
abbrev active : SprintState
active = Active 10 1

pub start_of_the_active : start_by (share_of is_done) issues 1 active 8 ≡ pos 3000
start_of_the_active = refl

pub rows_of_the_active :
    rows_by (share_of is_done) issues 1 active 8
    ≡ row 2 1 (pos 2000) (pos 5000) ∷ row 4 1 (negsuc 4999) (pos 0) ∷ row 5 1 (pos 5000) (pos 5000)
    ∷ row 8 2 (pos 2000) (pos 7000) ∷ []
rows_of_the_active = refl

pub left_of_the_active : left_by (share_of is_done) issues 1 active 8 ≡ pos 7000
left_of_the_active = refl

-- the same sprint, closed after group 4: what comes later counts no more
abbrev closed : SprintState
closed = Closed 10 1 40 4

pub rows_of_the_closed : rows_by (share_of is_done) issues 1 closed 8
    ≡ row 2 1 (pos 2000) (pos 5000) ∷ row 4 1 (negsuc 4999) (pos 0) ∷ []
rows_of_the_closed = refl

pub left_of_the_closed : left_by (share_of is_done) issues 1 closed 8 ≡ pos 0
left_of_the_closed = refl

-- and future: no rows, and what remains now is the start
pub start_of_the_future : start_by (share_of is_done) issues 1 Future 8 ≡ pos 7000
start_of_the_future = refl

pub rows_of_the_future : rows_by (share_of is_done) issues 1 Future 8 ≡ []
rows_of_the_future = refl

-- another sprint has nothing
pub left_of_another : left_by (share_of is_done) issues 2 Future 8 ≡ pos 0
left_of_another = refl
