-- A worked day, computed from the definitions: a sprint is made, an issue of 3 points comes into it, and it starts; then 5 points, started,
-- done and opened again.
use Rattle.std.specs.Prelude.{ℕ, ◌≡◌, ℤ, pos, negsuc, true, false, List, [], ◌∷◌, ◌++◌, codes}
use Rattle.std.proofs.Common.{refl}
use Rattle.field_values.specs.declared.numbers.FieldNo.{FieldNo}
use Rattle.field_values.specs.declared.value.Value.{Value}
use Rattle.field_values.specs.declared.value.Value.TheVariants as value
use Rattle.change_history.specs.declared.change.Change.{Change}
use Rattle.change_history.specs.declared.entry.Entry.{Entry}
use Rattle.change_history.specs.History.{History}
use Rattle.sprints.specs.declared.state.SprintState.{SprintState}
use Rattle.sprints.specs.declared.state.SprintState.TheVariants.{Future, Active, Closed}
use Rattle.burndown.specs.declared.share.BurnRow.{BurnRow}
use Rattle.burndown.specs.Reading.{status, points, sprint}
use Rattle.tracker_work.specs.Seen.{Seen, sprint_start, sprint_left, sprint_rows}

abbrev first_holds : FieldNo → Value → Change
first_holds field to = record { field = field; to = to }

-- all is of the moment 0
abbrev entry : ℕ → FieldNo → Value → Value → Entry
entry change field from to =
    record {
      change = change;
      at = 0;
      author = record { 0 = 0 };
      field = field;
      from = from;
      to = to;
    }

abbrev status_at : ℕ → Value
status_at place = value.Choice (record { 0 = place })

abbrev of_points : ℤ → Value
of_points thousandths = value.Number thousandths

-- the issue with these entries
abbrev first_issue : List Entry → History
first_issue entries = record {
  no = record { 0 = 1 };
  key = codes "OPS-1";
  change = 1;
  at = 0;
  author = record { 0 = 0 };
  opening =
      first_holds status (status_at 0) ∷ first_holds points (of_points (pos 3000))
      ∷ first_holds sprint (value.Sprint (record { 0 = 1 })) ∷ [];
  entries = entries;
}

-- open, in progress, in review and done
abbrev until_reopened : List Entry
until_reopened =
    entry 2 points (of_points (pos 3000)) (of_points (pos 5000)) ∷
    entry 3 status (status_at 0) (status_at 1) ∷
    entry 4 status (status_at 1) (status_at 3) ∷
    entry 5 status (status_at 3) (status_at 0) ∷ []

abbrev seen_in : SprintState → List Entry → ℕ → Seen
seen_in state entries change = record {
  done = false ∷ false ∷ false ∷ true ∷ [];
  sprints = record { name = codes "S"; state = state } ∷ [];
  histories = first_issue entries ∷ [];
  change = change;
}

abbrev row : ℕ → ℤ → ℤ → BurnRow
row change by left =
    record { at = 0; change = change; issue = record { 0 = 1 }; by = by; left = left }

-- it started after the first group
abbrev reopened : Seen
reopened = seen_in (Active 0 1) until_reopened 5

pub start_of_the_reopened : sprint_start reopened 1 ≡ pos 3000
start_of_the_reopened = refl

pub left_of_the_reopened : sprint_left reopened 1 ≡ pos 5000
left_of_the_reopened = refl

pub rows_of_the_reopened : sprint_rows reopened 1
    ≡ row 2 (pos 2000) (pos 5000) ∷ row 4 (negsuc 4999) (pos 0) ∷ row 5 (pos 5000) (pos 5000) ∷ []
rows_of_the_reopened = refl

-- it closed after that, and the issue has 1 point since
abbrev changed_later : Seen
changed_later =
    seen_in (Closed 0 1 0 5) (until_reopened
    ++ (entry 6 points (of_points (pos 5000)) (of_points (pos 1000)) ∷ [])) 6

pub left_of_the_closed : sprint_left changed_later 1 ≡ pos 5000
left_of_the_closed = refl

pub rows_of_the_closed : sprint_rows changed_later 1 ≡ sprint_rows reopened 1
rows_of_the_closed = refl

-- before its start it has no rows, and what remains now is the start
abbrev ahead : Seen
ahead = seen_in Future [] 1

pub start_of_the_future : sprint_start ahead 1 ≡ pos 3000
start_of_the_future = refl

pub rows_of_the_future : sprint_rows ahead 1 ≡ []
rows_of_the_future = refl

-- another sprint has nothing
pub left_of_another : sprint_left reopened 2 ≡ pos 0
left_of_another = refl
