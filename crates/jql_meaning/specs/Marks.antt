-- The marks of an issue: the seconds with which dates are compared.
use Rattle.std.specs.Prelude.{◌≡◌, ℕ, ℤ, pos, Option, Some, None}
use Rattle.std.specs.List.{Contains}
use Rattle.std.specs.Ordering.{int_cmp}
use Rattle.field_values.specs.declared.numbers.FieldNo.{FieldNo}
use Rattle.field_values.specs.declared.numbers.Day.{Day}
use Rattle.field_values.specs.declared.value.Value.{Value}
use Rattle.change_history.specs.declared.entry.Entry.{Entry}
use Rattle.change_history.specs.History.{History, present, updated}
use Rattle.jql_bound.specs.declared.operand.Operand.{Operand}
use Rattle.jql_bound.specs.declared.leaf.Subject.{Subject}
use Rattle.jql_meaning.specs.Surroundings.{Surroundings}
use Rattle.jql_meaning.specs.Comparison.{second_now, midnight_of}

-- the marks of an issue: the moments of its creation and its changes, and the midnights of its present dates
pub data IsMark (s : Surroundings) (h : History) (mark : ℤ) : Type 0 where
  of_creation : mark ≡ pos h.at → IsMark s h mark
  of_change : (entry : Entry) → Contains h.entries entry → mark ≡ pos entry.at → IsMark s h mark
  of_date : (field : FieldNo) (on : Day) → present h field ≡ Value.Date on → mark ≡ midnight_of s on
      → IsMark s h mark

-- the mark that a present comparison looks at: the midnight of a date, or the moment that is compared
abbrev pub value_mark : Surroundings → Value → Option ℤ
value_mark s (Value.Date on) = Some (midnight_of s on)
value_mark s v = None

abbrev pub subject_mark : Surroundings → History → Subject → Option ℤ
subject_mark s h (Subject.Field field) = value_mark s (present h field)
subject_mark s h Subject.Project = None
subject_mark s h Subject.Key = None
subject_mark s h Subject.Created = Some (pos h.at)
subject_mark s h Subject.Updated = Some (pos (updated h))

-- the operand is no date, or it compares with the mark at one moment as at another
abbrev pub IsSteady : Surroundings → ℕ → ℕ → Option ℤ → Operand → Type 0
IsSteady s u t None operand = Unit {0}
IsSteady s u t (Some mark) (Operand.Date d) =
    int_cmp (second_now s u d) mark ≡ int_cmp (second_now s t d) mark
IsSteady s u t (Some mark) operand = Unit {0}
