-- How what a comparison looks at stands to an operand, at the present moment.
use Rattle.std.specs.Prelude.{ℕ, Bool, false, List, Option, Some, None, pos, ℤ}
use Rattle.std.specs.Str.{bytes_eq}
use Rattle.std.specs.Ordering.{int_cmp, nat_cmp, int_eq, is_lt, is_le, is_gt, is_ge}
use Rattle.std.specs.declared.cmp.Ordering.{Ordering}
use Rattle.field_values.specs.declared.numbers.Day.{Day}
use Rattle.field_values.specs.declared.numbers.SprintNo.{SprintNo}
use Rattle.field_values.specs.declared.value.Value.{Value}
use Rattle.change_history.specs.History.{History, present, updated}
use Rattle.change_history.specs.Key.{project_of}
use Rattle.relative_dates.specs.declared.term.Term.{Term}
use Rattle.relative_dates.specs.Calendar.{midnight}
use Rattle.relative_dates.specs.Term.{second}
use Rattle.jql_bound.specs.declared.operand.Operand.{Operand}
use Rattle.jql_bound.specs.declared.leaf.Subject.{Subject}
use Rattle.jql_bound.specs.declared.leaf.Inequality.{Inequality}
use Rattle.jql_meaning.specs.Surroundings.{Surroundings, phase_of, is_in_phase}
use Rattle.jql_meaning.specs.Naming.{names, some_value}

-- the second that a date means at the present moment
abbrev pub second_now : Surroundings → ℕ → Term → ℤ
second_now s now date = second s.calendar date (pos now)

-- the second at which a local day begins
abbrev pub midnight_of : Surroundings → Day → ℤ
midnight_of s day = midnight s.calendar.zone day.0

-- what a field holds is a day or a sprint that passes
abbrev pub date_passes : (Day → Bool) → Value → Bool
date_passes p (Value.Date day) = p day
date_passes p v = false

abbrev pub sprint_passes : (SprintNo → Bool) → Value → Bool
sprint_passes p (Value.Sprint sprint) = p sprint
sprint_passes p v = false

-- the operand stands for the value of a field; a date is compared as the second at its midnight
abbrev pub equals_value : Surroundings → ℕ → Value → Operand → Bool
equals_value s now v (Operand.Date date) =
    date_passes (λ day. int_eq (midnight_of s day) (second_now s now date)) v
equals_value s now v (Operand.SprintsIn phase) =
    sprint_passes (λ sprint. is_in_phase phase (phase_of s sprint)) v
equals_value s now v operand = some_value (names s operand) v

-- the operand is a date that means that moment
abbrev pub equals_moment : Surroundings → ℕ → ℕ → Operand → Bool
equals_moment s now moment (Operand.Date date) = int_eq (pos moment) (second_now s now date)
equals_moment s now moment operand = false

abbrev pub is_project : List ℕ → Operand → Bool
is_project key (Operand.Project other) = bytes_eq key other
is_project key operand = false

abbrev pub is_issue : List ℕ → Operand → Bool
is_issue key (Operand.Issue other) = bytes_eq key other
is_issue key operand = false

-- the operand stands for what is compared
abbrev pub equals : Surroundings → History → ℕ → Subject → Operand → Bool
equals s h now (Subject.Field field) operand = equals_value s now (present h field) operand
equals s h now Subject.Project operand = is_project (project_of h.key) operand
equals s h now Subject.Key operand = is_issue h.key operand
equals s h now Subject.Created operand = equals_moment s now h.at operand
equals s h now Subject.Updated operand = equals_moment s now (updated h) operand

-- how a value stands to an operand, where they have an order: a choice is greater than those behind it in the setup's list, so that
-- the highest priority is the greatest
abbrev pub value_order : Surroundings → ℕ → Value → Operand → Option Ordering
value_order s now (Value.Number number) (Operand.Number other) = Some (int_cmp number other)
value_order s now (Value.Choice choice) (Operand.Choice other) = Some (nat_cmp other.0 choice.0)
value_order s now (Value.Date day) (Operand.Date date) =
    Some (int_cmp (midnight_of s day) (second_now s now date))
value_order s now v operand = None

abbrev pub moment_order : Surroundings → ℕ → ℕ → Operand → Option Ordering
moment_order s now moment (Operand.Date date) = Some (int_cmp (pos moment) (second_now s now date))
moment_order s now moment operand = None

abbrev pub order : Surroundings → History → ℕ → Subject → Operand → Option Ordering
order s h now (Subject.Field field) operand = value_order s now (present h field) operand
order s h now Subject.Project operand = None
order s h now Subject.Key operand = None
order s h now Subject.Created operand = moment_order s now h.at operand
order s h now Subject.Updated operand = moment_order s now (updated h) operand

abbrev pub stands : Inequality → Ordering → Bool
stands Inequality.Less o = is_lt o
stands Inequality.LessOrEqual o = is_le o
stands Inequality.Greater o = is_gt o
stands Inequality.GreaterOrEqual o = is_ge o
