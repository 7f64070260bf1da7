-- When and by whom, as a comparison with the past asks for it.
use Rattle.std.specs.Prelude.{ℕ, Bool, true, ◌&&◌, List, pos, int_lt, int_le}
use Rattle.std.specs.List.{list_any, list_all}
use Rattle.std.specs.Ordering.{int_eq}
use Rattle.field_values.specs.declared.numbers.UserNo.{UserNo}
use Rattle.field_values.specs.declared.value.Value.{Value}
use Rattle.relative_dates.specs.Calendar.{local_day}
use Rattle.jql_bound.specs.declared.past.PastPredicate.{PastPredicate}
use Rattle.jql_meaning.specs.Surroundings.{Surroundings}
use Rattle.jql_meaning.specs.Naming.{names}
use Rattle.jql_meaning.specs.Comparison.{second_now}

-- a moment lies in the window, which goes by what its dates mean at the present moment
abbrev pub is_within : Surroundings → ℕ → PastPredicate → ℕ → Bool
is_within s now (PastPredicate.After date) moment = int_lt (second_now s now date) (pos moment)
is_within s now (PastPredicate.Before date) moment = int_lt (pos moment) (second_now s now date)
is_within s now (PastPredicate.On date) moment =
    int_eq (local_day s.calendar.zone (pos moment))
    (local_day s.calendar.zone (second_now s now date))
is_within s now (PastPredicate.During from to) moment =
    int_le (second_now s now from) (pos moment) && int_le (pos moment) (second_now s now to)
is_within s now (PastPredicate.By users) moment = true

-- it lies in each of the windows
abbrev pub is_in_windows : Surroundings → ℕ → List PastPredicate → ℕ → Bool
is_in_windows s now predicates moment =
    list_all (λ predicate. is_within s now predicate moment) predicates

-- the author is one of the users that are asked for
abbrev pub is_by : Surroundings → PastPredicate → UserNo → Bool
is_by s (PastPredicate.By users) author =
    list_any (λ operand. names s operand (Value.User author)) users
is_by s predicate author = true

abbrev pub is_by_each : Surroundings → List PastPredicate → UserNo → Bool
is_by_each s predicates author = list_all (λ predicate. is_by s predicate author) predicates
