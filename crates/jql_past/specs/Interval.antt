-- Windows as one interval of seconds.
use Rattle.std.specs.Prelude.{◌≡◌, ◌≤◌, ℕ, ◌+◌, Bool, ◌&&◌, ◌||◌, List, [], ◌∷◌, Option, ℤ, pos, ◌+ℤ◌, int_lt, int_le}
use Rattle.std.specs.Int.{int_max, int_min}
use Rattle.field_values.specs.Years.{last_second}
use Rattle.relative_dates.specs.Calendar.{local_day, midnight}
use Rattle.jql_bound.specs.declared.past.PastPredicate.{PastPredicate}
use Rattle.jql_meaning.specs.Surroundings.{Surroundings}
use Rattle.jql_meaning.specs.Comparison.{second_now}
use Rattle.jql_meaning.specs.Moments.{after_last}
use Rattle.jql_meaning.specs.Windows.{is_in_windows}
use Rattle.jql_past.specs.declared.windows.Interval.{Interval}

-- from the first moment that there is to the last
abbrev pub all_moments : Interval
all_moments = record { first = pos 0; end = pos (last_second + 1) }

-- what is left from a second on, and before a second
abbrev pub starting : Interval → ℤ → Interval
starting interval second = record { first = int_max interval.first second; end = interval.end }

abbrev pub ending : Interval → ℤ → Interval
ending interval second = record { first = interval.first; end = int_min interval.end second }

-- what a local day leaves of an interval: from its first second on, before the first of the next day
abbrev pub on_day : Surroundings → Interval → ℤ → Interval
on_day s interval day =
    ending (starting interval (midnight s.calendar.zone day))
    (midnight s.calendar.zone (day +ℤ pos 1))

-- what a window leaves of an interval, by what its dates mean at the present moment
abbrev pub narrowed : Surroundings → ℕ → Interval → PastPredicate → Interval
narrowed s now interval (PastPredicate.After date) =
    starting interval (second_now s now date +ℤ pos 1)
narrowed s now interval (PastPredicate.Before date) = ending interval (second_now s now date)
narrowed s now interval (PastPredicate.On date) =
    on_day s interval (local_day s.calendar.zone (second_now s now date))
narrowed s now interval (PastPredicate.During from to) =
    ending (starting interval (second_now s now from)) (second_now s now to +ℤ pos 1)
narrowed s now interval (PastPredicate.By users) = interval

-- what several windows leave together
abbrev pub interval_of : Surroundings → ℕ → Interval → List PastPredicate → Interval
interval_of s now interval [] = interval
interval_of s now interval (predicate ∷ predicates) =
    interval_of s now (narrowed s now interval predicate) predicates

abbrev pub has_moment : Interval → ℕ → Bool
has_moment interval moment = int_le interval.first (pos moment) && int_lt (pos moment) interval.end

-- it has one of the seconds from the first on, before the end
abbrev pub has_second : Interval → ℤ → ℤ → Bool
has_second interval first end = int_lt (int_max interval.first first) (int_min interval.end end)

-- a span's begin lies in the interval, or the interval has one of the span's later moments
abbrev pub meets : Interval → ℕ → Option ℕ → ℕ → Bool
meets interval begin end now =
    has_moment interval begin || has_second interval (pos (begin + 1)) (pos (after_last end now))

-- a moment lies in the interval exactly where it lies in each of the windows
abbrev pub IsOfWindows : Surroundings → ℕ → List PastPredicate → Interval → Type 0
IsOfWindows s now predicates interval =
    (moment : ℕ) → moment ≤ last_second
    → has_moment interval moment ≡ is_in_windows s now predicates moment
