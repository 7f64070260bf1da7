-- Date terms, and the second that each means at a moment.
use Rattle.std.specs.Prelude.{ℕ, Bool, true, false, ℤ, pos, ◌+ℤ◌, ◌-ℤ◌, ◌*ℤ◌}
use Rattle.jiff_core.specs.Calendar.{IsWithin}
use Rattle.relative_dates.specs.declared.term.Period.{Period}
use Rattle.relative_dates.specs.declared.term.Period.TheVariants.{Day, Week, Month, Year}
use Rattle.relative_dates.specs.declared.term.Edge.{Edge}
use Rattle.relative_dates.specs.declared.term.Edge.TheVariants.{Start, End}
use Rattle.relative_dates.specs.declared.term.Boundary.{Boundary}
use Rattle.relative_dates.specs.declared.term.Term.{Term}
use Rattle.relative_dates.specs.declared.term.Term.TheVariants.{Now, Literal, FromNow, PeriodEdge}
use Rattle.relative_dates.specs.Calendar.{LocalCalendar, local_day, first_at, midnight}
use Rattle.relative_dates.specs.Civil.{month_begin, year_begin, week_begin, months_later}

-- the day on which a period begins that holds the day
abbrev pub period_begin : ℕ → Period → ℤ → ℤ
period_begin first_day Day day = day
period_begin first_day Week day = week_begin first_day day
period_begin first_day Month day = month_begin day
period_begin first_day Year day = year_begin day

-- one period later
abbrev pub one_later : Period → ℤ → ℤ
one_later Day day = day +ℤ pos 1
one_later Week day = day +ℤ pos 7
one_later Month day = months_later day (pos 1)
one_later Year day = months_later day (pos 12)

-- the day on which a boundary's reckoning begins: the present period's first, or the next one's
abbrev pub edge_day : ℕ → Edge → Period → ℤ → ℤ
edge_day first_day Start period day = period_begin first_day period day
edge_day first_day End period day = one_later period (period_begin first_day period day)

-- the start is the first second of its day, and the end is one second less
abbrev pub before_edge : Edge → ℤ
before_edge Start = pos 0
before_edge End = pos 1

-- the day of a boundary, seen from a local day: months come first, then days
abbrev pub boundary_day : ℕ → Boundary → ℤ → ℤ
boundary_day first_day b day =
    months_later (edge_day first_day b.edge b.period day) b.shift.months +ℤ b.shift.days

-- the second of a boundary, seen from a local day
unfoldable pub boundary_second : LocalCalendar → Boundary → ℤ → ℤ
boundary_second calendar b day =
    (midnight calendar.zone (boundary_day calendar.first_day b day) +ℤ (pos 60 *ℤ b.shift.minutes))
    -ℤ before_edge b.edge

-- the second that a term means at a moment
abbrev pub second : LocalCalendar → Term → ℤ → ℤ
second calendar Now at = at
second calendar (Literal local) at =
    first_at calendar.zone ((local.day *ℤ pos 86_400) +ℤ pos local.second)
second calendar (FromNow minutes) at = at +ℤ (pos 60 *ℤ minutes)
second calendar (PeriodEdge b) at = boundary_second calendar b (local_day calendar.zone at)

-- the term goes on with each second
abbrev pub moves : Term → Bool
moves Now = true
moves (Literal local) = false
moves (FromNow minutes) = true
moves (PeriodEdge b) = false

-- months that a boundary may be shifted by: at most 4,000 years
abbrev pub IsShift : ℤ → Type 0
IsShift months = IsWithin 48_000 months

-- what is so of each term
abbrev pub IsTerm : Term → Type 0
IsTerm Now = Unit {0}
IsTerm (Literal local) = Unit {0}
IsTerm (FromNow minutes) = Unit {0}
IsTerm (PeriodEdge b) = IsShift b.shift.months
