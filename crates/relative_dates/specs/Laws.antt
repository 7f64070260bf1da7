-- What holds of each zone and second of the local clock.
use Rattle.std.specs.Prelude.{◌≡◌, ℤ, pos, ◌+ℤ◌, ◌*ℤ◌, ◌≤ℤ◌}
use Rattle.relative_dates.specs.declared.term.LocalSecond.{LocalSecond}
use Rattle.relative_dates.specs.declared.term.Term.TheVariants.{Literal}
use Rattle.relative_dates.specs.Calendar.{Zone, LocalCalendar, IsZone, IsCalendar, IsFirstAt, first_at}
use Rattle.relative_dates.specs.Term.{second}

-- the local clock has come to the second at its first moment, and at no earlier one
abbrev pub FirstMomentIsFirst : Type 0
FirstMomentIsFirst =
    (zone : Zone) (second : ℤ) → IsZone zone → IsFirstAt zone second (first_at zone second)

-- no other moment is the first one
abbrev pub FirstMomentIsOne : Type 0
FirstMomentIsOne =
    (zone : Zone) (second at : ℤ) → IsZone zone → IsFirstAt zone second at
    → first_at zone second ≡ at

-- a later second of the local clock has no earlier first moment
abbrev pub FirstMomentsAreInOrder : Type 0
FirstMomentsAreInOrder =
    (zone : Zone) (second later : ℤ) → IsZone zone → second ≤ℤ later
    → first_at zone second ≤ℤ first_at zone later

-- a date that is written out means the first moment of its second of the local clock, whenever it is asked
abbrev pub LiteralIsFirst : Type 0
LiteralIsFirst =
    (calendar : LocalCalendar) (local : LocalSecond) (at : ℤ) → IsCalendar calendar →
    IsFirstAt calendar.zone ((local.day *ℤ pos 86_400) +ℤ pos local.second)
    (second calendar (Literal local) at)
