-- Local time as a table of offsets from UTC, with its days. Moments are seconds since 1970-01-01
-- 00:00:00 UTC, and local seconds and local days are counted from the same midnight on the local clock.
use Rattle.std.specs.Prelude.{◌≡◌, ℕ, Bool, not, ◌==◌, List, [], ◌∷◌, ◌++◌, length, ◌≤◌, Option, Some, None, if◌then◌else◌, All, AllPairs, ℤ, pos, ◌+ℤ◌, ◌-ℤ◌, ◌*ℤ◌, ◌≤ℤ◌, ◌<ℤ◌, int_lt}
use Rattle.std.specs.Int.{int_div_euclid}
use Rattle.std.specs.List.{list_all}
use Rattle.jiff_core.specs.Calendar.{IsBetween, IsWithin}
use Rattle.relative_dates.specs.Years.{last_second}
use Rattle.relative_dates.specs.declared.calendar.OffsetStep.{OffsetStep}
use Rattle.relative_dates.specs.declared.calendar.StepFault.{StepFault}
use Rattle.relative_dates.specs.declared.calendar.StepFault.TheVariants.{NotLater, DayGoesBack, Full, Memory}
use Rattle.relative_dates.specs.Least.{least_from}

-- the offset before the first step, in minutes ahead of UTC, and the steps from one offset to the next
pub record Zone : Type 0 where
  pub first_offset : ℤ
  pub steps : List OffsetStep

-- a zone, and the day on which its weeks begin: 1 for Monday to 7 for Sunday
pub record LocalCalendar : Type 0 where
  pub zone : Zone
  pub first_day : ℕ

-- the minutes of the last step that has come by a moment, or the present ones where none has
unfoldable pub minutes_from : ℤ → List OffsetStep → ℤ → ℤ
minutes_from present [] at = present
minutes_from present (step ∷ later) at =
    if int_lt at step.from then present else minutes_from step.minutes later at

-- the minutes in force at a moment
abbrev pub minutes_at : Zone → ℤ → ℤ
minutes_at zone at = minutes_from zone.first_offset zone.steps at

-- what the local clock shows at a moment
abbrev pub local_second : Zone → ℤ → ℤ
local_second zone at = at +ℤ (pos 60 *ℤ minutes_at zone at)

-- the day that the local clock shows
abbrev pub local_day : Zone → ℤ → ℤ
local_day zone at = int_div_euclid (local_second zone at) (pos 86_400)

-- the first moment at which the local clock has come to a local second: no offset is above 840 minutes
unfoldable pub first_at : Zone → ℤ → ℤ
first_at zone second =
    least_from (λ at. not (int_lt (local_second zone at) second)) 100_801 (second -ℤ pos 50_400)

-- the first moment of a local day
abbrev pub midnight : Zone → ℤ → ℤ
midnight zone day = first_at zone (day *ℤ pos 86_400)

-- the local clock has come to the second at this moment, and at no earlier one
pub record IsFirstAt (zone : Zone) (second at : ℤ) : Type 0 where
  pub come : second ≤ℤ local_second zone at
  pub before : (earlier : ℤ) → earlier <ℤ at → local_second zone earlier <ℤ second

-- an offset that a zone may have
abbrev pub IsOffset : ℤ → Type 0
IsOffset minutes = IsWithin 840 minutes

-- a moment that a step may have
abbrev pub IsMoment : ℤ → Type 0
IsMoment at = IsBetween (pos 0) (pos last_second) at

-- a step with a moment and an offset in their range
abbrev pub IsStep : OffsetStep → Type 0
IsStep step = IsMoment step.from × IsOffset step.minutes

-- the step at a moment of the program
abbrev pub step_at : ℕ → ℤ → OffsetStep
step_at from minutes = record { from = pos from; minutes = minutes }

-- the steps are at most 400 and rise, and no step turns the local clock back to a day before
pub record IsZone (zone : Zone) : Type 0 where
  pub first_in : IsOffset zone.first_offset
  pub steps_in : All IsStep zone.steps
  pub rising : AllPairs (λ step later. step.from <ℤ later.from) zone.steps
  pub few : length zone.steps ≤ 400
  pub days_go_on : (at later : ℤ) → at ≤ℤ later → local_day zone at ≤ℤ local_day zone later

-- a zone, with weeks that begin on one of the seven days
pub record IsCalendar (calendar : LocalCalendar) : Type 0 where
  pub zone : IsZone calendar.zone
  pub monday_or_later : 1 ≤ calendar.first_day
  pub sunday_or_earlier : calendar.first_day ≤ 7

-- the calendar of one offset
abbrev pub fixed_calendar : ℤ → ℕ → LocalCalendar
fixed_calendar minutes first_day =
    record { zone = record { first_offset = minutes; steps = [] }; first_day = first_day }

-- a zone with one step more at its end
abbrev pub zone_with : Zone → OffsetStep → Zone
zone_with zone step =
    record { first_offset = zone.first_offset; steps = zone.steps ++ step ∷ [] }

-- a calendar with one step more at its end
abbrev pub calendar_with : LocalCalendar → OffsetStep → LocalCalendar
calendar_with calendar step =
    record { zone = zone_with calendar.zone step; first_day = calendar.first_day }

-- the step turns the local clock back to a day before
abbrev pub goes_back : Zone → OffsetStep → Bool
goes_back zone step =
    int_lt (local_day (zone_with zone step) step.from) (local_day zone (step.from -ℤ pos 1))

-- what refuses a further step, in this order
unfoldable pub step_fault : Zone → OffsetStep → Option StepFault
step_fault zone step =
    if not (list_all (λ earlier. int_lt earlier.from step.from) zone.steps) then Some NotLater
    else (if goes_back zone step then Some DayGoesBack
    else (if length zone.steps == 400 then Some Full else None))

-- a refusal is that fault, and where there is none it can only be want of memory
abbrev pub IsRefusal : Option StepFault → StepFault → Type 0
IsRefusal (Some fault) refusal = refusal ≡ fault
IsRefusal None refusal = refusal ≡ Memory
