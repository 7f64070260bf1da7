use Rattle.std.proofs.Common.{◌≡◌, refl, arith, pos}
use Rattle.jiff_core.specs.Calendar.{days_from_civil}
use Rattle.jiff_core.proofs.CalendarLemmas.{days_from_civil-day_count}
use Rattle.jiff_core.proofs.MarchLemmas.{day_count-early, day_count-late}
use Rattle.jiff_core.proofs.SignedLemmas.{signed_arith}
use Rattle.civil_dates.proofs.Texts.{date_has_text}
use Rattle.civil_dates.proofs.laws.worked_days.Goals as goal

first_day : days_from_civil (pos 1970) 1 1 ≡ pos 0
first_day = omega (arith, signed_arith, days_from_civil-day_count (pos 1970) 1 1, day_count-early (pos 1970) 11969 1 1 refl (omega arith) (omega arith) (omega arith))

year_end : days_from_civil (pos 2023) 12 31 ≡ pos 19_722
year_end = omega (arith, signed_arith, days_from_civil-day_count (pos 2023) 12 31, day_count-late (pos 2023) 12023 12 31 refl (omega arith) (omega arith) (omega arith))

leap_day : days_from_civil (pos 2024) 2 29 ≡ pos 19_782
leap_day = omega (arith, signed_arith, days_from_civil-day_count (pos 2024) 2 29, day_count-early (pos 2024) 12023 2 29 refl (omega arith) (omega arith) (omega arith))

last_day : days_from_civil (pos 2099) 12 31 ≡ pos 47_481
last_day = omega (arith, signed_arith, days_from_civil-day_count (pos 2099) 12 31, day_count-late (pos 2099) 12099 12 31 refl (omega arith) (omega arith) (omega arith))

pub returns : goal.returns
returns c = (
  date_has_text _ 1970 1 1 (record { early = omega arith; late = omega arith; month = (omega arith, omega arith); day_in = (omega arith, omega arith); is = first_day }),
  date_has_text _ 2023 12 31 (record { early = omega arith; late = omega arith; month = (omega arith, omega arith); day_in = (omega arith, omega arith); is = year_end }),
  date_has_text _ 2024 2 29 (record { early = omega arith; late = omega arith; month = (omega arith, omega arith); day_in = (omega arith, omega arith); is = leap_day }),
  date_has_text _ 2099 12 31 (record { early = omega arith; late = omega arith; month = (omega arith, omega arith); day_in = (omega arith, omega arith); is = last_day }),
)
