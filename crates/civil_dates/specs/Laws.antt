-- What holds of each day and its text.
use Rattle.std.specs.Prelude.{ℕ, ◌≡◌, List, Some, true, ℤ, pos}
use Rattle.jiff_core.specs.Calendar.{IsCivilDate, days_from_civil}
use Rattle.civil_dates.specs.Days.{is_day, year_of, month_of, day_of_month}
use Rattle.civil_dates.specs.DateText.{date_text}
use Rattle.civil_dates.specs.Reading.{day_of}

-- the year, the month and the day of the month name a date of the calendar, which is that day
abbrev pub PartsNameTheDay : Type 0
PartsNameTheDay =
    (day : ℤ) → is_day day ≡ true →
    IsCivilDate (pos (year_of day)) (month_of day) (day_of_month day)
    × (days_from_civil (pos (year_of day)) (month_of day) (day_of_month day) ≡ day)

-- the text of each day is read as that day
abbrev pub TextIsReadBack : Type 0
TextIsReadBack = (day : ℤ) → is_day day ≡ true → day_of (date_text day) ≡ Some day

-- a text that is read as a day is the text of that day, which is of these years
abbrev pub EachDayHasOneText : Type 0
EachDayHasOneText =
    (text : List ℕ) (day : ℤ) → day_of text ≡ Some day
    → (is_day day ≡ true) × (text ≡ date_text day)
