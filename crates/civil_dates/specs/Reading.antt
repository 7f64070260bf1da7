-- The day that a text writes: four digits, a hyphen, two digits, a hyphen and two digits, of a day that the calendar has.
use Rattle.std.specs.Prelude.{ℕ, ◌==◌, Bool, ◌&&◌, List, length, take, drop, slice_index, Option, Some, None, if◌then◌else◌, ℤ, pos}
use Rattle.std.specs.List.{list_all}
use Rattle.std.specs.Int.{is_in_range}
use Rattle.field_values.specs.Digits.{is_digit, read_on}
use Rattle.jiff_core.specs.Calendar.{days_in_month, days_from_civil}
use Rattle.civil_dates.specs.DateText.{hyphen}

-- the number that so many digits from a place on write
abbrev pub part_of : ℕ → ℕ → List ℕ → Option ℕ
part_of from count text =
    if list_all is_digit (take count (drop from text))
    then Some (read_on 0 (take count (drop from text))) else None

-- the day of a year from 1970 to 2099, a month and a day of the month, if the calendar has it
abbrev pub day_by : Option ℕ → Option ℕ → Option ℕ → Option ℤ
day_by (Some y) (Some m) (Some d) =
    if is_in_range 1970 2099 y && (is_in_range 1 12 m && is_in_range 1 (days_in_month (pos y) m) d)
    then Some (days_from_civil (pos y) m d)
    else None
day_by _ _ _ = None

-- ten bytes with hyphens at their places
abbrev pub has_date_form : List ℕ → Bool
has_date_form text =
    (length text == 10) && ((slice_index text 4 == hyphen) && (slice_index text 7 == hyphen))

-- the day that a text writes
unfoldable pub day_of : List ℕ → Option ℤ
day_of text =
    if has_date_form text then day_by (part_of 0 4 text) (part_of 5 2 text) (part_of 8 2 text)
    else None
