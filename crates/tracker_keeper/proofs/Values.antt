-- Values of fields.
use Rattle.std.proofs.Common.{◌≡◌, ℕ, true}
use Rattle.std.proofs.lemmas.Bool.{and_parts}
use Rattle.civil_dates.specs.Days.{is_day}
use Rattle.field_values.specs.declared.numbers.Day.{Day}
use Rattle.field_values.specs.declared.value.Value.TheVariants as value
use Rattle.field_forms.specs.Known.{Names, fits}
use Rattle.field_forms.proofs.Fitting.{fits_says}
use Rattle.tracker_keeper.specs.Forms.{may_hold}

-- a day that a field may hold is one of the years 1970 to 2099
pub day_inside : (names : Names) (n : ℕ) (day : Day) → may_hold names n (value.Date day) ≡ true → is_day day.0 ≡ true
day_inside names n day h = fits_says names n (value.Date day) ((and_parts (fits names n (value.Date day)) true h).0)
