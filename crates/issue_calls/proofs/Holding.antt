-- What fields hold, and what entries do.
use Rattle.std.proofs.Common.{◌≡◌, ℕ, zero, suc, List, [], ◌∷◌, take, drop, true, inl, inr, refl, sym, subst}
use Rattle.civil_dates.specs.Days.{is_day}
use Rattle.field_values.specs.declared.numbers.Day.{Day}
use Rattle.field_values.specs.declared.numbers.FieldNo.{FieldNo}
use Rattle.field_values.specs.declared.value.Value.{Value}
use Rattle.field_values.specs.declared.value.Value.TheVariants as value
use Rattle.field_forms.specs.Known.{Names, fits, form_of, choices_of}
use Rattle.field_forms.proofs.Fitting.{fits_says}
use Rattle.field_values.specs.declared.numbers.TheConstants.FieldNo.{REPORTER as reporter}
use Rattle.change_history.specs.declared.entry.Entry.{Entry}
use Rattle.tracker_machine.specs.Tracker.{Holds, AllEntriesHold}

held_behind : (names : Names) (from : ℕ) (es : List Entry) → AllEntriesHold names es → AllEntriesHold names (drop from es)
held_behind names zero es all = all
held_behind names (suc from) [] all = tt
held_behind names (suc from) (e ∷ es) all = held_behind names from es all.2

held_front : (names : Names) (count : ℕ) (es : List Entry) → AllEntriesHold names es → AllEntriesHold names (take count es)
held_front names zero es all = tt
held_front names (suc count) [] all = tt
held_front names (suc count) (e ∷ es) all = (all.0, all.1, held_front names count es all.2)

-- so does a part of entries
pub held_part : (names : Names) (from count : ℕ) (es : List Entry) → AllEntriesHold names es → AllEntriesHold names (take count (drop from es))
held_part names from count es all = held_front names count (drop from es) (held_behind names from es all)

nobody_fits : (names : Names) → fits names reporter.0 value.Empty ≡ true
unfolding fits form_of choices_of
nobody_fits names = refl

-- a reporter that a field holds is nobody, or one who fits
pub reporter_fits : (names : Names) (v : Value) → Holds names reporter v → fits names reporter.0 v ≡ true
reporter_fits names v (inl empty) = subst (λ w. fits names reporter.0 w ≡ true) (sym empty) (nobody_fits names)
reporter_fits names v (inr fit) = fit

-- a day that a field holds is one of the years 1970 to 2099
pub day_held : (names : Names) (f : FieldNo) (day : Day) → Holds names f (value.Date day) → is_day day.0 ≡ true
day_held names f day (inl empty) = absurd (cc)
day_held names f day (inr fit) = fits_says names f.0 (value.Date day) fit
