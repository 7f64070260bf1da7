-- What a fitting value says of its number.
use Rattle.std.proofs.Common.{◌≡◌, ℕ, ◌<◌, List, length, true, false, arith, Option, Some, None, refl}
use Rattle.field_forms.specs.declared.form.Form.{Form}
use Rattle.field_forms.specs.declared.form.Form.TheVariants.{Line, Prose, Number, Points, Choice, User, Set, Labels, Date, Sprint}
use Rattle.field_values.specs.declared.numbers.ChoiceNo.{ChoiceNo}
use Rattle.field_values.specs.declared.numbers.UserNo.{UserNo}
use Rattle.field_values.specs.declared.numbers.Day.{Day as DayNo}
use Rattle.field_values.specs.declared.value.Value.TheVariants.{Empty, Text as TextValue, Number as NumberValue, Choice as ChoiceValue, User as UserValue, Date as DateValue, Set as SetValue, Labels as LabelsValue, Sprint as SprintValue}
use Rattle.civil_dates.specs.Days.{is_day}
use Rattle.field_values.specs.declared.value.Value.{Value}
use Rattle.field_forms.specs.Values.{is_of_form}
use Rattle.field_forms.specs.Known.{Names, form_of, choices_of, fits_form, fits}
use Rattle.field_forms.specs.ValueTexts.{IsInside}
use Rattle.std.specs.Option.{option_map_or}

pub choice_inside : (form : Form) (names : List (List ℕ)) (choice : ChoiceNo) → is_of_form form names (ChoiceValue choice) ≡ true → choice.0 < length names
choice_inside Choice names choice h = grind (arith, h)
choice_inside (Line n) names choice h = cc
choice_inside (Prose n) names choice h = cc
choice_inside Number names choice h = cc
choice_inside Points names choice h = cc
choice_inside User names choice h = cc
choice_inside Set names choice h = cc
choice_inside Labels names choice h = cc
choice_inside Date names choice h = cc
choice_inside Sprint names choice h = cc

pub user_inside : (form : Form) (names : List (List ℕ)) (user : UserNo) → is_of_form form names (UserValue user) ≡ true → user.0 < length names
user_inside User names user h = grind (arith, h)
user_inside (Line n) names user h = cc
user_inside (Prose n) names user h = cc
user_inside Number names user h = cc
user_inside Points names user h = cc
user_inside Choice names user h = cc
user_inside Set names user h = cc
user_inside Labels names user h = cc
user_inside Date names user h = cc
user_inside Sprint names user h = cc

pub date_inside : (form : Form) (names : List (List ℕ)) (day : DayNo) → is_of_form form names (DateValue day) ≡ true → is_day day.0 ≡ true
date_inside Date names day h = h
date_inside (Line n) names day h = cc
date_inside (Prose n) names day h = cc
date_inside Number names day h = cc
date_inside Points names day h = cc
date_inside Choice names day h = cc
date_inside User names day h = cc
date_inside Set names day h = cc
date_inside Labels names day h = cc
date_inside Sprint names day h = cc

-- a fitting value is inside
pub fits_inside : (n : ℕ) (names : List (List ℕ)) (form : Form) (value : Value) → fits_form n names value form ≡ true → IsInside names value
fits_inside n names form (ChoiceValue choice) h = choice_inside form names choice h
fits_inside n names form (UserValue user) h = user_inside form names user h
fits_inside n names form (DateValue day) h = date_inside form names day h
fits_inside n names form Empty h = tt
fits_inside n names form (TextValue t) h = tt
fits_inside n names form (NumberValue z) h = tt
fits_inside n names form (SetValue cs) h = tt
fits_inside n names form (LabelsValue ls) h = tt
fits_inside n names form (SprintValue s) h = tt

inside_by : (names : Names) (n : ℕ) (value : Value) (form : Option Form) → form_of names.fields n ≡ form → option_map_or (fits_form n (choices_of names n) value) form false ≡ true → IsInside (choices_of names n) value
inside_by names n value None e h = absurd (cc h)
inside_by names n value (Some form) e h = fits_inside n (choices_of names n) form value h

pub fits_says : (names : Names) (n : ℕ) (value : Value) → fits names n value ≡ true → IsInside (choices_of names n) value
unfolding fits
fits_says names n value h = inside_by names n value (form_of names.fields n) refl h
