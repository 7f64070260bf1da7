-- The text of a value is read as that value.
use Rattle.std.proofs.Common.{◌≡◌, ℕ, zero, suc, ◌<◌, List, [], ◌∷◌, length, get_or, true, false, Option, Some, None, option_and_then, refl, arith, sym, subst, ◌∙◌, ap, ℤ, pos, int_le, Result, Ok, Err}
use Rattle.std.specs.Prelude.{IfOk}
use Rattle.std.specs.List.{slice_get, position_or_len}
use Rattle.std.specs.Option.{option_map_or}
use Rattle.std.specs.Str.{str_eq_ignore_ascii_case, str_to_ascii_lowercase}
use Rattle.std.proofs.lemmas.Bool.{and_parts}
use Rattle.std.proofs.lemmas.Grind.{common_steps}
use Rattle.std.proofs.lemmas.List.Sums.{position_or_len_is}
use Rattle.std.proofs.lemmas.Slice.Eq.{bytes_eq-Decides}
use Rattle.field_values.specs.declared.numbers.ChoiceNo.{ChoiceNo}
use Rattle.field_values.specs.declared.numbers.UserNo.{UserNo}
use Rattle.field_values.specs.declared.numbers.Day.{Day as DayNo}
use Rattle.field_values.specs.declared.value.Value.{Value}
use Rattle.field_values.specs.declared.value.Value.TheVariants.{Empty, Text as TextValue, Number as NumberValue, Choice as ChoiceValue, User as UserValue, Date as DateValue, Set as SetValue, Labels as LabelsValue, Sprint as SprintValue}
use Rattle.field_forms.specs.declared.form.Form.{Form}
use Rattle.field_forms.specs.declared.form.Form.TheVariants.{Line, Prose, Number, Points, Choice, User, Set, Labels, Date, Sprint}
use Rattle.field_forms.specs.Names.{AreDistinct, place_named}
use Rattle.field_forms.specs.Numbers.{number_of, is_number}
use Rattle.civil_dates.specs.Reading.{day_of}
use Rattle.civil_dates.specs.DateText.{date_text}
use Rattle.civil_dates.proofs.Texts.{text_reads_back}
use Rattle.field_forms.specs.Values.{value_in, is_of_form}
use Rattle.field_forms.specs.Known.{Names, form_of, choices_of, value_of, fits_form, fits}
use Rattle.field_forms.specs.ValueTexts.{IsTextOf, IsReadBack}
use Rattle.field_forms.proofs.NumbersBack.{number_back}

got_at : (names : List (List ℕ)) (k : ℕ) (text : List ℕ) → slice_get names k ≡ Some text → (k < length names) × (get_or names k [] ≡ text)
got_at [] k text e = absurd (cc)
got_at (name ∷ names) zero text e = (omega arith, grind (arith, e))
got_at (name ∷ names) (suc k) text e =
    let rest = got_at names k text e in
    (omega (arith, rest.0), rest.1)

pub same_name : (name : List ℕ) → str_eq_ignore_ascii_case name name ≡ true
same_name name = (bytes_eq-Decides (str_to_ascii_lowercase name) (str_to_ascii_lowercase name)).1 refl

-- of distinct names, the first of a name is that one
pub place_is : (names : List (List ℕ)) (k : ℕ) (text : List ℕ) → AreDistinct names → Some text ≡ slice_get names k → place_named text names ≡ Some k
place_is names k text distinct got =
    let at = got_at names k text (sym got) in
    let there : position_or_len (λ other. str_eq_ignore_ascii_case other text) names ≡ k = position_or_len_is (λ other. str_eq_ignore_ascii_case other text) names k [] (omega (arith, at.0)) (λ j lt. subst (λ (t : List ℕ). str_eq_ignore_ascii_case (get_or names j []) t ≡ false) at.1 (distinct j k [] lt at.0)) (λ inside. subst (λ (t : List ℕ). str_eq_ignore_ascii_case t text ≡ true) (sym at.1) (same_name text)) in
    grind (arith, common_steps, there, at.0)

text_back : (form : Form) (names : List (List ℕ)) (t : List ℕ) → is_of_form form names (TextValue t) ≡ true → value_in form names t ≡ Some (TextValue t)
unfolding value_in
text_back (Line most) names t h = rw h refl
text_back (Prose most) names t h = rw h refl
text_back Number names t h = absurd (cc)
text_back Points names t h = absurd (cc)
text_back Choice names t h = absurd (cc)
text_back User names t h = absurd (cc)
text_back Set names t h = absurd (cc)
text_back Labels names t h = absurd (cc)
text_back Date names t h = absurd (cc)
text_back Sprint names t h = absurd (cc)

choice_back : (form : Form) (names : List (List ℕ)) (choice : ChoiceNo) (text : List ℕ) → AreDistinct names → is_of_form form names (ChoiceValue choice) ≡ true → Some text ≡ slice_get names choice.0 → value_in form names text ≡ Some (ChoiceValue choice)
unfolding value_in
choice_back Choice names choice text distinct h got = rw (place_is names choice.0 text distinct got) refl
choice_back (Line n) names choice text distinct h got = absurd (cc)
choice_back (Prose n) names choice text distinct h got = absurd (cc)
choice_back Number names choice text distinct h got = absurd (cc)
choice_back Points names choice text distinct h got = absurd (cc)
choice_back User names choice text distinct h got = absurd (cc)
choice_back Set names choice text distinct h got = absurd (cc)
choice_back Labels names choice text distinct h got = absurd (cc)
choice_back Date names choice text distinct h got = absurd (cc)
choice_back Sprint names choice text distinct h got = absurd (cc)

user_back : (form : Form) (names : List (List ℕ)) (user : UserNo) (text : List ℕ) → AreDistinct names → is_of_form form names (UserValue user) ≡ true → Some text ≡ slice_get names user.0 → value_in form names text ≡ Some (UserValue user)
unfolding value_in
user_back User names user text distinct h got = rw (place_is names user.0 text distinct got) refl
user_back (Line n) names user text distinct h got = absurd (cc)
user_back (Prose n) names user text distinct h got = absurd (cc)
user_back Number names user text distinct h got = absurd (cc)
user_back Points names user text distinct h got = absurd (cc)
user_back Choice names user text distinct h got = absurd (cc)
user_back Set names user text distinct h got = absurd (cc)
user_back Labels names user text distinct h got = absurd (cc)
user_back Date names user text distinct h got = absurd (cc)
user_back Sprint names user text distinct h got = absurd (cc)

date_back : (form : Form) (names : List (List ℕ)) (day : DayNo) (text : List ℕ) → is_of_form form names (DateValue day) ≡ true → text ≡ date_text day.0 → value_in form names text ≡ Some (DateValue day)
unfolding value_in
date_back Date names day text h is =
    let read : day_of text ≡ Some day.0 = ap day_of is ∙ text_reads_back day.0 h in
    rw read refl
date_back (Line n) names day text h is = absurd (cc)
date_back (Prose n) names day text h is = absurd (cc)
date_back Number names day text h is = absurd (cc)
date_back Points names day text h is = absurd (cc)
date_back Choice names day text h is = absurd (cc)
date_back User names day text h is = absurd (cc)
date_back Set names day text h is = absurd (cc)
date_back Labels names day text h is = absurd (cc)
date_back Sprint names day text h is = absurd (cc)

number_read : (form : Form) (names : List (List ℕ)) (z : ℤ) (text : List ℕ) → is_of_form form names (NumberValue z) ≡ true → number_of text ≡ Some z → value_in form names text ≡ Some (NumberValue z)
unfolding value_in
number_read Number names z text h read = rw read refl
number_read Points names z text h read =
    let parts = and_parts (int_le (pos 0) z) (is_number z) h in
    rw (read, parts.0) refl
number_read (Line n) names z text h read = absurd (cc)
number_read (Prose n) names z text h read = absurd (cc)
number_read Choice names z text h read = absurd (cc)
number_read User names z text h read = absurd (cc)
number_read Set names z text h read = absurd (cc)
number_read Labels names z text h read = absurd (cc)
number_read Date names z text h read = absurd (cc)
number_read Sprint names z text h read = absurd (cc)

number_small : (form : Form) (names : List (List ℕ)) (z : ℤ) → is_of_form form names (NumberValue z) ≡ true → is_number z ≡ true
number_small Number names z h = h
number_small Points names z h = (and_parts (int_le (pos 0) z) (is_number z) h).1
number_small (Line n) names z h = absurd (cc)
number_small (Prose n) names z h = absurd (cc)
number_small Choice names z h = absurd (cc)
number_small User names z h = absurd (cc)
number_small Set names z h = absurd (cc)
number_small Labels names z h = absurd (cc)
number_small Date names z h = absurd (cc)
number_small Sprint names z h = absurd (cc)

-- in a field of a form
form_back : (n : ℕ) (form : Form) (names : List (List ℕ)) (value : Value) (text : List ℕ) → AreDistinct names → fits_form n names value form ≡ true → IsTextOf names value text → IsReadBack value → value_in form names text ≡ Some value
form_back n form names (TextValue t) text distinct fit is may = subst (λ (s : List ℕ). value_in form names s ≡ Some (TextValue t)) (sym is) (text_back form names t fit)
form_back n form names (NumberValue z) text distinct fit is may =
    let back : number_of text ≡ Some z = ap number_of is ∙ number_back z (number_small form names z fit) in
    number_read form names z text fit back
form_back n form names (ChoiceValue choice) text distinct fit is may = choice_back form names choice text distinct fit is
form_back n form names (UserValue user) text distinct fit is may = user_back form names user text distinct fit is
form_back n form names (DateValue day) text distinct fit is may = date_back form names day text fit is
form_back n form names Empty text distinct fit is may = absurd may
form_back n form names (SetValue cs) text distinct fit is may = absurd may
form_back n form names (LabelsValue ls) text distinct fit is may = absurd may
form_back n form names (SprintValue s) text distinct fit is may = absurd may

-- the text of a value that fits a field stands for that value there
pub value_back : (names : Names) (n : ℕ) (value : Value) (text : List ℕ) → AreDistinct (choices_of names n) → fits names n value ≡ true → IsTextOf (choices_of names n) value text → IsReadBack value → value_of names n text ≡ Some value
unfolding fits value_of
value_back names n value text distinct fit is may = by_form (form_of names.fields n) refl fit where
  by_form : (form : Option Form) → form_of names.fields n ≡ form → option_map_or (fits_form n (choices_of names n) value) form false ≡ true → option_and_then (λ f. value_in f (choices_of names n) text) (form_of names.fields n) ≡ Some value
  by_form None f h = absurd (cc)
  by_form (Some form) f h = rw f (form_back n form (choices_of names n) value text distinct h is may)

-- the same of a text that was made
pub texts_read_back : {E : Type 0} (names : Names) (n : ℕ) (value : Value) (r : Result (List ℕ) E) → fits names n value ≡ true → IfOk r (IsTextOf (choices_of names n) value) → AreDistinct (choices_of names n) → IsReadBack value → IfOk r (λ text. value_of names n text ≡ Some value)
texts_read_back names n value (Err e) fit is distinct may = tt
texts_read_back names n value (Ok text) fit is distinct may = value_back names n value text distinct fit is may
