-- The value that a text stands for in a field is one that the field may hold.
use Rattle.std.proofs.Common.{◌≡◌, ℕ, ◌+◌, ◌<◌, ◌≤◌, ◌==◌, List, [], ◌∷◌, length, Bool, true, false, ◌||◌, nat_le, Option, Some, None, option_map, option_and_then, refl, arith, inl, inr, ℤ, pos, int_le, sym, Result, Ok, Err, subst, if◌then◌else◌}
use Rattle.std.specs.Prelude.{IfOk, IfSome}
use Rattle.std.specs.List.{list_all}
use Rattle.std.specs.Option.{option_map_or}
use Rattle.std.specs.Str.{str_eq_ignore_ascii_case}
use Rattle.std.proofs.lemmas.Bool.{cases_Bool, and_parts}
use Rattle.std.proofs.lemmas.Grind.{common_steps}
use Rattle.std.proofs.lemmas.List.Quantifiers.{position-Some}
use Rattle.field_values.specs.declared.field.Field.{Field}
use Rattle.field_values.specs.declared.words.FieldKind.{FieldKind}
use Rattle.field_values.specs.declared.words.FieldKind.TheVariants as kind
use Rattle.field_values.specs.declared.numbers.TheConstants.FieldNo as number
use Rattle.field_values.specs.declared.numbers.ChoiceNo.{ChoiceNo}
use Rattle.field_values.specs.declared.value.Value.{Value}
use Rattle.field_values.specs.declared.value.Value.TheVariants.{Empty, Text as TextValue, Number as NumberValue, Choice as ChoiceValue, User as UserValue, Date as DateValue, Set as SetValue, Labels as LabelsValue, Sprint as SprintValue}
use Rattle.field_forms.specs.declared.form.Form.{Form}
use Rattle.field_forms.specs.declared.form.Form.TheVariants.{Line, Prose, Number, Points, Choice, User, Set, Labels, Date, Sprint}
use Rattle.field_forms.specs.Names.{is_among, place_named}
use Rattle.field_forms.specs.Numbers.{number_of, is_number}
use Rattle.civil_dates.specs.Reading.{day_of}
use Rattle.field_forms.specs.TextLists.{texts_in}
use Rattle.field_forms.specs.Values.{is_line, is_prose, is_label, is_label_list, are_labels, with_labels, labels_value, chosen, set_value, is_set, sprint_of, value_in, listed_in, is_of_form}
use Rattle.field_forms.specs.Known.{Names, form_by, form_of, choices_of, value_of, listed_value_of, may_be_empty, fits_form, fits}
use Rattle.field_forms.proofs.Sizes.{written_number}
use Rattle.civil_dates.proofs.Texts.{read_is_text}
use Rattle.field_forms.proofs.Labels.{all_in_order, all_short}

-- a form whose text may stand for nothing
abbrev pub may_stand_for_nothing : Form → Bool
may_stand_for_nothing Set = true
may_stand_for_nothing Labels = true
may_stand_for_nothing _ = false

-- it has the form, or is empty where that may be
abbrev pub is_of_form_or_nothing : Form → List (List ℕ) → Value → Bool
is_of_form_or_nothing form names Empty = may_stand_for_nothing form
is_of_form_or_nothing form names value = is_of_form form names value

-- the first of the choices, if there is one, is not before a place
unfoldable pub starts_at : ℕ → List ChoiceNo → Bool
starts_at place [] = true
starts_at place (choice ∷ choices) = nat_le place choice.0

starts_before : (place : ℕ) (choices : List ChoiceNo) → starts_at (place + 1) choices ≡ true → starts_at place choices ≡ true
unfolding starts_at
starts_before place [] h = refl
starts_before place (choice ∷ choices) h = grind (arith, h)

chosen_start : (place : ℕ) (names texts : List (List ℕ)) → starts_at place (chosen place names texts) ≡ true
unfolding starts_at
chosen_start place [] texts = refl
chosen_start place (name ∷ names) texts = elim (cases_Bool (is_among texts name)) [
  | inl named ↦ rw named (grind arith)
  | inr other ↦ rw other (starts_before place (chosen (place + 1) names texts) (chosen_start (place + 1) names texts))
]

-- one more choice before those of a list
one_before : (count place : ℕ) (choices : List ChoiceNo) → is_set count choices ≡ true → starts_at (place + 1) choices ≡ true → place < count → is_set count (record { 0 = place } ∷ choices) ≡ true
unfolding starts_at
one_before count place [] rising start inside = grind (arith, inside)
one_before count place (choice ∷ choices) rising start inside = grind (arith, rising, start)

-- the chosen ones are some of the names, in their order and each once
pub chosen_inside : (count place : ℕ) (names texts : List (List ℕ)) → place + length names ≡ count → is_set count (chosen place names texts) ≡ true
chosen_inside count place [] texts sum = refl
chosen_inside count place (name ∷ names) texts sum =
    let rest : is_set count (chosen (place + 1) names texts) ≡ true = chosen_inside count (place + 1) names texts (omega arith) in
    elim (cases_Bool (is_among texts name)) [
      | inl named ↦ rw named (one_before count place (chosen (place + 1) names texts) rest (chosen_start (place + 1) names texts) (omega arith))
      | inr other ↦ rw other rest
    ]

set_fits : (names : List (List ℕ)) (choices : List ChoiceNo) → is_set (length names) choices ≡ true → is_of_form_or_nothing Set names (set_value choices) ≡ true
set_fits names [] inside = refl
set_fits names (choice ∷ choices) inside = grind (arith, inside)

labels_fit : (names labels : List (List ℕ)) → is_label_list labels ≡ true → length labels ≤ 16 → is_of_form_or_nothing Labels names (labels_value labels) ≡ true
labels_fit names [] ordered short = refl
labels_fit names (label ∷ labels) ordered short = grind (arith, ordered, short)

pub named_inside : (names : List (List ℕ)) (name : List ℕ) (place : ℕ) → place_named name names ≡ Some place → place < length names
named_inside names name place e =
    let found = position-Some (λ other. str_eq_ignore_ascii_case other name) names place [] e in
    found.0

-- the same of a value that is the same
same_formed : (form : Form) (names : List (List ℕ)) (v value : Value) → v ≡ value → is_of_form_or_nothing form names v ≡ true → is_of_form_or_nothing form names value ≡ true
same_formed form names v value same h = subst (λ (x : Value). is_of_form_or_nothing form names x ≡ true) same h

points_fit : (names : List (List ℕ)) (number : Option ℤ) (value : Value) → ((z : ℤ) → number ≡ Some z → is_number z ≡ true) → option_and_then (λ z. if int_le (pos 0) z then Some (NumberValue z) else None) number ≡ Some value → is_of_form_or_nothing Points names value ≡ true
points_fit names None value known e = absurd (cc)
points_fit names (Some z) value known e = elim (cases_Bool (int_le (pos 0) z)) [
  | inl from_zero ↦
      let small : is_number z ≡ true = known z refl in
      same_formed Points names (NumberValue z) value (grind (arith, from_zero, e)) (grind (arith, from_zero, small))
  | inr negative ↦ absurd (grind (arith, negative, e))
]

set_read : (names : List (List ℕ)) (texts : Option (List (List ℕ))) (value : Value) → option_and_then (λ ts. if list_all (is_among names) ts then Some (set_value (chosen 0 names ts)) else None) texts ≡ Some value → is_of_form_or_nothing Set names value ≡ true
set_read names None value e = absurd (cc)
set_read names (Some texts) value e = elim (cases_Bool (list_all (is_among names) texts)) [
  | inl known ↦ same_formed Set names (set_value (chosen 0 names texts)) value (grind (arith, known, e)) (set_fits names (chosen 0 names texts) (chosen_inside (length names) 0 names texts (omega arith)))
  | inr other ↦ absurd (grind (arith, other, e))
]

labels_read : (names : List (List ℕ)) (texts : Option (List (List ℕ))) (value : Value) → option_and_then (λ ts. if are_labels ts then Some (labels_value (with_labels [] ts)) else None) texts ≡ Some value → is_of_form_or_nothing Labels names value ≡ true
labels_read names None value e = absurd (cc)
labels_read names (Some texts) value e = elim (cases_Bool (are_labels texts)) [
  | inl formed ↦
      let parts = and_parts (nat_le (length texts) 16) (list_all is_label texts) formed in
      let few : length texts ≤ 16 = grind (arith, parts.0) in
      let short : length (with_labels [] texts) ≤ 0 + length texts = all_short [] texts parts.1 refl in
      same_formed Labels names (labels_value (with_labels [] texts)) value (grind (arith, formed, e)) (labels_fit names (with_labels [] texts) (all_in_order [] texts parts.1 refl) (omega (arith, short, few)))
  | inr other ↦ absurd (grind (arith, other, e))
]

-- what an option holds, under a function that makes a value
module _ {X : Type 0} (make : X → Value) where
  made : (found : Option X) (value : Value) → option_map make found ≡ Some value → (x : X) → found ≡ Some x → make x ≡ value
  made None value e x s = absurd (cc)
  made (Some y) value e x s = cc

-- what a text of a form stands for has the form
pub read_formed : (form : Form) (names : List (List ℕ)) (text : List ℕ) (value : Value) → value_in form names text ≡ Some value → is_of_form_or_nothing form names value ≡ true
unfolding value_in
read_formed (Line most) names text value e = elim (cases_Bool (is_line most text)) [
  | inl formed ↦ same_formed (Line most) names (TextValue text) value (grind (arith, formed, e)) formed
  | inr other ↦ absurd (grind (arith, other, e))
]
read_formed (Prose most) names text value e = elim (cases_Bool (is_prose most text)) [
  | inl formed ↦ same_formed (Prose most) names (TextValue text) value (grind (arith, formed, e)) formed
  | inr other ↦ absurd (grind (arith, other, e))
]
read_formed Number names text value e = by_number (number_of text) refl e where
  by_number : (number : Option ℤ) → number_of text ≡ number → option_map NumberValue number ≡ Some value → is_of_form_or_nothing Number names value ≡ true
  by_number None n is = absurd (cc)
  by_number (Some z) n is = same_formed Number names (NumberValue z) value (cc) (written_number text z n)
read_formed Points names text value e = points_fit names (number_of text) value (written_number text) e
read_formed Choice names text value e = by_place (place_named text names) refl e where
  by_place : (place : Option ℕ) → place_named text names ≡ place → option_map (λ k. ChoiceValue (record { 0 = k })) place ≡ Some value → is_of_form_or_nothing Choice names value ≡ true
  by_place None p is = absurd (cc)
  by_place (Some k) p is =
      let inside : k < length names = named_inside names text k p in
      same_formed Choice names (ChoiceValue (record { 0 = k })) value (cc) (grind (arith, inside))
read_formed User names text value e = by_place (place_named text names) refl e where
  by_place : (place : Option ℕ) → place_named text names ≡ place → option_map (λ k. UserValue (record { 0 = k })) place ≡ Some value → is_of_form_or_nothing User names value ≡ true
  by_place None p is = absurd (cc)
  by_place (Some k) p is =
      let inside : k < length names = named_inside names text k p in
      same_formed User names (UserValue (record { 0 = k })) value (cc) (grind (arith, inside))
read_formed Set names text value e = set_read names (texts_in text) value e
read_formed Labels names text value e = labels_read names (texts_in text) value e
read_formed Date names text value e = by_day (day_of text) refl e where
  by_day : (day : Option ℤ) → day_of text ≡ day → option_map (λ d. DateValue (record { 0 = d })) day ≡ Some value → is_of_form_or_nothing Date names value ≡ true
  by_day None d is = absurd (cc)
  by_day (Some day) d is = same_formed Date names (DateValue (record { 0 = day })) value (cc) ((read_is_text text day d).0)
read_formed Sprint names text value e = by_sprint (sprint_of text) refl e where
  by_sprint : (sprint : Option ℕ) → sprint_of text ≡ sprint → option_map (λ n. SprintValue (record { 0 = n })) sprint ≡ Some value → is_of_form_or_nothing Sprint names value ≡ true
  by_sprint None s is = absurd (cc)
  by_sprint (Some n) s is = same_formed Sprint names (SprintValue (record { 0 = n })) value (cc) refl

-- no field of the setup's own holds a set or labels
own_form : (k : FieldKind) → may_stand_for_nothing (form_by k) ≡ false
own_form kind.Text = refl
own_form kind.Number = refl
own_form kind.Choice = refl
own_form kind.User = refl
own_form kind.Date = refl

-- type, summary and status aren't sets or labels
may_be_nothing : (fields : List Field) (n : ℕ) (form : Form) → form_of fields n ≡ Some form → may_stand_for_nothing form ≡ true → may_be_empty n ≡ true
unfolding form_of
may_be_nothing fields n form e h = elim (cases_Bool ((n == number.TYPE.0) || (n == number.SUMMARY.0) || (n == number.STATUS.0))) [
  | inl named ↦ absurd (grind (arith, common_steps, named, e, h))
  | inr other ↦ grind (arith, other)
]

formed_fits : (n : ℕ) (names : List (List ℕ)) (form : Form) (value : Value) → (may_stand_for_nothing form ≡ true → may_be_empty n ≡ true) → is_of_form_or_nothing form names value ≡ true → fits_form n names value form ≡ true
formed_fits n names form Empty empty h = empty h
formed_fits n names form (TextValue t) empty h = h
formed_fits n names form (NumberValue z) empty h = h
formed_fits n names form (ChoiceValue k) empty h = h
formed_fits n names form (UserValue k) empty h = h
formed_fits n names form (DateValue d) empty h = h
formed_fits n names form (SetValue cs) empty h = h
formed_fits n names form (LabelsValue ls) empty h = h
formed_fits n names form (SprintValue s) empty h = h

-- what a text stands for in a field fits the field
pub read_fits : (names : Names) (n : ℕ) (text : List ℕ) (value : Value) → value_of names n text ≡ Some value → fits names n value ≡ true
unfolding value_of fits
read_fits names n text value e = by_form (form_of names.fields n) refl e where
  by_form : (form : Option Form) → form_of names.fields n ≡ form → option_and_then (λ f. value_in f (choices_of names n) text) form ≡ Some value → option_map_or (fits_form n (choices_of names n) value) (form_of names.fields n) false ≡ true
  by_form None f is = absurd (cc)
  by_form (Some form) f is =
      let formed : is_of_form_or_nothing form (choices_of names n) value ≡ true = read_formed form (choices_of names n) text value is in
      let fit : fits_form n (choices_of names n) value form ≡ true = formed_fits n (choices_of names n) form value (may_be_nothing names.fields n form f) formed in
      rw f fit

-- the same of a reading that has succeeded
pub read_values_fit : {E : Type 0} (names : Names) (n : ℕ) (text : List ℕ) (r : Result (Option Value) E) → IfOk r (λ value. value ≡ value_of names n text) → IfOk r (λ value. IfSome value (λ v. fits names n v ≡ true))
read_values_fit names n text (Err e) h = tt
read_values_fit names n text (Ok None) h = tt
read_values_fit names n text (Ok (Some value)) h = read_fits names n text value (sym h)

-- what a list of texts stands for in a field of a form has the form
listed_formed : (form : Form) (names texts : List (List ℕ)) (value : Value) → listed_in form names texts ≡ Some value → is_of_form_or_nothing form names value ≡ true
listed_formed Set names texts value e = set_read names (Some texts) value e
listed_formed Labels names texts value e = labels_read names (Some texts) value e
listed_formed (Line most) names texts value e = absurd (cc)
listed_formed (Prose most) names texts value e = absurd (cc)
listed_formed Number names texts value e = absurd (cc)
listed_formed Points names texts value e = absurd (cc)
listed_formed Choice names texts value e = absurd (cc)
listed_formed User names texts value e = absurd (cc)
listed_formed Date names texts value e = absurd (cc)
listed_formed Sprint names texts value e = absurd (cc)

-- what a list of texts stands for in a field fits the field
pub listed_fits : (names : Names) (n : ℕ) (texts : List (List ℕ)) (value : Value) → listed_value_of names n texts ≡ Some value → fits names n value ≡ true
unfolding listed_value_of fits
listed_fits names n texts value e = by_form (form_of names.fields n) refl e where
  by_form : (form : Option Form) → form_of names.fields n ≡ form → option_and_then (λ f. listed_in f (choices_of names n) texts) form ≡ Some value → option_map_or (fits_form n (choices_of names n) value) (form_of names.fields n) false ≡ true
  by_form None f is = absurd (cc)
  by_form (Some form) f is =
      let formed : is_of_form_or_nothing form (choices_of names n) value ≡ true = listed_formed form (choices_of names n) texts value is in
      let fit : fits_form n (choices_of names n) value form ≡ true = formed_fits n (choices_of names n) form value (may_be_nothing names.fields n form f) formed in
      rw f fit

-- the same of a reading that has succeeded
pub listed_values_fit : {E : Type 0} (names : Names) (n : ℕ) (texts : List (List ℕ)) (r : Result (Option Value) E) → IfOk r (λ value. value ≡ listed_value_of names n texts) → IfOk r (λ value. IfSome value (λ v. fits names n v ≡ true))
listed_values_fit names n texts (Err e) h = tt
listed_values_fit names n texts (Ok None) h = tt
listed_values_fit names n texts (Ok (Some value)) h = listed_fits names n texts value (sym h)
