-- A value that a post function sets is read back from its text.
use Rattle.std.proofs.Common.{◌≡◌, ℕ, ◌+◌, ◌==◌, List, [], ◌∷◌, map, Bool, true, false, Option, Some, None, option_map, option_and_then, refl, ap, sym, ◌∙◌, arith, inl, inr, if◌then◌else◌, codes}
use Rattle.std.proofs.lemmas.Bool.{cases_Bool}
use Rattle.std.proofs.lemmas.Option.{slice_get-get_or, unwrap_or-slice_get}
use Rattle.serde_json.proofs.OnLiterals.{serde_json_on_literals}
use Rattle.serde_json.specs.Data.{string}
use Rattle.serde_json.specs.View.{items_of}
use Rattle.field_values.specs.declared.field.Field.{Field}
use Rattle.field_values.specs.declared.words.FieldKind.{FieldKind}
use Rattle.field_values.specs.declared.words.FieldKind.TheVariants as kind
use Rattle.field_values.specs.declared.numbers.ChoiceNo.{ChoiceNo}
use Rattle.field_values.specs.declared.numbers.SprintNo.{SprintNo}
use Rattle.field_values.specs.declared.numbers.TheConstants.FieldNo as number
use Rattle.field_values.specs.declared.value.Value.{Value}
use Rattle.field_values.specs.declared.value.Value.TheVariants as value
use Rattle.field_forms.specs.declared.form.Form.{Form}
use Rattle.field_forms.specs.declared.form.Form.TheVariants as form
use Rattle.field_forms.specs.Names.{AreDistinct}
use Rattle.field_forms.specs.TextLists.{all_texts, texts_of, texts_in, texts_data, array_text}
use Rattle.field_forms.specs.Values.{chosen, value_in, listed_set, listed_labels, listed_in}
use Rattle.field_forms.specs.Known.{Names, form_by, form_of, own_field, choices_of, value_of, listed_value_of, fits}
use Rattle.field_forms.specs.Rules.{is_settable}
use Rattle.field_forms.specs.ValueTexts.{IsTextOf, IsInside, IsReadBack, chosen_names}
use Rattle.field_forms.proofs.Fits.{may_stand_for_nothing, is_of_form_or_nothing, read_formed, read_fits}
use Rattle.field_forms.proofs.Fitting.{fits_says}
use Rattle.field_forms.proofs.RoundTrip.{value_back}
use Rattle.field_forms.proofs.ListsBack.{listed_back}
use Rattle.tracker_keeper.proofs.Clean.{reads_clean, clean_texts}
use Rattle.rule_texts.specs.RuleTexts.{value_text}

-- ---- values that aren't lists

text_tells : (names : List (List ℕ)) (v : Value) → IsReadBack v → IsInside names v → IsTextOf names v (value_text names v)
text_tells names (value.Text t) may inside = refl
text_tells names (value.Number z) may inside = refl
text_tells names (value.Choice choice) may inside =
    ap Some (unwrap_or-slice_get names choice.0 []) ∙ sym (slice_get-get_or names choice.0 [] inside)
text_tells names (value.User user) may inside =
    ap Some (unwrap_or-slice_get names user.0 []) ∙ sym (slice_get-get_or names user.0 [] inside)
text_tells names (value.Date day) may inside = refl
text_tells names value.Empty may inside = absurd may
text_tells names (value.Set choices) may inside = absurd may
text_tells names (value.Labels labels) may inside = absurd may
text_tells names (value.Sprint sprint) may inside = absurd may

-- ---- lists

again : (texts : List (List ℕ)) → all_texts (items_of (map string texts)) ≡ Some texts
again [] = refl
again (text ∷ texts) = rw (again texts) refl

texts_back : (texts : List (List ℕ)) → texts_in (array_text texts) ≡ Some texts
unfolding texts_in array_text
texts_back texts = ap (option_and_then texts_of) (reads_clean 1 (texts_data texts) (clean_texts 0 texts) (omega arith)) ∙ again texts

no_texts : array_text [] ≡ codes "[]"
unfolding array_text serde_json_on_literals
no_texts = refl

none_chosen : (place : ℕ) (names : List (List ℕ)) → chosen place names [] ≡ []
none_chosen place [] = refl
none_chosen place (name ∷ names) = none_chosen (place + 1) names

-- where the text of a field may stand for nothing, an array of texts is read as the list of them
as_list : (f : Form) (names texts : List (List ℕ)) → may_stand_for_nothing f ≡ true → value_in f names (array_text texts) ≡ listed_in f names texts
unfolding value_in
as_list form.Set names texts may = ap (option_and_then (listed_set names)) (texts_back texts)
as_list form.Labels names texts may = ap (option_and_then listed_labels) (texts_back texts)
as_list (form.Line most) names texts may = absurd (cc)
as_list (form.Prose most) names texts may = absurd (cc)
as_list form.Number names texts may = absurd (cc)
as_list form.Points names texts may = absurd (cc)
as_list form.Choice names texts may = absurd (cc)
as_list form.User names texts may = absurd (cc)
as_list form.Date names texts may = absurd (cc)
as_list form.Sprint names texts may = absurd (cc)

nothing_listed : (f : Form) (names : List (List ℕ)) → may_stand_for_nothing f ≡ true → listed_in f names [] ≡ Some value.Empty
nothing_listed form.Set names may = rw (none_chosen 0 names) refl
nothing_listed form.Labels names may = refl
nothing_listed (form.Line most) names may = absurd (cc)
nothing_listed (form.Prose most) names may = absurd (cc)
nothing_listed form.Number names may = absurd (cc)
nothing_listed form.Points names may = absurd (cc)
nothing_listed form.Choice names may = absurd (cc)
nothing_listed form.User names may = absurd (cc)
nothing_listed form.Date names may = absurd (cc)
nothing_listed form.Sprint names may = absurd (cc)

sets_stand : (f : Form) (names : List (List ℕ)) (choices : List ChoiceNo) → is_of_form_or_nothing f names (value.Set choices) ≡ true → may_stand_for_nothing f ≡ true
sets_stand form.Set names choices formed = refl
sets_stand form.Labels names choices formed = refl
sets_stand (form.Line most) names choices formed = absurd (cc)
sets_stand (form.Prose most) names choices formed = absurd (cc)
sets_stand form.Number names choices formed = absurd (cc)
sets_stand form.Points names choices formed = absurd (cc)
sets_stand form.Choice names choices formed = absurd (cc)
sets_stand form.User names choices formed = absurd (cc)
sets_stand form.Date names choices formed = absurd (cc)
sets_stand form.Sprint names choices formed = absurd (cc)

labels_stand : (f : Form) (names labels : List (List ℕ)) → is_of_form_or_nothing f names (value.Labels labels) ≡ true → may_stand_for_nothing f ≡ true
labels_stand form.Set names labels formed = refl
labels_stand form.Labels names labels formed = refl
labels_stand (form.Line most) names labels formed = absurd (cc)
labels_stand (form.Prose most) names labels formed = absurd (cc)
labels_stand form.Number names labels formed = absurd (cc)
labels_stand form.Points names labels formed = absurd (cc)
labels_stand form.Choice names labels formed = absurd (cc)
labels_stand form.User names labels formed = absurd (cc)
labels_stand form.Date names labels formed = absurd (cc)
labels_stand form.Sprint names labels formed = absurd (cc)

-- ---- no post function sets a sprint

sprint_form : (f : Form) (names : List (List ℕ)) (sprint : SprintNo) → is_of_form_or_nothing f names (value.Sprint sprint) ≡ true → f ≡ form.Sprint
sprint_form form.Sprint names sprint formed = refl
sprint_form form.Set names sprint formed = absurd (cc)
sprint_form form.Labels names sprint formed = absurd (cc)
sprint_form (form.Line most) names sprint formed = absurd (cc)
sprint_form (form.Prose most) names sprint formed = absurd (cc)
sprint_form form.Number names sprint formed = absurd (cc)
sprint_form form.Points names sprint formed = absurd (cc)
sprint_form form.Choice names sprint formed = absurd (cc)
sprint_form form.User names sprint formed = absurd (cc)
sprint_form form.Date names sprint formed = absurd (cc)

passed : (test : Bool) (f : Form) (rest : Option Form) → (f ≡ form.Sprint → ⊥) → (rest ≡ Some form.Sprint → ⊥) → (if test then Some f else rest) ≡ Some form.Sprint → ⊥
passed true f rest here later e = here (cc)
passed false f rest here later e = later e

own_is_none : (own : Option Field) → option_map (λ g. form_by g.kind) own ≡ Some form.Sprint → ⊥
own_is_none None e = cc
own_is_none (Some g) e = by g.kind (cc) where
  by : (k : FieldKind) → form_by k ≡ form.Sprint → ⊥
  by kind.Text is = cc
  by kind.Number is = cc
  by kind.Choice is = cc
  by kind.User is = cc
  by kind.Date is = cc

-- where the sprint is none of it
last : (test : Bool) (own : Option Field) → test ≡ false → (if test then Some form.Sprint else option_map (λ g. form_by g.kind) own) ≡ Some form.Sprint → ⊥
last true own is e = absurd (cc)
last false own is e = own_is_none own e

no_sprint : (fields : List Field) (n : ℕ) → (n == number.SPRINT.0) ≡ false → form_of fields n ≡ Some form.Sprint → ⊥
unfolding form_of
no_sprint fields n other is =
    passed _ form.Choice _ (λ e. cc) (passed _ (form.Line 255) _ (λ e. cc) (passed _ (form.Prose 4096) _ (λ e. cc) (passed _ form.User _ (λ e. cc)
    (passed _ form.Set _ (λ e. cc) (passed _ form.Labels _ (λ e. cc) (passed _ form.Date _ (λ e. cc) (passed _ form.Points _ (λ e. cc)
    (last (n == number.SPRINT.0) (own_field fields n) other)))))))) is

settable_is_no_sprint : (n : ℕ) → is_settable n ≡ true → (n == number.SPRINT.0) ≡ false
settable_is_no_sprint n may = elim (cases_Bool (n == number.SPRINT.0)) [
  | inl sprint ↦ absurd (grind (arith, sprint, may))
  | inr other ↦ other
]

-- ---- all values

-- what a text stands for in a field that may be set is what its one text stands for there
pub told_value : (names : Names) (n : ℕ) (text : List ℕ) (v : Value) → AreDistinct (choices_of names n) → is_settable n ≡ true → value_of names n text ≡ Some v
    → value_of names n (value_text (choices_of names n) v) ≡ Some v
unfolding value_of listed_value_of
told_value names n text v distinct may is = by (form_of names.fields n) refl is where
  plain : (v : Value) → IsReadBack v → fits names n v ≡ true → value_of names n (value_text (choices_of names n) v) ≡ Some v
  plain v back fit = value_back names n v (value_text (choices_of names n) v) distinct fit (text_tells (choices_of names n) v back (fits_says names n v fit)) back

  by_value : (f : Form) → form_of names.fields n ≡ Some f → (v : Value) → fits names n v ≡ true → is_of_form_or_nothing f (choices_of names n) v ≡ true
      → value_of names n (value_text (choices_of names n) v) ≡ Some v
  by_value f here (value.Text t) fit formed = plain (value.Text t) tt fit
  by_value f here (value.Number z) fit formed = plain (value.Number z) tt fit
  by_value f here (value.Choice choice) fit formed = plain (value.Choice choice) tt fit
  by_value f here (value.User user) fit formed = plain (value.User user) tt fit
  by_value f here (value.Date day) fit formed = plain (value.Date day) tt fit
  by_value f here value.Empty fit formed =
      rw here (ap (value_in f (choices_of names n)) (sym no_texts) ∙ as_list f (choices_of names n) [] formed ∙ nothing_listed f (choices_of names n) formed)
  by_value f here (value.Set choices) fit formed =
      let texts : List (List ℕ) = chosen_names (choices_of names n) choices in
      let listed : listed_value_of names n texts ≡ Some (value.Set choices) = listed_back names n (value.Set choices) texts distinct fit refl in
      let there : listed_in f (choices_of names n) texts ≡ Some (value.Set choices) = rw here at listed in
      rw here (as_list f (choices_of names n) texts (sets_stand f (choices_of names n) choices formed) ∙ there)
  by_value f here (value.Labels labels) fit formed =
      let listed : listed_value_of names n labels ≡ Some (value.Labels labels) = listed_back names n (value.Labels labels) labels distinct fit refl in
      let there : listed_in f (choices_of names n) labels ≡ Some (value.Labels labels) = rw here at listed in
      rw here (as_list f (choices_of names n) labels (labels_stand f (choices_of names n) labels formed) ∙ there)
  by_value f here (value.Sprint sprint) fit formed =
      absurd (no_sprint names.fields n (settable_is_no_sprint n may) (here ∙ ap Some (sprint_form f (choices_of names n) sprint formed)))

  by : (o : Option Form) → form_of names.fields n ≡ o → option_and_then (λ f. value_in f (choices_of names n) text) o ≡ Some v
      → value_of names n (value_text (choices_of names n) v) ≡ Some v
  by None here e = absurd (cc)
  by (Some f) here e = by_value f here v (read_fits names n text v is) (read_formed f (choices_of names n) text v e)
