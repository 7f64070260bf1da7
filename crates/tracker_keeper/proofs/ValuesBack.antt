-- What a body tells of a value is read as that value, and what is read may be held.
use Rattle.std.proofs.Common.{◌≡◌, ℕ, zero, suc, ◌<◌, ◌^◌, ◌&&◌, option_map, Bool, true, false, List, [], ◌∷◌, length, map, Option, Some, None, if◌then◌else◌, is_some, slice_get, nat_lt, refl, sym, ap, subst, ◌∙◌, arith, unwrap_or, ltb-true, le-leb}
use Rattle.std.specs.List.{All, list_all}
use Rattle.std.specs.Option.{option_and_then, option_map_or}
use Rattle.std.proofs.lemmas.Bool.{and_parts}
use Rattle.std.proofs.lemmas.Option.{cond_some, none-some, same_Some, option_and_then_some, slice_get-get_or}
use Rattle.field_values.specs.declared.value.Value.{Value}
use Rattle.field_values.specs.declared.value.Value.TheVariants as value
use Rattle.field_values.specs.declared.field.Field.{Field}
use Rattle.field_values.specs.Parts.{Parts}
use Rattle.field_values.specs.declared.words.FieldKind.{FieldKind}
use Rattle.field_values.specs.declared.words.FieldKind.TheVariants as kind
use Rattle.field_forms.specs.declared.form.Form.{Form}
use Rattle.field_forms.specs.Names.{AreDistinct}
use Rattle.field_forms.specs.Known.{Names, has_few_options, form_of, field_named, choices_of, value_of, listed_value_of, fits, fits_form}
use Rattle.field_forms.specs.SoundRules.{is_field}
use Rattle.field_forms.specs.TextLists.{all_texts, texts_of}
use Rattle.field_forms.specs.ValueTexts.{chosen_names}
use Rattle.field_forms.proofs.Fits.{read_fits, listed_fits}
use Rattle.field_forms.proofs.Fitting.{fits_says}
use Rattle.field_forms.proofs.ListsBack.{listed_back}
use Rattle.field_forms.proofs.RoundTrip.{value_back}
use Rattle.fields.specs.Naming.{name_at, field_name}
use Rattle.fields.specs.Sound.{HasOptions, IsSound}
use Rattle.fields.proofs.FieldNames.{fields_are_found}
use Rattle.serde_json.specs.Data.{Data, string}
use Rattle.serde_json.specs.Find.{as_null, as_str}
use Rattle.serde_json.specs.View.{items_of}
use Rattle.tracker_keeper.specs.Forms.{is_small, is_filled, may_hold}
use Rattle.tracker_keeper.specs.Looking.{natural_of}
use Rattle.tracker_keeper.specs.LookingAtValues.{unless_sprint, told_by, value_like, unless_empty, filled_like, field_in}
use Rattle.tracker_keeper.specs.ValueData.{value_data}
use Rattle.tracker_keeper.proofs.Clean.{IsClean, clean_texts}

-- ---- reading back

texts_back : (texts : List (List ℕ)) → all_texts (items_of (map string texts)) ≡ Some texts
texts_back [] = refl
texts_back (text ∷ texts) = rw (texts_back texts) refl

-- the name of a choice that is there
spelled : (names : List (List ℕ)) (place : ℕ) → place < length names → Some (name_at names place) ≡ slice_get names place
spelled names place inside =
    let there = slice_get-get_or names place [] inside in
    ap (λ o. Some (unwrap_or o [])) there ∙ sym there

-- of a value that may be held, and isn't empty
fitting : (fit small : Bool) → (fit && small) ≡ true → fit ≡ true
fitting fit small h = (and_parts fit small h).0

pub value_found : (names : Names) (n : ℕ) (v : Value) → AreDistinct (choices_of names n) → may_hold names n v ≡ true → value_like names n (value_data names n v) ≡ Some v
value_found names n value.Empty distinct h = refl
value_found names n (value.Text text) distinct h =
    let fit = fitting (fits names n (value.Text text)) true h in
    rw (value_back names n (value.Text text) text distinct fit refl tt) refl
value_found names n (value.Number z) distinct h =
    let fit = fitting (fits names n (value.Number z)) true h in
    rw (value_back names n (value.Number z) _ distinct fit refl tt) refl
value_found names n (value.Choice choice) distinct h =
    let fit = fitting (fits names n (value.Choice choice)) true h in
    let inside = fits_says names n (value.Choice choice) fit in
    rw (value_back names n (value.Choice choice) (name_at (choices_of names n) choice.0) distinct fit (spelled (choices_of names n) choice.0 inside) tt) refl
value_found names n (value.User user) distinct h =
    let fit = fitting (fits names n (value.User user)) true h in
    let inside = fits_says names n (value.User user) fit in
    rw (value_back names n (value.User user) (name_at (choices_of names n) user.0) distinct fit (spelled (choices_of names n) user.0 inside) tt) refl
value_found names n (value.Date day) distinct h =
    let fit = fitting (fits names n (value.Date day)) true h in
    rw (value_back names n (value.Date day) _ distinct fit refl tt) refl
value_found names n (value.Set choices) distinct h =
    let fit = fitting (fits names n (value.Set choices)) true h in
    let texts = chosen_names (choices_of names n) choices in
    rw (texts_back texts, listed_back names n (value.Set choices) texts distinct fit refl) refl
value_found names n (value.Labels labels) distinct h =
    let fit = fitting (fits names n (value.Labels labels)) true h in
    rw (texts_back labels, listed_back names n (value.Labels labels) labels distinct fit refl) refl
value_found names n (value.Sprint sprint) distinct h =
    let parts = and_parts (fits names n (value.Sprint sprint)) (nat_lt sprint.0 (2 ^ 32)) h in
    rw (parts.1, parts.0) refl

pub filled_found : (names : Names) (n : ℕ) (v : Value) → AreDistinct (choices_of names n) → is_filled v ≡ true → may_hold names n v ≡ true → filled_like names n (value_data names n v) ≡ Some v
filled_found names n value.Empty distinct filled h = absurd (cc)
filled_found names n (value.Text text) distinct filled h = ap (option_and_then unless_empty) (value_found names n (value.Text text) distinct h)
filled_found names n (value.Number z) distinct filled h = ap (option_and_then unless_empty) (value_found names n (value.Number z) distinct h)
filled_found names n (value.Choice choice) distinct filled h = ap (option_and_then unless_empty) (value_found names n (value.Choice choice) distinct h)
filled_found names n (value.User user) distinct filled h = ap (option_and_then unless_empty) (value_found names n (value.User user) distinct h)
filled_found names n (value.Date day) distinct filled h = ap (option_and_then unless_empty) (value_found names n (value.Date day) distinct h)
filled_found names n (value.Set choices) distinct filled h = ap (option_and_then unless_empty) (value_found names n (value.Set choices) distinct h)
filled_found names n (value.Labels labels) distinct filled h = ap (option_and_then unless_empty) (value_found names n (value.Labels labels) distinct h)
filled_found names n (value.Sprint sprint) distinct filled h = ap (option_and_then unless_empty) (value_found names n (value.Sprint sprint) distinct h)

pub clean_value : (k : ℕ) (names : Names) (n : ℕ) (v : Value) → may_hold names n v ≡ true → IsClean (suc k) (value_data names n v)
clean_value k names n value.Empty h = tt
clean_value k names n (value.Text text) h = tt
clean_value k names n (value.Number z) h = tt
clean_value k names n (value.Choice choice) h = tt
clean_value k names n (value.User user) h = tt
clean_value k names n (value.Date day) h = tt
clean_value k names n (value.Set choices) h = clean_texts k (chosen_names (choices_of names n) choices)
clean_value k names n (value.Labels labels) h = clean_texts k labels
clean_value k names n (value.Sprint sprint) h =
    let parts = and_parts (fits names n (value.Sprint sprint)) (nat_lt sprint.0 (2 ^ 32)) h in
    let small = ltb-true sprint.0 (2 ^ 32) parts.1 in
    omega (arith, small)

-- ---- the field of a value

has_field : (names : Names) (n : ℕ) (v : Value) → fits names n v ≡ true → is_field names.fields n ≡ true
unfolding fits
has_field names n v h = by_form (form_of names.fields n) h where
  by_form : (form : Option Form) → option_map_or (fits_form n (choices_of names n) v) form false ≡ true → is_some form ≡ true
  by_form None e = absurd (cc)
  by_form (Some form) e = refl

pub held_field : (names : Names) (n : ℕ) (v : Value) → may_hold names n v ≡ true → is_field names.fields n ≡ true
held_field names n value.Empty h = h
held_field names n (value.Text text) h = has_field names n (value.Text text) (fitting (fits names n (value.Text text)) true h)
held_field names n (value.Number z) h = has_field names n (value.Number z) (fitting (fits names n (value.Number z)) true h)
held_field names n (value.Choice choice) h = has_field names n (value.Choice choice) (fitting (fits names n (value.Choice choice)) true h)
held_field names n (value.User user) h = has_field names n (value.User user) (fitting (fits names n (value.User user)) true h)
held_field names n (value.Date day) h = has_field names n (value.Date day) (fitting (fits names n (value.Date day)) true h)
held_field names n (value.Set choices) h = has_field names n (value.Set choices) (fitting (fits names n (value.Set choices)) true h)
held_field names n (value.Labels labels) h = has_field names n (value.Labels labels) (fitting (fits names n (value.Labels labels)) true h)
held_field names n (value.Sprint sprint) h = has_field names n (value.Sprint sprint) (fitting (fits names n (value.Sprint sprint)) (nat_lt sprint.0 (2 ^ 32)) h)

formed : (n : ℕ) (form : Option Form) → is_some form ≡ true → option_map (λ f. n) form ≡ Some n
formed n None h = absurd (cc)
formed n (Some form) h = refl

pub field_found : (setup : Parts) (n : ℕ) → IsSound setup → is_field setup.field n ≡ true → field_in setup.field (field_name setup.field n) ≡ Some n
field_found setup n sound is = rw (fields_are_found setup n sound is) (formed n (form_of setup.field n) is)

pub field_tells : (fields : List Field) (name : List ℕ) (n : ℕ) → field_in fields name ≡ Some n → is_field fields n ≡ true
field_tells fields name n e =
    option_and_then_some _ (field_named fields name) n e (λ m m_is e'.
    by_form m (form_of fields m) refl e') where
      by_form : (m : ℕ) (form : Option Form) → form_of fields m ≡ form → option_map (λ f. m) form ≡ Some n → is_field fields n ≡ true
      by_form m None is e'' = absurd (none-some n e'')
      by_form m (Some form) is e'' = subst (λ k. is_field fields k ≡ true) (same_Some m n e'') (rw is refl)

-- ---- what is read may be held

-- no sprint, and it fits
record IsRead (names : Names) (n : ℕ) (v : Value) : Type 0 where
  fit : fits names n v ≡ true
  small : is_small v ≡ true

not_sprint : (names : Names) (n : ℕ) (found v : Value) → fits names n found ≡ true → unless_sprint found ≡ Some v → IsRead names n v
not_sprint names n value.Empty v h e = subst (IsRead names n) (same_Some _ v e) (record { fit = h; small = refl })
not_sprint names n (value.Text text) v h e = subst (IsRead names n) (same_Some _ v e) (record { fit = h; small = refl })
not_sprint names n (value.Number z) v h e = subst (IsRead names n) (same_Some _ v e) (record { fit = h; small = refl })
not_sprint names n (value.Choice choice) v h e = subst (IsRead names n) (same_Some _ v e) (record { fit = h; small = refl })
not_sprint names n (value.User user) v h e = subst (IsRead names n) (same_Some _ v e) (record { fit = h; small = refl })
not_sprint names n (value.Date day) v h e = subst (IsRead names n) (same_Some _ v e) (record { fit = h; small = refl })
not_sprint names n (value.Set choices) v h e = subst (IsRead names n) (same_Some _ v e) (record { fit = h; small = refl })
not_sprint names n (value.Labels labels) v h e = subst (IsRead names n) (same_Some _ v e) (record { fit = h; small = refl })
not_sprint names n (value.Sprint sprint) v h e = absurd (none-some v e)

read_held : (names : Names) (n : ℕ) (v : Value) → is_field names.fields n ≡ true → IsRead names n v → may_hold names n v ≡ true
read_held names n value.Empty is h = is
read_held names n (value.Text text) is h = rw (h.fit) refl
read_held names n (value.Number z) is h = rw (h.fit) refl
read_held names n (value.Choice choice) is h = rw (h.fit) refl
read_held names n (value.User user) is h = rw (h.fit) refl
read_held names n (value.Date day) is h = rw (h.fit) refl
read_held names n (value.Set choices) is h = rw (h.fit) refl
read_held names n (value.Labels labels) is h = rw (h.fit) refl
read_held names n (value.Sprint sprint) is h = rw (h.fit, h.small) refl

told_fits : (names : Names) (n : ℕ) (text : Option (List ℕ)) (sprint : Option ℕ) (texts : Option (List (List ℕ))) (v : Value) → told_by names n text sprint texts ≡ Some v → IsRead names n v
told_fits names n (Some text) sprint texts v e =
    option_and_then_some unless_sprint (value_of names n text) v e (λ found found_is e'. not_sprint names n found v (read_fits names n text found found_is) e')
told_fits names n None (Some sprint) texts v e =
    let w = value.Sprint (record { 0 = sprint }) in
    let c = cond_some (nat_lt sprint (2 ^ 32) && fits names n w) w v e in
    let parts = and_parts (nat_lt sprint (2 ^ 32)) (fits names n w) c.0 in
    subst (IsRead names n) c.1 (record { fit = parts.1; small = parts.0 })
told_fits names n None None texts v e =
    option_and_then_some unless_sprint (option_and_then (listed_value_of names n) texts) v e (λ found found_is e'.
    option_and_then_some (listed_value_of names n) texts found found_is (λ ts ts_is e''. not_sprint names n found v (listed_fits names n ts found e'') e'))

pub value_holds : (names : Names) (n : ℕ) (d : Data) (v : Value) → is_field names.fields n ≡ true → value_like names n d ≡ Some v → may_hold names n v ≡ true
value_holds names n d v is e = by_null (is_some (as_null d)) e where
  by_null : (null : Bool) → (if null then Some value.Empty else told_by names n (as_str d) (natural_of d) (texts_of d)) ≡ Some v → may_hold names n v ≡ true
  by_null true e' = subst (λ (w : Value). may_hold names n w ≡ true) (same_Some value.Empty v e') is
  by_null false e' = read_held names n v is (told_fits names n (as_str d) (natural_of d) (texts_of d) v e')

pub record IsHeld (names : Names) (n : ℕ) (v : Value) : Type 0 where
  pub filled : is_filled v ≡ true
  pub held : may_hold names n v ≡ true

not_empty : (v w : Value) → unless_empty v ≡ Some w → (v ≡ w) × (is_filled w ≡ true)
not_empty v w e = let c = cond_some (is_filled v) v w e in (c.1, subst (λ (x : Value). is_filled x ≡ true) c.1 c.0)

pub filled_holds : (names : Names) (n : ℕ) (d : Data) (v : Value) → is_field names.fields n ≡ true → filled_like names n d ≡ Some v → IsHeld names n v
filled_holds names n d v is e =
    option_and_then_some unless_empty (value_like names n d) v e (λ w w_is e'.
    let t = not_empty w v e' in
    record { filled = t.1; held = value_holds names n d v is (w_is ∙ ap Some t.0) })

-- ---- the options of fields

few_of : (f : Field) → HasOptions f → has_few_options f ≡ true
few_of f h = by_kind f.kind refl where
  none : (k : FieldKind) → f.kind ≡ k → (k ≡ kind.Choice → ⊥) → has_few_options f ≡ true
  none k e different = let empty = h.other (λ same. different (sym e ∙ same)) in rw empty refl

  by_kind : (k : FieldKind) → f.kind ≡ k → has_few_options f ≡ true
  by_kind kind.Choice e = le-leb (length f.options) 200 (h.choice e).few
  by_kind kind.Text e = none kind.Text e (λ same. cc)
  by_kind kind.Number e = none kind.Number e (λ same. cc)
  by_kind kind.User e = none kind.User e (λ same. cc)
  by_kind kind.Date e = none kind.Date e (λ same. cc)

pub all_few : (fields : List Field) → All HasOptions fields → list_all has_few_options fields ≡ true
all_few [] all = refl
all_few (f ∷ fields) all = rw (few_of f (all zero f (omega arith)), all_few fields (λ k d inside. all (suc k) d (omega (arith, inside)))) refl
