-- What a name finds among what is told of an issue is what the field of that name has now.
use Rattle.std.proofs.Common.{◌≡◌, ℕ, zero, suc, ◌==◌, ◌&&◌, Bool, true, false, List, [], ◌∷◌, map, Option, Some, None, is_some, refl, sym, ap, ◌∙◌, subst, arith, inl, inr, eqb-true}
use Rattle.std.specs.Prelude.{if◌then◌else◌}
use Rattle.std.specs.List.{list_all, list_any}
use Rattle.std.specs.Option.{option_map_or}
use Rattle.std.proofs.lemmas.Bool.{and_parts, cases_Bool, true≢false}
use Rattle.std.proofs.lemmas.Bool.Decides.{nat_tests}
use Rattle.std.proofs.lemmas.Option.{same_Some}
use Rattle.field_values.specs.Parts.{Parts}
use Rattle.field_values.specs.declared.field.Field.{Field}
use Rattle.field_values.specs.declared.numbers.FieldNo.{FieldNo}
use Rattle.field_values.specs.declared.value.Value.{Value}
use Rattle.field_values.specs.declared.value.Value.TheVariants.{Empty}
use Rattle.field_forms.specs.declared.form.Form.{Form}
use Rattle.field_forms.specs.Known.{Names, field_named, choices_of, form_of, fits_form, fits}
use Rattle.field_forms.specs.SoundRules.{is_field}
use Rattle.fields.specs.Naming.{field_name}
use Rattle.fields.specs.Sound.{part_names, IsSound}
use Rattle.fields.proofs.FieldNames.{fields_are_found}
use Rattle.change_history.specs.declared.change.Change.{Change}
use Rattle.change_history.specs.declared.entry.Entry.{Entry}
use Rattle.change_history.specs.History.{opening_value, value_after}
use Rattle.serde_json.specs.Data.{Data, null, Members, no_members, put}
use Rattle.serde_json.specs.Find.{get_member}
use Rattle.serde_json.proofs.Views.{get_member-put, get_member-put_other}
use Rattle.tracker_keeper.specs.Bodies.{with_values}
use Rattle.tracker_keeper.specs.Forms.{is_filled, may_hold}
use Rattle.tracker_keeper.specs.ValueData.{value_data}
use Rattle.tracker_keeper.proofs.ValuesBack.{held_field}
use Rattle.tracker_machine.specs.Tracker.{AllEntriesFit}
use Rattle.amended_histories.proofs.Alike.{Told, told}
use Rattle.amended_histories.proofs.Once.{HasNone, HaveOnce}

abbrev pub or_null : Option Data → Data
or_null None = null
or_null (Some d) = d

-- what is told of entries, put over what was told before
abbrev pub now_put : Members → List Told → Members
now_put ms [] = ms
now_put ms (t ∷ ts) = now_put (put t.field t.to ms) ts

-- ---- fields

-- each value is of a field
abbrev pub AreOfFields : List Field → List Change → Type 0
AreOfFields fields [] = Unit {0}
AreOfFields fields (c ∷ cs) = (is_field fields c.field.0 ≡ true) × AreOfFields fields cs

-- and each entry
abbrev pub AreOnFields : List Field → List Entry → Type 0
AreOnFields fields [] = Unit {0}
AreOnFields fields (e ∷ es) = (is_field fields e.field.0 ≡ true) × AreOnFields fields es

pub opening_fields : (names : Names) (cs : List Change) → list_all (λ c. is_filled c.to && may_hold names c.field.0 c.to) cs ≡ true → AreOfFields names.fields cs
opening_fields names [] h = tt
opening_fields names (c ∷ cs) h =
    let parts = and_parts (is_filled c.to && may_hold names c.field.0 c.to) (list_all (λ x. is_filled x.to && may_hold names x.field.0 x.to) cs) h in
    let here = and_parts (is_filled c.to) (may_hold names c.field.0 c.to) parts.0 in
    (held_field names c.field.0 c.to here.1, opening_fields names cs parts.1)

has_field : (names : Names) (n : ℕ) (v : Value) → fits names n v ≡ true → is_field names.fields n ≡ true
unfolding fits
has_field names n v h = by_form (form_of names.fields n) h where
  by_form : (form : Option Form) → option_map_or (fits_form n (choices_of names n) v) form false ≡ true → is_some form ≡ true
  by_form None e = absurd (cc)
  by_form (Some form) e = refl

pub entry_fields : (names : Names) (es : List Entry) → AllEntriesFit names es → AreOnFields names.fields es
entry_fields names [] h = tt
entry_fields names (e ∷ es) h = (has_field names e.field.0 e.to h.0, entry_fields names es h.1)

-- ---- a field that is there

module _ (setup : Parts) (sound : IsSound setup) where
  same_field : (n m : ℕ) → is_field setup.field n ≡ true → is_field setup.field m ≡ true → field_name setup.field n ≡ field_name setup.field m → n ≡ m
  same_field n m n_is m_is e = same_Some n m (sym (fields_are_found setup n sound n_is) ∙ (ap (field_named setup.field) e ∙ fields_are_found setup m sound m_is))

  module _ (f : FieldNo) (f_is : is_field setup.field f.0 ≡ true) where
    -- what was put at a field is found there, and leaves all others
    put_found : (g : FieldNo) (v : Value) (ms : Members) → is_field setup.field g.0 ≡ true
        → get_member (field_name setup.field f.0) (put (field_name setup.field g.0) (value_data (part_names setup) g.0 v) ms)
        ≡ (if g.0 == f.0 then Some (value_data (part_names setup) f.0 v) else get_member (field_name setup.field f.0) ms)
    put_found g v ms g_is = elim (cases_Bool (g.0 == f.0)) [
      | inl same ↦
          let e = eqb-true g.0 f.0 same in
          rw same (subst (λ (m : ℕ). get_member (field_name setup.field f.0) (put (field_name setup.field m) (value_data (part_names setup) m v) ms) ≡ Some (value_data (part_names setup) f.0 v))
          (sym e) (get_member-put (field_name setup.field f.0) (value_data (part_names setup) f.0 v) ms))
      | inr other ↦
          rw other (get_member-put_other (field_name setup.field f.0) (field_name setup.field g.0) (value_data (part_names setup) g.0 v) ms
          (λ e. let same = same_field f.0 g.0 f_is g_is e in absurd (grind (arith, nat_tests, same, other))))
    ]

    none_opening : (cs : List Change) → HasNone f.0 cs → opening_value cs f ≡ Empty
    none_opening [] none = refl
    none_opening (c ∷ cs) none = elim (cases_Bool (c.field.0 == f.0)) [
      | inl same ↦ absurd (true≢false (rw same at none))
      | inr other ↦ rw other (none_opening cs (rw other at none))
    ]

    -- what the opening values tell of it
    opening_found : (cs : List Change) (ms : Members) → AreOfFields setup.field cs → HaveOnce cs
        → get_member (field_name setup.field f.0) (with_values (part_names setup) ms cs)
        ≡ (if list_any (λ c. c.field.0 == f.0) cs then Some (value_data (part_names setup) f.0 (opening_value cs f)) else get_member (field_name setup.field f.0) ms)
    opening_found [] ms of once = refl
    opening_found (c ∷ cs) ms of once =
        opening_found cs (put (field_name setup.field c.field.0) (value_data (part_names setup) c.field.0 c.to) ms) of.1 once.1
        ∙ elim (cases_Bool (c.field.0 == f.0)) [
          | inl same ↦
              let is = eqb-true c.field.0 f.0 same in
              let none : HasNone f.0 cs = subst (λ (k : ℕ). HasNone k cs) is once.0 in
              rw (none, same) (put_found c.field c.to ms of.0 ∙ rw same refl)
          | inr other ↦
              rw other (ap (λ o. if list_any (λ x. x.field.0 == f.0) cs then Some (value_data (part_names setup) f.0 (opening_value cs f)) else o)
              (put_found c.field c.to ms of.0 ∙ rw other refl))
        ]

    opening_told : (cs : List Change) → AreOfFields setup.field cs → HaveOnce cs
        → or_null (get_member (field_name setup.field f.0) (with_values (part_names setup) no_members cs)) ≡ value_data (part_names setup) f.0 (opening_value cs f)
    opening_told cs of once = ap or_null (opening_found cs no_members of once) ∙ by (list_any (λ c. c.field.0 == f.0) cs) refl
      where
        by : (b : Bool) → list_any (λ c. c.field.0 == f.0) cs ≡ b
            → or_null (if b then Some (value_data (part_names setup) f.0 (opening_value cs f)) else None) ≡ value_data (part_names setup) f.0 (opening_value cs f)
        by true is = refl
        by false is = sym (ap (value_data (part_names setup) f.0) (none_opening cs is))

    -- and what the entries do
    chosen : (b : Bool) (v w : Value) (o : Option Data) → or_null o ≡ value_data (part_names setup) f.0 w
        → or_null (if b then Some (value_data (part_names setup) f.0 v) else o) ≡ value_data (part_names setup) f.0 (if b then v else w)
    chosen true v w o is = refl
    chosen false v w o is = is

    entries_told : (es : List Entry) (ms : Members) (v : Value) → AreOnFields setup.field es
        → or_null (get_member (field_name setup.field f.0) ms) ≡ value_data (part_names setup) f.0 v
        → or_null (get_member (field_name setup.field f.0) (now_put ms (map (told (part_names setup)) es))) ≡ value_data (part_names setup) f.0 (value_after v es f)
    entries_told [] ms v on is = is
    entries_told (e ∷ es) ms v on is =
        entries_told es (put (field_name setup.field e.field.0) (value_data (part_names setup) e.field.0 e.to) ms) (if e.field.0 == f.0 then e.to else v) on.1
        (ap or_null (put_found e.field e.to ms on.0) ∙ chosen (e.field.0 == f.0) e.to v (get_member (field_name setup.field f.0) ms) is)

    pub present_told : (cs : List Change) (es : List Entry) → AreOfFields setup.field cs → HaveOnce cs → AreOnFields setup.field es
        → or_null (get_member (field_name setup.field f.0) (now_put (with_values (part_names setup) no_members cs) (map (told (part_names setup)) es)))
        ≡ value_data (part_names setup) f.0 (value_after (opening_value cs f) es f)
    present_told cs es of once on =
        entries_told es (with_values (part_names setup) no_members cs) (opening_value cs f) on (opening_told cs of once)

-- ---- a name of no field

module _ (fields : List Field) (q : List ℕ) (strange : (n : ℕ) → is_field fields n ≡ true → q ≡ field_name fields n → ⊥) where
  no_opening : (names : Names) (cs : List Change) (ms : Members) → names.fields ≡ fields → AreOfFields fields cs → get_member q (with_values names ms cs) ≡ get_member q ms
  no_opening names [] ms is of = refl
  no_opening names (c ∷ cs) ms is of =
      no_opening names cs (put (field_name names.fields c.field.0) (value_data names c.field.0 c.to) ms) is of.1
      ∙ get_member-put_other q (field_name names.fields c.field.0) (value_data names c.field.0 c.to) ms
      (λ e. strange c.field.0 of.0 (e ∙ ap (λ fs. field_name fs c.field.0) is))

  no_entry : (names : Names) (es : List Entry) (ms : Members) → names.fields ≡ fields → AreOnFields fields es → get_member q (now_put ms (map (told names) es)) ≡ get_member q ms
  no_entry names [] ms is on = refl
  no_entry names (e ∷ es) ms is on =
      no_entry names es (put (field_name names.fields e.field.0) (value_data names e.field.0 e.to) ms) is on.1
      ∙ get_member-put_other q (field_name names.fields e.field.0) (value_data names e.field.0 e.to) ms
      (λ same. strange e.field.0 on.0 (same ∙ ap (λ fs. field_name fs e.field.0) is))

  -- finds nothing
  pub nothing_told : (names : Names) (cs : List Change) (es : List Entry) → names.fields ≡ fields → AreOfFields fields cs → AreOnFields fields es
      → get_member q (now_put (with_values names no_members cs) (map (told names) es)) ≡ None
  nothing_told names cs es is of on = no_entry names es (with_values names no_members cs) is on ∙ no_opening names cs no_members is of
