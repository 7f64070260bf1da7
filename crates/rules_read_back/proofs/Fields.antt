-- A field is found by its name, which has no `=` where that of a post function has none.
use Rattle.std.proofs.Common.{◌≡◌, ℕ, ◌-◌, ◌<◌, ◌≤◌, ◌==◌, List, [], length, map, Bool, true, false, Option, Some, None, option_map, option_and_then, refl, ap, sym, ◌∙◌, arith, subst, inl, inr, position, slice_get, get_or, if◌then◌else◌}
use Rattle.std.specs.List.{position_or_len}
use Rattle.std.specs.Option.{option_or}
use Rattle.std.specs.Str.{str_eq_ignore_ascii_case}
use Rattle.std.proofs.lemmas.Bool.{cases_Bool}
use Rattle.std.proofs.lemmas.Grind.{common_steps}
use Rattle.std.proofs.lemmas.Bool.Decides.{nat_tests}
use Rattle.std.proofs.lemmas.List.Sums.{position_or_len_is}
use Rattle.std.proofs.lemmas.List.Quantifiers.{position-Some}
use Rattle.std.proofs.lemmas.Option.{slice_get_past, slice_get_within, slice_get-map, get_or_from_slice_get}
use Rattle.field_values.specs.declared.field.Field.{Field}
use Rattle.field_values.specs.Parts.{Parts}
use Rattle.field_forms.specs.BuiltIn.{field_names, built_in_no}
use Rattle.field_forms.specs.Names.{is_from_to, place_named}
use Rattle.field_forms.specs.Known.{Names, own_field, own_field_named, field_named}
use Rattle.field_forms.specs.Rules.{is_settable, settable_named}
use Rattle.field_forms.specs.SoundRules.{is_field}
use Rattle.fields.specs.Sound.{has_own_number, part_names, IsSound}
use Rattle.fields.specs.Naming.{field_name}
use Rattle.fields.proofs.Found.{named_at, own_at}
use Rattle.fields.proofs.PlaceNames.{at_place}
use Rattle.fields.proofs.FieldNames.{fields_are_found}
use Rattle.rules_read_back.proofs.Cut.{has_byte, equals_is_no_letter, same_bytes}

-- what may be set may be set, and has its name
pub settable_parts : (names : Names) (name : List ℕ) (n : ℕ) → settable_named names name ≡ Some n → (is_settable n ≡ true) × (field_named names.fields name ≡ Some n)
settable_parts names name n is = by (field_named names.fields name) is where
  by : (found : Option ℕ) → option_and_then (λ k. if is_settable k then Some k else None) found ≡ Some n → (is_settable n ≡ true) × (found ≡ Some n)
  by None e = absurd (cc)
  by (Some k) e = elim (cases_Bool (is_settable k)) [
    | inl may ↦
        let same : k ≡ n = grind (arith, may, e) in
        (subst (λ j. is_settable j ≡ true) same may, ap Some same)
    | inr may_not ↦ absurd (grind (arith, may_not, e))
  ]

-- ---- the names of every tracker's fields

one_of : (P : ℕ → Type 0) (test : Bool) (k n : ℕ) (rest : Option ℕ) → P k → (rest ≡ Some n → P n) → (if test then Some k else rest) ≡ Some n → P n
one_of P true k n rest here later e = let same : k ≡ n = cc in subst P same here
one_of P false k n rest here later e = later e

none_of : (P : ℕ → Type 0) (n : ℕ) → None ≡ Some n → P n
none_of P n e = absurd (cc)

-- none has a `=`
abbrev IsPlain : List Field → ℕ → Type 0
IsPlain fields n = has_byte 61 (field_name fields n) ≡ false

built_in_plain : (fields : List Field) (name : List ℕ) (n : ℕ) → built_in_no name ≡ Some n → IsPlain fields n
built_in_plain fields name n =
    let P : ℕ → Type 0 = IsPlain fields in
    one_of P _ 1 n _ refl (one_of P _ 2 n _ refl (one_of P _ 3 n _ refl (one_of P _ 4 n _ refl (one_of P _ 5 n _ refl (one_of P _ 6 n _ refl
    (one_of P _ 7 n _ refl (one_of P _ 8 n _ refl (one_of P _ 9 n _ refl (one_of P _ 10 n _ refl (one_of P _ 11 n _ refl (one_of P _ 12 n _ refl
    (one_of P _ 13 n _ refl (none_of P n)))))))))))))

module _ (parts : Parts) (sound : IsSound parts) where
  pub field_back : (n : ℕ) → is_field parts.field n ≡ true → field_named parts.field (field_name parts.field n) ≡ Some n
  field_back n there = fields_are_found parts n sound there

  pub settable_back : (n : ℕ) → is_settable n ≡ true → is_field parts.field n ≡ true → settable_named (part_names parts) (field_name parts.field n) ≡ Some n
  settable_back n may there = rw (field_back n there, may) refl

  -- ---- the names of the setup's own fields

  module _ (place : ℕ) (f : Field) (there : slice_get parts.field place ≡ Some f) where
    inside : place < length parts.field
    inside = slice_get_within parts.field place f there

    spelled : get_or parts.field place f ≡ f
    spelled = get_or_from_slice_get parts.field place f f there

    -- it is the only one of its number
    first_numbered : position_or_len (λ g. g.number.0 == f.number.0) parts.field ≡ place
    first_numbered = position_or_len_is (λ (g : Field). g.number.0 == f.number.0) parts.field place f (omega (arith, inside)) apart here where
      apart : (j : ℕ) → j < place → ((get_or parts.field j f).number.0 == f.number.0) ≡ false
      apart j before =
          let different = sound.numbers j place f before inside in
          let other : (get_or parts.field j f).number.0 ≡ f.number.0 → ⊥ = λ same. different (same ∙ ap (λ (g : Field). g.number.0) (sym spelled)) in
          elim (cases_Bool ((get_or parts.field j f).number.0 == f.number.0)) [
            | inl same ↦ absurd (other (grind (arith, nat_tests, same)))
            | inr none ↦ none
          ]

      here : place < length parts.field → ((get_or parts.field place f).number.0 == f.number.0) ≡ true
      here within = subst (λ (g : Field). (g.number.0 == f.number.0) ≡ true) (sym spelled) (grind (arith, nat_tests))

    own_is : own_field parts.field f.number.0 ≡ Some f
    own_is =
        let at : position (λ g. g.number.0 == f.number.0) parts.field ≡ Some place = grind (arith, common_steps, first_numbered, inside) in
        own_at parts.field f.number.0 ∙ ap (option_and_then (slice_get parts.field)) at ∙ there

    called : field_name parts.field f.number.0 ≡ f.name
    called =
        let number : is_from_to 10000 19999 f.number.0 ≡ true = at_place has_own_number parts.field place f sound.own_numbers there in
        let big : 10000 ≤ f.number.0 = grind (arith, number) in
        let past : slice_get field_names (f.number.0 - 1) ≡ None = slice_get_past field_names (f.number.0 - 1) (omega (arith, big)) in
        rw (past, own_is) refl

  own_plain : (name : List ℕ) (f : Field) → own_field_named parts.field name ≡ Some f → has_byte 61 name ≡ false → has_byte 61 (field_name parts.field f.number.0) ≡ false
  own_plain name f is none = by (place_named name (map (λ g. g.name) parts.field)) refl where
    by : (place : Option ℕ) → place_named name (map (λ g. g.name) parts.field) ≡ place → has_byte 61 (field_name parts.field f.number.0) ≡ false
    by None at =
        let nothing : own_field_named parts.field name ≡ None = named_at parts.field name ∙ ap (option_and_then (slice_get parts.field)) at in
        absurd (cc)
    by (Some place) at =
        let there : slice_get parts.field place ≡ Some f = sym (named_at parts.field name ∙ ap (option_and_then (slice_get parts.field)) at) ∙ is in
        let found = position-Some (λ (other : List ℕ). str_eq_ignore_ascii_case other name) (map (λ g. g.name) parts.field) place [] at in
        let stands : slice_get (map (λ g. g.name) parts.field) place ≡ Some f.name = slice_get-map (λ (g : Field). g.name) parts.field place ∙ ap (option_map (λ g. g.name)) there in
        let named : get_or (map (λ g. g.name) parts.field) place [] ≡ f.name = get_or_from_slice_get (map (λ g. g.name) parts.field) place f.name [] stands in
        let same : str_eq_ignore_ascii_case f.name name ≡ true = subst (λ (t : List ℕ). str_eq_ignore_ascii_case t name ≡ true) named found.1 in
        ap (has_byte 61) (called place f there) ∙ same_bytes 61 equals_is_no_letter f.name name same none

  -- the field of a name without `=` is spelled without one
  pub field_plain : (name : List ℕ) (n : ℕ) → field_named parts.field name ≡ Some n → has_byte 61 name ≡ false → has_byte 61 (field_name parts.field n) ≡ false
  unfolding field_named
  field_plain name n is none = by_built_in (built_in_no name) refl is where
    by_own : (own : Option Field) → own_field_named parts.field name ≡ own → option_map (λ f. f.number.0) own ≡ Some n → has_byte 61 (field_name parts.field n) ≡ false
    by_own None o e = absurd (cc)
    by_own (Some f) o e =
        let same : f.number.0 ≡ n = cc in
        subst (λ k. has_byte 61 (field_name parts.field k) ≡ false) same (own_plain name f o none)

    by_built_in : (no : Option ℕ) → built_in_no name ≡ no → option_or no (option_map (λ f. f.number.0) (own_field_named parts.field name)) ≡ Some n → has_byte 61 (field_name parts.field n) ≡ false
    by_built_in (Some k) b e =
        let same : k ≡ n = cc in
        built_in_plain parts.field name n (b ∙ ap Some same)
    by_built_in None b e = by_own (own_field_named parts.field name) refl e
