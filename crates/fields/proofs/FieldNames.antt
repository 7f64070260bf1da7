-- The name of each field is found as that field.
use Rattle.std.proofs.Common.{◌≡◌, ℕ, ◌-◌, ◌≤◌, ◌==◌, List, [], ◌∷◌, ◌++◌, map, Bool, true, false, cond, not, ◌||◌, is_some, position, Option, Some, None, option_map, option_and_then, slice_get, get_or, refl, sym, ap, subst, ◌∙◌, arith, inl, inr, codes}
use Rattle.std.specs.List.{list_any, list_all, find}
use Rattle.std.specs.Str.{str_eq_ignore_ascii_case}
use Rattle.std.proofs.lemmas.Bool.{cases_Bool, and_parts, eqb-true}
use Rattle.std.proofs.lemmas.List.Folds.{list_all-map}
use Rattle.std.proofs.lemmas.List.Quantifiers.{position-Some}
use Rattle.std.proofs.lemmas.Option.{slice_get_past, get_or_from_slice_get}
use Rattle.field_values.specs.declared.field.Field.{Field}
use Rattle.field_values.specs.Parts.{Parts}
use Rattle.field_forms.specs.declared.name_form.NameForm.TheVariants.{OwnField}
use Rattle.field_forms.specs.BuiltIn.{field_names, query_words, is_field_word, built_in_no}
use Rattle.field_forms.specs.Known.{form_by, form_of, own_field, own_field_named, field_named}
use Rattle.field_forms.specs.NameForms.{has_form, is_numbered_field}
use Rattle.field_forms.specs.Names.{is_name, is_from_to, is_among}
use Rattle.field_forms.specs.SoundRules.{is_field}
use Rattle.fields.specs.Sound.{has_own_number, IsSound}
use Rattle.fields.specs.Naming.{built_in_numbers, field_numbers, field_name, NumbersAreFields, FieldsAreFound}
use Rattle.fields.proofs.Found.{named_at, own_at}
use Rattle.fields.proofs.PlaceNames.{thing_is, at_place}

or_false : (a b : Bool) → (a || b) ≡ false → (a ≡ false) × (b ≡ false)
or_false true b e = cc
or_false false b e = (refl, e)

-- a number is one of those of every tracker's fields, or none of them
abbrev is_built_in : ℕ → Bool
is_built_in n = list_any (λ k. k == n) built_in_numbers

module _ (P : ℕ → Type 0) (other : (n : ℕ) → is_built_in n ≡ false → P n)
    (p1 : P 1) (p2 : P 2) (p3 : P 3) (p4 : P 4) (p5 : P 5) (p6 : P 6) (p7 : P 7) (p8 : P 8) (p9 : P 9) (p10 : P 10) (p11 : P 11) (p12 : P 12) (p13 : P 13) where
  by_number : (n : ℕ) → P n
  by_number n = elim (cases_Bool (1 == n)) [
    | inl same ↦ subst P (eqb-true 1 n same) p1
    | inr e1 ↦ elim (cases_Bool (2 == n)) [
      | inl same ↦ subst P (eqb-true 2 n same) p2
      | inr e2 ↦ elim (cases_Bool (3 == n)) [
        | inl same ↦ subst P (eqb-true 3 n same) p3
        | inr e3 ↦ elim (cases_Bool (4 == n)) [
          | inl same ↦ subst P (eqb-true 4 n same) p4
          | inr e4 ↦ elim (cases_Bool (5 == n)) [
            | inl same ↦ subst P (eqb-true 5 n same) p5
            | inr e5 ↦ elim (cases_Bool (6 == n)) [
              | inl same ↦ subst P (eqb-true 6 n same) p6
              | inr e6 ↦ elim (cases_Bool (7 == n)) [
                | inl same ↦ subst P (eqb-true 7 n same) p7
                | inr e7 ↦ elim (cases_Bool (8 == n)) [
                  | inl same ↦ subst P (eqb-true 8 n same) p8
                  | inr e8 ↦ elim (cases_Bool (9 == n)) [
                    | inl same ↦ subst P (eqb-true 9 n same) p9
                    | inr e9 ↦ elim (cases_Bool (10 == n)) [
                      | inl same ↦ subst P (eqb-true 10 n same) p10
                      | inr e10 ↦ elim (cases_Bool (11 == n)) [
                        | inl same ↦ subst P (eqb-true 11 n same) p11
                        | inr e11 ↦ elim (cases_Bool (12 == n)) [
                          | inl same ↦ subst P (eqb-true 12 n same) p12
                          | inr e12 ↦ elim (cases_Bool (13 == n)) [
                            | inl same ↦ subst P (eqb-true 13 n same) p13
                            | inr e13 ↦ other n (rw (e1, e2, e3, e4, e5, e6, e7, e8, e9, e10, e11, e12, e13) refl)
                          ]
                        ]
                      ]
                    ]
                  ]
                ]
              ]
            ]
          ]
        ]
      ]
    ]
  ]

-- none of these numbers
record IsNone (n : ℕ) : Type 0 where
  e1 : (1 == n) ≡ false
  f1 : (n == 1) ≡ false
  e2 : (2 == n) ≡ false
  f2 : (n == 2) ≡ false
  e3 : (3 == n) ≡ false
  f3 : (n == 3) ≡ false
  e4 : (4 == n) ≡ false
  f4 : (n == 4) ≡ false
  e5 : (5 == n) ≡ false
  f5 : (n == 5) ≡ false
  e6 : (6 == n) ≡ false
  f6 : (n == 6) ≡ false
  e7 : (7 == n) ≡ false
  f7 : (n == 7) ≡ false
  e8 : (8 == n) ≡ false
  f8 : (n == 8) ≡ false
  e9 : (9 == n) ≡ false
  f9 : (n == 9) ≡ false
  e10 : (10 == n) ≡ false
  f10 : (n == 10) ≡ false
  e11 : (11 == n) ≡ false
  f11 : (n == 11) ≡ false
  e12 : (12 == n) ≡ false
  f12 : (n == 12) ≡ false
  e13 : (13 == n) ≡ false
  f13 : (n == 13) ≡ false

flip : (a b : ℕ) → (a == b) ≡ false → (b == a) ≡ false
flip a b e = grind (arith, e)

none_of : (n : ℕ) → is_built_in n ≡ false → IsNone n
none_of n none =
    let h1 = or_false (1 == n) _ none in
    let h2 = or_false (2 == n) _ h1.1 in
    let h3 = or_false (3 == n) _ h2.1 in
    let h4 = or_false (4 == n) _ h3.1 in
    let h5 = or_false (5 == n) _ h4.1 in
    let h6 = or_false (6 == n) _ h5.1 in
    let h7 = or_false (7 == n) _ h6.1 in
    let h8 = or_false (8 == n) _ h7.1 in
    let h9 = or_false (9 == n) _ h8.1 in
    let h10 = or_false (10 == n) _ h9.1 in
    let h11 = or_false (11 == n) _ h10.1 in
    let h12 = or_false (12 == n) _ h11.1 in
    let h13 = or_false (13 == n) false h12.1 in
    record {
      e1 = h1.0;
      f1 = flip 1 n h1.0;
      e2 = h2.0;
      f2 = flip 2 n h2.0;
      e3 = h3.0;
      f3 = flip 3 n h3.0;
      e4 = h4.0;
      f4 = flip 4 n h4.0;
      e5 = h5.0;
      f5 = flip 5 n h5.0;
      e6 = h6.0;
      f6 = flip 6 n h6.0;
      e7 = h7.0;
      f7 = flip 7 n h7.0;
      e8 = h8.0;
      f8 = flip 8 n h8.0;
      e9 = h9.0;
      f9 = flip 9 n h9.0;
      e10 = h10.0;
      f10 = flip 10 n h10.0;
      e11 = h11.0;
      f11 = flip 11 n h11.0;
      e12 = h12.0;
      f12 = flip 12 n h12.0;
      e13 = h13.0;
      f13 = flip 13 n h13.0;
    }

-- a field with another number is the setup's own
own_form_is : (fields : List Field) (n : ℕ) → is_built_in n ≡ false → form_of fields n ≡ option_map (λ f. form_by f.kind) (own_field fields n)
unfolding form_of
own_form_is fields n none =
    let h = none_of n none in
    rw (h.f1, h.f2, h.f3, h.f4, h.f5, h.f6, h.f7, h.f8, h.f9, h.f10, h.f11, h.f12, h.f13) refl

found_is_there : {X : Type 0} (p : X → Bool) (xs : List X) → is_some (find p xs) ≡ list_any p xs
found_is_there p [] = refl
found_is_there p (x ∷ xs) = by_test (p x) (found_is_there p xs) where
  by_test : (b : Bool) → is_some (find p xs) ≡ list_any p xs → is_some (cond b (Some x) (find p xs)) ≡ (b || list_any p xs)
  by_test true rest = refl
  by_test false rest = rest

any_mapped : {X Y : Type 0} (p : Y → Bool) (f : X → Y) (xs : List X) → list_any p (map f xs) ≡ list_any (λ x. p (f x)) xs
any_mapped p f [] = refl
any_mapped p f (x ∷ xs) = ap (λ (b : Bool). p (f x) || b) (any_mapped p f xs)

mapped_some : {X Y : Type 0} (f : X → Y) (o : Option X) → is_some (option_map f o) ≡ is_some o
mapped_some f None = refl
mapped_some f (Some x) = refl

-- the rest of the numbers, behind those of every tracker's fields
past_built_in : (n : ℕ) (ks : List ℕ) → is_built_in n ≡ false → list_any (λ k. k == n) (built_in_numbers ++ ks) ≡ list_any (λ k. k == n) ks
past_built_in n ks none =
    let h = none_of n none in
    rw (h.e1, h.e2, h.e3, h.e4, h.e5, h.e6, h.e7, h.e8, h.e9, h.e10, h.e11, h.e12, h.e13) refl

own_numbers_are : (fields : List Field) (n : ℕ) → is_built_in n ≡ false → list_any (λ k. k == n) (field_numbers fields) ≡ is_field fields n
own_numbers_are fields n none =
    past_built_in n (map (λ f. f.number.0) fields) none
    ∙ any_mapped (λ k. k == n) (λ (f : Field). f.number.0) fields
    ∙ sym (found_is_there (λ (f : Field). f.number.0 == n) fields)
    ∙ sym (mapped_some (λ (f : Field). form_by f.kind) (own_field fields n))
    ∙ sym (ap is_some (own_form_is fields n none))

pub numbers_are_fields : NumbersAreFields
unfolding form_of
numbers_are_fields fields = by_number (λ n. list_any (λ k. k == n) (field_numbers fields) ≡ is_field fields n) (own_numbers_are fields) refl refl refl refl refl refl refl refl refl refl refl refl refl

-- a name that is no word for a field is none of every tracker's
not_built_in : (name : List ℕ) → is_field_word name ≡ false → built_in_no name ≡ None
not_built_in name other =
    let none = (or_false (is_among field_names name) (is_among query_words name) other).0 in
    let h1 = or_false (str_eq_ignore_ascii_case (codes "type") name) _ none in
    let h2 = or_false (str_eq_ignore_ascii_case (codes "summary") name) _ h1.1 in
    let h3 = or_false (str_eq_ignore_ascii_case (codes "description") name) _ h2.1 in
    let h4 = or_false (str_eq_ignore_ascii_case (codes "status") name) _ h3.1 in
    let h5 = or_false (str_eq_ignore_ascii_case (codes "assignee") name) _ h4.1 in
    let h6 = or_false (str_eq_ignore_ascii_case (codes "reporter") name) _ h5.1 in
    let h7 = or_false (str_eq_ignore_ascii_case (codes "priority") name) _ h6.1 in
    let h8 = or_false (str_eq_ignore_ascii_case (codes "resolution") name) _ h7.1 in
    let h9 = or_false (str_eq_ignore_ascii_case (codes "fixVersion") name) _ h8.1 in
    let h10 = or_false (str_eq_ignore_ascii_case (codes "labels") name) _ h9.1 in
    let h11 = or_false (str_eq_ignore_ascii_case (codes "due") name) _ h10.1 in
    let h12 = or_false (str_eq_ignore_ascii_case (codes "points") name) _ h11.1 in
    let h13 = or_false (str_eq_ignore_ascii_case (codes "sprint") name) false h12.1 in
    rw (h1.0, h2.0, h3.0, h4.0, h5.0, h6.0, h7.0, h8.0, h9.0, h10.0, h11.0, h12.0, h13.0) refl

module _ (parts : Parts) (sound : IsSound parts) where
  -- the name of the setup's own field at a place is no word for another field
  own_word : (place : ℕ) (field : Field) → slice_get parts.field place ≡ Some field → is_field_word field.name ≡ false
  own_word place field there =
      let all : list_all (λ f. has_form OwnField f.name) parts.field ≡ true = sym (list_all-map (has_form OwnField) (λ (f : Field). f.name) parts.field) ∙ sound.field_names.formed in
      let formed : has_form OwnField field.name ≡ true = at_place (λ (f : Field). has_form OwnField f.name) parts.field place field all there in
      let other = not_true _ (and_parts (is_name field.name) (not (is_field_word field.name || is_numbered_field field.name)) formed).1 in
      (or_false (is_field_word field.name) (is_numbered_field field.name) other).0
    where
      not_true : (b : Bool) → not b ≡ true → b ≡ false
      not_true true h = absurd (cc)
      not_true false h = refl

  module _ (n place : ℕ) (field : Field) (at : position (λ f. f.number.0 == n) parts.field ≡ Some place) (there : slice_get parts.field place ≡ Some field) where
    number_is : field.number.0 ≡ n
    number_is =
        let same : ((get_or parts.field place field).number.0 == n) ≡ true = (position-Some (λ (f : Field). f.number.0 == n) parts.field place field at).1 in
        eqb-true field.number.0 n (subst (λ (f : Field). (f.number.0 == n) ≡ true) (get_or_from_slice_get parts.field place field field there) same)

    own_named : field_named parts.field field.name ≡ Some n
    unfolding field_named
    own_named =
        let named : own_field_named parts.field field.name ≡ Some field =
        named_at parts.field field.name
        ∙ (ap (option_and_then (slice_get parts.field)) (thing_is (λ (f : Field). f.name) parts.field place field sound.field_names.distinct there)
        ∙ there) in
        rw (not_built_in field.name (own_word place field there), named) (ap Some number_is)

    own_called : own_field parts.field n ≡ Some field → field_name parts.field n ≡ field.name
    own_called own =
        let inside : is_from_to 10000 19999 field.number.0 ≡ true = at_place has_own_number parts.field place field sound.own_numbers there in
        let big : 10000 ≤ n = grind (arith, inside, number_is) in
        let past : slice_get field_names (n - 1) ≡ None = slice_get_past field_names (n - 1) (omega (arith, big)) in
        rw (past, own) refl

  own_found : (n : ℕ) → is_built_in n ≡ false → is_field parts.field n ≡ true → field_named parts.field (field_name parts.field n) ≡ Some n
  own_found n none known = by_place (position (λ f. f.number.0 == n) parts.field) refl where
    some_own : is_some (own_field parts.field n) ≡ true
    some_own = sym (ap is_some (own_form_is parts.field n none) ∙ mapped_some (λ (f : Field). form_by f.kind) (own_field parts.field n)) ∙ known

    by_field : (place : ℕ) (found : Option Field) → position (λ f. f.number.0 == n) parts.field ≡ Some place → slice_get parts.field place ≡ found → own_field parts.field n ≡ found → field_named parts.field (field_name parts.field n) ≡ Some n
    by_field place None at there own = absurd (grind (arith, own, some_own))
    by_field place (Some field) at there own =
        subst (λ (name : List ℕ). field_named parts.field name ≡ Some n) (sym (own_called n place field at there own)) (own_named n place field at there)

    by_place : (place : Option ℕ) → position (λ f. f.number.0 == n) parts.field ≡ place → field_named parts.field (field_name parts.field n) ≡ Some n
    by_place None at = absurd (grind (arith, own_at parts.field n, at, some_own))
    by_place (Some place) at = by_field place (slice_get parts.field place) at refl (own_at parts.field n ∙ ap (option_and_then (slice_get parts.field)) at)

pub fields_are_found : FieldsAreFound
unfolding field_named
fields_are_found parts n sound = by_number (λ n. is_field parts.field n ≡ true → field_named parts.field (field_name parts.field n) ≡ Some n) (own_found parts sound) (λ known. refl) (λ known. refl) (λ known. refl) (λ known. refl) (λ known. refl) (λ known. refl) (λ known. refl) (λ known. refl) (λ known. refl) (λ known. refl) (λ known. refl) (λ known. refl) (λ known. refl) n
