-- The names that a value of a field may name are distinct.
use Rattle.std.proofs.Common.{◌≡◌, ℕ, zero, suc, ◌==◌, List, [], ◌∷◌, Bool, ◌||◌, Option, Some, None, refl, arith, inl, inr, subst, sym, ◌∙◌}
use Rattle.std.specs.List.{All, find}
use Rattle.std.specs.Option.{option_map_or}
use Rattle.std.proofs.lemmas.Bool.{cases_Bool}
use Rattle.field_values.specs.declared.numbers.TheConstants.FieldNo as number
use Rattle.field_values.specs.declared.field.Field.{Field}
use Rattle.field_values.specs.declared.words.FieldKind.{FieldKind}
use Rattle.field_values.specs.declared.words.FieldKind.TheVariants as kind
use Rattle.field_values.specs.Parts.{Parts}
use Rattle.field_forms.specs.Names.{AreDistinct}
use Rattle.field_forms.specs.Known.{own_field, own_choices, choices_of}
use Rattle.fields.specs.Sound.{HasOptions, IsSound, part_names}

-- what holds of all holds of what is found among them
found_is : {X : Type 0} (P : X → Type 0) (test : X → Bool) (xs : List X) (x : X) → All P xs → find test xs ≡ Some x → P x
found_is P test [] x all e = absurd (cc)
found_is P test (y ∷ ys) x all e = elim (cases_Bool (test y)) [
  | inl here ↦ let same : y ≡ x = grind (arith, here, e) in subst P same (all zero y (omega arith))
  | inr there ↦ found_is P test ys x (λ k d inside. all (suc k) d (omega arith)) (grind (arith, there, e))
]

-- the options of a field are distinct, if it has any
options_distinct : (field : Field) → HasOptions field → AreDistinct field.options
options_distinct field options = by_kind field.kind refl where
  none : (k : FieldKind) → field.kind ≡ k → (k ≡ kind.Choice → ⊥) → AreDistinct field.options
  none k e different =
      let empty : field.options ≡ [] = options.other (λ same. different (sym e ∙ same)) in
      rw empty (λ i j d lt inside. absurd (omega arith))

  by_kind : (k : FieldKind) → field.kind ≡ k → AreDistinct field.options
  by_kind kind.Choice e = (options.choice e).distinct
  by_kind kind.Text e = none kind.Text e (λ same. cc)
  by_kind kind.Number e = none kind.Number e (λ same. cc)
  by_kind kind.User e = none kind.User e (λ same. cc)
  by_kind kind.Date e = none kind.Date e (λ same. cc)

module _ (parts : Parts) (sound : IsSound parts) where
  own_distinct : (field : Field) → AreDistinct field.options → AreDistinct (own_choices (part_names parts) field)
  own_distinct field options = by_kind field.kind refl where
    by_kind : (k : FieldKind) → field.kind ≡ k → AreDistinct (own_choices (part_names parts) field)
    by_kind kind.User e = rw e sound.users.distinct
    by_kind kind.Text e = rw e options
    by_kind kind.Number e = rw e options
    by_kind kind.Choice e = rw e options
    by_kind kind.Date e = rw e options

  found_distinct : (n : ℕ) (found : Option Field) → own_field parts.field n ≡ found → AreDistinct (option_map_or (own_choices (part_names parts)) found [])
  found_distinct n None e = λ i j d lt inside. absurd (omega arith)
  found_distinct n (Some field) e = own_distinct field (options_distinct field (found_is HasOptions (λ f. f.number.0 == n) parts.field field sound.options e))

  pub choices_distinct : (n : ℕ) → AreDistinct (choices_of (part_names parts) n)
  unfolding choices_of
  choices_distinct n = elim (cases_Bool (n == number.TYPE.0)) [
    | inl types ↦ rw types sound.types.distinct
    | inr not_1 ↦ elim (cases_Bool (n == number.STATUS.0)) [
      | inl statuses ↦ rw (not_1, statuses) sound.statuses.distinct
      | inr not_4 ↦ elim (cases_Bool ((n == number.ASSIGNEE.0) || (n == number.REPORTER.0))) [
        | inl users ↦ rw (not_1, not_4, users) sound.users.distinct
        | inr not_5 ↦ elim (cases_Bool (n == number.PRIORITY.0)) [
          | inl priorities ↦ rw (not_1, not_4, not_5, priorities) sound.priorities.distinct
          | inr not_7 ↦ elim (cases_Bool (n == number.RESOLUTION.0)) [
            | inl resolutions ↦ rw (not_1, not_4, not_5, not_7, resolutions) sound.resolutions.distinct
            | inr not_8 ↦ elim (cases_Bool (n == number.FIX_VERSION.0)) [
              | inl versions ↦ rw (not_1, not_4, not_5, not_7, not_8, versions) sound.versions.distinct
              | inr own ↦ rw (not_1, not_4, not_5, not_7, not_8, own) (found_distinct n (own_field parts.field n) refl)
            ]
          ]
        ]
      ]
    ]
  ]
