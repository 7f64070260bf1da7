-- A validator is read back from its text.
use Rattle.std.proofs.Common.{◌≡◌, ℕ, List, Option, Some, None, option_map, refl, ap, ◌∙◌, inl, inr, codes}
use Rattle.std.specs.Prelude.{IfSome}
use Rattle.std.specs.Str.{bytes_eq}
use Rattle.std.proofs.lemmas.Bool.{cases_Bool}
use Rattle.field_values.specs.Parts.{Parts}
use Rattle.field_values.specs.declared.rules.Permission.{Permission}
use Rattle.field_values.specs.declared.rules.Validator.{Validator}
use Rattle.field_values.specs.declared.rules.Validator.TheVariants.{Required, Changed, Due, Permission as PermissionOf}
use Rattle.field_forms.specs.Known.{Names, field_named}
use Rattle.field_forms.specs.Rules.{permission_of, permission_name, named_validator, validator_of}
use Rattle.field_forms.proofs.SoundRules.{named_is_field}
use Rattle.fields.specs.Sound.{part_names, IsSound}
use Rattle.fields.specs.Naming.{field_name}
use Rattle.rule_texts.specs.RuleTexts.{validator_text}
use Rattle.rules_read_back.proofs.Cut.{after_holds, holds_of, word_means}
use Rattle.rules_read_back.proofs.Tests.{permission_back}
use Rattle.rules_read_back.proofs.Fields.{field_back}

module _ (parts : Parts) (sound : IsSound parts) where
  abbrev names : Names
  names = part_names parts

  abbrev Back : Validator → Type 0
  Back validator = validator_of names (validator_text names validator) ≡ Some validator

  required_back : (rest : List ℕ) (found : Option ℕ) → field_named parts.field rest ≡ found → IfSome (option_map (λ n. Required (record { 0 = n })) found) Back
  unfolding validator_of validator_text
  required_back rest None is = tt
  required_back rest (Some n) is =
      word_means (named_validator names) (codes "required") (field_name parts.field n) refl
      ∙ ap (option_map (λ n. Required (record { 0 = n }))) (field_back parts sound n (named_is_field parts.field rest n is))

  changed_back : (rest : List ℕ) (found : Option ℕ) → field_named parts.field rest ≡ found → IfSome (option_map (λ n. Changed (record { 0 = n })) found) Back
  unfolding validator_of validator_text
  changed_back rest None is = tt
  changed_back rest (Some n) is =
      word_means (named_validator names) (codes "changed") (field_name parts.field n) refl
      ∙ ap (option_map (λ n. Changed (record { 0 = n }))) (field_back parts sound n (named_is_field parts.field rest n is))

  asked_back : (found : Option Permission) → IfSome found (λ p. permission_of (permission_name p) ≡ Some p) → IfSome (option_map PermissionOf found) Back
  unfolding validator_of validator_text
  asked_back None is = tt
  asked_back (Some p) is =
      word_means (named_validator names) (codes "permission") (permission_name p) refl ∙ ap (option_map PermissionOf) is

  named_back : (word rest : List ℕ) → IfSome (named_validator names word rest) Back
  named_back word rest = elim (cases_Bool (bytes_eq word (codes "required"))) [
    | inl required ↦ rw required (required_back rest (field_named parts.field rest) refl)
    | inr other ↦ elim (cases_Bool (bytes_eq word (codes "changed"))) [
      | inl changed ↦ rw (other, changed) (changed_back rest (field_named parts.field rest) refl)
      | inr neither ↦ elim (cases_Bool (bytes_eq word (codes "permission"))) [
        | inl permission ↦ rw (other, neither, permission) (asked_back (permission_of rest) (permission_back rest))
        | inr none ↦ rw (other, neither, none) tt
      ]
    ]
  ]

  due_back : Back Due
  unfolding validator_of validator_text
  due_back = refl

  read_back : (text : List ℕ) → IfSome (validator_of names text) Back
  unfolding validator_of
  read_back text = elim (cases_Bool (bytes_eq text (codes "due"))) [
    | inl due ↦ rw due due_back
    | inr other ↦ rw other (after_holds (named_validator names) Back text (λ cut is. named_back cut.0 cut.1))
  ]

  pub validator_back : (text : List ℕ) (validator : Validator) → validator_of names text ≡ Some validator → validator_of names (validator_text names validator) ≡ Some validator
  validator_back text validator is = holds_of Back (validator_of names text) validator (read_back text) is
