-- A rule that a text of the setup states is stated by its one text too.
use Rattle.std.specs.Prelude.{◌≡◌, ℕ, List, Some}
use Rattle.field_values.specs.Parts.{Parts}
use Rattle.field_values.specs.declared.rules.Condition.{Condition}
use Rattle.field_values.specs.declared.rules.Validator.{Validator}
use Rattle.field_values.specs.declared.rules.PostFunction.{PostFunction}
use Rattle.field_forms.specs.Rules.{condition_of, validator_of, post_of}
use Rattle.fields.specs.Sound.{IsSound, part_names}
use Rattle.rule_texts.specs.RuleTexts.{condition_text, validator_text, post_text}

abbrev pub ConditionsAreReadBack : Type 0
ConditionsAreReadBack =
    (parts : Parts) (text : List ℕ) (condition : Condition) → IsSound parts
    → condition_of (part_names parts) text ≡ Some condition
    → condition_of (part_names parts) (condition_text (part_names parts) condition)
    ≡ Some condition

abbrev pub ValidatorsAreReadBack : Type 0
ValidatorsAreReadBack =
    (parts : Parts) (text : List ℕ) (validator : Validator) → IsSound parts
    → validator_of (part_names parts) text ≡ Some validator
    → validator_of (part_names parts) (validator_text (part_names parts) validator)
    ≡ Some validator

abbrev pub PostFunctionsAreReadBack : Type 0
PostFunctionsAreReadBack =
    (parts : Parts) (text : List ℕ) (post : PostFunction) → IsSound parts
    → post_of (part_names parts) text ≡ Some post
    → post_of (part_names parts) (post_text (part_names parts) post) ≡ Some post
