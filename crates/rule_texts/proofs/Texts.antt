-- The text of a value is the one that a rule has.
use Rattle.std.proofs.Common.{◌≡◌, ℕ, List, [], ap, Result, Ok, Err}
use Rattle.std.specs.Prelude.{IfOk, unwrap_or, Option}
use Rattle.field_values.specs.declared.value.Value.{Value}
use Rattle.field_values.specs.declared.value.Value.TheVariants as value
use Rattle.field_forms.specs.ValueTexts.{IsTextOf}
use Rattle.rule_texts.specs.RuleTexts.{value_text}

text_is : (names : List (List ℕ)) (v : Value) (text : List ℕ) → IsTextOf names v text → text ≡ value_text names v
text_is names value.Empty text is = absurd is
text_is names (value.Text t) text is = is
text_is names (value.Number z) text is = is
text_is names (value.Choice choice) text is = ap (λ (o : Option (List ℕ)). unwrap_or o []) is
text_is names (value.User user) text is = ap (λ (o : Option (List ℕ)). unwrap_or o []) is
text_is names (value.Date day) text is = is
text_is names (value.Set choices) text is = is
text_is names (value.Labels labels) text is = is
text_is names (value.Sprint sprint) text is = is

-- so is one that was made
pub made_is : {E : Type 0} (names : List (List ℕ)) (v : Value) (r : Result (List ℕ) E) → IfOk r (IsTextOf names v) → IfOk r (λ text. text ≡ value_text names v)
made_is names v (Err e) is = tt
made_is names v (Ok text) is = text_is names v text is
