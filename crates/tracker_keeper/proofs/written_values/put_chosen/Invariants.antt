use Rattle.std.proofs.Common.{◌≡◌, drop, map, ◌++◌, ◌∷◌, []}
use Rattle.json.specs.Token as token
use Rattle.serde_json.specs.Data.{string}
use Rattle.serde_json.specs.View.{items_of}
use Rattle.field_forms.specs.Known.{choices_of}
use Rattle.field_forms.specs.ValueTexts.{chosen_names}
use Rattle.fields.specs.SetupParts.{names}
use Rattle.json_texts.specs.JsonTokens.{after_items}
use Rattle.tracker_keeper.proofs.written_values.put_chosen.Given as goal

-- what is left to be written comes to the same
abbrev pub invariant-loop-choice : goal.invariant-loop-choice
invariant-loop-choice l = after_items (items_of (map string (chosen_names (choices_of (names l.setup) l.field.0) l.choices))) (l.fn.out ++ token.begin_array ∷ [])
    ≡ after_items (items_of (map string (chosen_names (choices_of (names l.setup) l.field.0) (drop l.choice-index l.choices)))) l.out
