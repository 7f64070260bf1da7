use Rattle.std.proofs.Common.{◌≡◌, drop, map, ◌++◌, ◌∷◌, []}
use Rattle.json.specs.Token as token
use Rattle.serde_json.specs.Data.{string}
use Rattle.serde_json.specs.View.{items_of}
use Rattle.json_texts.specs.JsonTokens.{after_items}
use Rattle.field_forms.specs.ValueTexts.{chosen_names}
use Rattle.written_shows.proofs.written_value.write_chosen.Given as goal

-- what is left to be written comes to the same
abbrev pub invariant-loop-choice : goal.invariant-loop-choice
invariant-loop-choice l =
    after_items (items_of (map string (chosen_names l.names l.choices))) (l.fn.out ++ token.begin_array ∷ [])
    ≡ after_items (items_of (map string (chosen_names l.names (drop l.choice-index l.choices)))) l.out
