use Rattle.std.proofs.Common.{◌≡◌, drop, map, ◌++◌, ◌∷◌, []}
use Rattle.json.specs.Token as token
use Rattle.serde_json.specs.Data.{string}
use Rattle.serde_json.specs.View.{items_of}
use Rattle.json_texts.specs.JsonTokens.{after_items}
use Rattle.json_texts.proofs.json_text.JsonText.texts.Given as goal

-- what is left to be written comes to the same
abbrev pub invariant-loop-text : goal.invariant-loop-text
invariant-loop-text l =
    after_items (items_of (map string l.texts)) (l.fn.self ++ token.begin_array ∷ [])
    ≡ after_items (items_of (map string (drop l.text-index l.texts))) l.self
