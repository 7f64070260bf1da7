use Rattle.std.proofs.Common.{◌≡◌, drop, map, ◌++◌, ◌∷◌, []}
use Rattle.json.specs.Token as token
use Rattle.serde_json.specs.View.{items_of}
use Rattle.json_texts.specs.JsonTokens.{after_items}
use Rattle.reply_texts.proofs.list_json.write_list.Given as goal

-- what is left to be written comes to the same
abbrev pub invariant-loop-thing : goal.invariant-loop-thing
invariant-loop-thing g l =
    after_items (items_of (map g.T.Listed.as_data l.things)) (l.fn.out ++ token.begin_array ∷ [])
    ≡ after_items (items_of (map g.T.Listed.as_data (drop l.thing-index l.things))) l.out
