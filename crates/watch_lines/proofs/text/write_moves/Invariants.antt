use Rattle.std.proofs.Common.{◌≡◌, drop, map, ◌++◌, ◌∷◌, []}
use Rattle.json.specs.Token as token
use Rattle.serde_json.specs.View.{items_of}
use Rattle.json_texts.specs.JsonTokens.{after_items}
use Rattle.watch_lines.specs.Reply.{move_data}
use Rattle.watch_lines.proofs.text.write_moves.Given as goal

-- what is left to be written comes to the same
abbrev pub invariant-loop-told : goal.invariant-loop-told
invariant-loop-told l =
    after_items (items_of (map move_data l.moves)) (l.fn.out ++ token.begin_array ∷ [])
    ≡ after_items (items_of (map move_data (drop l.told-index l.moves))) l.out
