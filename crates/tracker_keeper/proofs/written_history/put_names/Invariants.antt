use Rattle.std.proofs.Common.{◌≡◌, drop, map, ◌++◌, ◌∷◌, []}
use Rattle.json.specs.Token as token
use Rattle.serde_json.specs.Data.{string}
use Rattle.serde_json.specs.View.{items_of}
use Rattle.json_texts.specs.JsonTokens.{after_items}
use Rattle.tracker_keeper.specs.Bodies.{user_names}
use Rattle.tracker_keeper.proofs.written_history.put_names.Given as goal

-- what is left to be written comes to the same
abbrev pub invariant-loop-member : goal.invariant-loop-member
invariant-loop-member l = after_items (items_of (map string (user_names l.users l.members))) (l.fn.out ++ token.begin_array ∷ [])
    ≡ after_items (items_of (map string (user_names l.users (drop l.member-index l.members)))) l.out
