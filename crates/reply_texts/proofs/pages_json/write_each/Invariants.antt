use Rattle.std.proofs.Common.{◌≡◌, drop, map, ◌++◌, ◌∷◌, []}
use Rattle.json.specs.Token as token
use Rattle.serde_json.specs.View.{items_of}
use Rattle.json_texts.specs.JsonTokens.{after_items}
use Rattle.reply_texts.specs.Reply.{listed_data}
use Rattle.reply_texts.proofs.pages_json.write_each.Given as goal

-- what is left to be written comes to the same
abbrev pub invariant-loop-issue : goal.invariant-loop-issue
invariant-loop-issue l =
    after_items (items_of (map listed_data l.issues)) (l.fn.out ++ token.begin_array ∷ [])
    ≡ after_items (items_of (map listed_data (drop l.issue-index l.issues))) l.out
