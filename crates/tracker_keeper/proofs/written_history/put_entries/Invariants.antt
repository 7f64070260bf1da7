use Rattle.std.proofs.Common.{◌≡◌, drop, map, ◌++◌, ◌∷◌, []}
use Rattle.json.specs.Token as token
use Rattle.serde_json.specs.View.{items_of}
use Rattle.fields.specs.SetupParts.{names}
use Rattle.json_texts.specs.JsonTokens.{after_items}
use Rattle.tracker_keeper.specs.Bodies.{entry_data}
use Rattle.tracker_keeper.proofs.written_history.put_entries.Given as goal

-- what is left to be written comes to the same
abbrev pub invariant-loop-entry : goal.invariant-loop-entry
invariant-loop-entry l = after_items (items_of (map (entry_data (names l.setup)) l.group.entries)) (l.fn.out ++ token.begin_array ∷ [])
    ≡ after_items (items_of (map (entry_data (names l.setup)) (drop l.entry-index l.group.entries))) l.out
