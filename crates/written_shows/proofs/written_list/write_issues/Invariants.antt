use Rattle.std.proofs.Common.{◌≡◌, drop, map, ◌++◌, ◌∷◌, []}
use Rattle.json.specs.Token as token
use Rattle.serde_json.specs.View.{items_of}
use Rattle.fields.specs.SetupParts.{parts}
use Rattle.json_texts.specs.JsonTokens.{after_items}
use Rattle.reply_texts.specs.Reply.{listed_data}
use Rattle.tracker_machine.specs.IssueList.{listed_issue}
use Rattle.written_shows.proofs.written_list.write_issues.Given as goal

-- what is left to be written comes to the same
abbrev pub invariant-loop-issue : goal.invariant-loop-issue
invariant-loop-issue l =
    after_items (items_of (map listed_data (map (λ i. listed_issue (parts l.setup) (map (λ f. f.0) l.fields) i.now.history) l.issues))) (l.fn.out ++ token.begin_array ∷ [])
    ≡ after_items (items_of (map listed_data (map (λ i. listed_issue (parts l.setup) (map (λ f. f.0) l.fields) i.now.history) (drop l.issue-index l.issues)))) l.out
