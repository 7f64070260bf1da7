use Rattle.std.proofs.Common.{List, map, ap, ◌∙◌}
use Rattle.json.specs.Print.{print}
use Rattle.json_texts.specs.JsonTokens.{after}
use Rattle.json_texts.proofs.JsonTexts.{whole}
use Rattle.fields.specs.SetupParts.{parts}
use Rattle.serde_json.specs.Data.{Data}
use Rattle.reply_texts.specs.Reply.{reply_data, reply_text}
use Rattle.tracker_calls.specs.declared.reply.Answer.TheVariants as answer
use Rattle.tracker_calls.specs.declared.reply.Reply.TheVariants as reply
use Rattle.tracker_machine.specs.IssueList.{listed_issue}
use Rattle.written_shows.proofs.written_list.write_text.Goals as goal

pub returns : goal.returns
unfolding reply_text
returns c =
    let numbers = map (λ f. f.0) c.args.fields.now in
    let due : Data = reply_data (reply.Ok (answer.List (map (λ i. listed_issue (parts c.args.setup.now) numbers i.now.history) c.args.issues.now) c.args.total)) in
    c.into_bytes.ensures ∙ ap print (c.in_ok-written.ensures ∙ ap (after due) c.in_room-text.ensures) ∙ whole due
