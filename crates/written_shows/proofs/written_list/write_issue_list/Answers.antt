use Rattle.std.proofs.Common.{◌≡◌, ℕ, List, map, None, Ok, ap, subst, ◌∙◌}
use Rattle.field_values.specs.declared.numbers.FieldNo.{FieldNo}
use Rattle.field_values.specs.Parts.{Parts}
use Rattle.reply_texts.specs.Reply.{reply_text}
use Rattle.tracker_calls.specs.declared.reply.Reply.TheVariants as reply
use Rattle.tracker_machine.specs.IssueList.{fields_refusal, wanted_fields, list_answer}
use Rattle.tracker_machine.specs.Query.{asked}
use Rattle.tracker_state.specs.State.{query_of}
use Rattle.written_shows.proofs.Lists.{list_told}
use Rattle.written_shows.proofs.written_list.write_issue_list.Goals as goal

pub returns-in-Ok-clause-told : goal.returns-in-Ok-clause-told
returns-in-Ok-clause-told g c =
    let m = c.args.state.now.machine in
    let caller = c.args.caller.0 in
    let query = query_of c.in_ok-bound.bound in
    let numbers : List ℕ = map (λ (f : FieldNo). f.0) c.in_ok-fields.fields.items in
    list_told m caller c.args.jql.now c.args.fields.now c.args.part numbers query c.write_found-written.new.answer.items
    (subst (λ (s : Parts). fields_refusal s.field c.args.fields.now ≡ None) c.setup.ensures c.in_ok-fields.ensures.check)
    (subst (λ (s : Parts). asked s caller c.args.jql.now ≡ Ok query) c.setup-2.ensures c.in_ok-bound.ensures.query)
    (c.in_ok-fields.ensures.fields ∙ ap (λ (s : Parts). wanted_fields s.field c.args.fields.now) c.setup.ensures)
    (c.in-Ok.ensures.text ∙ ap (λ (fs : List FieldNo). reply_text (reply.Ok (list_answer m caller (map (λ (f : FieldNo). f.0) fs) c.args.part query))) c.deref.ensures.value)
