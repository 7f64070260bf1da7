use Rattle.std.proofs.Common.{◌≡◌, ℕ, List, map, ap, ap₂, subst, sym, ◌∙◌, Bor}
use Rattle.std.specs.List.{All}
use Rattle.field_values.specs.Parts.{Parts}
use Rattle.change_history.specs.declared.issue.Issue.{Issue}
use Rattle.change_history.specs.History.{History}
use Rattle.reply_texts.specs.Reply.{reply_text}
use Rattle.tracker_calls.specs.Part.{part_of}
use Rattle.tracker_calls.specs.declared.listed.ListedIssue.{ListedIssue}
use Rattle.tracker_calls.specs.declared.reply.Answer.TheVariants as answer
use Rattle.tracker_calls.specs.declared.reply.Reply.TheVariants as reply
use Rattle.tracker_machine.specs.IssueList.{listed_issue}
use Rattle.tracker_state.specs.State.{query_of}
use Rattle.list_calls.specs.Found.{found_in_order}
use Rattle.page_calls.specs.Fitting.{HoldsWhatFits}
use Rattle.list_calls.proofs.Parted.{map-map}
use Rattle.page_calls.proofs.Fitting.{all_of_map, part_holds}
use Rattle.written_shows.proofs.written_list.write_found.Goals as goal

pub write_text-requires : goal.write_text-requires
write_text-requires g c =
    let f : Bor Issue → History = λ i. i.now.history in
    let m = c.args.state.now.machine in
    let query = query_of c.args.bound.now in
    let there : map f c.part_of-issues.result.now ≡ part_of c.args.part (found_in_order m c.args.caller.0 query) =
    ap (map f) (c.part_of-issues.ensures ∙ ap (part_of c.args.part) c.deref.ensures.value) ∙ c.in_ok-found.ensures.issues in
    subst (λ (s : Parts). All (λ (i : Bor Issue). HoldsWhatFits s i.now.history) c.part_of-issues.result.now) (sym c.setup.ensures)
    (all_of_map f (HoldsWhatFits m.setup) c.part_of-issues.result.now
    (subst (λ (hs : List History). All (HoldsWhatFits m.setup) hs) (sym there) (part_holds m c.args.caller.0 query c.args.part c.is_tracker.ensures)))

pub returns-clause-text : goal.returns-clause-text
returns-clause-text g c =
    let f : Bor Issue → History = λ i. i.now.history in
    let m = c.args.state.now.machine in
    let numbers : List ℕ = map (λ f. f.0) c.args.fields.now in
    let there = ap (map f) (c.part_of-issues.ensures ∙ ap (part_of c.args.part) c.deref.ensures.value) ∙ c.in_ok-found.ensures.issues in
    let issues = ap (λ (s : Parts). map (λ (i : Bor Issue). listed_issue s numbers i.now.history) c.part_of-issues.result.now) c.setup.ensures
    ∙ sym (map-map (listed_issue m.setup numbers) f c.part_of-issues.result.now) ∙ ap (map (listed_issue m.setup numbers)) there in
    c.in_ok-write_text.ensures ∙ ap₂ (λ (ls : List ListedIssue) (n : ℕ). reply_text (reply.Ok (answer.List ls n))) issues c.in_ok-found.ensures.total
