use Rattle.std.proofs.Common.{◌≡◌, ℕ, List, map, ap, subst, sym, ◌∙◌, Bor}
use Rattle.std.specs.List.{All}
use Rattle.field_values.specs.Parts.{Parts}
use Rattle.change_history.specs.declared.issue.Issue.{Issue}
use Rattle.change_history.specs.History.{History}
use Rattle.tracker_calls.specs.Part.{part_of}
use Rattle.tracker_calls.specs.declared.listed.ListedIssue.{ListedIssue}
use Rattle.tracker_calls.specs.declared.reply.Answer.TheVariants as answer
use Rattle.tracker_machine.specs.IssueList.{listed_issue}
use Rattle.tracker_state.specs.State.{query_of}
use Rattle.list_calls.specs.Found.{found_in_order}
use Rattle.page_calls.specs.Fitting.{HoldsWhatFits}
use Rattle.list_calls.proofs.Parted.{map-map}
use Rattle.page_calls.proofs.Fitting.{all_of_map, part_holds}
use Rattle.page_calls.proofs.issue_list.answered.Goals as goal

both : (ks ls : List ListedIssue) (n m : ℕ) → ks ≡ ls → n ≡ m → answer.List ks n ≡ answer.List ls m
both ks ls n m e f = ap (λ v. answer.List v n) e ∙ ap (answer.List ls) f

pub listed-requires : goal.listed-requires
listed-requires g c =
    let f : Bor Issue → History = λ i. i.now.history in
    let m = c.args.state.now.machine in
    let query = query_of c.args.bound.now in
    let there : map f c.part_of.result.now ≡ part_of c.args.part (found_in_order m c.args.caller.0 query) =
    ap (map f) (c.part_of.ensures ∙ ap (part_of c.args.part) c.deref.ensures.value) ∙ c.in_ok-found.ensures.issues in
    subst (λ (s : Parts). All (λ (i : Bor Issue). HoldsWhatFits s i.now.history) c.part_of.result.now) (sym c.setup.ensures)
    (all_of_map f (HoldsWhatFits m.setup) c.part_of.result.now
    (subst (λ (hs : List History). All (HoldsWhatFits m.setup) hs) (sym there) (part_holds m c.args.caller.0 query c.args.part c.is_tracker.ensures)))

pub returns-clause-answer : goal.returns-clause-answer
returns-clause-answer g c =
    let f : Bor Issue → History = λ i. i.now.history in
    let m = c.args.state.now.machine in
    let numbers : List ℕ = map (λ f. f.0) c.args.fields.now in
    let there = ap (map f) (c.part_of.ensures ∙ ap (part_of c.args.part) c.deref.ensures.value) ∙ c.in_ok-found.ensures.issues in
    let issues = c.in_ok-issues.ensures
    ∙ ap (λ (s : Parts). map (λ (i : Bor Issue). listed_issue s numbers i.now.history) c.part_of.result.now) c.setup.ensures
    ∙ sym (map-map (listed_issue m.setup numbers) f c.part_of.result.now) ∙ ap (map (listed_issue m.setup numbers)) there in
    both _ _ _ _ issues c.in_ok-found.ensures.total
