use Rattle.std.proofs.Common.{◌≡◌, ℕ, List, map, ap, sym, ◌∙◌, Bor}
use Rattle.change_history.specs.declared.issue.Issue.{Issue}
use Rattle.change_history.specs.History.{History}
use Rattle.tracker_calls.specs.Part.{part_of}
use Rattle.tracker_calls.specs.declared.reply.Answer.TheVariants as answer
use Rattle.list_calls.proofs.Parted.{map-map}
use Rattle.list_calls.proofs.search.answered.Goals as goal

both : (ks ls : List (List ℕ)) (n m : ℕ) → ks ≡ ls → n ≡ m → answer.Search ks n ≡ answer.Search ls m
both ks ls n m e f = ap (λ v. answer.Search v n) e ∙ ap (answer.Search ls) f

pub returns-clause-answer : goal.returns-clause-answer
returns-clause-answer g c =
    let f : Bor Issue → History = λ i. i.now.history in
    let part = c.args.part in
    let keys = c.in_ok-issues.ensures ∙ ap (map (λ (i : Bor Issue). i.now.history.key)) (c.part_of.ensures ∙ ap (part_of part) c.deref.ensures.value)
    ∙ sym (map-map (λ (h : History). h.key) f (part_of part c.in_ok-found.found.issues.items)) ∙ ap (map (λ (h : History). h.key)) c.in_ok-found.ensures.issues in
    both _ _ _ _ keys c.in_ok-found.ensures.total
