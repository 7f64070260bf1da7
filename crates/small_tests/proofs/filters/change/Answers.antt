use Rattle.std.proofs.Common.{◌-◌, ◌∙◌, List, set, ap, sym}
use Rattle.std.proofs.lemmas.List.{map-set}
use Rattle.field_values.specs.declared.numbers.IssueNo.{IssueNo}
use Rattle.change_history.specs.History.{RoomyHistory, History}
use Rattle.small_tests.proofs.filters.change.Goals as goal

pub invariant_of-day-clause-seen : goal.invariant_of-day-clause-seen
invariant_of-day-clause-seen g c =
    let day = c.args.day.now in
    let h = c.args.issue.history in
    map-set (λ (i : RoomyHistory). i.history) day.issues.items (c.no-no.result.0 - 1) c.args.issue
    ∙ ap (λ (hs : List History). set hs (c.no-no.result.0 - 1) h) day.seen
    ∙ ap (λ (n : IssueNo). set day.filters.histories (n.0 - 1) h) c.no-no.ensures
    ∙ sym c.see_change.ensures.histories
