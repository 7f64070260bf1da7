use Rattle.std.proofs.Common.{pos, subst}
use Rattle.change_history.specs.History.{present}
use Rattle.change_history.specs.Span.{entries_of}
use Rattle.jql_meaning.specs.Surroundings.{surroundings_of}
use Rattle.jql_meaning.specs.Marks.{value_mark}
use Rattle.jql_past.specs.Next.{IsNext, ToOne}
use Rattle.jql_past.specs.Near.{OneIsNear, IsNearMark, IsNearChange, OneIsDisturbed}
use Rattle.jql_past.proofs.Nexts.{next_of_both}
use Rattle.jql_past.proofs.end.next_change.Goals as goal

pub returns : goal.returns
returns c =
    let s = surroundings_of c.args.context.now in
    let h = c.args.issue.now.history in
    let leaf = c.args.leaf.now in
    let at = c.args.at in
    let created : IsNext (OneIsNear leaf.predicates (pos h.at) (pos 1)) at c.near_creation.result =
    subst (λ ps. IsNext (OneIsNear ps (pos h.at) (pos 1)) at c.near_creation.result) c.as_slice-predicates.ensures c.near_creation.ensures in
    let dated : IsNext (IsNearMark leaf.predicates (value_mark s (present h leaf.field))) at c.near_date.result =
    subst (λ ps. IsNext (IsNearMark ps (value_mark s (present h leaf.field))) at c.near_date.result) c.as_slice-predicates.ensures
    (subst (λ v. IsNext (IsNearMark c.as_slice-predicates.result.now (value_mark s v)) at c.near_date.result) c.value.ensures c.near_date.ensures) in
    let changed : IsNext (ToOne (IsNearChange leaf.predicates) (entries_of h.entries leaf.field)) at c.near_changes-changes.result =
    subst (λ ps. IsNext (ToOne (IsNearChange ps) (entries_of h.entries leaf.field)) at c.near_changes-changes.result) c.as_slice-predicates.ensures c.near_changes-changes.ensures in
    let disturbed : IsNext (OneIsDisturbed s leaf.predicates at) at c.next_disturbance.result =
    subst (λ ps. IsNext (OneIsDisturbed s ps at) at c.next_disturbance.result) c.as_slice-predicates.ensures c.next_disturbance.ensures in
    rw (c.earlier-2.ensures, c.earlier.ensures, c.earlier-marks.ensures)
    (next_of_both _ _ at _ _ (next_of_both _ _ at _ _ created dated) (next_of_both _ _ at _ _ changed disturbed))
