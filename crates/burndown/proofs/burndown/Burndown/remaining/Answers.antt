use Rattle.std.proofs.Common.{sym, subst, ap, rules, w64}
use Rattle.std.proofs.lemmas.Int.{to_z-of_z}
use Rattle.std.specs.Int.RustNames.{FitsSigned}
use Rattle.burndown.specs.Burndown.{IsAt, IsGapFor}
use Rattle.burndown.proofs.TrackedSprints.{total_found, tracked_in_gap}
use Rattle.burndown.proofs.burndown.Burndown.remaining.Goals as goal

pub returns-in-Ok-clause-remaining : goal.returns-in-Ok-clause-remaining
returns-in-Ok-clause-remaining c =
    let at = subst (λ ts. IsAt ts c.args.sprint.0 c.in-Ok.place) c.deref.ensures.value c.in-Ok.ensures.found in
    let fits : FitsSigned w64 c.index.result.now.1 = search rules in
    rw (to_z-of_z w64 c.index.result.now.1 fits, ← c.self.view_is) (total_found _ _ c.self.invariant _ _ at c.index.result.now c.index.ensures)

pub returns-in-Err-clause-remaining : goal.returns-in-Err-clause-remaining
returns-in-Err-clause-remaining c =
    let gap = subst (λ ts. IsGapFor ts c.args.sprint.0 c.in-Err.field-0) c.deref.ensures.value c.in-Err.ensures.absent in
    rw (← c.self.view_is) (sym (ap (λ l. l.course.total) (tracked_in_gap _ c.self.inside.courses.items _ _ gap)))
