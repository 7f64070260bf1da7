use Rattle.std.proofs.Common.{◌∙◌, sym, subst, ap}
use Rattle.burndown.specs.Burndown.{IsAt, IsGapFor}
use Rattle.burndown.proofs.TrackedSprints.{course_found, tracked_in_gap}
use Rattle.burndown.proofs.burndown.Burndown.rows.Goals as goal

pub returns-in-Ok : goal.returns-in-Ok
returns-in-Ok c =
    let at = subst (λ ts. IsAt ts c.args.sprint.0 c.in-Ok.place) c.deref.ensures.value c.in-Ok.ensures.found in
    c.deref-in-Ok.ensures.value ∙ rw (← c.self.view_is) (ap (λ y. y.rows) (course_found _ _ c.self.invariant _ _ at c.index.result.now c.index.ensures))

pub returns-in-Err : goal.returns-in-Err
returns-in-Err c =
    let gap = subst (λ ts. IsGapFor ts c.args.sprint.0 c.in-Err.field-0) c.deref.ensures.value c.in-Err.ensures.absent in
    rw (← c.self.view_is) (sym (ap (λ l. l.course.rows) (tracked_in_gap _ c.self.inside.courses.items _ _ gap)))
