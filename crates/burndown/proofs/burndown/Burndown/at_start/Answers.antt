use Rattle.std.proofs.Common.{◌∙◌, sym, subst, ap, rules, w64}
use Rattle.std.proofs.lemmas.Int.{to_z-of_z}
use Rattle.std.specs.Int.RustNames.{FitsSigned}
use Rattle.burndown.specs.Course.{start_of, start_in}
use Rattle.burndown.specs.Burndown.{IsAt, IsGapFor}
use Rattle.burndown.proofs.TrackedSprints.{total_found, course_found, tracked_in_gap}
use Rattle.burndown.proofs.burndown.Burndown.at_start.Goals as goal

pub returns-in-Ok : goal.returns-in-Ok
returns-in-Ok c =
    let at = subst (λ ts. IsAt ts c.args.sprint.0 c.in-Ok.place) c.deref.ensures.value c.in-Ok.ensures.found in
    let fits : FitsSigned w64 c.index-in-Ok.result.now.1 = search rules in
    let answer_fits : FitsSigned w64 c.start_or.result = search rules in
    let stage = c.index.result.now.stage in
    let total = total_found _ _ c.self.invariant _ _ at c.index-in-Ok.result.now c.index-in-Ok.ensures in
    let course = course_found _ _ c.self.invariant _ _ at c.index.result.now c.index.ensures in
    rw (to_z-of_z w64 c.start_or.result answer_fits, c.start_or.ensures, to_z-of_z w64 c.index-in-Ok.result.now.1 fits, ← c.self.view_is)
    (ap (start_in stage) total ∙ ap start_of course)

pub returns-in-Err : goal.returns-in-Err
returns-in-Err c =
    let gap = subst (λ ts. IsGapFor ts c.args.sprint.0 c.in-Err.field-0) c.deref.ensures.value c.in-Err.ensures.absent in
    rw (← c.self.view_is) (sym (ap (λ l. start_of l.course) (tracked_in_gap _ c.self.inside.courses.items _ _ gap)))
