use Rattle.std.proofs.Common.{sym, subst, ap}
use Rattle.burndown.specs.Course.{Course, IsRunning, stage_after_end}
use Rattle.burndown.specs.Tracked.{tracked_sprints}
use Rattle.burndown.specs.Burndown.{IsAt, IsGapFor, ChangesOnly, course_of}
use Rattle.burndown.proofs.TrackedSprints.{stage_written, course_found, tracked_in_gap}
use Rattle.burndown.proofs.burndown.Burndown.end.Goals as goal

-- a sprint that is running is found
pub returns-in_default : goal.returns-in_default
returns-in_default c =
    let gap = subst (λ ts. IsGapFor ts c.args.sprint.0 c.in_default.field-0) c.deref.ensures.value c.in_default.ensures.absent in
    let none = ap (λ l. l.course.stage) (tracked_in_gap _ c.self.inside.courses.items _ _ gap) in
    absurd (subst IsRunning none (subst (λ b. IsRunning (course_of b c.args.sprint.0).stage) (sym c.self.view_is) c.requires))

pub returns : goal.returns
returns c =
    let at = subst (λ ts. IsAt ts c.args.sprint.0 c.in-Ok.place) c.deref.ensures.value c.in-Ok.ensures.found in
    let ts = c.self.inside.totals.items in
    let ps = c.self.inside.courses.items in
    let s = c.args.sprint.0 in
    let p = c.index_mut-progress.result.now in
    let course = course_found ts ps c.self.invariant s _ at p c.index_mut-progress.ensures.value in
    let written = stage_written ts ps c.self.invariant s _ at p c.index_mut-progress.ensures.value (stage_after_end p.stage) in
    let end_is = ap (λ (y : Course). let d : Course = record (course_of (tracked_sprints ts ps) s) { stage = stage_after_end y.stage } in d) course in
    rw (c.after_end-progress.ensures, ← c.self.view_is) (subst (ChangesOnly _ _ s) end_is written)
