use Rattle.std.proofs.Common.{◌≡◌, subst, ap, rules, arith, w64}
use Rattle.std.proofs.lemmas.Int.{to_z-of_z}
use Rattle.std.specs.Int.RustNames.{FitsSigned}
use Rattle.burndown.specs.declared.progress.Stage.TheVariants.{Running}
use Rattle.burndown.specs.Course.{Course}
use Rattle.burndown.specs.Tracked.{tracked_sprints}
use Rattle.burndown.specs.Burndown.{IsAt, IsGapFor, ChangesOnly, slots_of, course_of}
use Rattle.burndown.proofs.TrackedSprints.{stage_written, total_found, tracked_in_gap}
use Rattle.burndown.proofs.burndown.Burndown.begin.Goals as goal

-- a sprint that has room is found
pub returns-in_default : goal.returns-in_default
returns-in_default c =
    let gap = subst (λ ts. IsGapFor ts c.args.sprint.0 c.in_default.field-0) c.deref.ensures.value c.in_default.ensures.absent in
    let none : slots_of c.args.self.now c.args.sprint.0 ≡ 0 = rw (← c.self.view_is) (ap (λ l. l.slots) (tracked_in_gap _ c.self.inside.courses.items _ _ gap)) in
    absurd (omega arith)

pub returns : goal.returns
returns c =
    let at = subst (λ ts. IsAt ts c.args.sprint.0 c.in-Ok.place) c.deref.ensures.value c.in-Ok.ensures.found in
    let fits : FitsSigned w64 c.index.result.now.1 = search rules in
    let ts = c.self.inside.totals.items in
    let ps = c.self.inside.courses.items in
    let s = c.args.sprint.0 in
    let total = total_found ts ps c.self.invariant s _ at c.index.result.now c.index.ensures in
    let written = stage_written ts ps c.self.invariant s _ at c.index_mut-progress.result.now c.index_mut-progress.ensures.value (Running c.index.result.now.1) in
    let start_is = ap (λ x. let d : Course = record (course_of (tracked_sprints ts ps) s) { stage = Running x } in d) total in
    rw (to_z-of_z w64 c.index.result.now.1 fits, ← c.self.view_is) (subst (ChangesOnly _ _ s) start_is written)
