use Rattle.std.proofs.Common.{◌≡◌, ◌∙◌, length, vec_len, vec_capacity, sym, subst, ap, rules, arith, w64}
use Rattle.std.proofs.lemmas.Int.{to_z-of_z}
use Rattle.std.specs.Int.RustNames.{FitsSigned}
use Rattle.burndown.specs.declared.progress.Progress.{Progress}
use Rattle.burndown.specs.Course.{Course, IsTotal, after_group}
use Rattle.burndown.specs.Tracked.{course, tracked_sprints}
use Rattle.burndown.specs.Burndown.{IsAt, IsGapFor, ChangesOnly, HasRoom, course_of, slots_of}
use Rattle.burndown.proofs.TrackedSprints.{total_found, course_found, slots_found, changes_at, kept_set, tracked_in_gap}
use Rattle.burndown.proofs.burndown.Burndown.tell.Goals as goal

-- a sprint that has room is found
pub returns-in_default : goal.returns-in_default
returns-in_default c =
    let gap = subst (λ ts. IsGapFor ts c.args.sprint.0 c.in_default.field-0) c.deref.ensures.value c.in_default.ensures.absent in
    let none : slots_of c.args.self.now c.args.sprint.0 ≡ 0 = rw (← c.self.view_is) (ap (λ l. l.slots) (tracked_in_gap _ c.self.inside.courses.items _ _ gap)) in
    absurd (omega arith)

-- the course that is written is the sprint's, with the group taken in
told_course : (c : goal.After-self-2-1) → course c.tell-left.result c.tell-left.new.self ≡ after_group c.args.sprint.0 c.args.group.now (course_of (tracked_sprints c.self.inside.totals.items c.self.inside.courses.items) c.args.sprint.0)
told_course c =
    let at = subst (λ ts. IsAt ts c.args.sprint.0 c.in-Ok.place) c.deref.ensures.value c.in-Ok.ensures.found in
    let p = c.index_mut-progress.result.now in
    let s = c.args.sprint.0 in
    let fits : FitsSigned w64 c.index.result.now.1 = search rules in
    let total = to_z-of_z w64 c.index.result.now.1 fits ∙ total_found _ _ c.self.invariant _ _ at c.index.result.now c.index.ensures in
    c.tell-left.ensures.course ∙ ap (after_group s c.args.group.now) (ap (λ x. course x p) total ∙ course_found _ _ c.self.invariant _ _ at p c.index_mut-progress.ensures.value)

pub tell-left-requires-clause-room : goal.tell-left-requires-clause-room
tell-left-requires-clause-room c =
    let at = subst (λ ts. IsAt ts c.args.sprint.0 c.in-Ok.place) c.deref.ensures.value c.in-Ok.ensures.found in
    let p = c.index_mut-progress.result.now in
    let is = c.index_mut-progress.ensures.value in
    let room : HasRoom (tracked_sprints c.self.inside.totals.items c.self.inside.courses.items) c.args.sprint.0 = subst (λ b. HasRoom b c.args.sprint.0) (sym c.self.view_is) c.requires.room in
    let len : length p.rows.items ≡ vec_len p.rows = search rules in
    let rows = ap (λ y. length y.rows) (course_found _ _ c.self.invariant _ _ at p is) in
    let slots = slots_found _ _ c.self.invariant _ _ at p is in
    omega (arith, room, len, rows, slots)

pub tell-left-requires-clause-fits : goal.tell-left-requires-clause-fits
tell-left-requires-clause-fits c =
    let at = subst (λ ts. IsAt ts c.args.sprint.0 c.in-Ok.place) c.deref.ensures.value c.in-Ok.ensures.found in
    let p = c.index_mut-progress.result.now in
    let s = c.args.sprint.0 in
    let fits : FitsSigned w64 c.index.result.now.1 = search rules in
    let total = total_found _ _ c.self.invariant _ _ at c.index.result.now c.index.ensures in
    let same = ap (λ x. course x p) total ∙ course_found _ _ c.self.invariant _ _ at p c.index_mut-progress.ensures.value in
    let in_range = subst (λ b. IsTotal (after_group s c.args.group.now (course_of b s)).total) (sym c.self.view_is) c.requires.totals in
    rw (to_z-of_z w64 c.index.result.now.1 fits) (subst (λ (y : Course). IsTotal (after_group s c.args.group.now y).total) (sym same) in_range)

pub invariant_of-self : goal.invariant_of-self
invariant_of-self c =
    let at = subst (λ ts. IsAt ts c.args.sprint.0 c.in-Ok.place) c.deref.ensures.value c.in-Ok.ensures.found in
    let s = c.args.sprint.0 in
    let answer_fits : FitsSigned w64 c.tell-left.result = search rules in
    let same = told_course c in
    let in_range = subst (λ b. IsTotal (after_group s c.args.group.now (course_of b s)).total) (sym c.self.view_is) c.requires.totals in
    rw (to_z-of_z w64 c.tell-left.result answer_fits) (kept_set _ _ c.self.invariant s _ at _ _ (subst IsTotal (sym (ap (λ (y : Course). y.total) same)) in_range))

pub returns : goal.returns
returns c =
    let at = subst (λ ts. IsAt ts c.args.sprint.0 c.in-Ok.place) c.deref.ensures.value c.in-Ok.ensures.found in
    let s = c.args.sprint.0 in
    let p = c.index_mut-progress.result.now in
    let answer_fits : FitsSigned w64 c.tell-left.result = search rules in
    let room = c.tell-left.ensures.room ∙ ap (λ (y : Progress). vec_capacity y.rows) c.index_mut-progress.ensures.value in
    rw (to_z-of_z w64 c.tell-left.result answer_fits, ← c.self.view_is)
    (subst (ChangesOnly _ _ s) (told_course c) (changes_at _ _ c.self.invariant s _ at c.tell-left.result c.tell-left.new.self p room))
