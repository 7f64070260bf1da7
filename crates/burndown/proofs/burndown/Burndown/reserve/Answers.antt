use Rattle.std.proofs.Common.{◌≡◌, ◌∙◌, List, length, Result, Ok, Err, OnErr, vec_len, sym, subst, ap, refl, rules, arith}
use Rattle.std.specs.Prelude.{ℤ, pos}
use Rattle.std.specs.List.{insert}
use Rattle.field_values.specs.declared.numbers.SprintNo.{SprintNo}
use Rattle.burndown.specs.declared.progress.Progress.{Progress}
use Rattle.burndown.specs.Tracked.{tracked_sprints}
use Rattle.burndown.specs.Burndown.{IsAt, IsGapFor, HasRoom}
use Rattle.burndown.proofs.TrackedSprints.{tracked_set_same, kept_insert, grows_at, room_at, grows_in_gap, room_in_gap}
use Rattle.burndown.proofs.burndown.Burndown.reserve.Goals as goal

on_err : {A E P : Type 0} (r : Result A E) → P → OnErr r P
on_err (Ok a) h = tt
on_err (Err e) h = h

-- the room that was missing is still missing
pub returns-in_err-reserve-in-Ok-clause-err : goal.returns-in_err-reserve-in-Ok-clause-err
returns-in_err-reserve-in-Ok-clause-err c =
    let p = c.index_mut-progress.result.now in
    let q : Progress = record { stage = p.stage; rows = c.reserve.new.self } in
    let facts = c.in_err-reserve-in-Ok.ensures in
    on_err c.from_residual.result (tracked_set_same c.self.inside.totals.items c.self.inside.courses.items c.in-Ok.place p c.index_mut-progress.ensures.value q refl facts.items facts.err ∙ c.self.view_is)

pub invariant_of-self-in-Err : goal.invariant_of-self-in-Err
invariant_of-self-in-Err c =
    let gap = subst (λ ts. IsGapFor ts c.args.sprint.0 c.in-Err.place) c.deref.ensures.value c.in-Err.ensures.absent in
    let h1 = c.in_ok-reserve-in-Err.ensures.items in
    let h2 = c.in_ok-reserve-in-Err-2.ensures.items in
    rw (c.insert_reserved.ensures, c.insert_reserved-in-Err.ensures, h1, h2) (kept_insert _ _ c.self.invariant c.args.sprint.0 _ gap _)

pub returns-in_ok-reserve-in-Ok-clause-room : goal.returns-in_ok-reserve-in-Ok-clause-room
returns-in_ok-reserve-in-Ok-clause-room c =
    let at = subst (λ ts. IsAt ts c.args.sprint.0 c.in-Ok.place) c.deref.ensures.value c.in-Ok.ensures.found in
    let len : length c.reserve.new.self.items ≡ vec_len c.reserve.new.self = search rules in
    room_at _ _ c.self.invariant _ _ at _ (omega (arith, len, c.in_ok-reserve-in-Ok.ensures.ok))

pub returns-in_ok-reserve-in-Ok-clause-stands : goal.returns-in_ok-reserve-in-Ok-clause-stands
returns-in_ok-reserve-in-Ok-clause-stands c =
    let at = subst (λ ts. IsAt ts c.args.sprint.0 c.in-Ok.place) c.deref.ensures.value c.in-Ok.ensures.found in
    let p = c.index_mut-progress.result.now in
    let q : Progress = record { stage = p.stage; rows = c.reserve.new.self } in
    let facts = c.in_ok-reserve-in-Ok.ensures in
    rw (← c.self.view_is) (grows_at _ _ c.self.invariant _ _ at p c.index_mut-progress.ensures.value q refl facts.items facts.capacity)

pub returns-in_ok-reserve-in-Err-2-clause-room : goal.returns-in_ok-reserve-in-Err-2-clause-room
returns-in_ok-reserve-in-Err-2-clause-room c =
    let gap = subst (λ ts. IsGapFor ts c.args.sprint.0 c.in-Err.place) c.deref.ensures.value c.in-Err.ensures.absent in
    let i = c.in-Err.place in
    let s = c.args.sprint.0 in
    let t : SprintNo × ℤ = (c.args.sprint, pos 0) in
    let p = c.in_ok-progress-in-Err.progress in
    let totals : c.insert_reserved.new.items.items ≡ insert c.self.inside.totals.items i t =
    c.insert_reserved.ensures ∙ ap (λ (y : List (SprintNo × ℤ)). insert y i t) c.in_ok-reserve-in-Err.ensures.items in
    let courses : c.insert_reserved-in-Err.new.items.items ≡ insert c.self.inside.courses.items i p =
    c.insert_reserved-in-Err.ensures ∙ ap (λ (y : List Progress). insert y i p) c.in_ok-reserve-in-Err-2.ensures.items in
    subst (λ (y : List (SprintNo × ℤ)). HasRoom (tracked_sprints y c.insert_reserved-in-Err.new.items.items) s) (sym totals)
    (subst (λ (y : List Progress). HasRoom (tracked_sprints (insert c.self.inside.totals.items i t) y) s) (sym courses)
    (room_in_gap _ _ c.self.invariant _ _ gap p c.in_ok-progress-in-Err.ensures))

pub returns-in_ok-reserve-in-Err-2-clause-stands : goal.returns-in_ok-reserve-in-Err-2-clause-stands
returns-in_ok-reserve-in-Err-2-clause-stands c =
    let gap = subst (λ ts. IsGapFor ts c.args.sprint.0 c.in-Err.place) c.deref.ensures.value c.in-Err.ensures.absent in
    let h1 = c.in_ok-reserve-in-Err.ensures.items in
    let h2 = c.in_ok-reserve-in-Err-2.ensures.items in
    rw (c.insert_reserved.ensures, c.insert_reserved-in-Err.ensures, h1, h2, ← c.self.view_is) (grows_in_gap _ _ c.self.invariant _ _ gap _ c.in_ok-progress-in-Err.ensures)
