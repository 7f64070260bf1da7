use Rattle.std.proofs.Common.{◌≡◌, ℕ, Bool, true, false, List, None, codes, refl, sym, subst}
use Rattle.std.proofs.lemmas.Option.{none-some}
use Rattle.field_forms.specs.Names.{is_title}
use Rattle.tracker_calls.specs.declared.cause.Cause.TheVariants as cause
use Rattle.tracker_machine.specs.Step.{meaning_for, form_refusal}
use Rattle.tracker_machine.specs.Checks.{only_if, other_refusal, title_refusal}
use Rattle.tracker_machine.proofs.Placed.{apart}
use Rattle.tracker_core.proofs.Forms.{in_range, formed}
use Rattle.tracker_state.specs.Plan.{IsPrepared}
use Rattle.tracker_core.proofs.preparing.prepare_for.Goals as goal

pub move_before-requires : goal.move_before-requires
unfolding form_refusal
move_before-requires g c =
    let none : other_refusal c.in-MoveBefore.issue c.in-MoveBefore.other ≡ None = subst (λ call. form_refusal call ≡ None) c.in-MoveBefore.is c.requires.form in
    record { apart = rw (c.as_str-in-MoveBefore.ensures, c.as_str-in-MoveBefore-2.ensures) (apart c.in-MoveBefore.issue c.in-MoveBefore.other none) }

pub move_after-requires : goal.move_after-requires
unfolding form_refusal
move_after-requires g c =
    let none : other_refusal c.in-MoveAfter.issue c.in-MoveAfter.other ≡ None = subst (λ call. form_refusal call ≡ None) c.in-MoveAfter.is c.requires.form in
    record { apart = rw (c.as_str-in-MoveAfter.ensures, c.as_str-in-MoveAfter-2.ensures) (apart c.in-MoveAfter.issue c.in-MoveAfter.other none) }

pub rebalance_step-requires : goal.rebalance_step-requires
unfolding form_refusal
rebalance_step-requires g c = in_range 1_000 c.in-RebalanceStep.count (subst (λ call. form_refusal call ≡ None) c.in-RebalanceStep.is c.requires.form)

-- a name that no check of form refuses
is_named : (name : List ℕ) → title_refusal name ≡ None → is_title name ≡ true
is_named name none = by (is_title name) none
  where
    by : (b : Bool) → only_if b (cause.Form (codes "name")) ≡ None → b ≡ true
    by true none = refl
    by false none = absurd (none-some (cause.Form (codes "name")) (sym none))

pub save_filter-requires-clause-title : goal.save_filter-requires-clause-title
unfolding form_refusal
save_filter-requires-clause-title g c =
    let none : title_refusal c.in-SaveFilter.name ≡ None = subst (λ call. form_refusal call ≡ None) c.in-SaveFilter.is c.requires.form in
    rw c.as_str-in-SaveFilter.ensures (is_named c.in-SaveFilter.name none)

pub make_board-requires : goal.make_board-requires
unfolding form_refusal
make_board-requires g c =
    let none : title_refusal c.in-MakeBoard.name ≡ None = subst (λ call. form_refusal call ≡ None) c.in-MakeBoard.is c.requires.form in
    record { title = rw c.as_str-in-MakeBoard.ensures (is_named c.in-MakeBoard.name none) }

pub make_sprint-requires : goal.make_sprint-requires
unfolding form_refusal
make_sprint-requires g c =
    let none : title_refusal c.in-MakeSprint.name ≡ None = subst (λ call. form_refusal call ≡ None) c.in-MakeSprint.is c.requires.form in
    record { title = rw c.as_str-in-MakeSprint.ensures (is_named c.in-MakeSprint.name none) }

pub create-requires-clause-external : goal.create-requires-clause-external
unfolding form_refusal
create-requires-clause-external g c =
    formed c.in-Create.set c.in-Create.external c.text_of.result c.text_of.ensures (subst (λ call. form_refusal call ≡ None) c.in-Create.is c.requires.form)

pub returns-in-Create-clause-prepared : goal.returns-in-Create-clause-prepared
unfolding meaning_for
returns-in-Create-clause-prepared g c =
    let m = c.args.state.now.machine in
    subst (λ call. IsPrepared (meaning_for m c.args.user.0 call) c.create.new.state c.create.result) (sym c.in-Create.is)
    (rw (← c.as_str.ensures, ← c.as_str-in-Create.ensures, ← c.as_str-in-Create-2.ensures, ← c.as_slice.ensures, ← c.text_of.ensures) c.create.ensures.prepared)

pub returns-in-Transition-clause-prepared : goal.returns-in-Transition-clause-prepared
unfolding meaning_for
returns-in-Transition-clause-prepared g c =
    let m = c.args.state.now.machine in
    subst (λ call. IsPrepared (meaning_for m c.args.user.0 call) c.transition.new.state c.transition.result) (sym c.in-Transition.is)
    (rw (← c.as_str-in-Transition.ensures, ← c.as_str-in-Transition-2.ensures, ← c.as_slice-in-Transition.ensures) c.transition.ensures.prepared)
