use Rattle.std.proofs.Common.{◌≡◌, ℕ, Some, ap, sym, subst, ◌∙◌}
use Rattle.sprints.specs.declared.state.SprintState.{SprintState}
use Rattle.sprints.specs.declared.state.SprintState.TheVariants.{Future, Active, Closed}
use Rattle.sprints.specs.Sprint.{IsThere, state_of}
use Rattle.sprints.specs.State.{IsNextState}
use Rattle.sprints.specs.Change.{IsInState}
use Rattle.change_history.specs.History.{histories_of}
use Rattle.tracker_work.specs.Seen.{Seen, state_in, with_state}
use Rattle.tracker_work.specs.Work.{TrackedWork}
use Rattle.tracker_work.proofs.Answered.{starts, closes, state_kept, stated}
use Rattle.tracker_work.proofs.Steps.{started, closed}
use Rattle.tracker_work.proofs.work.Work.turn.Goals as goal

pub invariant_of-self : goal.invariant_of-self
invariant_of-self c =
    let s = c.args.sprint.0 in
    let old = c.self.inside.sprints.sprints in
    let new = c.turn.new.self.sprints in
    let state = c.in-Active in
    let seen : Seen = record { done = c.self.inside.done.items; sprints = old; histories = histories_of c.self.inside.issues.value.items; change = c.self.inside.change.value } in
    let there : IsThere old s = subst (λ (w : TrackedWork). IsThere w.seen.sprints s) (sym c.self.view_is) c.requires.there in
    let next : (at : ℕ) × IsNextState at seen.change (state_in old s) c.args.state =
    subst (λ (w : TrackedWork). (at : ℕ) × IsNextState at w.seen.change (state_in w.seen.sprints s) c.args.state) (sym c.self.view_is) c.requires.next in
    let was = starts next.0 seen.change state.at state.change (state_in old s) (subst (λ (to : SprintState). IsNextState next.0 seen.change (state_in old s) to) state.is next.1) in
    let kept : state_of old s ≡ Some Future = state_kept old s there ∙ ap (λ (to : SprintState). Some to) was.0 in
    let goes : IsInState old new s (Active state.at seen.change) =
    subst (λ (to : SprintState). IsInState old new s to) (state.is ∙ ap (Active state.at) (sym was.1)) c.turn.ensures.turned in
    rw c.turn.ensures.room (started seen c.self.inside.sprints.room c.self.inside.burndown c.self.invariant c.steps_of_histories.ensures.start new s state.at kept goes c.begin.new.self c.begin.ensures)

pub invariant_of-self-in-Closed : goal.invariant_of-self-in-Closed
invariant_of-self-in-Closed c =
    let s = c.args.sprint.0 in
    let old = c.self.inside.sprints.sprints in
    let new = c.turn.new.self.sprints in
    let state = c.in-Closed in
    let seen : Seen = record { done = c.self.inside.done.items; sprints = old; histories = histories_of c.self.inside.issues.value.items; change = c.self.inside.change.value } in
    let there : IsThere old s = subst (λ (w : TrackedWork). IsThere w.seen.sprints s) (sym c.self.view_is) c.requires.there in
    let next : (at : ℕ) × IsNextState at seen.change (state_in old s) c.args.state =
    subst (λ (w : TrackedWork). (at : ℕ) × IsNextState at w.seen.change (state_in w.seen.sprints s) c.args.state) (sym c.self.view_is) c.requires.next in
    let was = closes next.0 seen.change state.start_at state.start_change state.at state.change (state_in old s) (subst (λ (to : SprintState). IsNextState next.0 seen.change (state_in old s) to) state.is next.1) in
    let kept : state_of old s ≡ Some (Active state.start_at state.start_change) = state_kept old s there ∙ ap (λ (to : SprintState). Some to) was.0 in
    let goes : IsInState old new s (Closed state.start_at state.start_change state.at seen.change) =
    subst (λ (to : SprintState). IsInState old new s to) (state.is ∙ ap (Closed state.start_at state.start_change state.at) (sym was.1)) c.turn.ensures.turned in
    rw c.turn.ensures.room (closed seen c.self.inside.sprints.room c.self.inside.burndown c.self.invariant c.steps_of_histories.ensures.close new s state.start_at state.start_change state.at kept goes c.end.new.self c.end.ensures)

pub returns-in-Active-clause-turned : goal.returns-in-Active-clause-turned
returns-in-Active-clause-turned c =
    let s = c.args.sprint.0 in
    let old = c.self.inside.sprints.sprints in
    let new = c.turn.new.self.sprints in
    let seen : Seen = record { done = c.self.inside.done.items; sprints = old; histories = histories_of c.self.inside.issues.value.items; change = c.self.inside.change.value } in
    let there : IsThere old s = subst (λ (w : TrackedWork). IsThere w.seen.sprints s) (sym c.self.view_is) c.requires.there in
    subst (λ (w : TrackedWork). record seen { sprints = new } ≡ with_state w.seen s c.args.state) c.self.view_is
    (stated seen new s c.args.state there c.turn.ensures.turned)
