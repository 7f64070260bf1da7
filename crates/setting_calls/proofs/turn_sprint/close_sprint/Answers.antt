use Rattle.std.proofs.Common.{ℕ, ap, ap₂, sym, ◌∙◌, subst}
use Rattle.sprints.specs.State.{after_close}
use Rattle.tracker_machine.specs.Meaning.{Meaning}
use Rattle.tracker_machine.specs.Sprints.{turned}
use Rattle.tracker_state.specs.Plan.{IsPrepared}
use Rattle.setting_calls.proofs.Means.{close_turns, may_close}
use Rattle.setting_calls.proofs.turn_sprint.close_sprint.Goals as goal

pub turn-requires-clause-may : goal.turn-requires-clause-may
turn-requires-clause-may c =
    let kept = c.in_ok-found.found.state in
    may_close c.args.state.now.machine c.args.sprint kept c.after_close-next.result c.in_ok-found.ensures.kept
    (c.after_close-next.ensures ∙ ap₂ (λ (at change : ℕ). after_close kept at change) c.moment.ensures c.change.ensures)

pub returns : goal.returns
returns c =
    let m = c.args.state.now.machine in
    let kept = c.in_ok-found.found.state in
    subst (λ (meant : Meaning). IsPrepared meant c.args.state.now c.turn.result)
    (ap (turned c.args.sprint kept) (c.after_close-next.ensures ∙ ap₂ (λ (at change : ℕ). after_close kept at change) c.moment.ensures c.change.ensures)
    ∙ sym (close_turns m c.args.caller.0 c.args.sprint kept c.in_ok-found.ensures.kept c.in_ok-found.ensures.check))
    c.turn.ensures
