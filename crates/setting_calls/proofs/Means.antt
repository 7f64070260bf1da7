-- What the turn of a sprint means that no check refuses, and that the sprint may come to its next state.
use Rattle.std.proofs.Common.{inl, inr, ◌≡◌, ℕ, List, Option, Some, None, IfSome, option_map, unwrap_or, refl, sym, ap, ◌∙◌}
use Rattle.std.proofs.lemmas.Option.{none-some}
use Rattle.tracker_machine.specs.Machine.{Machine}
use Rattle.field_values.specs.declared.numbers.SprintNo.{SprintNo}
use Rattle.sprints.specs.declared.state.SprintState.{SprintState}
use Rattle.sprints.specs.declared.state.SprintState.TheVariants.{Future}
use Rattle.sprints.specs.declared.sprint.Sprint.{Sprint}
use Rattle.sprints.specs.Sprint.{IsThere, sprint_of, state_of}
use Rattle.sprints.specs.State.{after_start, after_close}
use Rattle.tracker_machine.specs.SprintRules.{MayTurn}
use Rattle.tracker_machine.proofs.SprintRules.{found_is_there}
use Rattle.tracker_machine.specs.Sprints.{plan_sprint_refusal, start_sprint_meaning, close_sprint_meaning, turned}
use Rattle.tracker_state.proofs.Checked.{unrefused}

-- a sprint of this state, which the caller may plan, starts where it can
pub start_turns : (m : Machine) (caller : ℕ) (sprint : SprintNo) (kept : SprintState) → state_of m.sprints sprint.0 ≡ Some kept
    → plan_sprint_refusal m caller sprint ≡ None
    → start_sprint_meaning m caller sprint ≡ turned sprint kept (after_start kept m.moment m.change)
start_turns m caller sprint kept is passed =
    unrefused (plan_sprint_refusal m caller sprint) _ passed
    ∙ ap (λ (o : Option SprintState). turned sprint (unwrap_or o Future) (after_start (unwrap_or o Future) m.moment m.change)) is

-- and is closed where it can be
pub close_turns : (m : Machine) (caller : ℕ) (sprint : SprintNo) (kept : SprintState) → state_of m.sprints sprint.0 ≡ Some kept
    → plan_sprint_refusal m caller sprint ≡ None
    → close_sprint_meaning m caller sprint ≡ turned sprint kept (after_close kept m.moment m.change)
close_turns m caller sprint kept is passed =
    unrefused (plan_sprint_refusal m caller sprint) _ passed
    ∙ ap (λ (o : Option SprintState). turned sprint (unwrap_or o Future) (after_close (unwrap_or o Future) m.moment m.change)) is

-- a sprint that has a state is there
kept_is_there : (sprints : List Sprint) (n : ℕ) (kept : SprintState) → state_of sprints n ≡ Some kept → IsThere sprints n
kept_is_there sprints n kept is = by (sprint_of sprints n) refl is
  where
    by : (o : Option Sprint) → sprint_of sprints n ≡ o → option_map (λ (s : Sprint). s.state) o ≡ Some kept → IsThere sprints n
    by None found none = absurd (none-some kept none)
    by (Some s) found same = (found_is_there sprints n s found).0

-- and may come to the state that follows its start, if one does
pub may_start : (m : Machine) (sprint : SprintNo) (kept : SprintState) (next : Option SprintState) → state_of m.sprints sprint.0 ≡ Some kept
    → next ≡ after_start kept m.moment m.change → IfSome next (MayTurn m.moment m.change m.sprints sprint)
may_start m sprint kept None is same = tt
may_start m sprint kept (Some state) is same = record {
  there = kept_is_there m.sprints sprint.0 kept is;
  next = inl (ap (λ (o : Option SprintState). after_start (unwrap_or o Future) m.moment m.change) is ∙ sym same);
}

-- or its close
pub may_close : (m : Machine) (sprint : SprintNo) (kept : SprintState) (next : Option SprintState) → state_of m.sprints sprint.0 ≡ Some kept
    → next ≡ after_close kept m.moment m.change → IfSome next (MayTurn m.moment m.change m.sprints sprint)
may_close m sprint kept None is same = tt
may_close m sprint kept (Some state) is same = record {
  there = kept_is_there m.sprints sprint.0 kept is;
  next = inr (ap (λ (o : Option SprintState). after_close (unwrap_or o Future) m.moment m.change) is ∙ sym same);
}
