-- The operations that are prepared are those that keep the effect.
use Rattle.std.proofs.Common.{◌≡◌, ℕ, List, [], ◌∷◌, Option, Some, None, option_map, refl, ap, sym}
use Rattle.std.specs.Option.{option_map_or}
use Rattle.std.proofs.lemmas.Option.{none-some, same_Some}
use Rattle.field_values.specs.declared.numbers.SprintNo.{SprintNo}
use Rattle.sprints.specs.declared.sprint.Sprint.{Sprint}
use Rattle.sprints.specs.declared.state.SprintState.{SprintState}
use Rattle.sprints.specs.Sprint.{future, sprint_of, name_of}
use Rattle.tracker_keeper.specs.Bodies.{body_text}
use Rattle.tracker_machine.specs.Machine.{Machine}
use Rattle.tracker_machine.specs.Sprints.{next_sprint}
use Rattle.tracker_machine.specs.Effect.Effect.{NewMoment, NewSprint, NewState}
use Rattle.tracker_machine.specs.Kept.{sprint_part, put_parts, parts_of, ops_of}
use Rattle.tracker_state.specs.Rows.{present_op}
use Rattle.setting_calls.specs.Rows.{sprint_op}

pub moment_ops_are : (m : Machine) (to : ℕ) → present_op m.balance m.change to ∷ [] ≡ ops_of (NewMoment to) m
unfolding ops_of parts_of body_text
moment_ops_are m to = refl

pub sprint_ops_are : (m : Machine) (name : List ℕ) → sprint_op (next_sprint m) (future name) ∷ [] ≡ ops_of (NewSprint name) m
unfolding ops_of parts_of body_text
sprint_ops_are m name = refl

-- the sprint of this name comes to another state
pub state_ops_are : (m : Machine) (sprint : SprintNo) (state : SprintState) (name : List ℕ) → name_of m.sprints sprint.0 ≡ Some name
    → sprint_op sprint (record { name = name; state = state }) ∷ [] ≡ ops_of (NewState sprint state) m
unfolding ops_of parts_of body_text
state_ops_are m sprint state name is = by (sprint_of m.sprints sprint.0) is
  where
    by : (o : Option Sprint) → option_map (λ s. s.name) o ≡ Some name
        → sprint_op sprint (record { name = name; state = state }) ∷ [] ≡ put_parts m.setup (option_map_or (λ s. sprint_part sprint (record s { state = state }) ∷ []) o [])
    by None none = absurd (none-some name none)
    by (Some s) same = ap (λ n. sprint_op sprint (record { name = n; state = state }) ∷ []) (sym (same_Some s.name name same))
