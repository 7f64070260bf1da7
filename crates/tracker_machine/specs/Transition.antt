-- The call `transition`: an issue goes to another status, as one change group with all that comes with it.
use Rattle.std.specs.Prelude.{ℕ, List, [], map, slice_get, Option, Some, None, option_map, option_and_then}
use Rattle.field_values.specs.declared.rules.Permission.TheVariants as permission
use Rattle.field_values.specs.declared.parts.Transition.{Transition}
use Rattle.field_forms.specs.Names.{place_named}
use Rattle.field_values.specs.Parts.{Parts}
use Rattle.change_history.specs.declared.change.Change.{Change}
use Rattle.change_history.specs.History.{History}
use Rattle.workflow.specs.Conditions.{failing_condition}
use Rattle.workflow.specs.Validators.{failing_validator}
use Rattle.workflow.specs.Plan.{planned}
use Rattle.tracker_calls.specs.declared.given.GivenField.{GivenField}
use Rattle.tracker_calls.specs.declared.reply.Answer.{Answer}
use Rattle.tracker_calls.specs.declared.reply.Answer.TheVariants as answer
use Rattle.tracker_calls.specs.declared.cause.Cause.{Cause}
use Rattle.tracker_calls.specs.declared.cause.Cause.TheVariants as cause
use Rattle.tracker_calls.specs.declared.cause.Thing.TheVariants as thing
use Rattle.tracker_machine.specs.Machine.{Machine}
use Rattle.tracker_machine.specs.Known.{place_of_issue, history_named}
use Rattle.tracker_machine.specs.Checks.{or_then, unless_known, set_refusal, closed_refusal, entries_refusal, bytes_refusal, values_refusal}
use Rattle.tracker_machine.specs.Access.{access_refusal}
use Rattle.tracker_machine.specs.Group.{grouped_at}
use Rattle.tracker_machine.specs.Edit.{set_wants, set_changes}
use Rattle.tracker_machine.specs.Meaning.{Meaning, unless}

abbrev pub transition_names : Parts → List (List ℕ)
transition_names setup = map (λ t. t.name) setup.transition

-- the setup's transition of a name
abbrev pub transition_named : Machine → List ℕ → Option Transition
transition_named m name =
    option_and_then (λ place. slice_get m.setup.transition place)
    (place_named name (transition_names m.setup))

-- its conditions hold of the issue and the caller
abbrev pub condition_refusal : Machine → ℕ → Option History → Option Transition → Option Cause
condition_refusal m caller (Some h) (Some t) =
    option_map cause.Condition (failing_condition m.setup h (record { 0 = caller }) t)
condition_refusal m caller _ _ = None

-- its validators hold of the issue after the inputs
abbrev pub validator_refusal : Machine → ℕ → List Change → Option History → Option Transition
    → Option Cause
validator_refusal m caller inputs (Some h) (Some t) =
    option_map cause.Validator (failing_validator m.setup h
    (record { 0 = caller }) t inputs m.moment)
validator_refusal m caller inputs _ _ = None

-- the conditions, then what is given, then the validators
abbrev pub plan_refusal : Machine → ℕ → List GivenField → Option History → Option Transition
    → Option Cause
plan_refusal m caller set h t =
    or_then (condition_refusal m caller h t)
    (or_then (values_refusal m (set_wants m set))
    (validator_refusal m caller (set_changes m set) h t))

abbrev pub transition_refusal : Machine → ℕ → List ℕ → List ℕ → List GivenField → Option Cause
transition_refusal m caller issue transition set =
    or_then (unless_known (place_of_issue issue m.histories) (cause.Unknown thing.Issue issue))
    (or_then (unless_known (place_named transition (transition_names m.setup))
    (cause.Unknown thing.Transition transition))
    (or_then (set_refusal m set)
    (or_then (access_refusal m caller permission.Browse (history_named m issue))
    (or_then (access_refusal m caller permission.Transition (history_named m issue))
    (or_then (closed_refusal m set (history_named m issue))
    (or_then (entries_refusal m)
    (or_then (bytes_refusal m)
    (plan_refusal m caller set (history_named m issue) (transition_named m transition)))))))))

-- what the transition changes: the inputs, the status and what its post functions set, as far as it differs
abbrev pub transition_news : Machine → ℕ → List GivenField → Option History → Option Transition
    → List Change
transition_news m caller set (Some h) (Some t) =
    planned m.setup h (record { 0 = caller }) t (set_changes m set)
transition_news m caller set _ _ = []

abbrev pub transition_answer : List ℕ → Option ℕ → Answer
transition_answer issue number = answer.Transition number issue

abbrev pub transition_meaning : Machine → ℕ → List ℕ → List ℕ → List GivenField → Meaning
transition_meaning m caller issue transition set =
    unless (transition_refusal m caller issue transition set)
    (grouped_at (transition_answer issue) m caller (place_of_issue issue m.histories)
    (history_named m issue)
    (transition_news m caller set (history_named m issue) (transition_named m transition)))
