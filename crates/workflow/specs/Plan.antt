-- The plan of a transition.
use Rattle.std.specs.Prelude.{◌≡◌, ◌≢◌, ℕ, List, [], ◌∷◌, ◌++◌, Option, None, Some, option_map, Result, Ok, Err}
use Rattle.std.specs.Option.{option_or}
use Rattle.std.specs.Global.{Vec}
use Rattle.field_values.specs.declared.numbers.UserNo.{UserNo}
use Rattle.field_values.specs.declared.value.Value.TheVariants.{Choice}
use Rattle.field_values.specs.declared.parts.Transition.{Transition}
use Rattle.field_values.specs.Parts.{Parts}
use Rattle.fields.specs.SetupParts.{names_in}
use Rattle.change_history.specs.declared.change.Change.{Change}
use Rattle.change_history.specs.History.{History, present}
use Rattle.workflow.specs.declared.fault.PlanFault.{PlanFault}
use Rattle.workflow.specs.declared.fault.PlanFault.TheVariants.{Condition, Value, Validator, Memory}
use Rattle.field_values.specs.declared.numbers.TheConstants.FieldNo.{STATUS as status}
use Rattle.workflow.specs.Net.{net_changes}
use Rattle.workflow.specs.Conditions.{failing_condition}
use Rattle.workflow.specs.Inputs.{refused_input}
use Rattle.workflow.specs.Validators.{failing_validator}
use Rattle.workflow.specs.PostFunctions.{change, with_post}

-- the first check that fails: of the conditions, then of the inputs' values, then of the validators
unfoldable pub first_fault : Parts → History → UserNo → Transition → List Change → ℕ
    → Option PlanFault
first_fault setup h caller t inputs at =
    option_or (option_map Condition (failing_condition setup h caller t))
    (option_or (option_map (λ n. Value (record { 0 = n })) (refused_input (names_in setup) inputs))
    (option_map Validator (failing_validator setup h caller t inputs at)))

-- all that changes: the inputs, then the status, then what the post functions set
unfoldable pub all_changes : Parts → History → UserNo → Transition → List Change → List Change
all_changes setup h caller t inputs =
    with_post setup h caller (inputs ++ change status (Choice t.to) ∷ []) t.post

-- the net difference of the issue after all these
unfoldable pub planned : Parts → History → UserNo → Transition → List Change → List Change
planned setup h caller t inputs = net_changes (present h) (all_changes setup h caller t inputs)

-- the answer is the first fault, and where there is none the changes; unless memory ran out
abbrev pub Answers : Option PlanFault → List Change → Result (Vec Change) PlanFault → Type 0
Answers fault changes (Ok answer) = (fault ≡ None) × (answer.items ≡ changes)
Answers fault changes (Err e) = e ≢ Memory → fault ≡ Some e
