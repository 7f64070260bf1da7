-- What holds of all changes and of all plans.
use Rattle.std.specs.Prelude.{◌≡◌, ◌≢◌, ℕ, ◌<◌, ◌≤◌, true, List, [], ◌∷◌, ◌++◌, length, slice_get, Some, None}
use Rattle.std.specs.List.{All, Contains}
use Rattle.field_values.specs.declared.numbers.UserNo.{UserNo}
use Rattle.field_values.specs.declared.numbers.FieldNo.{FieldNo}
use Rattle.field_values.specs.declared.value.Value.{Value}
use Rattle.field_values.specs.declared.value.Value.TheVariants.{Empty, Choice}
use Rattle.field_values.specs.declared.rules.PostFunction.{PostFunction}
use Rattle.field_values.specs.declared.rules.PostFunction.TheVariants.{Set, Clear, Resolution}
use Rattle.field_values.specs.declared.parts.Project.{Project}
use Rattle.field_values.specs.declared.parts.Transition.{Transition}
use Rattle.field_values.specs.Parts.{Parts}
use Rattle.field_forms.specs.Known.{Names, fits}
use Rattle.fields.specs.Sound.{IsSound}
use Rattle.fields.specs.SetupParts.{names_in}
use Rattle.change_history.specs.declared.change.Change.{Change}
use Rattle.change_history.specs.History.{History, present, updated, last_change, MayAdd}
use Rattle.field_values.specs.declared.numbers.TheConstants.FieldNo.{STATUS as status, REPORTER as reporter}
use Rattle.workflow.specs.Net.{with_changes, net_changes}
use Rattle.workflow.specs.Difference.{IsDifference, entries_of}
use Rattle.workflow.specs.Inputs.{refused_numbers, refused_input}
use Rattle.workflow.specs.Plan.{first_fault, planned}

-- what changes come to is the difference that they make
abbrev pub NetIsTheDifference : Type 0
NetIsTheDifference =
    (before : FieldNo → Value) (changes : List Change)
    → IsDifference before (with_changes before changes) (net_changes before changes)

-- there is one list of changes at most that is the difference
abbrev pub DifferencesAreOne : Type 0
DifferencesAreOne =
    (before after : FieldNo → Value) (one other : List Change) → IsDifference before after one
    → IsDifference before after other →
    one ≡ other

-- a difference that isn't empty is a change group that a history may add
abbrev pub DifferencesMayBeAdded : Type 0
DifferencesMayBeAdded =
    (h : History) (after : FieldNo → Value) (changes : List Change) (change at : ℕ)
    (author : UserNo) →
    IsDifference (present h) after changes → 0 < length changes → updated h ≤ at
    → last_change h.change h.entries < change →
    MayAdd h change at author (entries_of (present h) change at author changes)

-- with it, the fields hold what they hold after
abbrev pub DifferencesAreMade : Type 0
DifferencesAreMade =
    (h : History) (after : FieldNo → Value) (changes : List Change) (change at : ℕ)
    (author : UserNo) →
    IsDifference (present h) after changes →
    (f : FieldNo)
    → present (record h { entries = h.entries ++ entries_of (present h) change at author changes })
    f ≡ after f

-- one of the numbers, and none of them is less
pub record IsLeastOf (numbers : List ℕ) (n : ℕ) : Type 0 where
  pub one : Contains numbers n
  pub least : All (λ m. n ≤ m) numbers

-- the input that is told is the first refused one by field number
abbrev pub RefusedInputIsTheFirst : Type 0
RefusedInputIsTheFirst =
    (names : Names) (inputs : List Change) (n : ℕ) → refused_input names inputs ≡ Some n
    → IsLeastOf (refused_numbers names inputs) n

-- each change gives its field a value that fits
abbrev pub AllFit : Names → List Change → Type 0
AllFit names [] = Unit {0}
AllFit names (c ∷ cs) = (fits names c.field.0 c.to ≡ true) × AllFit names cs

-- a post function gives no status, and a value that fits
abbrev pub PostFits : Names → PostFunction → Type 0
PostFits names (Set field value) = (field.0 ≢ 4) × (fits names field.0 value ≡ true)
PostFits names (Clear field) = (field.0 ≢ 4) × (fits names field.0 Empty ≡ true)
PostFits names (Resolution choice) = choice.0 < length names.resolutions
PostFits names _ = Unit {0}

abbrev pub AllPostFit : Names → List PostFunction → Type 0
AllPostFit names [] = Unit {0}
AllPostFit names (post ∷ posts) = PostFits names post × AllPostFit names posts

-- the leads are users
abbrev pub AreLeadsKnown : ℕ → List Project → Type 0
AreLeadsKnown users [] = Unit {0}
AreLeadsKnown users (p ∷ ps) = (p.lead.0 < users) × AreLeadsKnown users ps

-- the transition leads to a status, its post functions fit, and the leads of projects are users, as of each transition of a setup
pub record IsSoundTransition (setup : Parts) (t : Transition) : Type 0 where
  pub to : t.to.0 < length setup.status
  pub post : AllPostFit (names_in setup) t.post
  pub leads : AreLeadsKnown (length setup.users) setup.project

-- after an edit that isn't refused, the status is as before, and each field whose value did fit has one that fits
pub record EditFits (names : Names) (before : FieldNo → Value) (inputs : List Change) : Type 0 where
  pub changes : AllFit names (net_changes before inputs)
  pub same_status : with_changes before (net_changes before inputs) status ≡ before status
  pub values : (f : FieldNo) → fits names f.0 (before f) ≡ true
      → fits names f.0 (with_changes before (net_changes before inputs) f) ≡ true

abbrev pub EditsFit : Type 0
EditsFit =
    (names : Names) (before : FieldNo → Value) (inputs : List Change)
    → refused_input names inputs ≡ None → EditFits names before inputs

-- after a transition the issue has the status that it leads to, and each field whose value did fit has one that fits
pub record PlanFits (setup : Parts) (h : History) (caller : UserNo) (t : Transition)
    (inputs : List Change) : Type 0 where
  pub changes : AllFit (names_in setup) (planned setup h caller t inputs)
  pub has_status : with_changes (present h) (planned setup h caller t inputs) status ≡ Choice t.to
  pub values : (f : FieldNo) → fits (names_in setup) f.0 (present h f) ≡ true →
      fits (names_in setup) f.0 (with_changes (present h) (planned setup h caller t inputs) f)
      ≡ true

abbrev pub PlansFit : Type 0
PlansFit =
    (setup : Parts) (h : History) (caller : UserNo) (place : ℕ) (t : Transition)
    (inputs : List Change) (at : ℕ) →
    IsSound setup → slice_get setup.transition place ≡ Some t → caller.0 < length setup.users
    → fits (names_in setup) 6 (present h reporter) ≡ true →
    first_fault setup h caller t inputs at ≡ None → PlanFits setup h caller t inputs
