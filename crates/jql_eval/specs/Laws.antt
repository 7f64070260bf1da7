-- What holds of verdicts, and of the order in which issues are listed.
use Rattle.std.specs.Prelude.{◌≡◌, ◌≢◌, ◌⊎◌, ℕ, ◌≤◌, Bool, true, List, Option}
use Rattle.std.specs.Cmp.{IsTotalOrder}
use Rattle.std.specs.Ordering.{ordering_reverse}
use Rattle.std.specs.declared.cmp.Ordering.{Ordering}
use Rattle.std.specs.declared.cmp.Ordering.TheVariants.{Equal}
use Rattle.field_values.specs.declared.numbers.FieldNo.{FieldNo}
use Rattle.field_values.specs.declared.numbers.SprintNo.{SprintNo}
use Rattle.field_values.specs.declared.value.Value.{Value}
use Rattle.field_values.specs.declared.numbers.TheConstants.FieldNo as number
use Rattle.field_values.specs.Parts.{Parts}
use Rattle.field_forms.specs.Known.{Names, fits}
use Rattle.change_history.specs.History.{History, present}
use Rattle.jql_bound.specs.Condition.{Condition}
use Rattle.jql_bound.specs.declared.order.OrderKey.{OrderKey}
use Rattle.jql_meaning.specs.Surroundings.{Surroundings}
use Rattle.jql_meaning.specs.Sprints.{DifferInOtherSprints, IsNotIn}
use Rattle.jql_meaning.specs.Order.{issue_cmp}
use Rattle.jql_eval.specs.Right.{IsRight, IsBeforeEnd}

-- a right verdict is right at each later moment before its end
abbrev pub StaysRight : Type 0
StaysRight =
    (s : Surroundings) (h : History) (query : Option Condition) (at later : ℕ) (holds : Bool)
    (end : Option ℕ) →
    IsRight s h query at holds end → at ≤ later → IsBeforeEnd later end
    → IsRight s h query later holds end

-- and it is right where only sprints differ that the issue isn't in
abbrev pub IsRightElsewhere : Type 0
IsRightElsewhere =
    (one other : Surroundings) (h : History) (query : Option Condition) (at : ℕ) (holds : Bool)
    (end : Option ℕ) →
    DifferInOtherSprints one other h → IsRight one h query at holds end
    → IsRight other h query at holds end

-- a value that names a sprint fits the field sprint alone
abbrev pub SprintsFitOneField : Type 0
SprintsFitOneField =
    (names : Names) (field : ℕ) (sprint : SprintNo) → fits names field (Value.Sprint sprint) ≡ true
    → field ≡ number.SPRINT.0

-- so an issue whose values fit is in no sprint but the one that this field holds
abbrev pub OneSprintIsHeld : Type 0
OneSprintIsHeld =
    (names : Names) (h : History) (sprint : SprintNo) →
    ((field : FieldNo)
    → (present h field ≡ Value.Empty) ⊎ (fits names field.0 (present h field) ≡ true)) →
    present h number.SPRINT ≢ Value.Sprint sprint → IsNotIn h sprint

-- the order by sort keys, where `ranks` orders issues as they stand on the board
abbrev pub list_cmp : Parts → List OrderKey → (History → History → Ordering) → History → History
    → Ordering
list_cmp parts keys ranks one other = issue_cmp parts keys (ranks one other) one other

-- it is a total order
abbrev pub OrderIsTotal : Type 0
OrderIsTotal =
    (parts : Parts) (keys : List OrderKey) (ranks : History → History → Ordering)
    → IsTotalOrder ranks →
    IsTotalOrder (list_cmp parts keys ranks)

-- two issues stand the other way round where they change places
abbrev pub TurnsRound : Type 0
TurnsRound =
    (parts : Parts) (keys : List OrderKey) (ranks : Ordering) (one other : History) →
    issue_cmp parts keys ranks one other
    ≡ ordering_reverse (issue_cmp parts keys (ordering_reverse ranks) other one)

-- only issues of one number are told apart by nothing
abbrev pub OneNumberTies : Type 0
OneNumberTies =
    (parts : Parts) (keys : List OrderKey) (ranks : Ordering) (one other : History) →
    issue_cmp parts keys ranks one other ≡ Equal → one.no ≡ other.no
