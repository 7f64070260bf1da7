-- What holds of every query.
use Rattle.std.specs.Prelude.{◌≡◌, ◌≢◌, ◌↔◌, ℕ, ◌-◌, ◌+◌, ◌<◌, true, false, not, List, [], ◌∷◌, ◌++◌, length, slice_set, Option}
use Rattle.field_values.specs.declared.numbers.FieldNo.{FieldNo}
use Rattle.field_values.specs.declared.numbers.SprintNo.{SprintNo}
use Rattle.change_history.specs.History.{History}
use Rattle.relative_dates.specs.Calendar.{IsZone}
use Rattle.jql_bound.specs.declared.operand.Operand.{Operand}
use Rattle.jql_bound.specs.declared.past.PastPredicate.{PastPredicate}
use Rattle.jql_bound.specs.declared.past.PastLeaf.{PastLeaf}
use Rattle.jql_bound.specs.declared.leaf.Leaf.{Leaf}
use Rattle.jql_bound.specs.Condition.{Condition}
use Rattle.jql_bound.specs.Negation.{negation}
use Rattle.jql_bound.specs.declared.context.Phase.{Phase}
use Rattle.jql_meaning.specs.Surroundings.{Surroundings}
use Rattle.jql_meaning.specs.Sprints.{DifferInOtherSprints, DifferInOneSprint, IsNotIn}
use Rattle.jql_meaning.specs.Present.{holds_now}
use Rattle.jql_meaning.specs.Past.{was, Was, holds_past}
use Rattle.jql_meaning.specs.Truth.{holds, query_holds}
use Rattle.jql_meaning.specs.Changes.{OneDiffers}
use Rattle.jql_meaning.specs.Comparable.{all_can_be_told}
use Rattle.jql_meaning.specs.Critical.{IsCriticalNow, IsCriticalPast, IsCriticalForQuery}

-- sprints that the issue isn't in don't matter to a query
abbrev pub OnlyOwnSprintMatters : Type 0
OnlyOwnSprintMatters =
    (one other : Surroundings) (h : History) (t : ℕ) (query : Option Condition)
    → DifferInOtherSprints one other h →
    query_holds one h t query ≡ query_holds other h t query

-- the negation of a condition holds just where the condition doesn't, wherever each comparison has something to compare
abbrev pub NegationIsPlain : Type 0
NegationIsPlain =
    (s : Surroundings) (h : History) (t : ℕ) (c : Condition) → all_can_be_told s h t c ≡ true →
    holds s h t (negation c) ≡ not (holds s h t c)

-- and nowhere do both hold
abbrev pub NeverBothHold : Type 0
NeverBothHold =
    (s : Surroundings) (h : History) (t : ℕ) (c : Condition) → holds s h t c ≡ true
    → holds s h t (negation c) ≡ false

-- WAS holds exactly where there are a span and a moment of it as they are asked for
abbrev pub WasIsOfSomeSpan : Type 0
WasIsOfSomeSpan =
    (s : Surroundings) (h : History) (now : ℕ) (field : FieldNo) (operands : List Operand)
    (predicates : List PastPredicate) →
    (was s h now field operands predicates ≡ true) ↔ Was s h now field operands predicates

-- a present comparison comes to another truth at critical moments alone
abbrev pub PresentChangesAreCritical : Type 0
PresentChangesAreCritical =
    (s : Surroundings) (h : History) (leaf : Leaf) (t : ℕ)
    → holds_now s leaf h (t - 1) ≢ holds_now s leaf h t →
    IsCriticalNow s h leaf t

-- and so do a comparison with the past and a whole query
abbrev pub PastChangesAreCritical : Type 0
PastChangesAreCritical =
    (s : Surroundings) (h : History) (leaf : PastLeaf) (t : ℕ) → IsZone s.calendar.zone →
    holds_past s leaf h (t - 1) ≢ holds_past s leaf h t → IsCriticalPast s h leaf t

abbrev pub ChangesAreCritical : Type 0
ChangesAreCritical =
    (s : Surroundings) (h : History) (t : ℕ) (query : Option Condition) → IsZone s.calendar.zone →
    query_holds s h (t - 1) query ≢ query_holds s h t query → IsCriticalForQuery s h t query

-- where a condition has another truth at one moment than at another, one of its comparisons has
abbrev pub ChangesComeFromComparisons : Type 0
ChangesComeFromComparisons =
    (s : Surroundings) (h : History) (u t : ℕ) (c : Condition) → holds s h u c ≢ holds s h t c
    → OneDiffers s h u t c

-- the negation of the negation is the condition itself
abbrev pub NotOfNotIsItself : Type 0
NotOfNotIsItself = (c : Condition) → negation (negation c) ≡ c

-- where one sprint comes to another phase, nothing else differs
abbrev pub OnePhaseIsSet : Type 0
OnePhaseIsSet =
    (s : Surroundings) (sprint : SprintNo) (phase : Phase) → 0 < sprint.0 →
    DifferInOneSprint s (record s { sprints = slice_set s.sprints (sprint.0 - 1) phase }) sprint

-- and where a sprint comes behind the others, neither
abbrev pub OneSprintIsAdded : Type 0
OneSprintIsAdded =
    (s : Surroundings) (phase : Phase) →
    DifferInOneSprint s (record s { sprints = s.sprints ++ phase ∷ [] })
    (record { 0 = length s.sprints + 1 })

-- an issue that isn't in that sprint is in none that differs
abbrev pub OtherIssuesStand : Type 0
OtherIssuesStand =
    (one other : Surroundings) (h : History) (sprint : SprintNo)
    → DifferInOneSprint one other sprint → IsNotIn h sprint →
    DifferInOtherSprints one other h

-- of the surroundings the calendar alone makes a moment critical
abbrev pub CriticalByTheCalendar : Type 0
CriticalByTheCalendar =
    (one other : Surroundings) (h : History) (t : ℕ) (query : Option Condition)
    → one.calendar ≡ other.calendar →
    IsCriticalForQuery one h t query → IsCriticalForQuery other h t query
