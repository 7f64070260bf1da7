-- What a query says in a setup, or its first fault: tests are numbered from the left, and after all of them the sort keys.
use Rattle.std.specs.Prelude.{◌≡◌, ℕ, List, Option, Some, None, Result, Ok, Err}
use Rattle.jql_syntax.specs.Tree.{Tree}
use Rattle.jql_syntax.specs.declared.query.SortKey.{SortKey}
use Rattle.jql_bound.specs.Condition.{Condition}
use Rattle.jql_bound.specs.declared.order.OrderKey.{OrderKey}
use Rattle.jql_grammar.specs.declared.fault.FaultKind.{FaultKind}
use Rattle.jql_grammar.specs.declared.fault.FaultKind.TheVariants.{UnknownField, UnknownValue, OperatorNotForField, UnknownFunction, UnknownUserOrGroup}
use Rattle.jql_grammar.specs.declared.fault.Stop.{Stop}
use Rattle.jql_grammar.specs.declared.fault.Stop.TheVariants as stop
use Rattle.jql_grammar.specs.declared.fault.BindFault.{BindFault}
use Rattle.jql_grammar.specs.declared.fault.BindFault.TheVariants.{Bad, Memory}
use Rattle.jql_grammar.specs.Steps.{made, made_of_both}
use Rattle.jql_grammar.specs.Scope.{Scope}
use Rattle.jql_grammar.specs.Conditions.{PlacedFault, tests, condition_in}
use Rattle.jql_grammar.specs.Sorting.{keys_in}

-- a query's condition, where it has one
abbrev pub condition_or_none : Scope → Option Tree → Result (Option Condition) PlacedFault
condition_or_none scope None = Ok None
condition_or_none scope (Some q) = made Some (condition_in scope 0 q)

abbrev pub tests_or_none : Option Tree → ℕ
tests_or_none None = 0
tests_or_none (Some q) = tests q

-- the condition and the sort keys
abbrev pub bound_in : Scope → Option Tree → List SortKey
    → Result (Option Condition × List OrderKey) PlacedFault
bound_in scope q keys =
    made_of_both (λ c order. (c, order)) (condition_or_none scope q)
    (keys_in scope.names.fields (tests_or_none q) keys)

-- the numbers by which faults are told
abbrev pub number_of_kind : FaultKind → ℕ
number_of_kind UnknownField = 11
number_of_kind UnknownValue = 12
number_of_kind OperatorNotForField = 13
number_of_kind UnknownFunction = 14
number_of_kind UnknownUserOrGroup = 15

-- the fault of a test or sort key that stopped
abbrev pub fault_at : ℕ → Stop → BindFault
fault_at place stop.Memory = Memory
fault_at place (stop.At kind) = Bad place (number_of_kind kind)

-- the first fault is told by its place and number
abbrev pub Tells : {A : Type 0} → Result A PlacedFault → BindFault → Type 0
Tells r Memory = Unit {0}
Tells r (Bad place number) =
    (kind : FaultKind) × (r ≡ Err (record { place = place; kind = kind }))
    × (number ≡ number_of_kind kind)
