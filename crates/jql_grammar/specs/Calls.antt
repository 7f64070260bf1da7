-- What functions stand for. Their names ignore the case of ASCII letters.
use Rattle.std.specs.Prelude.{ℕ, ◌+◌, List, Option, Some, None, option_map, if◌then◌else◌, Result, Ok, Err, codes}
use Rattle.field_forms.specs.Names.{place_named}
use Rattle.relative_dates.specs.declared.term.Term.{Term}
use Rattle.relative_dates.specs.declared.call.TermCall.{TermCall}
use Rattle.relative_dates.specs.declared.call.TermCall.TheVariants.{Is, NoSuchName, BadArgument}
use Rattle.relative_dates.specs.Call.{call_of, is_named}
use Rattle.jql_syntax.specs.declared.query.Call.{Call}
use Rattle.jql_bound.specs.declared.context.Phase.TheVariants.{Future, Active, Closed}
use Rattle.jql_bound.specs.declared.operand.Operand.{Operand}
use Rattle.jql_bound.specs.declared.operand.Operand.TheVariants as operand
use Rattle.jql_grammar.specs.declared.fault.FaultKind.{FaultKind}
use Rattle.jql_grammar.specs.declared.fault.FaultKind.TheVariants.{UnknownValue, UnknownFunction, UnknownUserOrGroup}
use Rattle.jql_grammar.specs.declared.calls.ListFunction.{ListFunction}
use Rattle.jql_grammar.specs.declared.calls.ListFunction.TheVariants.{Members, Sprints}
use Rattle.jql_grammar.specs.declared.column.ValueKind.{ValueKind}
use Rattle.jql_grammar.specs.declared.column.ValueKind.TheVariants.{User, Date, Sprint}
use Rattle.jql_grammar.specs.Steps.{made, if_some, some_or}
use Rattle.jql_grammar.specs.Scope.{Scope}

-- ---- functions that stand for one value

-- a function that takes no argument
abbrev pub without : {A : Type 0} → A → Option (List ℕ) → Result A FaultKind
without x None = Ok x
without x (Some argument) = Err UnknownValue

-- the user who asks
abbrev pub user_called : Scope → Call → Result Operand FaultKind
user_called scope call =
    if is_named call.name (codes "currentUser")
    then without (operand.User scope.caller) call.argument else Err UnknownFunction

abbrev pub term_or_fault : TermCall → Result Term FaultKind
term_or_fault (Is term) = Ok term
term_or_fault NoSuchName = Err UnknownFunction
term_or_fault BadArgument = Err UnknownValue

-- a date
abbrev pub date_called : Call → Result Term FaultKind
date_called call = term_or_fault (call_of call.name call.argument)

abbrev pub value_called : Scope → ValueKind → Call → Result Operand FaultKind
value_called scope User call = user_called scope call
value_called scope Date call = made operand.Date (date_called call)
value_called scope kind call = Err UnknownFunction

-- ---- functions that stand for a list

abbrev pub sprint_function : List ℕ → Option ListFunction
sprint_function name =
    if is_named name (codes "openSprints") then Some (Sprints Active)
    else (if is_named name (codes "closedSprints") then Some (Sprints Closed)
    else (if is_named name (codes "futureSprints") then Some (Sprints Future)
    else None))

abbrev pub list_function : ValueKind → List ℕ → Option ListFunction
list_function User name = if is_named name (codes "membersOf") then Some Members else None
list_function Sprint name = sprint_function name
list_function kind name = None

-- a group counts by its place from 1
abbrev pub group_in : Scope → List ℕ → Option Operand
group_in scope name =
    option_map (λ n. operand.MembersOf (record { 0 = n }))
    (option_map (λ place. place + 1) (place_named name scope.names.groups))

abbrev pub members_called : Scope → Option (List ℕ) → Result Operand FaultKind
members_called scope None = Err UnknownValue
members_called scope (Some name) = some_or UnknownUserOrGroup (group_in scope name)

abbrev pub list_called : Scope → ListFunction → Option (List ℕ) → Result Operand FaultKind
list_called scope Members argument = members_called scope argument
list_called scope (Sprints phase) argument = without (operand.SprintsIn phase) argument

-- a list alone
abbrev pub list_alone : Scope → ValueKind → Call → Result Operand FaultKind
list_alone scope kind call =
    if_some UnknownFunction (λ function. list_called scope function call.argument)
    (list_function kind call.name)

-- a list or one value
abbrev pub any_called_by : Scope → ValueKind → Call → Option ListFunction → Result Operand FaultKind
any_called_by scope kind call (Some function) = list_called scope function call.argument
any_called_by scope kind call None = value_called scope kind call

abbrev pub any_called : Scope → ValueKind → Call → Result Operand FaultKind
any_called scope kind call = any_called_by scope kind call (list_function kind call.name)
