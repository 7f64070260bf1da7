-- What a field is compared with: values, EMPTY and lists.
use Rattle.std.specs.Prelude.{List, [], ◌∷◌, Result, Ok}
use Rattle.jql_syntax.specs.declared.query.Value.{Value}
use Rattle.jql_syntax.specs.declared.query.Value.TheVariants.{Text, Call}
use Rattle.jql_syntax.specs.declared.query.Item.{Item}
use Rattle.jql_syntax.specs.declared.query.Item.TheVariants.{Value as ValueItem, Empty}
use Rattle.jql_syntax.specs.declared.query.Members.{Members}
use Rattle.jql_syntax.specs.declared.query.Members.TheVariants.{Items, Call as CallMembers}
use Rattle.jql_syntax.specs.declared.query.Choice.{Choice}
use Rattle.jql_syntax.specs.declared.query.Choice.TheVariants.{One, Several}
use Rattle.jql_bound.specs.declared.operand.Operand.{Operand}
use Rattle.jql_bound.specs.declared.operand.Operand.TheVariants as operand
use Rattle.jql_grammar.specs.declared.fault.FaultKind.{FaultKind}
use Rattle.jql_grammar.specs.declared.column.ValueKind.{ValueKind}
use Rattle.jql_grammar.specs.declared.column.ValueKind.TheVariants.{User}
use Rattle.jql_grammar.specs.Steps.{made, each}
use Rattle.jql_grammar.specs.Scope.{Scope}
use Rattle.jql_grammar.specs.Values.{value_in}
use Rattle.jql_grammar.specs.Calls.{value_called, any_called, list_alone}

-- where one value is wanted, a function that stands for a list has no place
abbrev pub operand_in : Scope → ValueKind → Value → Result Operand FaultKind
operand_in scope kind (Text text) = value_in scope kind text
operand_in scope kind (Call call) = value_called scope kind call

abbrev pub item_in : Scope → ValueKind → Item → Result Operand FaultKind
item_in scope kind Empty = Ok operand.Empty
item_in scope kind (ValueItem value) = operand_in scope kind value

-- an item of a list may be a function that stands for a list
abbrev pub listed_value : Scope → ValueKind → Value → Result Operand FaultKind
listed_value scope kind (Text text) = value_in scope kind text
listed_value scope kind (Call call) = any_called scope kind call

abbrev pub listed_item : Scope → ValueKind → Item → Result Operand FaultKind
listed_item scope kind Empty = Ok operand.Empty
listed_item scope kind (ValueItem value) = listed_value scope kind value

abbrev pub items_in : Scope → ValueKind → List Item → Result (List Operand) FaultKind
items_in scope kind items = each (listed_item scope kind) items

abbrev pub alone : Operand → List Operand
alone x = x ∷ []

-- what stands behind IN: a function there stands for a list
abbrev pub members_in : Scope → ValueKind → Members → Result (List Operand) FaultKind
members_in scope kind (Items items) = items_in scope kind items
members_in scope kind (CallMembers call) = made alone (list_alone scope kind call)

-- what stands behind FROM and TO
abbrev pub choice_of : Scope → ValueKind → Choice → Result (List Operand) FaultKind
choice_of scope kind (One item) = made alone (item_in scope kind item)
choice_of scope kind (Several items) = items_in scope kind items

-- what stands behind BY: users, and the members of groups
abbrev pub authors_in : Scope → Choice → Result (List Operand) FaultKind
authors_in scope (One item) = made alone (listed_item scope User item)
authors_in scope (Several items) = items_in scope User items
