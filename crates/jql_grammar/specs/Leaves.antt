-- What one test of a field says. The first fault is that of the field, the operator, the values or the predicates, in this order.
use Rattle.std.specs.Prelude.{Bool, true, false, List, [], ◌∷◌, Result, Ok, Err}
use Rattle.field_values.specs.declared.numbers.FieldNo.{FieldNo}
use Rattle.jql_syntax.specs.declared.query.Value.{Value}
use Rattle.jql_syntax.specs.declared.query.Value.TheVariants.{Text, Call}
use Rattle.jql_syntax.specs.declared.query.Item.{Item}
use Rattle.jql_syntax.specs.declared.query.Members.{Members}
use Rattle.jql_syntax.specs.declared.query.Aspect.{Aspect}
use Rattle.jql_syntax.specs.declared.query.Predicate.{Predicate}
use Rattle.jql_syntax.specs.declared.query.Leaf.{Leaf}
use Rattle.jql_syntax.specs.declared.query.Test.{Test}
use Rattle.jql_syntax.specs.declared.query.Test.TheVariants.{Equals, NotEquals, Compares, In, NotIn, IsEmpty, IsNotEmpty, Was, WasNot, WasIn, WasNotIn, Changed}
use Rattle.jql_syntax.specs.declared.query.Comparison.{Comparison}
use Rattle.jql_syntax.specs.declared.query.Comparison.TheVariants.{Greater, GreaterOrEqual, Less, LessOrEqual, Contains, Lacks}
use Rattle.jql_bound.specs.Condition.{Condition, now, past}
use Rattle.jql_bound.specs.Words.{words_of}
use Rattle.jql_bound.specs.declared.leaf.Word.{Word}
use Rattle.jql_bound.specs.declared.leaf.Inequality.{Inequality}
use Rattle.jql_bound.specs.declared.leaf.Inequality.TheVariants as inequality
use Rattle.jql_bound.specs.declared.leaf.Operator.{Operator}
use Rattle.jql_bound.specs.declared.leaf.Operator.TheVariants as operator
use Rattle.jql_bound.specs.declared.operand.Operand.{Operand}
use Rattle.jql_bound.specs.declared.operand.Operand.TheVariants.{Empty}
use Rattle.jql_bound.specs.declared.past.PastTest.{PastTest}
use Rattle.jql_bound.specs.declared.past.PastTest.TheVariants as test
use Rattle.jql_bound.specs.declared.past.PastPredicate.{PastPredicate}
use Rattle.jql_bound.specs.declared.past.Endpoint.{Endpoint}
use Rattle.jql_grammar.specs.declared.fault.FaultKind.{FaultKind}
use Rattle.jql_grammar.specs.declared.fault.FaultKind.TheVariants.{OperatorNotForField, UnknownFunction}
use Rattle.jql_grammar.specs.declared.column.Column.{Column}
use Rattle.jql_grammar.specs.Steps.{made, made_of_both, and_then, if_some, if_allowed}
use Rattle.jql_grammar.specs.Scope.{Scope}
use Rattle.jql_grammar.specs.Kinds.{column_in, has_equality, has_order, has_search, history_field}
use Rattle.jql_grammar.specs.Items.{alone, operand_in, item_in, members_in}
use Rattle.jql_grammar.specs.Predicates.{predicates_in, endpoints_in, other_aspects}

-- ---- the present

abbrev pub present : Column → Operator → Condition
present column operator = now (record { subject = column.subject; operator = operator })

abbrev pub emptiness : Bool → Operator
emptiness true = operator.IsEmpty
emptiness false = operator.IsNotEmpty

abbrev pub among : Bool → List Operand → Operator
among true xs = operator.In xs
among false xs = operator.NotIn xs

abbrev pub containing : Bool → List Word → Operator
containing true words = operator.Contains words
containing false words = operator.Lacks words

-- equal to EMPTY is empty
abbrev pub equal_to : Bool → Operand → Operator
equal_to holds Empty = emptiness holds
equal_to holds x = among holds (x ∷ [])

-- = where it is to hold, and else !=
abbrev pub equality_in : Scope → Column → Bool → Item → Result Condition FaultKind
equality_in scope column holds item =
    if_allowed OperatorNotForField (has_equality column.kind)
    (made (λ x. present column (equal_to holds x)) (item_in scope column.kind item))

-- IN, and else NOT IN
abbrev pub membership_in : Scope → Column → Bool → Members → Result Condition FaultKind
membership_in scope column holds members =
    if_allowed OperatorNotForField (has_equality column.kind)
    (made (λ xs. present column (among holds xs)) (members_in scope column.kind members))

-- <, <=, > or >=
abbrev pub order_in : Scope → Column → Inequality → Value → Result Condition FaultKind
order_in scope column sign value =
    if_allowed OperatorNotForField (has_order column.kind)
    (made (λ x. present column (operator.Compares sign x)) (operand_in scope column.kind value))

-- a function stands for no text
abbrev pub searched : Value → Result (List Word) FaultKind
searched (Text text) = Ok (words_of text)
searched (Call call) = Err UnknownFunction

-- ~, and else !~
abbrev pub search_in : Column → Bool → Value → Result Condition FaultKind
search_in column holds value =
    if_allowed OperatorNotForField (has_search column.kind)
    (made (λ words. present column (containing holds words)) (searched value))

abbrev pub comparison_in : Scope → Column → Comparison → Value → Result Condition FaultKind
comparison_in scope column Less value = order_in scope column inequality.Less value
comparison_in scope column LessOrEqual value = order_in scope column inequality.LessOrEqual value
comparison_in scope column Greater value = order_in scope column inequality.Greater value
comparison_in scope column GreaterOrEqual value =
    order_in scope column inequality.GreaterOrEqual value
comparison_in scope column Contains value = search_in column true value
comparison_in scope column Lacks value = search_in column false value

-- ---- the past

abbrev pub past_leaf : FieldNo → PastTest → List PastPredicate → Condition
past_leaf field test predicates =
    past (record { field = field; test = test; predicates = predicates })

-- a test of the past: its values, and then its predicates
abbrev pub past_in : Column → (FieldNo → Result Condition FaultKind) → Result Condition FaultKind
past_in column f = if_some OperatorNotForField f (history_field column.kind column.subject)

abbrev pub was_values : Bool → List Operand → PastTest
was_values true xs = test.Was xs
was_values false xs = test.WasNot xs

abbrev pub change_sides : Bool → List Endpoint → PastTest
change_sides true xs = test.Changed xs
change_sides false xs = test.NotChanged xs

-- WAS, and else WAS NOT
abbrev pub was_in : Scope → Column → Bool → Item → List Predicate → Result Condition FaultKind
was_in scope column holds item predicates =
    past_in column (λ field. made_of_both (λ x ps. past_leaf field (was_values holds (alone x)) ps)
    (item_in scope column.kind item) (predicates_in scope predicates))

-- WAS IN, and else WAS NOT IN
abbrev pub was_among : Scope → Column → Bool → Members → List Predicate → Result Condition FaultKind
was_among scope column holds members predicates =
    past_in column (λ field. made_of_both (λ xs ps. past_leaf field (was_values holds xs) ps)
    (members_in scope column.kind members) (predicates_in scope predicates))

-- CHANGED, and else NOT of it
abbrev pub changed_in : Scope → Column → Bool → List Aspect → Result Condition FaultKind
changed_in scope column holds aspects =
    past_in column (λ field. made_of_both (λ xs ps. past_leaf field (change_sides holds xs) ps)
    (endpoints_in scope column.kind aspects) (other_aspects scope aspects))

-- ---- any test

unfoldable pub test_in : Scope → Column → Test → Result Condition FaultKind
test_in scope column (Equals item) = equality_in scope column true item
test_in scope column (NotEquals item) = equality_in scope column false item
test_in scope column (Compares comparison value) = comparison_in scope column comparison value
test_in scope column (In members) = membership_in scope column true members
test_in scope column (NotIn members) = membership_in scope column false members
test_in scope column IsEmpty = Ok (present column (emptiness true))
test_in scope column IsNotEmpty = Ok (present column (emptiness false))
test_in scope column (Was item predicates) = was_in scope column true item predicates
test_in scope column (WasNot item predicates) = was_in scope column false item predicates
test_in scope column (WasIn members predicates) = was_among scope column true members predicates
test_in scope column (WasNotIn members predicates) = was_among scope column false members predicates
test_in scope column (Changed aspects) = changed_in scope column true aspects

abbrev pub leaf_in : Scope → Leaf → Result Condition FaultKind
leaf_in scope leaf =
    and_then (λ column. test_in scope column leaf.test) (column_in scope.names.fields leaf.field)
