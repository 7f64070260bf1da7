-- What is asked where a condition may be denied: the condition, or its negation. The program carries the denial to the tests.
use Rattle.std.specs.Prelude.{ℕ, Bool, true, false, not, Result, Ok}
use Rattle.jql_syntax.specs.Tree.{Tree, Trees}
use Rattle.jql_syntax.specs.declared.query.Comparison.{Comparison}
use Rattle.jql_syntax.specs.declared.query.Comparison.TheVariants.{Greater, GreaterOrEqual, Less, LessOrEqual, Contains, Lacks}
use Rattle.jql_syntax.specs.declared.query.Leaf.{Leaf}
use Rattle.jql_syntax.specs.declared.query.Test.{Test}
use Rattle.jql_syntax.specs.declared.query.Test.TheVariants.{Equals, NotEquals, Compares, In, NotIn, IsEmpty, IsNotEmpty, Was, WasNot, WasIn, WasNotIn, Changed}
use Rattle.jql_bound.specs.Condition.{Condition, all_of, any_of, Conditions}
use Rattle.jql_bound.specs.Negation.{negation, negations}
use Rattle.jql_grammar.specs.declared.fault.FaultKind.{FaultKind}
use Rattle.jql_grammar.specs.declared.column.Column.{Column}
use Rattle.jql_grammar.specs.Steps.{made, and_then}
use Rattle.jql_grammar.specs.Scope.{Scope}
use Rattle.jql_grammar.specs.Kinds.{column_in}
use Rattle.jql_grammar.specs.Conditions.{PlacedFault, condition_in, conditions_in}
use Rattle.jql_grammar.specs.Leaves.{present, emptiness, equality_in, membership_in, comparison_in, was_in, was_among, changed_in}

-- a test of a field, or its opposite
abbrev pub opposite_comparison : Comparison → Comparison
opposite_comparison Less = GreaterOrEqual
opposite_comparison LessOrEqual = Greater
opposite_comparison Greater = LessOrEqual
opposite_comparison GreaterOrEqual = Less
opposite_comparison Contains = Lacks
opposite_comparison Lacks = Contains

abbrev pub comparison_asked : Bool → Comparison → Comparison
comparison_asked false comparison = comparison
comparison_asked true comparison = opposite_comparison comparison

unfoldable pub test_asked : Scope → Column → Bool → Test → Result Condition FaultKind
test_asked scope column denied (Equals item) = equality_in scope column (not denied) item
test_asked scope column denied (NotEquals item) = equality_in scope column denied item
test_asked scope column denied (Compares comparison value) =
    comparison_in scope column (comparison_asked denied comparison) value
test_asked scope column denied (In members) = membership_in scope column (not denied) members
test_asked scope column denied (NotIn members) = membership_in scope column denied members
test_asked scope column denied IsEmpty = Ok (present column (emptiness (not denied)))
test_asked scope column denied IsNotEmpty = Ok (present column (emptiness denied))
test_asked scope column denied (Was item predicates) =
    was_in scope column (not denied) item predicates
test_asked scope column denied (WasNot item predicates) = was_in scope column denied item predicates
test_asked scope column denied (WasIn members predicates) =
    was_among scope column (not denied) members predicates
test_asked scope column denied (WasNotIn members predicates) =
    was_among scope column denied members predicates
test_asked scope column denied (Changed aspects) = changed_in scope column (not denied) aspects

abbrev pub leaf_asked : Scope → Bool → Leaf → Result Condition FaultKind
leaf_asked scope denied leaf =
    and_then (λ column. test_asked scope column denied leaf.test)
    (column_in scope.names.fields leaf.field)

-- whole conditions
abbrev pub condition_asked : Scope → Bool → ℕ → Tree → Result Condition PlacedFault
condition_asked scope false n q = condition_in scope n q
condition_asked scope true n q = made negation (condition_in scope n q)

abbrev pub conditions_asked : Scope → Bool → ℕ → Trees → Result Conditions PlacedFault
conditions_asked scope false n qs = conditions_in scope n qs
conditions_asked scope true n qs = made negations (conditions_in scope n qs)

-- all of several, or any of them
abbrev pub all_or_any : Bool → Conditions → Condition
all_or_any true cs = all_of cs
all_or_any false cs = any_of cs
