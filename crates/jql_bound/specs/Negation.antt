-- NOT of a condition: each comparison becomes its opposite, AND becomes OR, and OR becomes AND.
use Rattle.jql_bound.specs.declared.leaf.Inequality.{Inequality}
use Rattle.jql_bound.specs.declared.leaf.Operator.{Operator}
use Rattle.jql_bound.specs.declared.leaf.Leaf.{Leaf}
use Rattle.jql_bound.specs.declared.past.PastTest.{PastTest}
use Rattle.jql_bound.specs.declared.past.PastLeaf.{PastLeaf}
use Rattle.jql_bound.specs.Condition.{Condition, now, past, all_of, any_of, Conditions, no_conditions, condition}

abbrev pub opposite : Inequality → Inequality
opposite Inequality.Less = Inequality.GreaterOrEqual
opposite Inequality.LessOrEqual = Inequality.Greater
opposite Inequality.Greater = Inequality.LessOrEqual
opposite Inequality.GreaterOrEqual = Inequality.Less

abbrev pub opposite_operator : Operator → Operator
opposite_operator (Operator.In operands) = Operator.NotIn operands
opposite_operator (Operator.NotIn operands) = Operator.In operands
opposite_operator (Operator.Compares inequality operand) =
    Operator.Compares (opposite inequality) operand
opposite_operator (Operator.Contains words) = Operator.Lacks words
opposite_operator (Operator.Lacks words) = Operator.Contains words
opposite_operator Operator.IsEmpty = Operator.IsNotEmpty
opposite_operator Operator.IsNotEmpty = Operator.IsEmpty

abbrev pub opposite_leaf : Leaf → Leaf
opposite_leaf leaf = record { subject = leaf.subject; operator = opposite_operator leaf.operator }

abbrev pub opposite_test : PastTest → PastTest
opposite_test (PastTest.Was operands) = PastTest.WasNot operands
opposite_test (PastTest.WasNot operands) = PastTest.Was operands
opposite_test (PastTest.Changed endpoints) = PastTest.NotChanged endpoints
opposite_test (PastTest.NotChanged endpoints) = PastTest.Changed endpoints

abbrev pub opposite_past : PastLeaf → PastLeaf
opposite_past leaf =
    record { field = leaf.field; test = opposite_test leaf.test; predicates = leaf.predicates }

unfoldable mutual
  pub negation : Condition → Condition
  negation (now leaf) = now (opposite_leaf leaf)
  negation (past leaf) = past (opposite_past leaf)
  negation (all_of conditions) = any_of (negations conditions)
  negation (any_of conditions) = all_of (negations conditions)

  pub negations : Conditions → Conditions
  negations no_conditions = no_conditions
  negations (condition c cs) = condition (negation c) (negations cs)
