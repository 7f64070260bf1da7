-- NOT of NOT.
use Rattle.std.proofs.Common.{◌≡◌, refl}
use Rattle.jql_bound.specs.declared.leaf.Inequality.{Inequality}
use Rattle.jql_bound.specs.declared.leaf.Operator.{Operator}
use Rattle.jql_bound.specs.declared.past.PastTest.{PastTest}
use Rattle.jql_bound.specs.Condition.{Condition, now, past, all_of, any_of, Conditions, no_conditions, condition}
use Rattle.jql_bound.specs.Negation.{opposite, opposite_operator, opposite_test, negation, negations}

twice_opposite : (i : Inequality) → opposite (opposite i) ≡ i
twice_opposite Inequality.Less = refl
twice_opposite Inequality.LessOrEqual = refl
twice_opposite Inequality.Greater = refl
twice_opposite Inequality.GreaterOrEqual = refl

twice_opposite_operator : (operator : Operator) → opposite_operator (opposite_operator operator) ≡ operator
twice_opposite_operator (Operator.In operands) = refl
twice_opposite_operator (Operator.NotIn operands) = refl
twice_opposite_operator (Operator.Compares i operand) = λ k. Operator.Compares (twice_opposite i k) operand
twice_opposite_operator (Operator.Contains words) = refl
twice_opposite_operator (Operator.Lacks words) = refl
twice_opposite_operator Operator.IsEmpty = refl
twice_opposite_operator Operator.IsNotEmpty = refl

twice_opposite_test : (test : PastTest) → opposite_test (opposite_test test) ≡ test
twice_opposite_test (PastTest.Was operands) = refl
twice_opposite_test (PastTest.WasNot operands) = refl
twice_opposite_test (PastTest.Changed endpoints) = refl
twice_opposite_test (PastTest.NotChanged endpoints) = refl

mutual
  unfolding negation

  pub not_of_not : (c : Condition) → negation (negation c) ≡ c
  not_of_not (now leaf) = λ i. now (record { subject = leaf.subject; operator = twice_opposite_operator leaf.operator i })
  not_of_not (past leaf) = λ i. past (record { field = leaf.field; test = twice_opposite_test leaf.test i; predicates = leaf.predicates })
  not_of_not (all_of cs) = λ i. all_of (not_of_nots cs i)
  not_of_not (any_of cs) = λ i. any_of (not_of_nots cs i)

  not_of_nots : (cs : Conditions) → negations (negations cs) ≡ cs
  not_of_nots no_conditions = refl
  not_of_nots (condition c cs) = λ i. condition (not_of_not c i) (not_of_nots cs i)
