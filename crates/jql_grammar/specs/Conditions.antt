-- What a condition says, and its first fault. Tests are counted from the left.
use Rattle.std.specs.Prelude.{ℕ, ◌+◌, Result, Ok, Err}
use Rattle.jql_syntax.specs.Tree.{Tree, single, negation, all_of, any_of, Trees, no_trees, tree}
use Rattle.jql_bound.specs.Condition.{Condition, all_of as all_hold, any_of as any_holds, Conditions, no_conditions, condition}
use Rattle.jql_bound.specs.Negation.{negation as negated}
use Rattle.jql_grammar.specs.declared.fault.FaultKind.{FaultKind}
use Rattle.jql_grammar.specs.Steps.{made, made_of_both}
use Rattle.jql_grammar.specs.Scope.{Scope}
use Rattle.jql_grammar.specs.Leaves.{leaf_in}

-- the number of the test or sort key that is at fault, and what is wrong
pub record PlacedFault : Type 0 where
  pub place : ℕ
  pub kind : FaultKind

abbrev pub placed : {A : Type 0} → ℕ → Result A FaultKind → Result A PlacedFault
placed place (Ok x) = Ok x
placed place (Err kind) = Err (record { place = place; kind = kind })

-- how many tests there are
abbrev mutual
  pub tests : Tree → ℕ
  tests (single leaf) = 1
  tests (negation q) = tests q
  tests (all_of qs) = tests_in qs
  tests (any_of qs) = tests_in qs

  pub tests_in : Trees → ℕ
  tests_in no_trees = 0
  tests_in (tree q qs) = tests q + tests_in qs

-- the condition, whose first test has this number; NOT of a condition is its negation
abbrev mutual
  pub condition_in : Scope → ℕ → Tree → Result Condition PlacedFault
  condition_in scope n (single leaf) = placed n (leaf_in scope leaf)
  condition_in scope n (negation q) = made negated (condition_in scope n q)
  condition_in scope n (all_of qs) = made all_hold (conditions_in scope n qs)
  condition_in scope n (any_of qs) = made any_holds (conditions_in scope n qs)

  pub conditions_in : Scope → ℕ → Trees → Result Conditions PlacedFault
  conditions_in scope n no_trees = Ok no_conditions
  conditions_in scope n (tree q qs) = made_of_both condition (condition_in scope n q)
      (conditions_in scope (n + tests q) qs)
