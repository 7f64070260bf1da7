-- The first fault of a condition, as its reader sees it: that of the first test, from the left, that has one, whether or not NOT stands before it.
use Rattle.std.specs.Prelude.{◌≡◌, ℕ, ◌+◌, List, [], ◌∷◌, ◌++◌, Option, Some, None, Result, Ok, Err}
use Rattle.std.specs.Option.{option_or}
use Rattle.jql_syntax.specs.Tree.{Tree, single, negation, all_of, any_of, Trees, no_trees, tree}
use Rattle.jql_syntax.specs.declared.query.Leaf.{Leaf}
use Rattle.jql_grammar.specs.Scope.{Scope}
use Rattle.jql_grammar.specs.Leaves.{leaf_in}
use Rattle.jql_grammar.specs.Conditions.{PlacedFault, placed, condition_in}

-- the tests, from the left
abbrev mutual
  pub leaves : Tree → List Leaf
  leaves (single leaf) = leaf ∷ []
  leaves (negation q) = leaves q
  leaves (all_of qs) = leaves_in qs
  leaves (any_of qs) = leaves_in qs

  pub leaves_in : Trees → List Leaf
  leaves_in no_trees = []
  leaves_in (tree q qs) = leaves q ++ leaves_in qs

abbrev pub fault_of : {A : Type 0} → Result A PlacedFault → Option PlacedFault
fault_of (Ok x) = None
fault_of (Err fault) = Some fault

-- the first of the tests that has a fault, where the first of them all has this number
abbrev pub first_at_fault : Scope → ℕ → List Leaf → Option PlacedFault
first_at_fault scope n [] = None
first_at_fault scope n (leaf ∷ leaves) =
    option_or (fault_of (placed n (leaf_in scope leaf))) (first_at_fault scope (n + 1) leaves)

abbrev pub TellsTheFirst : Type 0
TellsTheFirst =
    (scope : Scope) (q : Tree)
    → fault_of (condition_in scope 0 q) ≡ first_at_fault scope 0 (leaves q)
