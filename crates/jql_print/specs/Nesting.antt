-- How deep the spelling of a query nests: how many NOTs and parentheses of conditions are open at once, at most.
use Rattle.std.specs.Prelude.{ℕ, ◌+◌, max, Option, Some, None}
use Rattle.jql_syntax.specs.Tree.{Tree, single, negation, all_of, any_of, Trees, no_trees, tree}

abbrev mutual
  -- inside AND and NOT
  pub unit_nesting : Tree → ℕ
  unit_nesting (single l) = 0
  unit_nesting (negation x) = unit_nesting x + 1
  unit_nesting (all_of xs) = units_nesting xs + 1
  unit_nesting (any_of xs) = conjunctions_nesting xs + 1

  -- inside OR
  pub conjunction_nesting : Tree → ℕ
  conjunction_nesting (single l) = 0
  conjunction_nesting (negation x) = unit_nesting x + 1
  conjunction_nesting (all_of xs) = units_nesting xs
  conjunction_nesting (any_of xs) = conjunctions_nesting xs + 1

  pub units_nesting : Trees → ℕ
  units_nesting no_trees = 0
  units_nesting (tree x xs) = max (unit_nesting x) (units_nesting xs)

  pub conjunctions_nesting : Trees → ℕ
  conjunctions_nesting no_trees = 0
  conjunctions_nesting (tree x xs) = max (conjunction_nesting x) (conjunctions_nesting xs)

-- alone
abbrev pub expression_nesting : Tree → ℕ
expression_nesting (any_of xs) = conjunctions_nesting xs
expression_nesting x = conjunction_nesting x

abbrev pub nesting : Option Tree → ℕ
nesting None = 0
nesting (Some x) = expression_nesting x
