-- What holds of every query that is bound.
use Rattle.std.specs.Prelude.{◌≡◌, ℕ, ◌+◌, List, [], map, Option, Ok}
use Rattle.field_values.specs.declared.numbers.UserNo.{UserNo}
use Rattle.field_values.specs.declared.parts.Group.{Group}
use Rattle.field_values.specs.Parts.{Parts}
use Rattle.jql_syntax.specs.Tree.{Tree, negation}
use Rattle.jql_syntax.specs.declared.query.SortKey.{SortKey}
use Rattle.jql_bound.specs.Condition.{Condition, now, past, all_of, any_of, Conditions, no_conditions, condition}
use Rattle.jql_bound.specs.Negation.{negation as negated}
use Rattle.jql_grammar.specs.Steps.{made}
use Rattle.jql_grammar.specs.Scope.{Scope, scope_by}
use Rattle.jql_grammar.specs.Conditions.{tests, condition_in}
use Rattle.jql_grammar.specs.Binding.{bound_in}

-- NOT of a query is the negation of its condition
abbrev pub NotIsTheNegation : Type 0
NotIsTheNegation =
    (scope : Scope) (n : ℕ) (q : Tree)
    → condition_in scope n (negation q) ≡ made negated (condition_in scope n q)

-- and NOT of NOT is its condition
abbrev pub DeniesTwice : Type 0
DeniesTwice =
    (scope : Scope) (n : ℕ) (q : Tree)
    → condition_in scope n (negation (negation q)) ≡ condition_in scope n q

-- how many comparisons there are
abbrev mutual
  pub comparisons : Condition → ℕ
  comparisons (now leaf) = 1
  comparisons (past leaf) = 1
  comparisons (all_of cs) = comparisons_in cs
  comparisons (any_of cs) = comparisons_in cs

  pub comparisons_in : Conditions → ℕ
  comparisons_in no_conditions = 0
  comparisons_in (condition c cs) = comparisons c + comparisons_in cs

-- a condition has a comparison for each of the query's tests: none is lost, and none is added
abbrev pub KeepsTests : Type 0
KeepsTests =
    (scope : Scope) (n : ℕ) (q : Tree) (c : Condition) → condition_in scope n q ≡ Ok c
    → comparisons c ≡ tests q

-- a setup whose groups are empty, and else the same
abbrev pub emptied : Group → Group
emptied g = record g { members = [] }

abbrev pub without_members : Parts → Parts
without_members setup = record setup { group = map emptied setup.group }

-- what a query is bound to doesn't go by who is in a group
abbrev pub BindsWithoutMembers : Type 0
BindsWithoutMembers =
    (one other : Parts) (caller : UserNo) (q : Option Tree) (keys : List SortKey)
    → without_members one ≡ without_members other →
    bound_in (scope_by one caller) q keys ≡ bound_in (scope_by other caller) q keys
