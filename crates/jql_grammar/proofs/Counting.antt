-- Comparisons and tests, counted.
use Rattle.std.proofs.Common.{◌≡◌, ℕ, ◌+◌, Bool, true, false, Option, Some, None, Result, Ok, Err, IfOk, refl, ◌∙◌}
use Rattle.jql_syntax.specs.Tree.{Tree, single, negation, all_of, any_of, Trees, no_trees, tree}
use Rattle.jql_syntax.specs.declared.query.Value.{Value}
use Rattle.jql_syntax.specs.declared.query.Comparison.{Comparison}
use Rattle.jql_syntax.specs.declared.query.Comparison.TheVariants.{Greater, GreaterOrEqual, Less, LessOrEqual, Contains, Lacks}
use Rattle.jql_syntax.specs.declared.query.Test.{Test}
use Rattle.jql_syntax.specs.declared.query.Test.TheVariants.{Equals, NotEquals, Compares, In, NotIn, IsEmpty, IsNotEmpty, Was, WasNot, WasIn, WasNotIn, Changed}
use Rattle.field_values.specs.declared.numbers.FieldNo.{FieldNo}
use Rattle.jql_bound.specs.Condition.{Condition, now, past, all_of as all_hold, any_of as any_holds, Conditions, no_conditions, condition}
use Rattle.jql_bound.specs.Negation.{negation as negated, negations}
use Rattle.jql_grammar.specs.declared.fault.FaultKind.{FaultKind}
use Rattle.jql_grammar.specs.declared.column.Column.{Column}
use Rattle.jql_grammar.specs.Scope.{Scope}
use Rattle.jql_grammar.specs.Steps.{made, made_of_both, and_then, if_some, if_allowed}
use Rattle.jql_grammar.specs.Kinds.{column_in, has_equality, has_order, has_search, history_field}
use Rattle.jql_grammar.specs.Items.{operand_in, item_in, members_in}
use Rattle.jql_grammar.specs.Predicates.{predicates_in, endpoints_in, other_aspects}
use Rattle.jql_grammar.specs.Leaves.{leaf_in, test_in, searched, comparison_in}
use Rattle.jql_grammar.specs.Conditions.{PlacedFault, placed, tests, tests_in, condition_in, conditions_in}
use Rattle.jql_grammar.specs.Laws.{comparisons, comparisons_in, KeepsTests}

-- ---- the negation has as many

mutual
  unfolding negated

  negation_keeps : (c : Condition) → comparisons (negated c) ≡ comparisons c
  negation_keeps (now leaf) = refl
  negation_keeps (past leaf) = refl
  negation_keeps (all_hold cs) = negations_keep cs
  negation_keeps (any_holds cs) = negations_keep cs

  negations_keep : (cs : Conditions) → comparisons_in (negations cs) ≡ comparisons_in cs
  negations_keep no_conditions = refl
  negations_keep (condition c cs) = λ i. negation_keeps c i + negations_keep cs i

-- ---- a test is one comparison

abbrev IsOne : Result Condition FaultKind → Type 0
IsOne r = IfOk r (λ c. comparisons c ≡ 1)

allowed_one : {A : Type 0} (kind : FaultKind) (allowed : Bool) (f : A → Condition) (r : Result A FaultKind) → ((x : A) → comparisons (f x) ≡ 1) → IsOne (if_allowed kind allowed (made f r))
allowed_one kind false f r one = tt
allowed_one kind true f (Ok x) one = one x
allowed_one kind true f (Err fault) one = tt

past_one : {A B : Type 0} (kind : FaultKind) (f : FieldNo → A → B → Condition) (r : Result A FaultKind) (s : Result B FaultKind) (field : Option FieldNo) → ((no : FieldNo) (x : A) (y : B) → comparisons (f no x y) ≡ 1) →
    IsOne (if_some kind (λ no. made_of_both (f no) r s) field)
past_one kind f r s None one = tt
past_one kind f (Err fault) s (Some field) one = tt
past_one kind f (Ok x) (Err fault) (Some field) one = tt
past_one kind f (Ok x) (Ok y) (Some field) one = one field x y

comparison_one : (scope : Scope) (column : Column) (comparison : Comparison) (value : Value) → IsOne (comparison_in scope column comparison value)
comparison_one scope column Less value = allowed_one _ (has_order column.kind) _ (operand_in scope column.kind value) (λ x. refl)
comparison_one scope column LessOrEqual value = allowed_one _ (has_order column.kind) _ (operand_in scope column.kind value) (λ x. refl)
comparison_one scope column Greater value = allowed_one _ (has_order column.kind) _ (operand_in scope column.kind value) (λ x. refl)
comparison_one scope column GreaterOrEqual value = allowed_one _ (has_order column.kind) _ (operand_in scope column.kind value) (λ x. refl)
comparison_one scope column Contains value = allowed_one _ (has_search column.kind) _ (searched value) (λ x. refl)
comparison_one scope column Lacks value = allowed_one _ (has_search column.kind) _ (searched value) (λ x. refl)

test_one : (scope : Scope) (column : Column) (test : Test) → IsOne (test_in scope column test)
unfolding test_in
test_one scope column (Equals item) = allowed_one _ (has_equality column.kind) _ (item_in scope column.kind item) (λ x. refl)
test_one scope column (NotEquals item) = allowed_one _ (has_equality column.kind) _ (item_in scope column.kind item) (λ x. refl)
test_one scope column (Compares comparison value) = comparison_one scope column comparison value
test_one scope column (In members) = allowed_one _ (has_equality column.kind) _ (members_in scope column.kind members) (λ x. refl)
test_one scope column (NotIn members) = allowed_one _ (has_equality column.kind) _ (members_in scope column.kind members) (λ x. refl)
test_one scope column IsEmpty = refl
test_one scope column IsNotEmpty = refl
test_one scope column (Was item predicates) = past_one _ _ (item_in scope column.kind item) (predicates_in scope predicates) (history_field column.kind column.subject) (λ no x y. refl)
test_one scope column (WasNot item predicates) = past_one _ _ (item_in scope column.kind item) (predicates_in scope predicates) (history_field column.kind column.subject) (λ no x y. refl)
test_one scope column (WasIn members predicates) = past_one _ _ (members_in scope column.kind members) (predicates_in scope predicates) (history_field column.kind column.subject) (λ no x y. refl)
test_one scope column (WasNotIn members predicates) = past_one _ _ (members_in scope column.kind members) (predicates_in scope predicates) (history_field column.kind column.subject) (λ no x y. refl)
test_one scope column (Changed aspects) = past_one _ _ (endpoints_in scope column.kind aspects) (other_aspects scope aspects) (history_field column.kind column.subject) (λ no x y. refl)

leaf_one : (scope : Scope) (test : Test) (r : Result Column FaultKind) → IsOne (and_then (λ column. test_in scope column test) r)
leaf_one scope test (Ok column) = test_one scope column test
leaf_one scope test (Err kind) = tt

-- ---- whole conditions

abbrev Counts : Result Condition PlacedFault → ℕ → Type 0
Counts r n = IfOk r (λ c. comparisons c ≡ n)

abbrev CountsIn : Result Conditions PlacedFault → ℕ → Type 0
CountsIn r n = IfOk r (λ cs. comparisons_in cs ≡ n)

placed_counts : (n : ℕ) (r : Result Condition FaultKind) → IsOne r → Counts (placed n r) 1
placed_counts n (Ok c) one = one
placed_counts n (Err kind) one = tt

negated_counts : (r : Result Condition PlacedFault) (n : ℕ) → Counts r n → Counts (made negated r) n
negated_counts (Ok c) n counts = negation_keeps c ∙ counts
negated_counts (Err fault) n counts = tt

all_counts : (r : Result Conditions PlacedFault) (n : ℕ) → CountsIn r n → Counts (made all_hold r) n
all_counts (Ok cs) n counts = counts
all_counts (Err fault) n counts = tt

any_counts : (r : Result Conditions PlacedFault) (n : ℕ) → CountsIn r n → Counts (made any_holds r) n
any_counts (Ok cs) n counts = counts
any_counts (Err fault) n counts = tt

both_count : (r : Result Condition PlacedFault) (s : Result Conditions PlacedFault) (n m : ℕ) → Counts r n → CountsIn s m → CountsIn (made_of_both condition r s) (n + m)
both_count (Err fault) s n m first rest = tt
both_count (Ok c) (Err fault) n m first rest = tt
both_count (Ok c) (Ok cs) n m first rest = λ i. first i + rest i

mutual
  counts : (scope : Scope) (n : ℕ) (q : Tree) → Counts (condition_in scope n q) (tests q)
  counts scope n (single leaf) = placed_counts n (leaf_in scope leaf) (leaf_one scope leaf.test (column_in scope.names.fields leaf.field))
  counts scope n (negation q) = negated_counts (condition_in scope n q) (tests q) (counts scope n q)
  counts scope n (all_of qs) = all_counts (conditions_in scope n qs) (tests_in qs) (counts_in scope n qs)
  counts scope n (any_of qs) = any_counts (conditions_in scope n qs) (tests_in qs) (counts_in scope n qs)

  counts_in : (scope : Scope) (n : ℕ) (qs : Trees) → CountsIn (conditions_in scope n qs) (tests_in qs)
  counts_in scope n no_trees = refl
  counts_in scope n (tree q qs) = both_count (condition_in scope n q) (conditions_in scope (n + tests q) qs) (tests q) (tests_in qs) (counts scope n q) (counts_in scope (n + tests q) qs)

pub keeps_tests : KeepsTests
keeps_tests scope n q c is = rw is at (counts scope n q)
