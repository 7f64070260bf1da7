-- Tests that are denied.
use Rattle.std.proofs.Common.{◌≡◌, ℕ, ◌+◌, Bool, true, false, not, Option, Some, None, Result, Ok, Err, List, [], ◌∷◌, refl, ap, ◌∙◌}
use Rattle.jql_syntax.specs.Tree.{Tree, single, negation, all_of, any_of, Trees, no_trees, tree}
use Rattle.jql_syntax.specs.declared.query.Leaf.{Leaf}
use Rattle.jql_syntax.specs.declared.query.Value.{Value}
use Rattle.jql_syntax.specs.declared.query.Comparison.{Comparison}
use Rattle.jql_syntax.specs.declared.query.Comparison.TheVariants.{Greater, GreaterOrEqual, Less, LessOrEqual, Contains, Lacks}
use Rattle.jql_syntax.specs.declared.query.Test.{Test}
use Rattle.jql_syntax.specs.declared.query.Test.TheVariants.{Equals, NotEquals, Compares as Compared, In, NotIn, IsEmpty, IsNotEmpty, Was, WasNot, WasIn, WasNotIn, Changed}
use Rattle.jql_syntax.specs.declared.query.SortKey.{SortKey}
use Rattle.field_values.specs.declared.numbers.FieldNo.{FieldNo}
use Rattle.jql_bound.specs.Condition.{Condition, all_of as all_hold, any_of as any_holds, Conditions, no_conditions, condition}
use Rattle.jql_bound.specs.Negation.{opposite, opposite_operator, negation as negated, negations}
use Rattle.jql_bound.proofs.Negation.{not_of_not}
use Rattle.jql_bound.specs.declared.leaf.Inequality.{Inequality}
use Rattle.jql_bound.specs.declared.leaf.Inequality.TheVariants as inequality
use Rattle.jql_bound.specs.declared.leaf.Operator.TheVariants.{Compares}
use Rattle.jql_bound.specs.declared.leaf.Word.{Word}
use Rattle.jql_bound.specs.declared.operand.Operand.{Operand}
use Rattle.jql_bound.specs.declared.operand.Operand.TheVariants.{Empty}
use Rattle.jql_bound.specs.declared.past.Endpoint.{Endpoint}
use Rattle.jql_bound.specs.declared.past.PastPredicate.{PastPredicate}
use Rattle.jql_grammar.specs.declared.fault.FaultKind.{FaultKind}
use Rattle.jql_grammar.specs.declared.fault.FaultKind.TheVariants.{OperatorNotForField}
use Rattle.jql_grammar.specs.declared.column.Column.{Column}
use Rattle.jql_grammar.specs.declared.fault.Stop.{Stop}
use Rattle.jql_grammar.specs.declared.fault.Stop.TheVariants.{At, Memory}
use Rattle.jql_grammar.specs.declared.fault.BindFault.{BindFault}
use Rattle.jql_grammar.specs.declared.fault.BindFault.TheVariants.{Bad, Memory as BindMemory}
use Rattle.jql_grammar.specs.Scope.{Scope}
use Rattle.jql_grammar.specs.Binding.{Tells, fault_at, bound_in, condition_or_none, tests_or_none}
use Rattle.jql_grammar.specs.Sorting.{keys_in}
use Rattle.jql_grammar.specs.Steps.{made, made_of_both, and_then, if_some, if_allowed, Stops}
use Rattle.jql_grammar.specs.Kinds.{column_in, has_equality, has_order, has_search, history_field}
use Rattle.jql_grammar.specs.Items.{operand_in, item_in, members_in}
use Rattle.jql_grammar.specs.Predicates.{predicates_in, endpoints_in, other_aspects}
use Rattle.jql_grammar.specs.Leaves.{present, emptiness, among, containing, equal_to, searched, comparison_in, past_leaf, was_values, change_sides, test_in}
use Rattle.jql_grammar.specs.Conditions.{PlacedFault, placed, tests, condition_in, conditions_in}
use Rattle.jql_grammar.specs.Asked.{comparison_asked, test_asked, leaf_asked, condition_asked, conditions_asked, all_or_any}

-- a test that isn't denied is asked as it stands
pub plainly : (scope : Scope) (column : Column) (test : Test) → test_in scope column test ≡ test_asked scope column false test
unfolding test_in test_asked
plainly scope column (Equals x) = refl
plainly scope column (NotEquals x) = refl
plainly scope column (Compared c v) = refl
plainly scope column (In m) = refl
plainly scope column (NotIn m) = refl
plainly scope column IsEmpty = refl
plainly scope column IsNotEmpty = refl
plainly scope column (Was x ps) = refl
plainly scope column (WasNot x ps) = refl
plainly scope column (WasIn m ps) = refl
plainly scope column (WasNotIn m ps) = refl
plainly scope column (Changed xs) = refl

placed_and_then : (scope : Scope) (n : ℕ) (f g : Column → Result Condition FaultKind) → ((column : Column) → f column ≡ g column) → (r : Result Column FaultKind) → placed n (and_then f r) ≡ placed n (and_then g r)
placed_and_then scope n f g same (Ok column) = ap (placed n) (same column)
placed_and_then scope n f g same (Err kind) = refl

-- the denial of a test, by the steps that tests take

allowed_denied : {A : Type 0} (n : ℕ) (kind : FaultKind) (allowed : Bool) (f g : A → Condition) (r : Result A FaultKind) → ((x : A) → negated (f x) ≡ g x) → made negated (placed n (if_allowed kind allowed (made f r))) ≡ placed n (if_allowed kind allowed (made g r))
allowed_denied n kind false f g r same = refl
allowed_denied n kind true f g (Ok x) same = ap Ok (same x)
allowed_denied n kind true f g (Err fault) same = refl

past_denied : {A B : Type 0} (n : ℕ) (f g : FieldNo → A → B → Condition) (r : Result A FaultKind) (s : Result B FaultKind) (field : Option FieldNo) → ((field_no : FieldNo) (x : A) (y : B) → negated (f field_no x y) ≡ g field_no x y) →
    made negated (placed n (if_some OperatorNotForField (λ field_no. made_of_both (f field_no) r s) field)) ≡ placed n (if_some OperatorNotForField (λ field_no. made_of_both (g field_no) r s) field)
past_denied n f g r s None same = refl
past_denied n f g (Err fault) s (Some field) same = refl
past_denied n f g (Ok x) (Err fault) (Some field) same = refl
past_denied n f g (Ok x) (Ok y) (Some field) same = ap Ok (same field x y)

-- equal to an operand, or to none
equal_denied : (holds : Bool) (operand : Operand) → opposite_operator (equal_to holds operand) ≡ equal_to (not holds) operand
equal_denied true Empty = refl
equal_denied true operand = refl
equal_denied false Empty = refl
equal_denied false operand = refl

equality_denied : (column : Column) (holds : Bool) (operand : Operand) → negated (present column (equal_to holds operand)) ≡ present column (equal_to (not holds) operand)
unfolding negated
equality_denied column holds operand = ap (present column) (equal_denied holds operand)

membership_denied : (column : Column) (holds : Bool) (operands : List Operand) → negated (present column (among holds operands)) ≡ present column (among (not holds) operands)
unfolding negated
membership_denied column true operands = refl
membership_denied column false operands = refl

order_denied : (column : Column) (sign : Inequality) (operand : Operand) → negated (present column (Compares sign operand)) ≡ present column (Compares (opposite sign) operand)
unfolding negated
order_denied column sign operand = refl

search_denied : (column : Column) (holds : Bool) (words : List Word) → negated (present column (containing holds words)) ≡ present column (containing (not holds) words)
unfolding negated
search_denied column true words = refl
search_denied column false words = refl

empty_denied : (column : Column) (holds : Bool) → negated (present column (emptiness holds)) ≡ present column (emptiness (not holds))
unfolding negated
empty_denied column true = refl
empty_denied column false = refl

was_denied : (holds : Bool) (field_no : FieldNo) (operands : List Operand) (predicates : List PastPredicate) → negated (past_leaf field_no (was_values holds operands) predicates) ≡ past_leaf field_no (was_values (not holds) operands) predicates
unfolding negated
was_denied true field_no operands predicates = refl
was_denied false field_no operands predicates = refl

changed_denied : (holds : Bool) (field_no : FieldNo) (endpoints : List Endpoint) (predicates : List PastPredicate) → negated (past_leaf field_no (change_sides holds endpoints) predicates) ≡ past_leaf field_no (change_sides (not holds) endpoints) predicates
unfolding negated
changed_denied true field_no endpoints predicates = refl
changed_denied false field_no endpoints predicates = refl

comparison_denied : (scope : Scope) (column : Column) (n : ℕ) (comparison : Comparison) (value : Value) →
    made negated (placed n (comparison_in scope column comparison value)) ≡ placed n (comparison_in scope column (comparison_asked true comparison) value)
comparison_denied scope column n Less value = allowed_denied n _ (has_order column.kind) _ _ (operand_in scope column.kind value) (order_denied column inequality.Less)
comparison_denied scope column n LessOrEqual value = allowed_denied n _ (has_order column.kind) _ _ (operand_in scope column.kind value) (order_denied column inequality.LessOrEqual)
comparison_denied scope column n Greater value = allowed_denied n _ (has_order column.kind) _ _ (operand_in scope column.kind value) (order_denied column inequality.Greater)
comparison_denied scope column n GreaterOrEqual value = allowed_denied n _ (has_order column.kind) _ _ (operand_in scope column.kind value) (order_denied column inequality.GreaterOrEqual)
comparison_denied scope column n Contains value = allowed_denied n _ (has_search column.kind) _ _ (searched value) (search_denied column true)
comparison_denied scope column n Lacks value = allowed_denied n _ (has_search column.kind) _ _ (searched value) (search_denied column false)

test_denied : (scope : Scope) (column : Column) (n : ℕ) (test : Test) → made negated (placed n (test_in scope column test)) ≡ placed n (test_asked scope column true test)
unfolding test_in test_asked
test_denied scope column n (Equals item) = allowed_denied n _ (has_equality column.kind) _ _ (item_in scope column.kind item) (equality_denied column true)
test_denied scope column n (NotEquals item) = allowed_denied n _ (has_equality column.kind) _ _ (item_in scope column.kind item) (equality_denied column false)
test_denied scope column n (Compared comparison value) = comparison_denied scope column n comparison value
test_denied scope column n (In members) = allowed_denied n _ (has_equality column.kind) _ _ (members_in scope column.kind members) (membership_denied column true)
test_denied scope column n (NotIn members) = allowed_denied n _ (has_equality column.kind) _ _ (members_in scope column.kind members) (membership_denied column false)
test_denied scope column n IsEmpty = ap Ok (empty_denied column true)
test_denied scope column n IsNotEmpty = ap Ok (empty_denied column false)
test_denied scope column n (Was item predicates) = past_denied n _ _ (item_in scope column.kind item) (predicates_in scope predicates) (history_field column.kind column.subject) (λ field_no x ps. was_denied true field_no (x ∷ []) ps)
test_denied scope column n (WasNot item predicates) = past_denied n _ _ (item_in scope column.kind item) (predicates_in scope predicates) (history_field column.kind column.subject) (λ field_no x ps. was_denied false field_no (x ∷ []) ps)
test_denied scope column n (WasIn members predicates) = past_denied n _ _ (members_in scope column.kind members) (predicates_in scope predicates) (history_field column.kind column.subject) (was_denied true)
test_denied scope column n (WasNotIn members predicates) = past_denied n _ _ (members_in scope column.kind members) (predicates_in scope predicates) (history_field column.kind column.subject) (was_denied false)
test_denied scope column n (Changed aspects) = past_denied n _ _ (endpoints_in scope column.kind aspects) (other_aspects scope aspects) (history_field column.kind column.subject) (changed_denied true)

denied_by : (scope : Scope) (n : ℕ) (test : Test) (r : Result Column FaultKind) →
    made negated (placed n (and_then (λ column. test_in scope column test) r)) ≡ placed n (and_then (λ column. test_asked scope column true test) r)
denied_by scope n test (Err kind) = refl
denied_by scope n test (Ok column) = test_denied scope column n test

-- a test, or its opposite, is asked at its place
leaf_is_asked : (scope : Scope) (n : ℕ) (denied : Bool) (leaf : Leaf) → condition_asked scope denied n (single leaf) ≡ placed n (leaf_asked scope denied leaf)
leaf_is_asked scope n false leaf = placed_and_then scope n _ _ (λ column. plainly scope column leaf.test) (column_in scope.names.fields leaf.field)
leaf_is_asked scope n true leaf = denied_by scope n leaf.test (column_in scope.names.fields leaf.field)

-- NOT turns the denial round
twice_denied : (r : Result Condition PlacedFault) → made negated (made negated r) ≡ r
twice_denied (Ok c) = ap Ok (not_of_not c)
twice_denied (Err fault) = refl

pub not_is_asked : (scope : Scope) (n : ℕ) (denied : Bool) (q : Tree) → condition_asked scope denied n (negation q) ≡ condition_asked scope (not denied) n q
not_is_asked scope n false q = refl
not_is_asked scope n true q = twice_denied (condition_in scope n q)

pub denies_twice : (scope : Scope) (n : ℕ) (q : Tree) → condition_in scope n (negation (negation q)) ≡ condition_in scope n q
denies_twice scope n q = twice_denied (condition_in scope n q)

-- AND that is denied is OR, and the other way round
all_denied : (r : Result Conditions PlacedFault) → made negated (made all_hold r) ≡ made any_holds (made negations r)
unfolding negated
all_denied (Ok cs) = refl
all_denied (Err fault) = refl

any_denied : (r : Result Conditions PlacedFault) → made negated (made any_holds r) ≡ made all_hold (made negations r)
unfolding negated
any_denied (Ok cs) = refl
any_denied (Err fault) = refl

pub all_asked : (scope : Scope) (n : ℕ) (denied : Bool) (qs : Trees) → condition_asked scope denied n (all_of qs) ≡ made (all_or_any (not denied)) (conditions_asked scope denied n qs)
all_asked scope n false qs = refl
all_asked scope n true qs = all_denied (conditions_in scope n qs)

pub any_asked : (scope : Scope) (n : ℕ) (denied : Bool) (qs : Trees) → condition_asked scope denied n (any_of qs) ≡ made (all_or_any denied) (conditions_asked scope denied n qs)
any_asked scope n false qs = refl
any_asked scope n true qs = any_denied (conditions_in scope n qs)

-- several are asked one after another
each_denied : (r : Result Condition PlacedFault) (s : Result Conditions PlacedFault) → made negations (made_of_both condition r s) ≡ made_of_both condition (made negated r) (made negations s)
unfolding negated
each_denied (Err fault) s = refl
each_denied (Ok c) (Err fault) = refl
each_denied (Ok c) (Ok cs) = refl

pub each_asked : (scope : Scope) (n : ℕ) (denied : Bool) (q : Tree) (qs : Trees) →
    conditions_asked scope denied n (tree q qs) ≡ made_of_both condition (condition_asked scope denied n q) (conditions_asked scope denied (n + tests q) qs)
each_asked scope n false q qs = refl
each_asked scope n true q qs = each_denied (condition_in scope n q) (conditions_in scope (n + tests q) qs)

abbrev none_of_them : Result Conditions PlacedFault
none_of_them = Ok no_conditions

none_denied : made negations none_of_them ≡ none_of_them
unfolding negated
none_denied = refl

pub none_asked : (scope : Scope) (n : ℕ) (denied : Bool) → conditions_asked scope denied n no_trees ≡ Ok no_conditions
none_asked scope n false = refl
none_asked scope n true = none_denied

-- what stops a test is told at its place
told_at : {A : Type 0} (n : ℕ) (r : Result A FaultKind) (stop : Stop) → Stops r stop → Tells (placed n r) (fault_at n stop)
told_at n r Memory h = tt
told_at n r (At kind) h = (kind, ap (placed n) h, refl)

pub leaf_stopped : (scope : Scope) (n : ℕ) (denied : Bool) (leaf : Leaf) (stop : Stop) (fault : BindFault) → Stops (leaf_asked scope denied leaf) stop → fault ≡ fault_at n stop → Tells (condition_asked scope denied n (single leaf)) fault
leaf_stopped scope n denied leaf stop fault h e = rw (leaf_is_asked scope n denied leaf, e) (told_at n (leaf_asked scope denied leaf) stop h)

pub leaf_bound : (scope : Scope) (n : ℕ) (denied : Bool) (leaf : Leaf) (c : Condition) → leaf_asked scope denied leaf ≡ Ok c → condition_asked scope denied n (single leaf) ≡ Ok c
leaf_bound scope n denied leaf c e = leaf_is_asked scope n denied leaf ∙ ap (placed n) e

-- what stops one of several stops the whole
pub made_told : {A B : Type 0} (f : A → B) (r : Result A PlacedFault) (fault : BindFault) → Tells r fault → Tells (made f r) fault
made_told f r BindMemory h = tt
made_told f r (Bad place number) (kind, is, told) = (kind, ap (made f) is, told)

pub keys_told : (scope : Scope) (q : Option Tree) (keys : List SortKey) (c : Option Condition) (fault : BindFault) →
    condition_or_none scope q ≡ Ok c → Tells (keys_in scope.names.fields (tests_or_none q) keys) fault → Tells (bound_in scope q keys) fault
keys_told scope q keys c BindMemory bound h = tt
keys_told scope q keys c (Bad place number) bound (kind, is, told) = (kind, rw (bound, is) refl, told)
