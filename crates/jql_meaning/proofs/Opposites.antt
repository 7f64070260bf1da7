-- NOT, carried to the comparisons, and what it denies.
use Rattle.std.proofs.Common.{◌≡◌, ℕ, Bool, true, false, not, ◌||◌, ◌&&◌, List, inl, inr, refl, sym, Option, Some, None}
use Rattle.std.specs.Prelude.{is_some}
use Rattle.std.specs.List.{list_any}
use Rattle.std.specs.Ordering.{is_some_and}
use Rattle.std.specs.declared.cmp.Ordering.{Ordering}
use Rattle.std.specs.declared.cmp.Ordering.TheVariants.{Less, Equal, Greater}
use Rattle.std.proofs.lemmas.Bool.{or_cases, or_from, and_parts, and_left, and_right, false≢true, not_from_true, not-true}
use Rattle.field_values.specs.declared.value.Value.{Value}
use Rattle.change_history.specs.History.{History, present}
use Rattle.jql_bound.specs.declared.leaf.Subject.{Subject}
use Rattle.jql_bound.specs.declared.leaf.Inequality.{Inequality}
use Rattle.jql_bound.specs.declared.leaf.Operator.{Operator}
use Rattle.jql_bound.specs.declared.past.PastTest.{PastTest}
use Rattle.jql_bound.specs.declared.past.PastLeaf.{PastLeaf}
use Rattle.jql_bound.specs.Condition.{Condition, now, past, all_of, any_of, Conditions, no_conditions, condition}
use Rattle.jql_meaning.specs.Surroundings.{Surroundings}
use Rattle.jql_meaning.specs.Words.{has_words}
use Rattle.jql_meaning.specs.Comparison.{equals, order, stands}
use Rattle.jql_meaning.specs.Present.{text_passes, holds_now, operator_holds, lacks_value, has_text}
use Rattle.jql_meaning.specs.Past.{holds_past, was, changed, test_holds}
use Rattle.jql_meaning.specs.Truth.{holds, all_hold, some_holds}
use Rattle.jql_bound.specs.Negation.{opposite, opposite_operator, opposite_test, negation, negations}
use Rattle.jql_meaning.specs.Comparable.{can_be_told, all_can_be_told, each_can_be_told}

not_not : (b : Bool) → not (not b) ≡ b
not_not true = refl
not_not false = refl

not_and : (a b : Bool) → (not a || not b) ≡ not (a && b)
not_and true b = refl
not_and false b = refl

not_or : (a b : Bool) → (not a && not b) ≡ not (a || b)
not_or true b = refl
not_or false b = refl

-- where two things have an order, one of an inequality and its opposite holds
opposite_stands : (i : Inequality) (o : Ordering) → stands (opposite i) o ≡ not (stands i o)
opposite_stands Inequality.Less Less = refl
opposite_stands Inequality.Less Equal = refl
opposite_stands Inequality.Less Greater = refl
opposite_stands Inequality.LessOrEqual Less = refl
opposite_stands Inequality.LessOrEqual Equal = refl
opposite_stands Inequality.LessOrEqual Greater = refl
opposite_stands Inequality.Greater Less = refl
opposite_stands Inequality.Greater Equal = refl
opposite_stands Inequality.Greater Greater = refl
opposite_stands Inequality.GreaterOrEqual Less = refl
opposite_stands Inequality.GreaterOrEqual Equal = refl
opposite_stands Inequality.GreaterOrEqual Greater = refl

opposite_compares : (i : Inequality) (o : Option Ordering) → is_some o ≡ true → is_some_and (stands (opposite i)) o ≡ not (is_some_and (stands i) o)
opposite_compares i None told = absurd (false≢true told)
opposite_compares i (Some o) told = opposite_stands i o

denied_compares : (i : Inequality) (o : Option Ordering) → is_some_and (stands i) o ≡ true → is_some_and (stands (opposite i)) o ≡ false
denied_compares i None h = refl
denied_compares i (Some o) h = rw (opposite_stands i o) (not_from_true (stands i o) h)

opposite_text : (p : List ℕ → Bool) (v : Value) → text_passes (λ text. true) v ≡ true → text_passes (λ text. not (p text)) v ≡ not (text_passes p v)
opposite_text p (Value.Text text) told = refl
opposite_text p v told = absurd (false≢true told)

opposite_has_text : (p : List ℕ → Bool) (h : History) (subject : Subject) → has_text (λ text. true) h subject ≡ true → has_text (λ text. not (p text)) h subject ≡ not (has_text p h subject)
opposite_has_text p h (Subject.Field field) told = opposite_text p (present h field) told
opposite_has_text p h subject told = absurd (false≢true told)

denied_text : (p : List ℕ → Bool) (v : Value) → text_passes p v ≡ true → text_passes (λ text. not (p text)) v ≡ false
denied_text p (Value.Text text) h = not_from_true (p text) h
denied_text p v h = refl

denied_has_text : (p : List ℕ → Bool) (h : History) (subject : Subject) → has_text p h subject ≡ true → has_text (λ text. not (p text)) h subject ≡ false
denied_has_text p h (Subject.Field field) is = denied_text p (present h field) is
denied_has_text p h subject is = refl

denied_lack : (p : List ℕ → Bool) (v : Value) → text_passes (λ text. not (p text)) v ≡ true → text_passes p v ≡ false
denied_lack p (Value.Text text) h = not-true (p text) h
denied_lack p v h = refl

denied_has_lack : (p : List ℕ → Bool) (h : History) (subject : Subject) → has_text (λ text. not (p text)) h subject ≡ true → has_text p h subject ≡ false
denied_has_lack p h (Subject.Field field) is = denied_lack p (present h field) is
denied_has_lack p h subject is = refl

opposite_operator_holds : (s : Surroundings) (h : History) (t : ℕ) (subject : Subject) (operator : Operator) → can_be_told s h t subject operator ≡ true → operator_holds s h t subject (opposite_operator operator) ≡ not (operator_holds s h t subject operator)
opposite_operator_holds s h t subject (Operator.In operands) told = rw told refl
opposite_operator_holds s h t subject (Operator.NotIn operands) told = rw told (sym (not_not (list_any (λ operand. equals s h t subject operand) operands)))
opposite_operator_holds s h t subject (Operator.Compares i operand) told = opposite_compares i (order s h t subject operand) told
opposite_operator_holds s h t subject (Operator.Contains words) told = opposite_has_text (has_words words) h subject told
opposite_operator_holds s h t subject (Operator.Lacks words) told =
    rw (opposite_has_text (has_words words) h subject told) (sym (not_not (has_text (has_words words) h subject)))
opposite_operator_holds s h t subject Operator.IsEmpty told = refl
opposite_operator_holds s h t subject Operator.IsNotEmpty told = sym (not_not (lacks_value h subject))

denied_operator : (s : Surroundings) (h : History) (t : ℕ) (subject : Subject) (operator : Operator) → operator_holds s h t subject operator ≡ true → operator_holds s h t subject (opposite_operator operator) ≡ false
denied_operator s h t subject (Operator.In operands) is =
    and_right (not (lacks_value h subject)) (not (list_any (λ operand. equals s h t subject operand) operands))
    (not_from_true (list_any (λ operand. equals s h t subject operand) operands) is)
denied_operator s h t subject (Operator.NotIn operands) is =
    let parts = and_parts (not (lacks_value h subject)) (not (list_any (λ operand. equals s h t subject operand) operands)) is in
    not-true (list_any (λ operand. equals s h t subject operand) operands) parts.1
denied_operator s h t subject (Operator.Compares i operand) is = denied_compares i (order s h t subject operand) is
denied_operator s h t subject (Operator.Contains words) is = denied_has_text (has_words words) h subject is
denied_operator s h t subject (Operator.Lacks words) is = denied_has_lack (has_words words) h subject is
denied_operator s h t subject Operator.IsEmpty is = not_from_true (lacks_value h subject) is
denied_operator s h t subject Operator.IsNotEmpty is = not-true (lacks_value h subject) is

opposite_past_holds : (s : Surroundings) (h : History) (t : ℕ) (leaf : PastLeaf) (test : PastTest) → test_holds s h t leaf.field leaf.predicates (opposite_test test) ≡ not (test_holds s h t leaf.field leaf.predicates test)
opposite_past_holds s h t leaf (PastTest.Was operands) = refl
opposite_past_holds s h t leaf (PastTest.WasNot operands) = sym (not_not (was s h t leaf.field operands leaf.predicates))
opposite_past_holds s h t leaf (PastTest.Changed endpoints) = refl
opposite_past_holds s h t leaf (PastTest.NotChanged endpoints) = sym (not_not (changed s h t leaf.field endpoints leaf.predicates))

mutual
  unfolding holds negation all_can_be_told holds_now holds_past

  pub negation_is_plain : (s : Surroundings) (h : History) (t : ℕ) (c : Condition) → all_can_be_told s h t c ≡ true → holds s h t (negation c) ≡ not (holds s h t c)
  negation_is_plain s h t (now leaf) told = opposite_operator_holds s h t leaf.subject leaf.operator told
  negation_is_plain s h t (past leaf) told = opposite_past_holds s h t leaf leaf.test
  negation_is_plain s h t (all_of cs) told = some_denied s h t cs told
  negation_is_plain s h t (any_of cs) told = all_denied s h t cs told

  some_denied : (s : Surroundings) (h : History) (t : ℕ) (cs : Conditions) → each_can_be_told s h t cs ≡ true → some_holds s h t (negations cs) ≡ not (all_hold s h t cs)
  some_denied s h t no_conditions told = refl
  some_denied s h t (condition c cs) told =
      let parts = and_parts (all_can_be_told s h t c) (each_can_be_told s h t cs) told in
      rw (negation_is_plain s h t c parts.0) (rw (some_denied s h t cs parts.1) (not_and (holds s h t c) (all_hold s h t cs)))

  all_denied : (s : Surroundings) (h : History) (t : ℕ) (cs : Conditions) → each_can_be_told s h t cs ≡ true → all_hold s h t (negations cs) ≡ not (some_holds s h t cs)
  all_denied s h t no_conditions told = refl
  all_denied s h t (condition c cs) told =
      let parts = and_parts (all_can_be_told s h t c) (each_can_be_told s h t cs) told in
      rw (negation_is_plain s h t c parts.0) (rw (all_denied s h t cs parts.1) (not_or (holds s h t c) (some_holds s h t cs)))

mutual
  unfolding holds negation holds_now holds_past

  pub never_both_hold : (s : Surroundings) (h : History) (t : ℕ) (c : Condition) → holds s h t c ≡ true → holds s h t (negation c) ≡ false
  never_both_hold s h t (now leaf) is = denied_operator s h t leaf.subject leaf.operator is
  never_both_hold s h t (past leaf) is = rw (opposite_past_holds s h t leaf leaf.test) (not_from_true (test_holds s h t leaf.field leaf.predicates leaf.test) is)
  never_both_hold s h t (all_of cs) is = none_denied s h t cs is
  never_both_hold s h t (any_of cs) is = one_denied s h t cs is

  none_denied : (s : Surroundings) (h : History) (t : ℕ) (cs : Conditions) → all_hold s h t cs ≡ true → some_holds s h t (negations cs) ≡ false
  none_denied s h t no_conditions is = refl
  none_denied s h t (condition c cs) is =
      let parts = and_parts (holds s h t c) (all_hold s h t cs) is in
      or_from (holds s h t (negation c)) (some_holds s h t (negations cs)) (never_both_hold s h t c parts.0) (none_denied s h t cs parts.1)

  one_denied : (s : Surroundings) (h : History) (t : ℕ) (cs : Conditions) → some_holds s h t cs ≡ true → all_hold s h t (negations cs) ≡ false
  one_denied s h t no_conditions is = absurd (false≢true is)
  one_denied s h t (condition c cs) is =
      elim (or_cases (holds s h t c) (some_holds s h t cs) is) [
        | inl here ↦ and_left (holds s h t (negation c)) (all_hold s h t (negations cs)) (never_both_hold s h t c here)
        | inr later ↦ and_right (holds s h t (negation c)) (all_hold s h t (negations cs)) (one_denied s h t cs later)
      ]
