-- What holds of an issue goes by no number of its own or of its changes.
use Rattle.std.proofs.Common.{◌≡◌, ℕ, ◌+◌, ◌-◌, ◌==◌, Bool, true, false, not, ◌&&◌, ◌||◌, List, [], ◌∷◌, map, length, slice_get, Option, Some, None, option_map, refl, ◌∙◌, ap, ap₂, inl, inr}
use Rattle.std.specs.Prelude.{if◌then◌else◌}
use Rattle.std.specs.List.{list_any}
use Rattle.std.specs.Option.{option_map_or}
use Rattle.std.specs.Ordering.{is_some_and}
use Rattle.std.proofs.lemmas.Bool.{cases_Bool}
use Rattle.std.proofs.lemmas.List.{length-map}
use Rattle.std.proofs.lemmas.Option.{slice_get-map}
use mathlib.Core.Path.{fun_ext}
use Rattle.field_values.specs.declared.numbers.FieldNo.{FieldNo}
use Rattle.field_values.specs.declared.value.Value.{Value}
use Rattle.change_history.specs.declared.entry.Entry.{Entry}
use Rattle.change_history.specs.History.{History, opening_value, value_after, present, last_moment, updated}
use Rattle.change_history.specs.Span.{SpanOf, entries_of, end_of, span_of}
use Rattle.jql_bound.specs.Condition.{Condition, now, past, all_of, any_of, Conditions, no_conditions, condition}
use Rattle.jql_bound.specs.declared.leaf.Leaf.{Leaf}
use Rattle.jql_bound.specs.declared.leaf.Subject.{Subject}
use Rattle.jql_bound.specs.declared.leaf.Subject.TheVariants as subject
use Rattle.jql_bound.specs.declared.leaf.Operator.{Operator}
use Rattle.jql_bound.specs.declared.leaf.Operator.TheVariants as operator
use Rattle.jql_bound.specs.declared.operand.Operand.{Operand}
use Rattle.jql_bound.specs.declared.past.PastLeaf.{PastLeaf}
use Rattle.jql_bound.specs.declared.past.PastPredicate.{PastPredicate}
use Rattle.jql_bound.specs.declared.past.PastTest.{PastTest}
use Rattle.jql_bound.specs.declared.past.PastTest.TheVariants as test
use Rattle.jql_bound.specs.declared.past.Endpoint.{Endpoint}
use Rattle.jql_meaning.specs.Surroundings.{Surroundings}
use Rattle.jql_meaning.specs.Naming.{is_empty}
use Rattle.jql_meaning.specs.Words.{has_words}
use Rattle.jql_meaning.specs.Comparison.{equals_value, equals_moment, equals, value_order, moment_order, order, stands}
use Rattle.jql_meaning.specs.Present.{lacks_value, text_passes, has_text, operator_holds, holds_now}
use Rattle.jql_meaning.specs.Moments.{some_from}
use Rattle.jql_meaning.specs.Past.{span_answers, was, entry_answers, changed, test_holds, holds_past}
use Rattle.jql_meaning.specs.Truth.{holds, all_hold, some_holds, query_holds}
use Rattle.tracker_sight.specs.RenumberedIssues.{renumbered_entry, renumbered_issue}

module _ (numbers changes : ℕ → ℕ) where
  abbrev r : History → History
  r = renumbered_issue numbers changes

  abbrev re : Entry → Entry
  re = renumbered_entry changes

  -- ---- values, moments and spans

  value_same : (v : Value) (es : List Entry) (f : FieldNo) → value_after v (map re es) f ≡ value_after v es f
  value_same v [] f = refl
  value_same v (e ∷ es) f = value_same (if e.field.0 == f.0 then e.to else v) es f

  pub present_same : (h : History) (f : FieldNo) → present (r h) f ≡ present h f
  present_same h f = value_same (opening_value h.opening f) h.entries f

  last_same : (at : ℕ) (es : List Entry) → last_moment at (map re es) ≡ last_moment at es
  last_same at [] = refl
  last_same at (e ∷ es) = last_same e.at es

  pub updated_same : (h : History) → updated (r h) ≡ updated h
  updated_same h = last_same h.at h.entries

  entries_same : (es : List Entry) (f : FieldNo) → entries_of (map re es) f ≡ map re (entries_of es f)
  entries_same [] f = refl
  entries_same (e ∷ es) f = elim (cases_Bool (e.field.0 == f.0)) [
    | inl own ↦ rw own (ap (λ (xs : List Entry). re e ∷ xs) (entries_same es f))
    | inr other ↦ rw other (entries_same es f)
  ]

  -- what is told of an entry beside its number
  told_same : {A : Type 0} (tells : Entry → A) → ((e : Entry) → tells (re e) ≡ tells e) → (h : History) (f : FieldNo) (k : ℕ)
      → option_map tells (slice_get (entries_of (r h).entries f) k) ≡ option_map tells (slice_get (entries_of h.entries f) k)
  told_same tells same h f k =
      ap (λ (es : List Entry). option_map tells (slice_get es k)) (entries_same h.entries f)
      ∙ ap (option_map tells) (slice_get-map re (entries_of h.entries f) k)
      ∙ by (slice_get (entries_of h.entries f) k)
    where
      by : (o : Option Entry) → option_map tells (option_map re o) ≡ option_map tells o
      by None = refl
      by (Some e) = ap Some (same e)

  end_same : (h : History) (f : FieldNo) (k : ℕ) → end_of (r h) f k ≡ end_of h f k
  end_same h f k = told_same (λ e. e.at) (λ e. refl) h f k

  span_same : (h : History) (f : FieldNo) (k : ℕ) → span_of (r h) f k ≡ span_of h f k
  span_same h f k = by (k == 0)
    where
      first : Option ℕ → SpanOf
      first end = record { begin = h.at; end = end; author = h.author; value = opening_value h.opening f }

      later : Option ℕ → Entry → SpanOf
      later end e = record { begin = e.at; end = end; author = e.author; value = e.to }

      by : (b : Bool) → (if b then Some (first (end_of (r h) f 0)) else option_map (later (end_of (r h) f k)) (slice_get (entries_of (r h).entries f) (k - 1)))
          ≡ (if b then Some (first (end_of h f 0)) else option_map (later (end_of h f k)) (slice_get (entries_of h.entries f) (k - 1)))
      by true = ap (λ end. Some (first end)) (end_same h f 0)
      by false =
          ap (λ end. option_map (later end) (slice_get (entries_of (r h).entries f) (k - 1))) (end_same h f k)
          ∙ told_same (later (end_of h f k)) (λ e. refl) h f (k - 1)

  -- ---- a comparison with the present

  module _ (s : Surroundings) (h : History) (t : ℕ) where
    lacks_same : (x : Subject) → lacks_value (r h) x ≡ lacks_value h x
    lacks_same (subject.Field field) = ap is_empty (present_same h field)
    lacks_same subject.Project = refl
    lacks_same subject.Key = refl
    lacks_same subject.Created = refl
    lacks_same subject.Updated = refl

    text_same : (p : List ℕ → Bool) (x : Subject) → has_text p (r h) x ≡ has_text p h x
    text_same p (subject.Field field) = ap (text_passes p) (present_same h field)
    text_same p subject.Project = refl
    text_same p subject.Key = refl
    text_same p subject.Created = refl
    text_same p subject.Updated = refl

    equals_same : (x : Subject) (operand : Operand) → equals s (r h) t x operand ≡ equals s h t x operand
    equals_same (subject.Field field) operand = ap (λ v. equals_value s t v operand) (present_same h field)
    equals_same subject.Project operand = refl
    equals_same subject.Key operand = refl
    equals_same subject.Created operand = refl
    equals_same subject.Updated operand = ap (λ n. equals_moment s t n operand) (updated_same h)

    order_same : (x : Subject) (operand : Operand) → order s (r h) t x operand ≡ order s h t x operand
    order_same (subject.Field field) operand = ap (λ v. value_order s t v operand) (present_same h field)
    order_same subject.Project operand = refl
    order_same subject.Key operand = refl
    order_same subject.Created operand = refl
    order_same subject.Updated operand = ap (λ n. moment_order s t n operand) (updated_same h)

    one_of_same : (x : Subject) (operands : List Operand) → list_any (λ o. equals s (r h) t x o) operands ≡ list_any (λ o. equals s h t x o) operands
    one_of_same x operands = ap (λ (p : Operand → Bool). list_any p operands) (fun_ext (λ o. equals_same x o))

    operator_same : (x : Subject) (o : Operator) → operator_holds s (r h) t x o ≡ operator_holds s h t x o
    operator_same x (operator.In operands) = one_of_same x operands
    operator_same x (operator.NotIn operands) = ap₂ (λ (a b : Bool). not a && not b) (lacks_same x) (one_of_same x operands)
    operator_same x (operator.Compares inequality operand) = ap (is_some_and (stands inequality)) (order_same x operand)
    operator_same x (operator.Contains words) = text_same (has_words words) x
    operator_same x (operator.Lacks words) = text_same (λ text. not (has_words words text)) x
    operator_same x operator.IsEmpty = lacks_same x
    operator_same x operator.IsNotEmpty = ap not (lacks_same x)

    now_same : (leaf : Leaf) → holds_now s leaf (r h) t ≡ holds_now s leaf h t
    unfolding holds_now
    now_same leaf = operator_same leaf.subject leaf.operator

    -- ---- a comparison with the past

    count_same : (f : FieldNo) → length (entries_of (r h).entries f) ≡ length (entries_of h.entries f)
    count_same f = ap length (entries_same h.entries f) ∙ length-map (entries_of h.entries f) re

    was_same : (f : FieldNo) (operands : List Operand) (predicates : List PastPredicate) → was s (r h) t f operands predicates ≡ was s h t f operands predicates
    unfolding was
    was_same f operands predicates =
        ap₂ (λ (p : ℕ → Bool) (n : ℕ). some_from p (n + 1) 0)
        (fun_ext (λ k. ap (λ (o : Option SpanOf). option_map_or (span_answers s t operands predicates) o false) (span_same h f k))) (count_same f)

    any_same : (p : Entry → Bool) → ((e : Entry) → p (re e) ≡ p e) → (es : List Entry) → list_any p (map re es) ≡ list_any p es
    any_same p same [] = refl
    any_same p same (e ∷ es) = ap₂ (λ (a b : Bool). a || b) (same e) (any_same p same es)

    changed_same : (f : FieldNo) (endpoints : List Endpoint) (predicates : List PastPredicate) → changed s (r h) t f endpoints predicates ≡ changed s h t f endpoints predicates
    unfolding changed
    changed_same f endpoints predicates =
        ap (list_any (λ e. entry_answers s t endpoints predicates e)) (entries_same h.entries f)
        ∙ any_same (λ e. entry_answers s t endpoints predicates e) (λ e. refl) (entries_of h.entries f)

    test_same : (f : FieldNo) (predicates : List PastPredicate) (x : PastTest) → test_holds s (r h) t f predicates x ≡ test_holds s h t f predicates x
    test_same f predicates (test.Was operands) = was_same f operands predicates
    test_same f predicates (test.WasNot operands) = ap not (was_same f operands predicates)
    test_same f predicates (test.Changed endpoints) = changed_same f endpoints predicates
    test_same f predicates (test.NotChanged endpoints) = ap not (changed_same f endpoints predicates)

    past_same : (leaf : PastLeaf) → holds_past s leaf (r h) t ≡ holds_past s leaf h t
    unfolding holds_past
    past_same leaf = test_same leaf.field leaf.predicates leaf.test

    -- ---- a whole query

    mutual
      unfolding holds

      holds_same : (c : Condition) → holds s (r h) t c ≡ holds s h t c
      holds_same (now leaf) = now_same leaf
      holds_same (past leaf) = past_same leaf
      holds_same (all_of conditions) = all_same conditions
      holds_same (any_of conditions) = some_same conditions

      all_same : (cs : Conditions) → all_hold s (r h) t cs ≡ all_hold s h t cs
      all_same no_conditions = refl
      all_same (condition c cs) = ap₂ (λ (a b : Bool). a && b) (holds_same c) (all_same cs)

      some_same : (cs : Conditions) → some_holds s (r h) t cs ≡ some_holds s h t cs
      some_same no_conditions = refl
      some_same (condition c cs) = ap₂ (λ (a b : Bool). a || b) (holds_same c) (some_same cs)

    pub query_same : (query : Option Condition) → query_holds s (r h) t query ≡ query_holds s h t query
    unfolding query_holds
    query_same None = refl
    query_same (Some c) = holds_same c
