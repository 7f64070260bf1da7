-- The truth of a comparison with the past changes at critical moments alone.
use Rattle.std.proofs.Common.{◌≡◌, ◌≢◌, ◌⊎◌, ℕ, zero, suc, ◌-◌, ◌<◌, Bool, false, not, ◌||◌, ◌&&◌, List, [], ◌∷◌, arith, inl, inr, refl, sym, ◌∙◌, ap, Option, Some, None, pos, eqb, eq-eqb}
use Rattle.std.specs.Prelude.{slice_get, option_map, filter}
use Rattle.std.specs.List.{list_any, list_all, flat_map, Contains}
use Rattle.std.proofs.lemmas.Bool.{cases_Bool, cases_eq, ne_eqb, false≢true}
use Rattle.std.proofs.lemmas.Option.{none-some, same_Some}
use Rattle.std.proofs.lemmas.List.Elements.{Contains-append_right}
use Rattle.field_values.specs.declared.numbers.FieldNo.{FieldNo}
use Rattle.change_history.specs.declared.entry.Entry.{Entry}
use Rattle.change_history.specs.History.{History}
use Rattle.change_history.specs.Span.{SpanOf, span_of, entries_of, end_of}
use Rattle.relative_dates.specs.Calendar.{IsZone}
use Rattle.jql_bound.specs.declared.operand.Operand.{Operand}
use Rattle.jql_bound.specs.declared.past.PastPredicate.{PastPredicate}
use Rattle.jql_bound.specs.declared.past.Endpoint.{Endpoint}
use Rattle.jql_bound.specs.declared.past.PastTest.{PastTest}
use Rattle.jql_bound.specs.declared.past.PastLeaf.{PastLeaf}
use Rattle.jql_bound.specs.Condition.{Condition, now, past, all_of, any_of, Conditions, no_conditions, condition}
use Rattle.jql_meaning.specs.Surroundings.{Surroundings}
use Rattle.jql_meaning.specs.Windows.{is_in_windows, is_by_each}
use Rattle.jql_meaning.specs.Moments.{HasMoment}
use Rattle.jql_meaning.specs.Past.{was, Was, changed, entry_answers, endpoint_answers, test_holds, holds_past}
use Rattle.jql_meaning.specs.Edges.{Edge, present_moment, window_edges}
use Rattle.jql_meaning.specs.Marks.{IsMark, of_creation, of_change}
use Rattle.jql_meaning.specs.Critical.{IsCriticalPast, IsCritical, IsCriticalForOne, IsCriticalForQuery}
use Rattle.jql_meaning.proofs.Spans.{was-which, was-found}
use Rattle.jql_meaning.specs.Truth.{query_holds}
use Rattle.jql_meaning.specs.Changes.{OneDiffers, OneOfThemDiffers}
use Rattle.jql_meaning.proofs.Meetings.{changes_are_critical}
use Rattle.jql_meaning.proofs.Differing.{same_or_not, one_differs}
use Rattle.jql_meaning.proofs.PastMeetings.{Bound, bounds_of, edge_of, is_kept, windows_bounds, bound_edge, forward, backward, at_a_mark, Meets}

-- ---- what begins or ends a span is a mark

first_or_later : {X : Type 0} (x : X) (xs : List X) (k : ℕ) (y : X) → slice_get (x ∷ xs) k ≡ Some y → (x ≡ y) ⊎ ((j : ℕ) × (slice_get xs j ≡ Some y))
first_or_later x xs zero y h = inl (same_Some x y h)
first_or_later x xs (suc k) y h = inr (k, h)

filter_contains : (p : Entry → Bool) (entries : List Entry) (k : ℕ) (entry : Entry) → slice_get (filter p entries) k ≡ Some entry → Contains entries entry
filter_contains p [] k entry h = absurd (none-some entry h)
filter_contains p (x ∷ entries) k entry h =
    elim (cases_Bool (p x)) [
      | inl holding ↦ elim (first_or_later x (filter p entries) k entry (rw holding at h)) [
        | inl is ↦ (0, omega arith, is)
        | inr later ↦ Contains-append_right (x ∷ []) entries entry (filter_contains p entries later.0 entry later.1)
      ]
      | inr failing ↦ Contains-append_right (x ∷ []) entries entry (filter_contains p entries k entry (rw failing at h))
    ]

mapped : {X Y : Type 0} (f : X → Y) (o : Option X) (y : Y) → option_map f o ≡ Some y → (x : X) × (o ≡ Some x) × (f x ≡ y)
mapped f None y h = absurd (none-some y h)
mapped f (Some x) y h = (x, refl, same_Some (f x) y h)

begin_mark : (s : Surroundings) (h : History) (field : FieldNo) (k : ℕ) (span : SpanOf) → span_of h field k ≡ Some span → IsMark s h (pos span.begin)
begin_mark s h field k span is =
    elim (cases_eq k 0) [
      | inl first ↦
          let same = same_Some _ span (rw (eq-eqb k 0 first) at is) in
          of_creation (sym (ap (λ (x : SpanOf). pos x.begin) same))
      | inr later ↦
          let entry = mapped (λ (e : Entry). let x : SpanOf = record { begin = e.at; end = end_of h field k; author = e.author; value = e.to } in x) (slice_get (entries_of h.entries field) (k - 1)) span (rw (ne_eqb k 0 later) at is) in
          of_change entry.0 (filter_contains (λ e. eqb e.field.0 field.0) h.entries (k - 1) entry.0 entry.1) (sym (ap (λ (x : SpanOf). pos x.begin) entry.2))
    ]

span_end : (h : History) (field : FieldNo) (k : ℕ) (span : SpanOf) → span_of h field k ≡ Some span → span.end ≡ end_of h field k
span_end h field k span is =
    elim (cases_eq k 0) [
      | inl first ↦
          let same = same_Some _ span (rw (eq-eqb k 0 first) at is) in
          sym (ap (λ (x : SpanOf). x.end) same) ∙ ap (end_of h field) (sym first)
      | inr later ↦
          let entry = mapped (λ (e : Entry). let x : SpanOf = record { begin = e.at; end = end_of h field k; author = e.author; value = e.to } in x) (slice_get (entries_of h.entries field) (k - 1)) span (rw (ne_eqb k 0 later) at is) in
          sym (ap (λ (x : SpanOf). x.end) entry.2)
    ]

end_mark : (s : Surroundings) (h : History) (field : FieldNo) (k : ℕ) (span : SpanOf) → span_of h field k ≡ Some span → (e : ℕ) → span.end ≡ Some e → IsMark s h (pos e)
end_mark s h field k span is e ends =
    let entry = mapped (λ (x : Entry). x.at) (slice_get (entries_of h.entries field) k) e (sym (span_end h field k span is) ∙ ends) in
    of_change entry.0 (filter_contains (λ e. eqb e.field.0 field.0) h.entries k entry.0 entry.1) (sym (ap pos entry.2))

-- ---- the laws

module _ (s : Surroundings) (h : History) (t : ℕ) (later : 0 < t) (zone : IsZone s.calendar.zone) (field : FieldNo) (predicates : List PastPredicate) where
  abbrev edges : List Edge
  edges = present_moment ∷ flat_map window_edges predicates

  abbrev bounds : List Bound
  bounds = flat_map bounds_of predicates

  inside : (b : Bound) → Contains bounds b → Contains edges (edge_of b)
  inside b c = Contains-append_right (present_moment ∷ []) (flat_map window_edges predicates) (edge_of b) (bound_edge predicates b c)

  no_moment : (at u : ℕ) (operands : List Operand) (w : Was s h u field operands predicates) → was s h at field operands predicates ≡ false → (m : ℕ) → HasMoment w.span at m → list_all (is_kept s at m) bounds ≡ false
  no_moment at u operands w none m has =
      elim (cases_Bool (is_in_windows s at predicates m)) [
        | inl holding ↦ absurd (false≢true (sym none ∙ was-found s h at field operands predicates (record { k = w.k; span = w.span; moment = m; is_span = w.is_span; value = w.value; author = w.author; lasts = has; within = holding })))
        | inr failing ↦ sym (windows_bounds s at m predicates zone) ∙ failing
      ]

  was_meets : (operands : List Operand) → was s h (t - 1) field operands predicates ≢ was s h t field operands predicates → Meets s h edges t later
  was_meets operands n =
      elim (cases_Bool (was s h (t - 1) field operands predicates)) [
        | inl holding ↦ elim (cases_Bool (was s h t field operands predicates)) [
          | inl also ↦ absurd (n (holding ∙ sym also))
          | inr failing ↦
              let w = was-which s h (t - 1) field operands predicates holding in
              forward s h edges t later bounds inside (0, omega arith, refl) w.span (begin_mark s h field w.k w.span w.is_span) (end_mark s h field w.k w.span w.is_span) w.moment w.lasts
              (sym (windows_bounds s (t - 1) w.moment predicates zone) ∙ w.within) (no_moment t (t - 1) operands w failing)
        ]
        | inr failing ↦ elim (cases_Bool (was s h t field operands predicates)) [
          | inl holding ↦
              let w = was-which s h t field operands predicates holding in
              backward s h edges t later bounds inside (0, omega arith, refl) w.span (begin_mark s h field w.k w.span w.is_span) (end_mark s h field w.k w.span w.is_span) w.moment w.lasts
              (sym (windows_bounds s t w.moment predicates zone) ∙ w.within) (no_moment (t - 1) t operands w failing)
          | inr also ↦ absurd (n (failing ∙ sym also))
        ]
      ]

  entry_differs : (f g : Entry → Bool) (entries : List Entry) → list_any f entries ≢ list_any g entries → (entry : Entry) × (k : ℕ) × (slice_get entries k ≡ Some entry) × (f entry ≢ g entry)
  entry_differs f g [] n = absurd (n refl)
  entry_differs f g (x ∷ entries) n =
      elim (same_or_not (f x) (g x)) [
        | inl same ↦ let rest = entry_differs f g entries (λ e. n (λ i. same i || e i)) in (rest.0, suc rest.1, rest.2, rest.3)
        | inr differs ↦ (x, 0, refl, differs)
      ]

  changed_meets : (endpoints : List Endpoint) → changed s h (t - 1) field endpoints predicates ≢ changed s h t field endpoints predicates → Meets s h edges t later
  unfolding changed
  changed_meets endpoints n =
      let one = entry_differs (λ entry. entry_answers s (t - 1) endpoints predicates entry) (λ entry. entry_answers s t endpoints predicates entry) (entries_of h.entries field) n in
      at_a_mark s h edges t later bounds inside one.0.at (of_change one.0 (filter_contains (λ e. eqb e.field.0 field.0) h.entries one.1 one.0 one.2) refl)
      (λ same. let windows = windows_bounds s (t - 1) one.0.at predicates zone ∙ same ∙ sym (windows_bounds s t one.0.at predicates zone) in
      one.3 (λ i. windows i && is_by_each s predicates one.0.author && list_all (λ endpoint. endpoint_answers s one.0 endpoint) endpoints))

  test_meets : (test : PastTest) → test_holds s h (t - 1) field predicates test ≢ test_holds s h t field predicates test → Meets s h edges t later
  test_meets (PastTest.Was operands) n = was_meets operands n
  test_meets (PastTest.WasNot operands) n = was_meets operands (λ e. n (ap not e))
  test_meets (PastTest.Changed endpoints) n = changed_meets endpoints n
  test_meets (PastTest.NotChanged endpoints) n = changed_meets endpoints (λ e. n (ap not e))

pub past_changes_are_critical : (s : Surroundings) (h : History) (leaf : PastLeaf) (t : ℕ) → IsZone s.calendar.zone → holds_past s leaf h (t - 1) ≢ holds_past s leaf h t → IsCriticalPast s h leaf t
unfolding holds_past IsCriticalPast
past_changes_are_critical s h leaf zero zone n = absurd (n refl)
past_changes_are_critical s h leaf (suc t) zone n = test_meets s h (suc t) (omega arith) zone leaf.field leaf.predicates leaf.test n

-- ---- conditions and queries

mutual
  unfolding OneDiffers IsCritical

  critical_for : (s : Surroundings) (h : History) (t : ℕ) (c : Condition) → IsZone s.calendar.zone → OneDiffers s h (t - 1) t c → IsCritical s h t c
  critical_for s h t (now leaf) zone differs = changes_are_critical s h leaf t differs
  critical_for s h t (past leaf) zone differs = past_changes_are_critical s h leaf t zone differs
  critical_for s h t (all_of cs) zone differs = critical_for_one s h t cs zone differs
  critical_for s h t (any_of cs) zone differs = critical_for_one s h t cs zone differs

  critical_for_one : (s : Surroundings) (h : History) (t : ℕ) (cs : Conditions) → IsZone s.calendar.zone → OneOfThemDiffers s h (t - 1) t cs → IsCriticalForOne s h t cs
  critical_for_one s h t no_conditions zone differs = differs
  critical_for_one s h t (condition c cs) zone differs =
      elim differs [ inl here ↦ inl (critical_for s h t c zone here) | inr later ↦ inr (critical_for_one s h t cs zone later) ]

pub query_changes_are_critical : (s : Surroundings) (h : History) (t : ℕ) (query : Option Condition) → IsZone s.calendar.zone → query_holds s h (t - 1) query ≢ query_holds s h t query → IsCriticalForQuery s h t query
unfolding query_holds IsCriticalForQuery
query_changes_are_critical s h t None zone n = absurd (n refl)
query_changes_are_critical s h t (Some c) zone n = critical_for s h t c zone (one_differs s h (t - 1) t c n)
