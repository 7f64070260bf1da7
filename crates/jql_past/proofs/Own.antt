-- Of an issue's history a comparison with the past needs the field's own part alone.
use Rattle.std.proofs.Common.{◌≡◌, ◌≢◌, ℕ, ◌+◌, ◌-◌, ◌==◌, true, false, not, List, [], ◌∷◌, length, inl, inr, refl, sym, ◌∙◌, ap, Option, Some, eqb, eq-eqb}
use Rattle.std.specs.Prelude.{slice_get, option_map, if◌then◌else◌}
use Rattle.std.specs.Option.{option_map_or}
use Rattle.std.specs.List.{list_any, Contains}
use Rattle.std.proofs.lemmas.Bool.{cases_Bool, cases_eq, ne_eqb, true≢false}
use Rattle.std.proofs.lemmas.Option.{none-some}
use Rattle.std.proofs.lemmas.List.Elements.{All-contains, All-contains_itself, All-filter}
use Rattle.field_values.specs.declared.numbers.UserNo.{UserNo}
use Rattle.field_values.specs.declared.numbers.FieldNo.{FieldNo}
use Rattle.field_values.specs.declared.numbers.Day.{Day}
use Rattle.field_values.specs.declared.value.Value.{Value}
use Rattle.change_history.specs.declared.entry.Entry.{Entry}
use Rattle.change_history.specs.History.{History, opening_value, value_after, present}
use Rattle.change_history.specs.Span.{SpanOf, span_of, entries_of}
use Rattle.jql_bound.specs.declared.operand.Operand.{Operand}
use Rattle.jql_bound.specs.declared.past.PastPredicate.{PastPredicate}
use Rattle.jql_bound.specs.declared.past.Endpoint.{Endpoint}
use Rattle.jql_bound.specs.declared.past.PastTest.{PastTest}
use Rattle.jql_bound.specs.declared.past.PastLeaf.{PastLeaf}
use Rattle.jql_meaning.specs.Surroundings.{Surroundings}
use Rattle.jql_meaning.specs.Comparison.{midnight_of}
use Rattle.jql_meaning.specs.Moments.{some_from}
use Rattle.jql_meaning.specs.Marks.{value_mark}
use Rattle.jql_meaning.specs.Past.{span_answers, was, entry_answers, changed, test_holds, holds_past}

-- the creation, the field's opening value and its own changes
abbrev pub own : History → FieldNo → History
own h field = record h { opening = record { field = field; to = opening_value h.opening field } ∷ []; entries = entries_of h.entries field }

same_field : (field : FieldNo) → eqb field.0 field.0 ≡ true
same_field field = eq-eqb field.0 field.0 refl

is_field : (entry : Entry) (field : FieldNo) → eqb entry.field.0 field.0 ≡ true → entry.field.0 ≡ field.0
is_field entry field is =
    elim (cases_eq entry.field.0 field.0) [
      | inl same ↦ same
      | inr other ↦ absurd (true≢false (sym is ∙ ne_eqb entry.field.0 field.0 other))
    ]

own_opening : (h : History) (field : FieldNo) → opening_value (own h field).opening field ≡ opening_value h.opening field
own_opening h field = rw (same_field field) refl

kept : (e : Entry) (entries : List Entry) (field : FieldNo) → eqb e.field.0 field.0 ≡ true → entries_of (e ∷ entries) field ≡ e ∷ entries_of entries field
kept e entries field is = rw is refl

passed : (e : Entry) (entries : List Entry) (field : FieldNo) → eqb e.field.0 field.0 ≡ false → entries_of (e ∷ entries) field ≡ entries_of entries field
passed e entries field other = rw other refl

own_again : (entries : List Entry) (field : FieldNo) → entries_of (entries_of entries field) field ≡ entries_of entries field
own_again [] field = refl
own_again (e ∷ entries) field =
    elim (cases_Bool (eqb e.field.0 field.0)) [
      | inl is ↦ rw is (rw is (ap (λ rest. e ∷ rest) (own_again entries field)))
      | inr other ↦ rw other (own_again entries field)
    ]

-- ---- the truth

-- span k of a field with these entries
abbrev span_among : ℕ → UserNo → List Entry → Value → ℕ → Option SpanOf
span_among at author entries value k =
    if k == 0 then Some (record { begin = at; end = option_map (λ e. e.at) (slice_get entries 0); author = author; value = value })
    else option_map (λ e. record { begin = e.at; end = option_map (λ x. x.at) (slice_get entries k); author = e.author; value = e.to }) (slice_get entries (k - 1))

own_span : (h : History) (field : FieldNo) (k : ℕ) → span_of (own h field) field k ≡ span_of h field k
own_span h field k = λ i. span_among h.at h.author (own_again h.entries field i) (own_opening h field i) k

own_was : (s : Surroundings) (h : History) (t : ℕ) (field : FieldNo) (operands : List Operand) (predicates : List PastPredicate) → was s (own h field) t field operands predicates ≡ was s h t field operands predicates
unfolding was
own_was s h t field operands predicates =
    λ i. some_from (λ k. option_map_or (span_answers s t operands predicates) (own_span h field k i) false) (length (own_again h.entries field i) + 1) 0

own_changed : (s : Surroundings) (h : History) (t : ℕ) (field : FieldNo) (endpoints : List Endpoint) (predicates : List PastPredicate) → changed s (own h field) t field endpoints predicates ≡ changed s h t field endpoints predicates
unfolding changed
own_changed s h t field endpoints predicates = ap (list_any (λ entry. entry_answers s t endpoints predicates entry)) (own_again h.entries field)

own_test : (s : Surroundings) (h : History) (t : ℕ) (field : FieldNo) (predicates : List PastPredicate) (test : PastTest) → test_holds s (own h field) t field predicates test ≡ test_holds s h t field predicates test
own_test s h t field predicates (PastTest.Was operands) = own_was s h t field operands predicates
own_test s h t field predicates (PastTest.WasNot operands) = ap not (own_was s h t field operands predicates)
own_test s h t field predicates (PastTest.Changed endpoints) = own_changed s h t field endpoints predicates
own_test s h t field predicates (PastTest.NotChanged endpoints) = ap not (own_changed s h t field endpoints predicates)

pub own_holds : (s : Surroundings) (h : History) (leaf : PastLeaf) (t : ℕ) → holds_past s leaf (own h leaf.field) t ≡ holds_past s leaf h t
unfolding holds_past
own_holds s h leaf t = own_test s h t leaf.field leaf.predicates leaf.test

-- ---- the marks

-- the field's entries are among all
pub own_among : (entries : List Entry) (field : FieldNo) (entry : Entry) → Contains (entries_of entries field) entry → Contains entries entry
own_among entries field entry among =
    All-contains (Contains entries) (entries_of entries field) entry (All-filter (λ e. e.field.0 == field.0) (Contains entries) entries (All-contains_itself entries)) among

changed_here : (value : Value) (e : Entry) (entries : List Entry) (field : FieldNo) → eqb e.field.0 field.0 ≡ true → value_after value (e ∷ entries) field ≡ value_after e.to entries field
changed_here value e entries field is = ap (λ b. value_after (if b then e.to else value) entries field) is

left_here : (value : Value) (e : Entry) (entries : List Entry) (field : FieldNo) → eqb e.field.0 field.0 ≡ false → value_after value (e ∷ entries) field ≡ value_after value entries field
left_here value e entries field other = ap (λ b. value_after (if b then e.to else value) entries field) other

own_after : (value : Value) (entries : List Entry) (field : FieldNo) → value_after value (entries_of entries field) field ≡ value_after value entries field
own_after value [] field = refl
own_after value (e ∷ entries) field =
    elim (cases_Bool (eqb e.field.0 field.0)) [
      | inl is ↦ ap (λ l. value_after value l field) (kept e entries field is) ∙ changed_here value e (entries_of entries field) field is ∙ own_after e.to entries field ∙ sym (changed_here value e entries field is)
      | inr other ↦ ap (λ l. value_after value l field) (passed e entries field other) ∙ own_after value entries field ∙ sym (left_here value e entries field other)
    ]

other_after : (value : Value) (entries : List Entry) (field other : FieldNo) → other.0 ≢ field.0 → value_after value (entries_of entries field) other ≡ value
other_after value [] field other apart = refl
other_after value (e ∷ entries) field other apart =
    elim (cases_Bool (eqb e.field.0 field.0)) [
      | inl is ↦
          let none : eqb e.field.0 other.0 ≡ false = ne_eqb e.field.0 other.0 (λ same. apart (sym same ∙ is_field e field is)) in
          ap (λ l. value_after value l other) (kept e entries field is) ∙ left_here value e (entries_of entries field) other none ∙ other_after value entries field other apart
      | inr no_one ↦ ap (λ l. value_after value l other) (passed e entries field no_one) ∙ other_after value entries field other apart
    ]

-- the one date is the field's present one
pub own_date : (s : Surroundings) (h : History) (field other : FieldNo) (on : Day) → present (own h field) other ≡ Value.Date on → value_mark s (present h field) ≡ Some (midnight_of s on)
own_date s h field other on is =
    elim (cases_eq other.0 field.0) [
      | inl same ↦
          let as_own : present (own h field) other ≡ present (own h field) field = ap (λ (n : ℕ). present (own h field) (record { 0 = n })) same in
          let first : present (own h field) field ≡ value_after (opening_value h.opening field) (entries_of h.entries field) field =
          ap (λ (v : Value). value_after v (entries_of h.entries field) field) (own_opening h field) in
          ap (value_mark s) (sym (own_after (opening_value h.opening field) h.entries field) ∙ sym first ∙ sym as_own ∙ is)
      | inr apart ↦
          let none : eqb field.0 other.0 ≡ false = ne_eqb field.0 other.0 (λ same. apart (sym same)) in
          let empty : present (own h field) other ≡ Value.Empty = other_after (opening_value (own h field).opening other) h.entries field other apart ∙ rw none refl in
          absurd (none-some (midnight_of s on) (ap (value_mark s) (sym empty ∙ is)))
    ]
