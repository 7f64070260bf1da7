-- WAS, by some span and some moment of it.
use Rattle.std.proofs.Common.{◌≡◌, ◌↔◌, ℕ, zero, suc, ◌+◌, ◌-◌, ◌<◌, ◌≤◌, Bool, true, false, ◌&&◌, List, length, arith, inl, inr, refl, Option, Some, None, eqb}
use Rattle.std.specs.Prelude.{slice_get, option_map}
use Rattle.std.specs.Option.{option_map_or}
use Rattle.std.proofs.lemmas.Bool.{or_cases, or_left, or_right, and_parts, and_from, false≢true, cases_eq, ne_eqb}
use Rattle.std.proofs.lemmas.Option.{slice_get_within, none-some}
use Rattle.field_values.specs.declared.numbers.FieldNo.{FieldNo}
use Rattle.change_history.specs.declared.entry.Entry.{Entry}
use Rattle.change_history.specs.History.{History}
use Rattle.change_history.specs.Span.{SpanOf, span_of, entries_of, end_of}
use Rattle.jql_bound.specs.declared.operand.Operand.{Operand}
use Rattle.jql_bound.specs.declared.past.PastPredicate.{PastPredicate}
use Rattle.jql_meaning.specs.Surroundings.{Surroundings}
use Rattle.jql_meaning.specs.Naming.{has_named}
use Rattle.jql_meaning.specs.Moments.{some_from, some_moment, HasMoment, after_last}
use Rattle.jql_meaning.specs.Windows.{is_in_windows, is_by_each}
use Rattle.jql_meaning.specs.Past.{was, Was, span_answers}

-- a number that passes
pub record Passing (passes : ℕ → Bool) (n low : ℕ) : Type 0 where
  pub at : ℕ
  pub at_least : low ≤ at
  pub below : at < low + n
  pub passing : passes at ≡ true

pub some_from-which : (passes : ℕ → Bool) (n low : ℕ) → some_from passes n low ≡ true → Passing passes n low
unfolding some_from
some_from-which passes zero low h = absurd (false≢true h)
some_from-which passes (suc n) low h =
    elim (or_cases (passes low) (some_from passes n (low + 1)) h) [
      | inl here ↦ record { at = low; at_least = omega arith; below = omega arith; passing = here }
      | inr later ↦
          let found = some_from-which passes n (low + 1) later in
          record { at = found.at; at_least = omega (arith, found.at_least); below = omega (arith, found.below); passing = found.passing }
    ]

pub some_from-found : (passes : ℕ → Bool) (n low at : ℕ) → low ≤ at → at < low + n → passes at ≡ true → some_from passes n low ≡ true
unfolding some_from
some_from-found passes zero low at l h p = absurd (omega arith)
some_from-found passes (suc n) low at l h p =
    elim (cases_eq low at) [
      | inl same ↦ or_left (passes low) (some_from passes n (low + 1)) (rw same p)
      | inr other ↦ or_right (passes low) (some_from passes n (low + 1)) (some_from-found passes n (low + 1) at (omega arith) (omega arith) p)
    ]

-- a moment of the span that passes
pub some_moment-which : (passes : ℕ → Bool) (span : SpanOf) (now : ℕ) → some_moment passes span now ≡ true → (m : ℕ) × HasMoment span now m × (passes m ≡ true)
some_moment-which passes span now h =
    elim (or_cases (passes span.begin) (some_from passes (after_last span.end now - (span.begin + 1)) (span.begin + 1)) h) [
      | inl here ↦ (span.begin, inl refl, here)
      | inr later ↦
          let found = some_from-which passes (after_last span.end now - (span.begin + 1)) (span.begin + 1) later in
          (found.at, inr (omega (arith, found.at_least), omega (arith, found.below, found.at_least)), found.passing)
    ]

pub some_moment-found : (passes : ℕ → Bool) (span : SpanOf) (now m : ℕ) → HasMoment span now m → passes m ≡ true → some_moment passes span now ≡ true
some_moment-found passes span now m has p =
    elim has [
      | inl same ↦ or_left (passes span.begin) (some_from passes (after_last span.end now - (span.begin + 1)) (span.begin + 1)) (rw same at p)
      | inr later ↦
          or_right (passes span.begin) (some_from passes (after_last span.end now - (span.begin + 1)) (span.begin + 1))
          (some_from-found passes (after_last span.end now - (span.begin + 1)) (span.begin + 1) m (omega (arith, later.0)) (omega (arith, later.0, later.1)) p)
    ]

option_map_or-true : {X : Type 0} (passes : X → Bool) (o : Option X) → option_map_or passes o false ≡ true → (x : X) × (o ≡ Some x) × (passes x ≡ true)
option_map_or-true passes None h = absurd (false≢true h)
option_map_or-true passes (Some x) h = (x, refl, h)

option_map-some : {X Y : Type 0} (f : X → Y) (o : Option X) (y : Y) → option_map f o ≡ Some y → (x : X) × (o ≡ Some x)
option_map-some f None y h = absurd (none-some y h)
option_map-some f (Some x) y h = (x, refl)

span_of-within : (h : History) (field : FieldNo) (k : ℕ) (span : SpanOf) → span_of h field k ≡ Some span → k < length (entries_of h.entries field) + 1
span_of-within h field k span is =
    elim (cases_eq k 0) [
      | inl first ↦ omega arith
      | inr later ↦
          let not_first : eqb k 0 ≡ false = ne_eqb k 0 later in
          let of_entry = rw not_first at is in
          let entry = option_map-some (λ (e : Entry). record { begin = e.at; end = end_of h field k; author = e.author; value = e.to }) (slice_get (entries_of h.entries field) (k - 1)) span of_entry in
          omega (arith, slice_get_within (entries_of h.entries field) (k - 1) entry.0 entry.1)
    ]

pub was-which : (s : Surroundings) (h : History) (now : ℕ) (field : FieldNo) (operands : List Operand) (predicates : List PastPredicate) → was s h now field operands predicates ≡ true → Was s h now field operands predicates
unfolding was
was-which s h now field operands predicates is =
    let found = some_from-which (λ k. option_map_or (span_answers s now operands predicates) (span_of h field k) false) (length (entries_of h.entries field) + 1) 0 is in
    let span = option_map_or-true (span_answers s now operands predicates) (span_of h field found.at) found.passing in
    let parts = and_parts (has_named s operands span.0.value && is_by_each s predicates span.0.author) (some_moment (λ moment. is_in_windows s now predicates moment) span.0 now) span.2 in
    let first = and_parts (has_named s operands span.0.value) (is_by_each s predicates span.0.author) parts.0 in
    let moment = some_moment-which (λ m. is_in_windows s now predicates m) span.0 now parts.1 in
    record { k = found.at; span = span.0; moment = moment.0; is_span = span.1; value = first.0; author = first.1; lasts = moment.1; within = moment.2 }

pub was-found : (s : Surroundings) (h : History) (now : ℕ) (field : FieldNo) (operands : List Operand) (predicates : List PastPredicate) → Was s h now field operands predicates → was s h now field operands predicates ≡ true
unfolding was
was-found s h now field operands predicates w =
    let answers : span_answers s now operands predicates w.span ≡ true =
    and_from (has_named s operands w.span.value && is_by_each s predicates w.span.author) (some_moment (λ moment. is_in_windows s now predicates moment) w.span now)
    (and_from (has_named s operands w.span.value) (is_by_each s predicates w.span.author) w.value w.author)
    (some_moment-found (λ moment. is_in_windows s now predicates moment) w.span now w.moment w.lasts w.within) in
    some_from-found (λ k. option_map_or (span_answers s now operands predicates) (span_of h field k) false) (length (entries_of h.entries field) + 1) 0 w.k
    (omega arith) (omega (arith, span_of-within h field w.k w.span w.is_span)) (rw w.is_span answers)

pub was_is_of_some_span : (s : Surroundings) (h : History) (now : ℕ) (field : FieldNo) (operands : List Operand) (predicates : List PastPredicate) → (was s h now field operands predicates ≡ true) ↔ Was s h now field operands predicates
was_is_of_some_span s h now field operands predicates =
    (was-which s h now field operands predicates, was-found s h now field operands predicates)
