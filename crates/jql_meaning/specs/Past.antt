-- What a comparison says of an issue's past: WAS and CHANGED.
use Rattle.std.specs.Prelude.{◌≡◌, ℕ, ◌+◌, Bool, true, false, not, ◌&&◌, List, length, Some}
use Rattle.std.specs.List.{list_any, list_all}
use Rattle.std.specs.Option.{option_map_or}
use Rattle.field_values.specs.declared.numbers.FieldNo.{FieldNo}
use Rattle.field_values.specs.declared.value.Value.{Value}
use Rattle.change_history.specs.declared.entry.Entry.{Entry}
use Rattle.change_history.specs.History.{History}
use Rattle.change_history.specs.Span.{SpanOf, span_of, entries_of}
use Rattle.jql_bound.specs.declared.operand.Operand.{Operand}
use Rattle.jql_bound.specs.declared.past.PastPredicate.{PastPredicate}
use Rattle.jql_bound.specs.declared.past.Endpoint.{Endpoint}
use Rattle.jql_bound.specs.declared.past.PastTest.{PastTest}
use Rattle.jql_bound.specs.declared.past.PastLeaf.{PastLeaf}
use Rattle.jql_meaning.specs.Surroundings.{Surroundings}
use Rattle.jql_meaning.specs.Naming.{names, has_named, some_value, is_same}
use Rattle.jql_meaning.specs.Moments.{some_from, some_moment, HasMoment}
use Rattle.jql_meaning.specs.Windows.{is_in_windows, is_by_each}

-- the span is of one of the values, by an author who is asked for, and one of its moments lies in every window
abbrev pub span_answers : Surroundings → ℕ → List Operand → List PastPredicate → SpanOf → Bool
span_answers s now operands predicates span =
    has_named s operands span.value && is_by_each s predicates span.author
    && some_moment (λ moment. is_in_windows s now predicates moment) span now

-- one of the field's spans is such a one
unfoldable pub was : Surroundings → History → ℕ → FieldNo → List Operand → List PastPredicate → Bool
was s h now field operands predicates =
    some_from (λ k. option_map_or (span_answers s now operands predicates)
    (span_of h field k) false)
    (length (entries_of h.entries field) + 1) 0

-- the same in full: span k of the field, and a moment of it
pub record Was (s : Surroundings) (h : History) (now : ℕ) (field : FieldNo)
    (operands : List Operand) (predicates : List PastPredicate) : Type 0 where
  pub k : ℕ
  pub span : SpanOf
  pub moment : ℕ
  pub is_span : span_of h field k ≡ Some span
  pub value : has_named s operands span.value ≡ true
  pub author : is_by_each s predicates span.author ≡ true
  pub lasts : HasMoment span now moment
  pub within : is_in_windows s now predicates moment ≡ true

-- the first value has one that an operand names and that the second hasn't
abbrev pub loses : Surroundings → List Operand → Value → Value → Bool
loses s operands from to =
    list_any (λ operand. some_value
    (λ v. names s operand v && not (some_value (is_same v) to)) from) operands

abbrev pub endpoint_answers : Surroundings → Entry → Endpoint → Bool
endpoint_answers s entry (Endpoint.From operands) = loses s operands entry.from entry.to
endpoint_answers s entry (Endpoint.To operands) = loses s operands entry.to entry.from

-- the one change lies in every window, is by an author who is asked for, and goes from and to the values that are asked for
abbrev pub entry_answers : Surroundings → ℕ → List Endpoint → List PastPredicate → Entry → Bool
entry_answers s now endpoints predicates entry =
    is_in_windows s now predicates entry.at && is_by_each s predicates entry.author
    && list_all (λ endpoint. endpoint_answers s entry endpoint) endpoints

-- one of the field's changes is such a one; its creation is none
unfoldable pub changed : Surroundings → History → ℕ → FieldNo → List Endpoint → List PastPredicate
    → Bool
changed s h now field endpoints predicates =
    list_any (λ entry. entry_answers s now endpoints predicates entry) (entries_of h.entries field)

abbrev pub test_holds : Surroundings → History → ℕ → FieldNo → List PastPredicate → PastTest → Bool
test_holds s h now field predicates (PastTest.Was operands) = was s h now field operands predicates
test_holds s h now field predicates (PastTest.WasNot operands) =
    not (was s h now field operands predicates)
test_holds s h now field predicates (PastTest.Changed endpoints) =
    changed s h now field endpoints predicates
test_holds s h now field predicates (PastTest.NotChanged endpoints) =
    not (changed s h now field endpoints predicates)

-- the truth of a comparison with the past, as it is at the present moment
unfoldable pub holds_past : Surroundings → PastLeaf → History → ℕ → Bool
holds_past s leaf h now = test_holds s h now leaf.field leaf.predicates leaf.test
