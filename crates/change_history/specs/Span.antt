-- How long a field held each of its values.
use Rattle.std.specs.Prelude.{ℕ, ◌-◌, ◌==◌, List, filter, slice_get, Option, Some, option_map, if◌then◌else◌}
use Rattle.field_values.specs.declared.numbers.UserNo.{UserNo}
use Rattle.field_values.specs.declared.numbers.FieldNo.{FieldNo}
use Rattle.field_values.specs.declared.value.Value.{Value}
use Rattle.change_history.specs.declared.entry.Entry.{Entry}
use Rattle.change_history.specs.History.{History, opening_value}

-- the entries that change a field
abbrev pub entries_of : List Entry → FieldNo → List Entry
entries_of entries f = filter (λ e. e.field.0 == f.0) entries

-- from `begin`, when the author set the value, to `end`, or never
pub record SpanOf : Type 0 where
  pub begin : ℕ
  pub end : Option ℕ
  pub author : UserNo
  pub value : Value

-- the moment of the field's entry k, if there is one
abbrev pub end_of : History → FieldNo → ℕ → Option ℕ
end_of h f k = option_map (λ e. e.at) (slice_get (entries_of h.entries f) k)

-- span 0 begins at the creation, and span k at the field's k-th entry; each ends at the field's next entry
abbrev pub span_of : History → FieldNo → ℕ → Option SpanOf
span_of h f k =
    if k == 0 then Some (record {
      begin = h.at;
      end = end_of h f 0;
      author = h.author;
      value = opening_value h.opening f;
    })
    else option_map (λ e. record {
      begin = e.at;
      end = end_of h f k;
      author = e.author;
      value = e.to;
    }) (slice_get (entries_of h.entries f) (k - 1))
