-- What changes come to.
use Rattle.std.specs.Prelude.{ℕ, suc, ◌==◌, Bool, false, not, nat_lt, List, [], ◌∷◌, filter, slice_get, if◌then◌else◌}
use Rattle.std.specs.Option.{option_map_or}
use Rattle.field_values.specs.declared.numbers.FieldNo.{FieldNo}
use Rattle.field_values.specs.declared.value.Value.{Value}
use Rattle.change_history.specs.declared.change.Change.{Change}
use Rattle.workflow.specs.Same.{same_value}

-- the value of a field after changes, each of which overrules those before it, where it was v before them
abbrev pub last_value : Value → List Change → FieldNo → Value
last_value v [] f = v
last_value v (c ∷ cs) f = last_value (if c.field.0 == f.0 then c.to else v) cs f

-- the values of the fields after changes
abbrev pub with_changes : (FieldNo → Value) → List Change → FieldNo → Value
with_changes values changes f = last_value (values f) changes f

-- the place of the first change whose field isn't below, or the end
abbrev pub place_for : List Change → ℕ → ℕ
place_for [] n = 0
place_for (d ∷ ds) n = if nat_lt d.field.0 n then suc (place_for ds n) else 0

-- the change at a place is one of that field
abbrev pub is_of : List Change → ℕ → ℕ → Bool
is_of changes place n = option_map_or (λ c. c.field.0 == n) (slice_get changes place) false

-- changes by rising field number with one more, which overrules that of its field
abbrev pub put_change : List Change → Change → List Change
put_change [] c = c ∷ []
put_change (d ∷ ds) c =
    if nat_lt d.field.0 c.field.0 then d ∷ put_change ds c
    else if d.field.0 == c.field.0 then c ∷ ds
    else c ∷ d ∷ ds

abbrev pub put_changes : List Change → List Change → List Change
put_changes sorted [] = sorted
put_changes sorted (c ∷ cs) = put_changes (put_change sorted c) cs

-- the change gives its field another value
abbrev pub is_news : (FieldNo → Value) → Change → Bool
is_news values c = not (same_value c.to (values c.field))

-- the net difference: the last change of each field, by rising field number, where it gives another value
unfoldable pub net_changes : (FieldNo → Value) → List Change → List Change
net_changes values changes = filter (is_news values) (put_changes [] changes)
