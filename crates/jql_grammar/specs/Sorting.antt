-- What issues are sorted by.
use Rattle.std.specs.Prelude.{ℕ, ◌+◌, ◌==◌, Bool, true, not, ◌||◌, List, [], ◌∷◌, Result, Ok}
use Rattle.field_values.specs.declared.numbers.TheConstants.FieldNo as number
use Rattle.field_values.specs.declared.field.Field.{Field as OwnField}
use Rattle.jql_syntax.specs.declared.query.SortKey.{SortKey}
use Rattle.jql_syntax.specs.declared.query.Direction.{Direction as Way}
use Rattle.jql_syntax.specs.declared.query.Direction.TheVariants as way
use Rattle.jql_bound.specs.declared.leaf.Subject.TheVariants.{Field}
use Rattle.jql_bound.specs.declared.order.SortField.{SortField}
use Rattle.jql_bound.specs.declared.order.SortField.TheVariants.{Subject}
use Rattle.jql_bound.specs.declared.order.OrderKey.{OrderKey}
use Rattle.jql_bound.specs.declared.order.Direction.{Direction}
use Rattle.jql_bound.specs.declared.order.Direction.TheVariants.{Ascending, Descending}
use Rattle.jql_grammar.specs.declared.fault.FaultKind.{FaultKind}
use Rattle.jql_grammar.specs.declared.fault.FaultKind.TheVariants.{UnknownField, OperatorNotForField}
use Rattle.jql_grammar.specs.Steps.{made_of_both, if_some, if_allowed}
use Rattle.jql_grammar.specs.Fields.{field_in}
use Rattle.jql_grammar.specs.Conditions.{PlacedFault, placed}

-- fields that hold several values, fixVersion and labels, give no order
abbrev pub is_sortable : SortField → Bool
is_sortable (Subject (Field n)) = not ((n.0 == number.FIX_VERSION.0) || (n.0 == number.LABELS.0))
is_sortable _ = true

abbrev pub direction_of : Way → Direction
direction_of way.Ascending = Ascending
direction_of way.Descending = Descending

abbrev pub key_of : Direction → SortField → Result OrderKey FaultKind
key_of direction field =
    if_allowed OperatorNotForField (is_sortable field)
    (Ok (record { field = field; direction = direction }))

abbrev pub key_in : List OwnField → SortKey → Result OrderKey FaultKind
key_in fields key =
    if_some UnknownField (key_of (direction_of key.direction)) (field_in fields key.field)

-- the sort keys, of which the first has this number
abbrev pub keys_in : List OwnField → ℕ → List SortKey → Result (List OrderKey) PlacedFault
keys_in fields n [] = Ok []
keys_in fields n (key ∷ keys) =
    made_of_both (λ x xs. x ∷ xs) (placed n (key_in fields key)) (keys_in fields (n + 1) keys)
