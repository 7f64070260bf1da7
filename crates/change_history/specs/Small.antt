-- Values that take no memory.
use Rattle.std.specs.Prelude.{◌≡◌, List, [], ◌∷◌, slice_get, slice_set, Option, Some, None}
use Rattle.field_values.specs.declared.numbers.FieldNo.{FieldNo}
use Rattle.field_values.specs.declared.value.Value.{Value}
use Rattle.field_values.specs.declared.value.Value.TheVariants as value
use Rattle.change_history.specs.declared.entry.Entry.{Entry}
use Rattle.change_history.specs.declared.small.Small.{Small}
use Rattle.change_history.specs.declared.small.Small.TheVariants.{Empty, Number, Choice, User, Date, Sprint, Apart}

abbrev pub small_of : Value → Small
small_of value.Empty = Empty
small_of (value.Text text) = Apart
small_of (value.Number number) = Number number
small_of (value.Choice place) = Choice place
small_of (value.User user) = User user
small_of (value.Date day) = Date day
small_of (value.Set choices) = Apart
small_of (value.Labels labels) = Apart
small_of (value.Sprint sprint) = Sprint sprint

-- the value, where it isn't apart
abbrev pub small_value : Small → Option Value
small_value Empty = Some value.Empty
small_value (Number number) = Some (value.Number number)
small_value (Choice place) = Some (value.Choice place)
small_value (User user) = Some (value.User user)
small_value (Date day) = Some (value.Date day)
small_value (Sprint sprint) = Some (value.Sprint sprint)
small_value Apart = None

-- the small value of a field is this one's; where the field has no place, nothing is set
abbrev pub set_small : List Small → FieldNo → Value → List Small
set_small small f to = slice_set small f.0 (small_of to)

-- the small values after these entries
abbrev pub small_after : List Small → List Entry → List Small
small_after small [] = small
small_after small (e ∷ es) = small_after (set_small small e.field e.to) es

-- at the number of each field that has a place stands the small one of its value
abbrev pub AreSmall : (FieldNo → Value) → List Small → Type 0
AreSmall values small =
    (f : FieldNo) (s : Small) → slice_get small f.0 ≡ Some s → s ≡ small_of (values f)
