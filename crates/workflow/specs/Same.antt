-- When two values are the same.
use Rattle.std.specs.Prelude.{◌==◌, Bool, true, false}
use Rattle.std.specs.Str.{bytes_eq}
use Rattle.std.specs.Cmp.Lexicographic.{pointwise}
use Rattle.std.specs.Ordering.{int_eq}
use Rattle.field_values.specs.declared.value.Value.{Value}
use Rattle.field_values.specs.declared.value.Value.TheVariants.{Empty, Text, Number, Choice, User, Date, Set, Labels, Sprint}

abbrev pub same_value : Value → Value → Bool
same_value Empty Empty = true
same_value (Text one) (Text other) = bytes_eq one other
same_value (Number one) (Number other) = int_eq one other
same_value (Choice one) (Choice other) = one.0 == other.0
same_value (User one) (User other) = one.0 == other.0
same_value (Date one) (Date other) = int_eq one.0 other.0
same_value (Set one) (Set other) = pointwise (λ a b. a.0 == b.0) one other
same_value (Labels one) (Labels other) = pointwise bytes_eq one other
same_value (Sprint one) (Sprint other) = one.0 == other.0
same_value _ _ = false

abbrev pub is_empty : Value → Bool
is_empty Empty = true
is_empty _ = false
