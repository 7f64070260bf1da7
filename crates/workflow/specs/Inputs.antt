-- The inputs of an edit or a transition.
use Rattle.std.specs.Prelude.{ℕ, ◌==◌, Bool, not, ◌||◌, min, List, [], ◌∷◌, map, filter, Option, Some, None}
use Rattle.field_values.specs.declared.numbers.TheConstants.FieldNo.{STATUS as status}
use Rattle.change_history.specs.declared.change.Change.{Change}
use Rattle.field_forms.specs.Known.{Names, fits}

-- an input is refused where it is of the status, or its value doesn't fit its field
abbrev pub is_refused : Names → Change → Bool
is_refused names c = (c.field.0 == status.0) || not (fits names c.field.0 c.to)

-- the least of some numbers and one that may be known before
abbrev pub least_with : Option ℕ → List ℕ → Option ℕ
least_with least [] = least
least_with None (n ∷ ns) = least_with (Some n) ns
least_with (Some least) (n ∷ ns) = least_with (Some (min least n)) ns

-- the field numbers of the inputs that are refused
abbrev pub refused_numbers : Names → List Change → List ℕ
refused_numbers names inputs = map (λ c. c.field.0) (filter (is_refused names) inputs)

-- the least of them: the first input, by field number, that is refused
unfoldable pub refused_input : Names → List Change → Option ℕ
refused_input names inputs = least_with None (refused_numbers names inputs)
