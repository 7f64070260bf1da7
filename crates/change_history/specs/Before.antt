-- The entries of a field, from the last to the first.
use Rattle.std.specs.Prelude.{ℕ, ◌+◌, ◌==◌, List, [], ◌∷◌, ◌++◌, take, Option, Some, None, if◌then◌else◌}
use Rattle.field_values.specs.declared.numbers.FieldNo.{FieldNo}
use Rattle.change_history.specs.declared.entry.Entry.{Entry}

-- the place of the last of these entries that changes the field, the first of which stands at `place`; or else the one found so far
abbrev pub last_from : Option ℕ → ℕ → List Entry → FieldNo → Option ℕ
last_from found place [] f = found
last_from found place (e ∷ es) f =
    last_from (if e.field.0 == f.0 then Some place else found) (place + 1) es f

-- the place of the last entry that changes a field, if there is one
abbrev pub last_of : List Entry → FieldNo → Option ℕ
last_of entries f = last_from None 0 entries f

-- the place of the first of these entries that changes the field, the first of which stands at `place`
abbrev pub first_from : ℕ → List Entry → FieldNo → Option ℕ
first_from place [] f = None
first_from place (e ∷ es) f = if e.field.0 == f.0 then Some place else first_from (place + 1) es f

-- the place of the first entry that changes a field, if there is one
abbrev pub first_of : List Entry → FieldNo → Option ℕ
first_of entries f = first_from 0 entries f

-- where the last change of an entry's field stands that came before the entry
abbrev pub before_of : List Entry → Option Entry → ℕ → Option ℕ
before_of entries None k = None
before_of entries (Some e) k = last_of (take k entries) e.field

-- the same for each of some entries, behind others
abbrev pub befores_from : List Entry → List Entry → List (Option ℕ)
befores_from entries [] = []
befores_from entries (e ∷ es) = last_of entries e.field ∷ befores_from (entries ++ e ∷ []) es
