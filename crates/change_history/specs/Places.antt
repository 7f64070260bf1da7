-- Where the first and the last entries of the fields stand.
use Rattle.std.specs.Prelude.{◌≡◌, ◌==◌, ◌+◌, ◌-◌, ℕ, List, [], ◌∷◌, slice_get, slice_set, unwrap_or, option_map, Option, Some, None, if◌then◌else◌}
use Rattle.field_values.specs.declared.numbers.FieldNo.{FieldNo}
use Rattle.field_values.specs.declared.value.Value.{Value}
use Rattle.field_values.specs.declared.value.Value.TheVariants.{Empty}
use Rattle.change_history.specs.declared.entry.Entry.{Entry}
use Rattle.change_history.specs.declared.places.Place.{Place}
use Rattle.change_history.specs.declared.places.Bounds.{Bounds}
use Rattle.change_history.specs.Before.{first_of, last_of}

-- the number of a place, counted from 1; 0 for none
abbrev pub number : Option ℕ → ℕ
number None = 0
number (Some k) = k + 1

abbrev pub place_in : ℕ → Option ℕ
place_in n = if n == 0 then None else Some (n - 1)

-- the number of a field's last entry by its place; 0 where it has none
abbrev pub number_of : List Place → FieldNo → ℕ
number_of [] f = 0
number_of (p ∷ ps) f = if p.field.0 == f.0 then p.last else number_of ps f

-- the place of that field says this number
abbrev pub set_place : List Place → FieldNo → ℕ → List Place
set_place [] f last = (record { field = f; last = last }) ∷ []
set_place (p ∷ ps) f last =
    if p.field.0 == f.0 then (record { field = f; last = last }) ∷ ps else p ∷ set_place ps f last

-- where a field's place is kept
abbrev pub index_of : List Place → FieldNo → Option ℕ
index_of [] f = None
index_of (p ∷ ps) f = if p.field.0 == f.0 then Some 0 else option_map (λ k. k + 1) (index_of ps f)

-- the bounds with one more entry, of this number
abbrev pub widened : Bounds → ℕ → Bounds
widened b n = record { first = if b.first == 0 then n else b.first; last = n }

-- what is kept: bounds by field number, and places of the fields that have none
pub record Spots : Type 0 where
  pub bounds : List Bounds
  pub others : List Place

-- the number of a field's first entry, by its bounds; 0 where it has none
abbrev pub first_in : Option Bounds → ℕ
first_in None = 0
first_in (Some b) = b.first

-- the number of its last one, by its bounds or by the places of the others
abbrev pub last_in : Option Bounds → List Place → FieldNo → ℕ
last_in None others f = number_of others f
last_in (Some b) others f = b.last

abbrev pub last_spot : Spots → FieldNo → ℕ
last_spot s f = last_in (slice_get s.bounds f.0) s.others f

-- the entry of this number is of that field, and stands behind all others
abbrev pub set_in : Option Bounds → Spots → FieldNo → ℕ → Spots
set_in None s f n = record s { others = set_place s.others f n }
set_in (Some b) s f n = record s { bounds = slice_set s.bounds f.0 (widened b n) }

abbrev pub set_spot : Spots → FieldNo → ℕ → Spots
set_spot s f n = set_in (slice_get s.bounds f.0) s f n

-- what is kept after these entries, the first of which has the number `n`
abbrev pub spots_after : Spots → ℕ → List Entry → Spots
spots_after s n [] = s
spots_after s n (e ∷ es) = spots_after (set_spot s e.field n) (n + 1) es

-- for each of the entries, the first of which will have the number `n`, that of the last entry of its field by what is kept then
abbrev pub befores_by : Spots → ℕ → List Entry → List ℕ
befores_by s n [] = []
befores_by s n (e ∷ es) = last_spot s e.field ∷ befores_by (set_spot s e.field n) (n + 1) es

-- what the entry at a place had its field hold
abbrev pub value_at : List Entry → ℕ → Value
value_at entries at = unwrap_or (option_map (λ e. e.to) (slice_get entries at)) Empty

-- these are the first and the last entries of the fields
pub record AreSpots (entries : List Entry) (spots : Spots) : Type 0 where
  pub last : (f : FieldNo) → last_spot spots f ≡ number (last_of entries f)
  pub first : (f : FieldNo) (b : Bounds) → slice_get spots.bounds f.0 ≡ Some b
      → b.first ≡ number (first_of entries f)
