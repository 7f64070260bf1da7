-- Values by lent names, in the order of these.
use Rattle.std.specs.Prelude.{◌≡◌, ℕ, ◌<◌, ◌≤◌, List, length, Result, Ok, Err}
use Rattle.std.specs.List.{insert, slice_set, slice_index_or}
use Rattle.std.specs.declared.cmp.Ordering.{Ordering}
use Rattle.std.specs.Borrow.{Bor}
use Rattle.std.specs.BTreeMap.{insert_entry}
use Rattle.std.specs.Cmp.Lexicographic.{slice_cmp}
use Rattle.std.specs.Ordering.{nat_cmp}

-- names stand in the order of their bytes
abbrev pub name_cmp : Bor (List ℕ) → Bor (List ℕ) → Ordering
name_cmp x y = slice_cmp nat_cmp x.now y.now

-- names with their values
abbrev pub ByName : Type 0 → Type 0
ByName X = List (Bor (List ℕ) × X)

-- what is put by this name takes the place of the value here
abbrev pub StandsAt : {X : Type 0} → List ℕ → ByName X → ℕ → Type 0
StandsAt {X} name es at =
    (at < length es)
    × ((k : Bor (List ℕ)) (v : X) (e : Bor (List ℕ) × X) → k.now ≡ name
    → insert_entry name_cmp es k v ≡ slice_set es at ((slice_index_or es at e).0, v))

-- what is put by this name comes here
abbrev pub BelongsAt : {X : Type 0} → List ℕ → ByName X → ℕ → Type 0
BelongsAt {X} name es at =
    (at ≤ length es)
    × ((k : Bor (List ℕ)) (v : X) → k.now ≡ name
    → insert_entry name_cmp es k v ≡ insert es at (k, v))

-- the name stands at the one place, or belongs at the other
abbrev pub IsPlaceOf : {X : Type 0} → List ℕ → ByName X → Result ℕ ℕ → Type 0
IsPlaceOf name es (Ok at) = StandsAt name es at
IsPlaceOf name es (Err at) = BelongsAt name es at
