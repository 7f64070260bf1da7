-- The things of a list, wherever they are.
use Rattle.std.specs.Prelude.{ℕ, ◌<◌, ◌≤◌, List, [], length}
use Rattle.short_lists.specs.declared.short_list.Kept.{Kept}
use Rattle.short_lists.specs.declared.short_list.Kept.TheVariants.{Nowhere, Here, Apart}

-- in their order
abbrev pub kept_items : {T : Type 0} {N : _} → Kept T N → List T
kept_items Nowhere = []
kept_items (Here list) = list
kept_items (Apart list) = list.items

-- one more may come where they are
abbrev pub HasRoom : {T : Type 0} {N : _} → ℕ → Kept T N → Type 0
HasRoom most Nowhere = ⊥
HasRoom most (Here list) = length list < most
HasRoom most (Apart list) = Unit {0}

-- they have places
abbrev pub IsSomewhere : {T : Type 0} {N : _} → Kept T N → Type 0
IsSomewhere Nowhere = ⊥
IsSomewhere (Here list) = Unit {0}
IsSomewhere (Apart list) = Unit {0}

-- they are apart only if they are so many
abbrev pub AreApartIfMany : {T : Type 0} {N : _} → ℕ → Kept T N → Type 0
AreApartIfMany most Nowhere = Unit {0}
AreApartIfMany most (Here list) = Unit {0}
AreApartIfMany most (Apart list) = most ≤ length list.items
