-- Rows in memory: a place for each kind and number, which has a body or is vacant.
use Rattle.std.specs.Prelude.{◌≡◌, ℕ, ◌==◌, ◌&&◌, Bool, true, false, List, [], ◌∷◌, Option, Some, None, IsSome, if◌then◌else◌}
use Rattle.std.specs.Option.{option_flatten}
use Rattle.std.specs.Ordering.{nat_cmp, ordering_then}
use Rattle.std.specs.BTreeMap.{BTreeMap, get}
use Rattle.tracker_keeper.specs.Rows.{Rows, with_op, with_ops}
use Rattle.tracker_keeper.specs.declared.row.Row.{Row}
use Rattle.tracker_keeper.specs.declared.row.RowOp.{RowOp}
use Rattle.tracker_keeper.specs.declared.row.RowOp.TheVariants.{Put, Drop}

abbrev pub Places : Type 0
Places = BTreeMap (ℕ × ℕ) (Option (List ℕ))

-- what stands at the place of a kind and a number, where there is such a place
abbrev pub place_at : Places → ℕ → ℕ → Option (Option (List ℕ))
place_at places kind number =
    get (λ x y. ordering_then (nat_cmp x.0 y.0) (nat_cmp x.1 y.1)) places (kind, number)

-- a vacant place counts as none
abbrev pub content : Places → Rows
content places kind number = option_flatten (place_at places kind number)

-- the rows are those of the places
abbrev pub AreRowsOf : Rows → Places → Type 0
AreRowsOf rows places = (kind number : ℕ) → rows kind number ≡ content places kind number

abbrev pub is_vacant : Option (Option (List ℕ)) → Bool
is_vacant None = false
is_vacant (Some None) = true
is_vacant (Some (Some body)) = false

abbrev pub HasPlace : Places → ℕ → ℕ → Type 0
HasPlace places kind number = IsSome (place_at places kind number)

-- what is put has a place
abbrev pub HasPlaceFor : Places → RowOp → Type 0
HasPlaceFor places (Put row) = HasPlace places row.kind row.no
HasPlaceFor places (Drop kind number) = Unit {0}

abbrev pub HavePlaces : Places → List RowOp → Type 0
HavePlaces places [] = Unit {0}
HavePlaces places (op ∷ ops) = HasPlaceFor places op × HavePlaces places ops

-- ---- what a call does to the places

-- one place becomes this, or goes, and all others stay
abbrev pub IsSet : ℕ → ℕ → Option (Option (List ℕ)) → Places → Places → Type 0
IsSet kind number place old new =
    (k n : ℕ) → place_at new k n
    ≡ (if (kind == k) && (number == n) then place else place_at old k n)

-- no row changes
abbrev pub KeepRows : Places → Places → Type 0
KeepRows old new = (k n : ℕ) → content new k n ≡ content old k n

-- no place goes
abbrev pub KeepPlaces : Places → Places → Type 0
KeepPlaces old new = (k n : ℕ) → HasPlace old k n → HasPlace new k n

-- the rows are those after an operation, and after operations
abbrev pub IsCarriedOut : RowOp → Places → Places → Type 0
IsCarriedOut op old new = (k n : ℕ) → content new k n ≡ with_op op (content old) k n

abbrev pub AreCarriedOut : List RowOp → Places → Places → Type 0
AreCarriedOut ops old new = (k n : ℕ) → content new k n ≡ with_ops ops (content old) k n

-- these operations lead back to the rows that were first, the first one first, and what they put has a place
pub record CanTakeBack (backs : List RowOp) (first now : Places) : Type 0 where
  pub rows : AreCarriedOut backs now first
  pub places : HavePlaces now backs

-- ---- the rows of the places in order, vacant ones left out

abbrev pub with_listed : ℕ × ℕ → Option (List ℕ) → List Row → List Row
with_listed at None list = list
with_listed at (Some body) list = record { kind = at.0; no = at.1; body = body } ∷ list

abbrev pub listed : List ((ℕ × ℕ) × Option (List ℕ)) → List Row
listed [] = []
listed (e ∷ es) = with_listed e.0 e.1 (listed es)
