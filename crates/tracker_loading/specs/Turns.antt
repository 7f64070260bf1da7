-- The order of creations and change groups, of which the groups are read by rising change numbers behind all creations.
use Rattle.std.specs.Prelude.{◌≡◌, ◌≢◌, ◌<◌, ◌≤◌, ℕ, List, slice_get, length, Some}
use Rattle.change_history.specs.History.{History}
use Rattle.tracker_machine.specs.Chronicle.{HasEntry, IsChangeAt}

-- issues that stand behind others have greater change numbers, and moments that aren't earlier
abbrev pub AreCreatedInTurn : List History → Type 0
AreCreatedInTurn histories =
    (j k : ℕ) (g h : History) → j < k → slice_get histories j ≡ Some g
    → slice_get histories k ≡ Some h
    → (g.change < h.change) × (g.at ≤ h.at)

-- no entry of an issue has this change number or a greater one
abbrev pub IsBehindGroups : List History → ℕ → Type 0
IsBehindGroups histories change =
    (place n at : ℕ) (h : History) → slice_get histories place ≡ Some h → HasEntry h.entries n at
    → n < change

-- an entry of an issue is of this moment
abbrev pub HasEntryAt : List History → ℕ → Type 0
HasEntryAt histories at =
    (place : ℕ) × (n : ℕ) × (h : History) × (slice_get histories place ≡ Some h)
    × HasEntry h.entries n at

-- the moment of the last change group, or 0 where there is none
pub record IsGroupMoment (histories : List History) (at : ℕ) : Type 0 where
  -- no entry is later
  pub last : (place n moment : ℕ) (h : History) → slice_get histories place ≡ Some h
      → HasEntry h.entries n moment → moment ≤ at
  pub own : 0 < at → HasEntryAt histories at

-- the issues of smaller change numbers are those before this place
pub record IsPlaceOf (histories : List History) (change place : ℕ) : Type 0 where
  pub within : place ≤ length histories
  pub before : (k : ℕ) (h : History) → k < place → slice_get histories k ≡ Some h
      → h.change < change
  pub behind : (k : ℕ) (h : History) → place ≤ k → slice_get histories k ≡ Some h
      → change ≤ h.change

-- the issues before this place aren't later than this moment
abbrev pub IsNotBefore : List History → ℕ → ℕ → Type 0
IsNotBefore histories place at =
    (k : ℕ) (h : History) → k < place → slice_get histories k ≡ Some h → h.at ≤ at

-- those from it on have other change numbers and aren't earlier
abbrev pub IsNotBehind : List History → ℕ → ℕ → ℕ → Type 0
IsNotBehind histories place change at =
    (k : ℕ) (h : History) → place ≤ k → slice_get histories k ≡ Some h
    → (h.change ≢ change) × (at ≤ h.at)

-- no creation or change group has this number, and moments don't fall as the numbers rise
pub record HasItsTurn (histories : List History) (change at : ℕ) : Type 0 where
  pub once : (place n before : ℕ) → IsChangeAt histories place n before → n ≢ change
  pub later : (place n before : ℕ) → IsChangeAt histories place n before → n < change → before ≤ at
  pub earlier : (place n behind : ℕ) → IsChangeAt histories place n behind → change < n
      → at ≤ behind
