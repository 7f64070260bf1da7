-- A heap of ends: each stands behind a parent that doesn't come after it.
use Rattle.std.specs.Prelude.{ℕ, ◌≡◌, ◌≢◌, ◌≤◌, ◌<◌, ◌+◌, ◌-◌, ◌/◌, true, false, List, length}
use Rattle.filter_views.specs.declared.due.Due.{Due}
use Rattle.filter_views.specs.Due.{is_before, due_at}

abbrev pub parent : ℕ → ℕ
parent k = (k - 1) / 2

-- the one at j doesn't come before the one at k
abbrev pub NotBefore : List Due → ℕ → ℕ → Type 0
NotBefore ds j k = is_before (due_at ds j) (due_at ds k) ≡ false

abbrev pub IsHeap : List Due → Type 0
IsHeap ds = (k : ℕ) → 0 < k → k < length ds → NotBefore ds k (parent k)

-- it is one but for the entry at this place, whose children don't come before its parent
pub record IsHeapBut (ds : List Due) (at : ℕ) : Type 0 where
  pub far : (k : ℕ) → 0 < k → k < length ds → k ≢ at → parent k ≢ at → NotBefore ds k (parent k)
  pub gap : (k : ℕ) → 0 < k → k < length ds → parent k ≡ at → 0 < at → NotBefore ds k (parent at)

-- the entry there doesn't come before its parent
abbrev pub IsLow : List Due → ℕ → Type 0
IsLow ds at = 0 < at → NotBefore ds at (parent at)

-- no child there comes before it
abbrev pub IsHigh : List Due → ℕ → Type 0
IsHigh ds at = (k : ℕ) → 0 < k → k < length ds → parent k ≡ at → NotBefore ds k at

-- it comes before its parent, which stands at p
pub record PassesParent (ds : List Due) (at p : ℕ) : Type 0 where
  pub not_first : 0 < at
  pub is_parent : p ≡ parent at
  pub before : is_before (due_at ds at) (due_at ds p) ≡ true

-- of the one at left and the next one, this is one, and none of them comes before it
pub record IsFirstOfTwo (ds : List Due) (left c : ℕ) : Type 0 where
  pub in_range : c < length ds
  pub not_less : left ≤ c
  pub not_more : c ≤ left + 1
  pub not_left : NotBefore ds left c
  pub not_right : left + 1 < length ds → NotBefore ds (left + 1) c

-- its child at c comes before it, and not after another child
pub record PassesChild (ds : List Due) (at c : ℕ) : Type 0 where
  pub in_range : c < length ds
  pub not_first : 0 < c
  pub is_child : parent c ≡ at
  pub before : is_before (due_at ds c) (due_at ds at) ≡ true
  pub least : (k : ℕ) → 0 < k → k < length ds → parent k ≡ at → NotBefore ds k c
