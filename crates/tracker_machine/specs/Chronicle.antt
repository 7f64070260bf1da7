-- The numbers of changes over all issues: each creation and each change group has one.
use Rattle.std.specs.Prelude.{◌≡◌, ◌<◌, ◌≤◌, ◌+◌, ◌==◌, ◌⊎◌, ℕ, List, [], ◌∷◌, slice_get, Some, sum_by, if◌then◌else◌}
use Rattle.change_history.specs.declared.entry.Entry.{Entry}
use Rattle.change_history.specs.History.{History}

-- one of the entries is of that change, at that moment
abbrev pub HasEntry : List Entry → ℕ → ℕ → Type 0
HasEntry [] n at = ⊥
HasEntry (e ∷ es) n at = ((e.change ≡ n) × (e.at ≡ at)) ⊎ HasEntry es n at

-- the change of that number, at that moment, is the issue's creation or one of its groups
abbrev pub IsChangeOf : History → ℕ → ℕ → Type 0
IsChangeOf h n at = ((h.change ≡ n) × (h.at ≡ at)) ⊎ HasEntry h.entries n at

-- the same of the issue at a place
abbrev pub IsChangeAt : List History → ℕ → ℕ → ℕ → Type 0
IsChangeAt histories place n at =
    (h : History) × (slice_get histories place ≡ Some h) × IsChangeOf h n at

-- each change has a number from 1 to the last one and isn't later than now; a number belongs to one issue alone; and
-- moments don't fall as the numbers rise
pub record IsChronicle (histories : List History) (moment change : ℕ) : Type 0 where
  pub known : (k n at : ℕ) → IsChangeAt histories k n at → (1 ≤ n) × (n ≤ change) × (at ≤ moment)
  pub once : (j k n a b : ℕ) → IsChangeAt histories j n a → IsChangeAt histories k n b → j ≡ k
  pub later : (j k m n a b : ℕ) → IsChangeAt histories j m a → IsChangeAt histories k n b → m < n
      → a ≤ b

-- how many change groups these entries are, behind a change of that number
abbrev pub groups_in : ℕ → List Entry → ℕ
groups_in last [] = 0
groups_in last (e ∷ es) = (if e.change == last then 0 else 1) + groups_in e.change es

-- how many groups all issues have
abbrev pub groups_kept : List History → ℕ
groups_kept histories = sum_by (λ h. groups_in h.change h.entries) histories
