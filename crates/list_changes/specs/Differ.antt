-- Lists that differ in one issue. Each says of the issues, by their numbers from 1, whether they are listed.
use Rattle.std.specs.Prelude.{ℕ, ◌≡◌, ◌≢◌, ◌≤◌, Bool, List, [], ◌∷◌, ◌++◌, length, slice_set, nat_lt, if◌then◌else◌}
use Rattle.list_changes.specs.declared.changed.Changed.{Changed}
use Rattle.list_changes.specs.declared.changed.Changed.TheVariants as changed

-- at this place stands this, be it behind the end
abbrev pub with_at : ℕ → Bool → List Bool → List Bool
with_at place is list =
    if nat_lt place (length list) then slice_set list place is else list ++ is ∷ []

-- the lists differ at this place at most, which may stand behind the end of the old one
pub record DifferAt (place : ℕ) (old new : List Bool) : Type 0 where
  pub is : Bool
  pub within : place ≤ length old
  pub same : new ≡ with_at place is old

-- the list of a filter of this number may so become another one
abbrev pub MayBecome : Changed → ℕ → List Bool → List Bool → Type 0
MayBecome changed.Nothing filter_no before now = now ≡ before
MayBecome (changed.Issue place) filter_no before now = DifferAt place before now
MayBecome (changed.Filter number) filter_no before now = filter_no ≢ number.0 → now ≡ before
MayBecome changed.Anything filter_no before now = Unit {0}
