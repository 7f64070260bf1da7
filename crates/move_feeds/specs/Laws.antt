-- What holds of all that is put out.
use Rattle.std.specs.Prelude.{ℕ, ◌≡◌, ◌==◌, Bool, true, false, not, List, [], ◌∷◌, ◌++◌, slice_index_or, if◌then◌else◌}
use Rattle.move_feeds.specs.declared.moves.Change.{Change}
use Rattle.move_feeds.specs.Changes.{changes}

-- a set as whoever reads the moves has it: whether the issue of a number is in it
abbrev pub Issues : Type 0
Issues = ℕ → Bool

abbrev pub no_issue : Issues
no_issue n = false

-- the issue of a number is in the set that this list tells
abbrev pub is_in : List Bool → Issues
is_in list n = slice_index_or (false ∷ list) n false

-- a change is done to a set
abbrev pub with_change : Change → Issues → Issues
with_change c set n = if c.issue.0 == n then c.entered else set n

abbrev pub replayed : List Change → Issues → Issues
replayed [] set = set
replayed (c ∷ cs) set = replayed cs (with_change c set)

-- each entry is of an issue that isn't in the set then, and each exit of one that is
abbrev pub AreMoves : List Change → Issues → Type 0
AreMoves [] set = Unit {0}
AreMoves (c ∷ cs) set = (set c.issue.0 ≡ not c.entered) × AreMoves cs (with_change c set)

-- what one set after another puts out
abbrev pub all_changes : List Bool → List (List Bool) → List Change
all_changes before [] = []
all_changes before (now ∷ more) = changes before now ++ all_changes now more

-- the last of these sets
abbrev pub last_of : List Bool → List (List Bool) → List Bool
last_of before [] = before
last_of before (now ∷ more) = last_of now more

-- replaying what was put out gives the last set, as those who replay began with the first one
abbrev pub ReplayingGivesTheSet : Type 0
ReplayingGivesTheSet =
    (before : List Bool) (sets : List (List Bool)) (set : Issues) →
    ((n : ℕ) → set n ≡ is_in before n) →
    (n : ℕ) → replayed (all_changes before sets) set n ≡ is_in (last_of before sets) n

-- and each change is one then
abbrev pub EachMoveIsOne : Type 0
EachMoveIsOne =
    (before : List Bool) (sets : List (List Bool)) (set : Issues) →
    ((n : ℕ) → set n ≡ is_in before n) → AreMoves (all_changes before sets) set
