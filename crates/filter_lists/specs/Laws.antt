-- What holds of lists.
use Rattle.std.specs.Prelude.{ℕ, ◌≡◌, List, [], ◌∷◌, Bool, Option, Some, None, if◌then◌else◌}
use Rattle.rising_numbers.specs.ByNumber.{by_number}
use Rattle.change_history.specs.History.{History}
use Rattle.tracker_machine.specs.Machine.{Machine}
use Rattle.tracker_machine.specs.Saved.{SavedFilter, filter_number}
use Rattle.tracker_machine.specs.Filters.{shown}
use Rattle.filter_lists.specs.Listed.{listed}

-- those of which it is so
abbrev pub kept_by : {X : Type 0} → List Bool → List X → List X
kept_by [] xs = []
kept_by (b ∷ bs) [] = []
kept_by (b ∷ bs) (x ∷ xs) = if b then x ∷ kept_by bs xs else kept_by bs xs

-- what is listed is what the call `filter` shows, all of it
abbrev pub ListsAreShown : Type 0
ListsAreShown =
    (m : Machine) (user filter_no : ℕ) (f : SavedFilter) →
    by_number filter_number filter_no m.filters ≡ Some f →
    kept_by (listed m user filter_no) m.histories ≡ shown m user f

-- and nothing is where there is no filter
abbrev pub NothingIsListed : Type 0
NothingIsListed =
    (m : Machine) (user filter_no : ℕ) → by_number filter_number filter_no m.filters ≡ None →
    kept_by (listed m user filter_no) m.histories ≡ []
