-- Which issues a filter lists for a user.
use Rattle.std.specs.Prelude.{ℕ, Bool, false, List, map, Option, Some, None}
use Rattle.rising_numbers.specs.ByNumber.{by_number}
use Rattle.change_history.specs.History.{History}
use Rattle.tracker_machine.specs.Machine.{Machine}
use Rattle.tracker_machine.specs.Saved.{SavedFilter, filter_number}
use Rattle.tracker_machine.specs.Filters.{is_shown}

-- the filter lists the issue for a user; none does where there is no filter
abbrev pub lists : Machine → ℕ → Option SavedFilter → History → Bool
lists m user None h = false
lists m user (Some f) h = is_shown m user f h

-- of each issue, by its number from 1, whether the filter of a number lists it for a user
unfoldable pub listed : Machine → ℕ → ℕ → List Bool
listed m user filter_no =
    map (lists m user (by_number filter_number filter_no m.filters)) m.histories
