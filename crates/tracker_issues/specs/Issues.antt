-- The issues that the desk keeps, and how they are found.
use Rattle.std.specs.Prelude.{◌≡◌, ◌≤◌, ◌+◌, ◌-◌, ◌++◌, ℕ, List, length, String}
use Rattle.std.specs.declared.alloc.Global.{Global}
use Rattle.std.specs.HashMap.{HashMap, spare, get_by_text}
use Rattle.change_history.specs.History.{RoomyHistory, History}
use Rattle.change_history.specs.declared.entry.Entry.{Entry}
use Rattle.tracker_machine.specs.Known.{place_of_issue}
use Rattle.tracker_machine.specs.Checks.{entries_kept, bytes_kept}
use Rattle.tracker_issues.specs.Counts.{Tally}

-- the issues, how many more there is room for, and of which projects they are
pub record Shelf : Type 0 where
  pub kept : List RoomyHistory
  pub room : ℕ
  pub tally : Tally

-- an issue with entries more, for which there was room
abbrev pub with_entries : RoomyHistory → List Entry → RoomyHistory
with_entries i entries =
    record {
      history = record i.history { entries = i.history.entries ++ entries };
      room = i.room
          - length entries;
    }

-- what the issues keep true of themselves: the index finds what a walk would find, the totals count all entries and text bytes, and
-- so many more issues have room in the list, among the notes of their projects and in the index
pub record AreIndexed {S : Type 0} (hs : List History) (by_key : HashMap (String Global) ℕ S)
    (entries bytes room len capacity noted notes : ℕ) : Type 0 where
  pub found : (name : List ℕ) → get_by_text by_key name ≡ place_of_issue name hs
  pub counted : entries ≡ entries_kept hs
  pub weighed : bytes ≡ bytes_kept hs
  pub fits : len + room ≤ capacity
  pub noted_fits : noted + room ≤ notes
  pub indexed : room ≤ spare by_key
