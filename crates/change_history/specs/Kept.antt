-- What an issue keeps.
use Rattle.std.specs.Prelude.{◌≡◌, ◌+◌, ◌^◌, ◌<◌, ◌≤◌, [], map, vec_len, vec_capacity}
use Rattle.field_values.specs.declared.value.Value.TheVariants.{Empty}
use Rattle.change_history.specs.declared.issue.Issue.TheInside.{Inside}
use Rattle.change_history.specs.History.{History, RoomyHistory, IsHistory, present, updated}
use Rattle.change_history.specs.Before.{befores_from}
use Rattle.change_history.specs.Places.{number, Spots, AreSpots}
use Rattle.change_history.specs.Small.{AreSmall}

-- its history
abbrev pub kept_history : Inside → History
kept_history i = record {
  no = i.no;
  key = i.key;
  change = i.change;
  at = i.at;
  author = i.author;
  opening = i.opening.items;
  entries = i.entries.items;
}

-- and room for so many entries more
abbrev pub roomy_history : Inside → RoomyHistory
roomy_history i = record { history = kept_history i; room = i.room }

-- and where the first and the last entries of the fields stand
abbrev pub spots_of : Inside → Spots
spots_of i = record { bounds = i.bounds; others = i.others.items }

-- what is true of it: moment, notes, places and small values follow from the history, and each list has room for as many entries more
pub record IsKept (i : Inside) : Type 0 where
  pub empty_is : i.empty ≡ Empty
  pub updated_is : i.updated ≡ updated (kept_history i)
  pub befores_are : i.befores.items ≡ map number (befores_from [] i.entries.items)
  pub spots_are : AreSpots i.entries.items (spots_of i)
  pub small_are : AreSmall (present (kept_history i)) i.small
  pub entries_fit : vec_len i.entries + i.room ≤ vec_capacity i.entries
  pub others_fit : vec_len i.others + i.room ≤ vec_capacity i.others
  pub befores_fit : vec_len i.befores + i.room ≤ vec_capacity i.befores
  pub few : vec_len i.entries + i.room < 2 ^ 32
  pub history : IsHistory (kept_history i)
