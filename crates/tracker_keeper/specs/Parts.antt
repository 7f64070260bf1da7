-- The kind and the number under which a part is kept.
use Rattle.std.specs.Prelude.{ℕ}
use Rattle.tracker_keeper.specs.declared.part.Part.{Part}
use Rattle.tracker_keeper.specs.declared.part.Part.TheVariants.{Setup, Present, Issue, Group, Rank, External, Sprint, Filter, Board, Members}
use Rattle.tracker_keeper.specs.declared.part.Format.{Format}
use Rattle.tracker_keeper.specs.declared.part.Format.TheVariants.{First, Second}

abbrev pub part_kind : Part → ℕ
part_kind (Setup text) = 1
part_kind (Present balance change format moment) = 2
part_kind (Issue row_no key change at author values) = 3
part_kind (Group issue group) = 4
part_kind (Rank issue rank) = 5
part_kind (External issue external) = 6
part_kind (Sprint row_no sprint) = 7
part_kind (Filter row_no owner name jql) = 8
part_kind (Board row_no name filter) = 9
part_kind (Members group members) = 10

-- a change group goes by its change number; the rank and the external id of an issue go by its number
abbrev pub part_number : Part → ℕ
part_number (Setup text) = 0
part_number (Present balance change format moment) = 0
part_number (Issue row_no key change at author values) = row_no.0
part_number (Group issue group) = group.change
part_number (Rank issue rank) = issue.0
part_number (External issue external) = issue.0
part_number (Sprint row_no sprint) = row_no.0
part_number (Filter row_no owner name jql) = row_no.0
part_number (Board row_no name filter) = row_no.0
part_number (Members group members) = group.0

abbrev pub format_number : Format → ℕ
format_number First = 1
format_number Second = 2
