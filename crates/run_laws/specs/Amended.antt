-- Whoever opens the rows of a tracker before its setup is amended, and after.
use Rattle.std.specs.Prelude.{ℕ, List}
use Rattle.field_values.specs.Parts.{Parts}
use Rattle.tracker_keeper.specs.Rows.{Rows}
use Rattle.tracker_machine.specs.Machine.{Machine}
use Rattle.tracker_core.specs.Desk.{IsOpened}
use Rattle.amended_rows.specs.Amending.{IsAmended}
use Rattle.amended_histories.specs.Telling.{TellTheSame}

-- both runs begin in trackers that tell the same of every issue
abbrev pub AmendedRunsTellTheSame : Type 0
AmendedRunsTellTheSame =
    (setup_text text : List ℕ) (setup : Parts) (rows after : Rows) (before later : Machine)
    → IsAmended text setup rows after → IsOpened setup_text rows before
    → IsOpened setup_text after later → TellTheSame before later
