-- What fields of an issue hold.
use Rattle.field_values.specs.declared.numbers.FieldNo.{FieldNo}
use Rattle.field_values.specs.Parts.{Parts}
use Rattle.fields.specs.SetupParts.{names_in}
use Rattle.change_history.specs.History.{History, present}
use Rattle.tracker_machine.specs.Tracker.{Holds}

-- each holds nothing, or a value that fits it
abbrev pub HoldsWhatFits : Parts → History → Type 0
HoldsWhatFits setup h = (f : FieldNo) → Holds (names_in setup) f (present h f)
