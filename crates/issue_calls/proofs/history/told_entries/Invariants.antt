use Rattle.std.proofs.Common.{◌≡◌, map, take, drop}
use Rattle.fields.specs.SetupParts.{parts, names_in}
use Rattle.tracker_machine.specs.Entries.{told_entry}
use Rattle.tracker_machine.specs.Tracker.{AllEntriesHold}
use Rattle.issue_calls.proofs.history.told_entries.Given as goal

abbrev pub invariant-loop-entry : goal.invariant-loop-entry
invariant-loop-entry l = (l.told ≡ map (told_entry (names_in (parts l.setup))) (take l.entry-index l.entries)) × AllEntriesHold (names_in (parts l.setup)) (drop l.entry-index l.entries)
