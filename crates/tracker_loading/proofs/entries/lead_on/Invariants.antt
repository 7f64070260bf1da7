use Rattle.std.proofs.Common.{drop}
use Rattle.std.specs.Prelude.{◌↔◌}
use Rattle.change_history.specs.History.{present, AreGroupEntries}
use Rattle.tracker_loading.proofs.entries.lead_on.Given as goal

abbrev pub invariant-loop-entry : goal.invariant-loop-entry
invariant-loop-entry l =
    AreGroupEntries (present l.issue.history) l.low l.group.change l.group.at l.group.author (drop l.entry-index l.group.entries)
    ↔ AreGroupEntries (present l.issue.history) 0 l.group.change l.group.at l.group.author l.group.entries
