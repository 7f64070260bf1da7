use Rattle.std.proofs.Common.{◌≡◌, [], drop, take, map, length}
use Rattle.toml.specs.View.{table_view}
use Rattle.setup_drafts.specs.Entries.{entries_fault, with_name}
use Rattle.setup_drafts.specs.Statuses.{status_fault, status_of}
use Rattle.setup_drafts.proofs.draft.status.read_statuses.Given as goal

abbrev pub invariant-loop-entry : goal.invariant-loop-entry
invariant-loop-entry l =
    (entries_fault status_fault (with_name (λ e. (status_of e).name)) [] (map (λ t. table_view t.now) l.entries)
    ≡ entries_fault status_fault (with_name (λ e. (status_of e).name)) l.names (map (λ t. table_view t.now) (drop l.entry-index l.entries)))
    × (map status_of (map (λ t. table_view t.now) (take l.entry-index l.entries)) ≡ l.statuses)
    × (l.names ≡ map (λ g. g.name) l.statuses)
    × (length l.statuses ≡ l.entry-index)
