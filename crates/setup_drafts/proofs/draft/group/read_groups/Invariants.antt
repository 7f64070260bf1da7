use Rattle.std.proofs.Common.{◌≡◌, [], drop, take, map, length}
use Rattle.toml.specs.View.{table_view}
use Rattle.setup_drafts.specs.Entries.{entries_fault, with_name}
use Rattle.setup_drafts.specs.Groups.{group_fault, group_draft}
use Rattle.setup_drafts.proofs.draft.group.read_groups.Given as goal

abbrev pub invariant-loop-entry : goal.invariant-loop-entry
invariant-loop-entry l =
    (entries_fault group_fault (with_name (λ e. (group_draft e).name)) [] (map (λ t. table_view t.now) l.entries)
    ≡ entries_fault group_fault (with_name (λ e. (group_draft e).name)) l.names (map (λ t. table_view t.now) (drop l.entry-index l.entries)))
    × (map group_draft (map (λ t. table_view t.now) (take l.entry-index l.entries)) ≡ l.groups)
    × (l.names ≡ map (λ g. g.name) l.groups)
    × (length l.groups ≡ l.entry-index)
