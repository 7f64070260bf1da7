use Rattle.std.proofs.Common.{◌≡◌, [], drop, take, map, length}
use Rattle.toml.specs.View.{table_view}
use Rattle.setup_drafts.specs.Entries.{entries_fault, with_name}
use Rattle.setup_drafts.specs.Projects.{project_fault, project_draft}
use Rattle.setup_drafts.proofs.draft.project.read_projects.Given as goal

abbrev pub invariant-loop-entry : goal.invariant-loop-entry
invariant-loop-entry l =
    (entries_fault project_fault (with_name (λ e. (project_draft e).key)) [] (map (λ t. table_view t.now) l.entries)
    ≡ entries_fault project_fault (with_name (λ e. (project_draft e).key)) l.names (map (λ t. table_view t.now) (drop l.entry-index l.entries)))
    × (map project_draft (map (λ t. table_view t.now) (take l.entry-index l.entries)) ≡ l.projects)
    × (l.names ≡ map (λ g. g.key) l.projects)
    × (length l.projects ≡ l.entry-index)
