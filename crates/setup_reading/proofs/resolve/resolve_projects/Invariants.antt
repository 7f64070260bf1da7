use Rattle.std.proofs.Common.{◌≡◌, drop, take, map, length}
use Rattle.setup_reading.specs.Resolving.{first_over, project_unknown, project_resolved}
use Rattle.setup_reading.proofs.resolve.resolve_projects.Given as goal

abbrev pub invariant-loop-draft : goal.invariant-loop-draft
invariant-loop-draft l =
    (first_over (project_unknown l.users l.groups) l.drafts ≡ first_over (project_unknown l.users l.groups) (drop l.draft-index l.drafts))
    × (map (project_resolved l.users l.groups) (take l.draft-index l.drafts) ≡ l.projects)
    × (length l.projects ≡ l.draft-index)
