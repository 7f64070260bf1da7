use Rattle.std.proofs.Common.{◌≡◌, ◌++◌, drop}
use Rattle.fields.specs.SetupParts.{parts}
use Rattle.told_setups.specs.Told.{told_projects}
use Rattle.told_setups.proofs.projects_told.each_project.Given as goal

abbrev pub invariant-loop-place : goal.invariant-loop-place
invariant-loop-place l =
    told_projects (parts l.setup) l.user.0 0 l.projects
    ≡ l.told ++ told_projects (parts l.setup) l.user.0 l.place (drop l.place l.projects)
