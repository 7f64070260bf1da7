use Rattle.std.proofs.Common.{◌≡◌, ◌++◌, drop, Some}
use Rattle.std.specs.Prelude.{filter}
use Rattle.fields.specs.SetupParts.{parts, may}
use Rattle.told_setups.proofs.projects_told.permissions_among.Given as goal

abbrev pub invariant-loop-permission : goal.invariant-loop-permission
invariant-loop-permission l =
    filter (λ p. may (parts l.setup) l.user.0 p (Some l.project.0)) l.all
    ≡ l.told ++ filter (λ p. may (parts l.setup) l.user.0 p (Some l.project.0)) (drop l.permission-index l.all)
