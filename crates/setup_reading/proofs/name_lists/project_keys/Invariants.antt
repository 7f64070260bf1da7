use Rattle.std.proofs.Common.{◌≡◌, map, take}
use Rattle.setup_reading.proofs.name_lists.project_keys.Given as goal

abbrev pub invariant-loop-project : goal.invariant-loop-project
invariant-loop-project l = l.names ≡ map (λ x. x.key) (take l.project-index l.projects)
