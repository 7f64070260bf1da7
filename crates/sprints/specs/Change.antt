-- A change of one sprint's state.
use Rattle.std.specs.Prelude.{ℕ, ◌≡◌, ◌-◌, List, IfSome, slice_set}
use Rattle.sprints.specs.declared.sprint.Sprint.{Sprint}
use Rattle.sprints.specs.declared.state.SprintState.{SprintState}
use Rattle.sprints.specs.Sprint.{sprint_of}

-- the sprints with that one in another state
abbrev pub IsInState : List Sprint → List Sprint → ℕ → SprintState → Type 0
IsInState old new n state =
    IfSome (sprint_of old n) (λ sprint. new
    ≡ slice_set old (n - 1) (record sprint { state = state }))
