-- The states of a sprint, and which follows which.
use Rattle.std.specs.Prelude.{◌≡◌, ◌⊎◌, ℕ, Option, Some, None}
use Rattle.sprints.specs.declared.state.SprintState.{SprintState}
use Rattle.sprints.specs.declared.state.SprintState.TheVariants.{Future, Active, Closed}

-- a future sprint can start, at a moment and after a change group
abbrev pub after_start : SprintState → ℕ → ℕ → Option SprintState
after_start Future at change = Some (Active at change)
after_start (Active _ _) at change = None
after_start (Closed _ _ _ _) at change = None

-- an active sprint can close, and its start stays known
abbrev pub after_close : SprintState → ℕ → ℕ → Option SprintState
after_close Future at change = None
after_close (Active start_at start_change) at change = Some (Closed start_at start_change at change)
after_close (Closed _ _ _ _) at change = None

-- a sprint starts or is closed, at a moment and after a change group, from the state that it is in
abbrev pub IsNextState : ℕ → ℕ → SprintState → SprintState → Type 0
IsNextState at change kept state =
    (after_start kept at change ≡ Some state) ⊎ (after_close kept at change ≡ Some state)
