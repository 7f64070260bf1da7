-- The calls of a load, handed out one at a time: which is next, and which are left.
use Rattle.std.specs.Prelude.{◌≡◌, ◌≤◌, ℕ, ◌+◌, ◌*◌, ◌/◌, List, [], ◌∷◌, ◌++◌, map, Option, Some, None}
use Rattle.std.specs.List.{flat_map}
use Rattle.tracker_calls.specs.declared.call.Call.{Call}
use Rattle.tracker_calls.specs.declared.call.Call.TheVariants as call
use Rattle.tracker_import.specs.Load.{numbers, multiples, create, created, into_sprint, start, finish, finished, move_up, worked_on, make_sprint, start_sprint, save_filter, step, steps_for, last_tick}
use Rattle.tracker_import.specs.declared.load_calls.Stage.{Stage}
use Rattle.tracker_import.specs.declared.load_calls.Stage.TheVariants as stage

-- ---- what follows each part

abbrev pub behind_steps : ℕ → List Call
behind_steps n = last_tick n ∷ []

abbrev pub behind_moves : ℕ → List Call
behind_moves n = call.RebalanceStart ∷ map (λ _. step) (numbers 1 (steps_for n)) ++ behind_steps n

abbrev pub behind_work : ℕ → List Call
behind_work n = map move_up (multiples 5 1 (n / 5)) ++ behind_moves n

abbrev pub behind_sprint : ℕ → List Call
behind_sprint n = save_filter ∷ flat_map (worked_on n) (multiples 2 1 (n / 2)) ++ behind_work n

abbrev pub behind_edits : ℕ → List Call
behind_edits n = start_sprint ∷ behind_sprint n

abbrev pub behind_creates : ℕ → List Call
behind_creates n = make_sprint ∷ map into_sprint (multiples 3 1 (n / 3)) ++ behind_edits n

-- ---- a stage

-- the calls that are left at a stage
abbrev pub calls_left : ℕ → Stage → List Call
calls_left n (stage.Tick i) = flat_map created (numbers i n) ++ behind_creates n
calls_left n (stage.Create i) = create i ∷ flat_map created (numbers (i + 1) n) ++ behind_creates n
calls_left n stage.MakeSprint = behind_creates n
calls_left n (stage.IntoSprint k) = map into_sprint (multiples 3 k (n / 3)) ++ behind_edits n
calls_left n stage.StartSprint = behind_edits n
calls_left n stage.SaveFilter = behind_sprint n
calls_left n (stage.LaterTick k) = flat_map (worked_on n) (multiples 2 k (n / 2)) ++ behind_work n
calls_left n (stage.Start k) =
    start (2 * k) ∷ (finished (2 * k) ++ flat_map (worked_on n) (multiples 2 (k + 1) (n / 2)))
    ++ behind_work n
calls_left n (stage.Finish k) =
    finish (2 * k) ∷ flat_map (worked_on n) (multiples 2 (k + 1) (n / 2)) ++ behind_work n
calls_left n (stage.Move k) = map move_up (multiples 5 k (n / 5)) ++ behind_moves n
calls_left n stage.RebalanceStart = behind_moves n
calls_left n (stage.RebalanceStep k) = map (λ _. step) (numbers k (steps_for n)) ++ behind_steps n
calls_left n stage.LastTick = behind_steps n
calls_left n stage.Over = []

-- the call that is next
abbrev pub next_call : ℕ → Stage → Option Call
next_call n (stage.Tick i) = Some (call.Tick i)
next_call n (stage.Create i) = Some (create i)
next_call n stage.MakeSprint = Some make_sprint
next_call n (stage.IntoSprint k) = Some (into_sprint (3 * k))
next_call n stage.StartSprint = Some start_sprint
next_call n stage.SaveFilter = Some save_filter
next_call n (stage.LaterTick k) = Some (call.Tick (n + 2 * k))
next_call n (stage.Start k) = Some (start (2 * k))
next_call n (stage.Finish k) = Some (finish (2 * k))
next_call n (stage.Move k) = Some (move_up (5 * k))
next_call n stage.RebalanceStart = Some call.RebalanceStart
next_call n (stage.RebalanceStep k) = Some step
next_call n stage.LastTick = Some (last_tick n)
next_call n stage.Over = None

-- with a call in front, if there is one
abbrev pub with_first : Option Call → List Call → List Call
with_first None rest = rest
with_first (Some c) rest = c ∷ rest

-- a stage counts from 1 and no further than its part goes
abbrev pub IsWithin : ℕ → Stage → Type 0
IsWithin n (stage.Tick i) = i ≤ n
IsWithin n (stage.Create i) = i ≤ n
IsWithin n (stage.IntoSprint k) = k ≤ n / 3
IsWithin n (stage.LaterTick k) = k ≤ n / 2
IsWithin n (stage.Start k) = k ≤ n / 2
IsWithin n (stage.Finish k) = k ≤ n / 2
IsWithin n (stage.Move k) = (1 ≤ k) × (k ≤ n / 5)
IsWithin n (stage.RebalanceStep k) = k ≤ steps_for n
IsWithin n _ = Unit {0}

-- ---- handing out

-- what is handed out is the first of the calls that were left; nothing is exactly where none was
abbrev pub HandsOut : List Call → Option Call → List Call → Type 0
HandsOut old None new = old ≡ []
HandsOut old (Some c) new = old ≡ c ∷ new
