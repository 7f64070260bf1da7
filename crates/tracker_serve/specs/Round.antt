-- What a round comes to for a tracker.
use Rattle.std.specs.Prelude.{◌≡◌, ◌≢◌, ◌<◌, ◌-◌, ℕ, List, [], Option, Some, None, All, map, IfSome, IfNone}
use Rattle.desk_turn.specs.Passes.{listed}
use Rattle.desk_turn.specs.declared.entry.Entry.{Entry}
use Rattle.desk_turn.specs.declared.kept.Kept.{Ghosts}
use Rattle.tracker_core.specs.Desk.{DeskParts}
use Rattle.tracker_core.specs.Left.{LeavesOn}
use Rattle.tracker_keeper.specs.Rows.{Rows}
use Rattle.tracker_machine.specs.Kept.{rows_of}
use Rattle.tracker_server.specs.Events.{Lead}
use Rattle.tracker_cli.specs.Answering.{RoseBy}
use Rattle.tracker_cli.specs.Serving.{MakesCall, IsWithSomeCall, failures_among}
use Rattle.tracker_rounds.specs.Rounds.{EndsWithLook, IsAccountedWithLook}
use Rattle.tracker_rounds.specs.Seated.{AreOfConnections}
use Rattle.tracker_rounds.specs.Serving.{MakesDue}
use Rattle.tracker_rounds.specs.Trail.{IsNeverAhead, events_in, looks_in, others_in}
use Rattle.tracker_rounds.specs.declared.ask.Ask.{Ask}
use Rattle.tracker_rounds.specs.declared.ask.Told.{Told}
use Rattle.tracker_rounds.specs.declared.round.Receipts.{Receipts}
use Rattle.tracker_rounds.specs.declared.round.RoundCause.{RoundCause}
use Rattle.turn_workers.specs.Round.{numbers_from, signed}
use Rattle.tracker_serve.specs.Due.{due_at, due_in}

-- what receipts list: the calls of worker 0, and those of each other worker, with the number under which it made them
pub record Called : Type 0 where
  pub looks : List (Entry Ask Told)
  pub workers : List (ℕ × List (Entry Ask Told))

abbrev pub called_in : {V O S : Type 0} {G : Ghosts V Ask Told O S}
    → Option (Receipts V Ask Told O S G) → Option Called
called_in (Some receipts) =
    Some (record { looks = listed receipts.looks; workers = map signed receipts.workers.items })
called_in None = None

-- Each call is on the receipt of its worker, and each receipt is just that worker's calls, but for the last look, which may have made
-- one more of worker 0. The others have the numbers behind it, and their calls are those of connections, one behind another
pub record AreCalledBy (workers : ℕ) (entries : List (Entry Ask Told))
    (called : Called) : Type 0 where
  pub accounted : IsAccountedWithLook entries called.looks called.workers
  pub numbers : map (λ s. s.0) called.workers ≡ numbers_from 2 workers
  pub connections : All (λ s. AreOfConnections (s.0 - 1) (events_in s.1)) called.workers

module _ {P : Type 0} (keeps : P → Rows → Type 0) (tells : P → Type 0) (faults : P → ℕ)
    (leaves : P → Rows → Rows → Type 0) where
  -- A round of so many workers, which ended by this cause.
  --
  -- Its calls, one after another, lead from the tracker as it was to the tracker as it is, each with the reply of the abstract
  -- tracker at that point. Worker 0 makes just what is due, and at no time more calls than the others. The rows that are kept are the
  -- tracker's, after it as before it, and what a crash leaves has them too, or those with one call more. The keeper's count rose by as
  -- many as were refused since it failed. Each call is on a receipt, or no worker began. At the end nothing is due that worker 0 may
  -- do, or it made the last call, or memory lacked for it
  pub record IsRound (workers : ℕ) (end : RoundCause) (called : Option Called)
      (old : DeskParts P) (entries : List (Entry Ask Told)) (new : DeskParts P) : Type 0 where
    pub led : Lead (MakesDue (MakesCall keeps tells faults leaves) due_at) old (events_in entries)
        new
    pub behind : IsNeverAhead (events_in entries)
    pub rows : keeps old.keeper (rows_of old.machine) → keeps new.keeper (rows_of new.machine)
    pub left : keeps old.keeper (rows_of old.machine)
        → LeavesOn leaves IsWithSomeCall old.keeper old.machine new.keeper new.machine
    pub counted : RoseBy (faults old.keeper) (faults new.keeper)
        (failures_among (events_in entries))
    pub accounted : IfSome called (AreCalledBy workers entries)
    pub unbegun : IfNone called ((end ≡ RoundCause.Memory) × (new ≡ old) × (entries ≡ []))
    pub looked : end ≢ RoundCause.Memory → ¬ (EndsWithLook (events_in entries))
        → looks_in (events_in entries) < others_in (events_in entries)
        → due_in new.machine ≡ None
