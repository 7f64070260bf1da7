-- What a server does with a desk.
use Rattle.std.specs.Prelude.{◌≡◌, ◌+◌, ℕ, List, [], ◌∷◌, codes}
use Rattle.tracker_calls.specs.declared.call.Call.{Call}
use Rattle.tracker_calls.specs.declared.reply.Refusal.TheVariants as refusal
use Rattle.tracker_calls.specs.declared.reply.Reply.{Reply}
use Rattle.tracker_calls.specs.declared.reply.Reply.TheVariants as reply
use Rattle.tracker_core.specs.Desk.{DeskParts, IsOwed}
use Rattle.tracker_core.specs.Left.{IsWithCall, LeavesOn, LeavesWithOne}
use Rattle.tracker_keeper.specs.Rows.{Rows}
use Rattle.tracker_machine.specs.Machine.{Machine}
use Rattle.tracker_machine.specs.Kept.{rows_of}
use Rattle.tracker_machine.specs.Meaning.{HasEffect}
use Rattle.tracker_machine.specs.Step.{IsStep, meaning}
use Rattle.tracker_machine.specs.Tracker.{IsTracker}
use Rattle.tracker_server.specs.Events.{Lead}
use Rattle.tracker_server.specs.Served.{makes_event}
use Rattle.tracker_server.specs.declared.event.Event.{Event}
use Rattle.tracker_cli.specs.Answering.{RoseBy}
use Rattle.tracker_cli.specs.Numerals.{IsPort}
use Rattle.tracker_cli.specs.Outcome.{BeginsIn}

-- the words are `serve` and this port, in digits without a leading zero
abbrev pub IsServe : List (List ℕ) → ℕ → Type 0
IsServe words port = (word : List ℕ) × (words ≡ codes "serve" ∷ word ∷ []) × IsPort word port

-- a call is made as the abstract tracker makes it: the rows that are kept are the tracker's, after it as before it; what a crash
-- leaves has them too, or those of the tracker with this call, or it is what might be left before; a keeper's fault is told only
-- where its count rose; and the keeper isn't asked where there is nothing to keep
pub record MakesCall {P : Type 0} (keeps : P → Rows → Type 0) (tells : P → Type 0) (faults : P → ℕ)
    (leaves : P → Rows → Rows → Type 0) (old : DeskParts P) (caller : List ℕ) (c : Call)
    (r : Reply) (new : DeskParts P) : Type 0 where
  pub step : IsStep old.machine caller c r new.machine
  pub rows : keeps old.keeper (rows_of old.machine) → keeps new.keeper (rows_of new.machine)
  pub told : tells new.keeper → tells old.keeper
  pub owed : IsOwed r (faults old.keeper) (faults new.keeper)
  pub unasked : ¬ (HasEffect (meaning old.machine caller c)) → new.keeper ≡ old.keeper
  pub left : keeps old.keeper (rows_of old.machine)
      → LeavesOn leaves (IsWithCall caller c) old.keeper old.machine new.keeper new.machine

-- a desk tells the state that it has
abbrev pub tells_parts : {P : Type 0} → DeskParts P → DeskParts P → Type 0
tells_parts desk state = desk ≡ state

-- the tracker with one call more
abbrev pub IsWithSomeCall : Machine → Machine → Type 0
IsWithSomeCall m later = (caller : List ℕ) × (c : Call) × IsWithCall caller c m later

-- how many calls were refused since the keeper failed
abbrev pub failures_told : Reply → ℕ
failures_told (reply.Refused refusal.Keeper) = 1
failures_told r = 0

abbrev pub failures_among : List Event → ℕ
failures_among [] = 0
failures_among (e ∷ events) = failures_told e.reply + failures_among events

-- calls were made, one after another, from the tracker whose rows the keeper has on, or from a new one of this setup; it has the rows of
-- the last state then, so far as it tells them, and a crash leaves them, or those with one call more; its count rose by as many as
-- were refused since it failed. `Linked` says of which connections the calls are
pub record HasServed {P : Type 0} (keeps : P → Rows → Type 0) (tells : P → Type 0) (faults : P → ℕ)
    (leaves : P → Rows → Rows → Type 0)
    (Linked : DeskParts P → List Event → DeskParts P → Type 0) (setup_text : List ℕ)
    (old new : P) : Type 0 where
  pub first : DeskParts P
  pub last : DeskParts P
  pub events : List Event
  pub start : BeginsIn keeps tells setup_text old new first.machine
  pub made : Lead (makes_event (MakesCall keeps tells faults leaves)) first events last
  pub linked : Linked first events last
  pub keeper : last.keeper ≡ new
  pub counted : RoseBy (faults old) (faults new) (failures_among events)
  pub rows : (rows : Rows) → keeps old rows → tells new → keeps new (rows_of last.machine)
  pub tracker : IsTracker last.machine
  pub left : (rows : Rows) → keeps old rows → leaves old rows rows → tells new
      → LeavesWithOne leaves IsWithSomeCall new last.machine
