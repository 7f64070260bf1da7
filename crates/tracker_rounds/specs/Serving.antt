-- What a round comes to for what makes the calls.
use Rattle.std.specs.Prelude.{◌≡◌, ◌<◌, ℕ, List, Option, Some, None}
use Rattle.desk_turn.specs.declared.entry.Entry.{Entry}
use Rattle.tracker_calls.specs.declared.call.Call.{Call}
use Rattle.tracker_calls.specs.declared.reply.Reply.{Reply}
use Rattle.tracker_server.specs.Events.{Lead}
use Rattle.tracker_server.specs.Served.{makes_event}
use Rattle.tracker_server.specs.declared.event.Event.{Event}
use Rattle.tracker_rounds.specs.declared.ask.Ask.{Ask}
use Rattle.tracker_rounds.specs.declared.ask.Told.{Told}
use Rattle.tracker_rounds.specs.declared.ask.UserCall.{UserCall}
use Rattle.tracker_rounds.specs.Trail.{IsNeverAhead, events_in, looks_in, others_in}

module _ {State : Type 0} (makes : State → List ℕ → Call → Reply → State → Type 0)
    (due : State → Option UserCall) where
  -- a call is made as the maker makes it; one of worker 0 is the one that was due
  pub record MakesDue (old : State) (e : Event) (new : State) : Type 0 where
    pub makes_it : makes_event makes old e new
    pub was_due : e.worker ≡ 0 → due old ≡ Some (record { user = e.caller; call = e.call })

module _ {Maker State : Type 0} (tells : Maker → State → Type 0) where
  -- These calls lead from the maker as it was to the maker as it is, so far as it tells its states. Worker 0 makes just what is due,
  -- and never more calls than the others
  pub record IsServed (makes : State → List ℕ → Call → Reply → State → Type 0)
      (due : State → Option UserCall) (old : Maker) (events : List Event) (new : Maker)
      : Type 0 where
    pub leads : (state : State) → tells old state
        → (next : State) × tells new next × Lead (MakesDue makes due) state events next
    pub behind : IsNeverAhead events

  -- nothing is due that worker 0 may do
  abbrev pub IsSettled : (State → Option UserCall) → List (Entry Ask Told) → Maker → Type 0
  IsSettled due entries maker =
      looks_in (events_in entries) < others_in (events_in entries)
      → (state : State) → tells maker state → due state ≡ None

  -- this call may be made under this number: under those of worker 0 only what is due
  abbrev pub MayMake : (State → Option UserCall) → Maker → ℕ → UserCall → Type 0
  MayMake due maker by asked =
      by < 2 → (state : State) → tells maker state → due state ≡ Some asked
