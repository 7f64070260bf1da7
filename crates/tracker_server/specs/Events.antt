-- The events of a teller: calls that were made, each with its user and its reply, one behind another.
use Rattle.std.specs.Prelude.{◌≡◌, ◌⊎◌, ℕ, List, [], ◌∷◌, ◌++◌}
use Rattle.tracker_calls.specs.declared.call.Call.{Call}
use Rattle.tracker_calls.specs.declared.reply.Refusal.TheVariants as refusal
use Rattle.tracker_calls.specs.declared.reply.Reply.{Reply}
use Rattle.tracker_calls.specs.declared.reply.Reply.TheVariants as reply
use Rattle.tracker_server.specs.declared.event.Event.{Event}

-- a worker had the call of a user made, and this was the reply
abbrev pub event : ℕ → List ℕ → Call → Reply → Event
event worker caller call reply =
    record { worker = worker; caller = caller; call = call; reply = reply }

-- there was not enough memory
abbrev pub lacks_memory : Reply
lacks_memory = reply.Refused refusal.Memory

-- what is entered for a call that was answered: its event, or nothing where the answer is that memory lacked
abbrev pub IsEntered : List Event → Event → Type 0
IsEntered entered e = (entered ≡ e ∷ []) ⊎ ((entered ≡ []) × (e.reply ≡ lacks_memory))

-- these events, one after another, lead from a state to another one
abbrev pub Lead : {State : Type 0} → (State → Event → State → Type 0) → State → List Event → State
    → Type 0
Lead steps old [] new = new ≡ old
Lead {State =
    State} steps old (e ∷ events) new = (next : State) × steps old e next
    × Lead steps next events new

-- a teller's list grew by these events; where it told a state, they lead from that to the one that it tells now
pub record Grew {Teller State : Type 0} (events : Teller → List Event)
    (tells : Teller → State → Type 0)
    (steps : State → Event → State → Type 0) (old new : Teller)
    (entered : List Event) : Type 0 where
  pub list : events new ≡ events old ++ entered
  pub leads : (state : State) → tells old state
      → (next : State) × tells new next × Lead steps state entered next

-- a teller was told a call, and answered it
pub record IsTold {Teller State : Type 0} (events : Teller → List Event)
    (tells : Teller → State → Type 0)
    (steps : State → Event → State → Type 0) (old new : Teller) (e : Event) : Type 0 where
  pub entered : List Event
  pub is_entered : IsEntered entered e
  pub grew : Grew events tells steps old new entered
