-- The calls of a worker, and what they were answered.
use Rattle.std.specs.Prelude.{◌≡◌, ℕ, List, [], ◌∷◌, ◌++◌, Option, Some, None, ⊤}
use Rattle.atomic_table.specs.Seated.{TableId}
use Rattle.desk_turn.specs.declared.kept.Kept.{Ghosts}
use Rattle.desk_turn.specs.declared.pass.Pass.{Pass}
use Rattle.tracker_calls.specs.declared.call.Call.{Call}
use Rattle.tracker_calls.specs.declared.reply.Reply.{Reply}
use Rattle.tracker_server.specs.Exchanges.{Exchange, AreAnswered, events_of}
use Rattle.tracker_server.specs.declared.event.Event.{Event}
use Rattle.tracker_rounds.specs.declared.ask.Ask.{Ask}
use Rattle.tracker_rounds.specs.declared.ask.Ask.TheVariants as ask
use Rattle.tracker_rounds.specs.declared.ask.Told.{Told}
pub use Rattle.tracker_server.specs.Events.{lacks_memory}

-- a user's call is asked for
abbrev pub asks_call : List ℕ → Call → Ask
asks_call user call = ask.Call (record { user = user; call = call })

-- the reply to the last call, where it was entered
abbrev pub reply_of : Option Told → Reply
reply_of (Some told) = told.reply
reply_of None = lacks_memory

-- of which turn a pass is, and its number
pub record Place : Type 0 where
  pub turn : TableId
  pub number : ℕ

abbrev pub place_of : {V A T O S : Type 0} {G : Ghosts V A T O S} → Pass V A T O S G → Place
place_of pass = record { turn = pass.seat.table_id; number = pass.caller }

-- each is a connection whose requests were answered by that worker, with the readings of some clock
abbrev pub AreConnections : ℕ → List (List Exchange) → Type 0
AreConnections worker [] = ⊤
AreConnections worker (exchanges ∷ connections) =
    (ahead : Option (List ℕ)) × (later : Option (List ℕ))
    × AreAnswered worker ahead later exchanges × AreConnections worker connections

-- the events of these connections, one behind another
abbrev pub events_along : List (List Exchange) → List Event
events_along [] = []
events_along (exchanges ∷ connections) = events_of exchanges ++ events_along connections

-- a worker's events are those of connections that it served, one behind another: of each request the tick to its clock's next
-- reading, and then its call
pub record AreOfConnections (worker : ℕ) (events : List Event) : Type 0 where
  pub connections : List (List Exchange)
  pub answered : AreConnections worker connections
  pub events_are : events ≡ events_along connections
