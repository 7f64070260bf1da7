-- The calls of a round, in the order in which they were made.
use Rattle.std.specs.Prelude.{◌≡◌, ◌≤◌, ◌-◌, ◌+◌, ℕ, zero, suc, Bool, true, false, List, [], ◌∷◌, ◌++◌, map}
use Rattle.desk_turn.specs.declared.entry.Entry.{Entry}
use Rattle.tracker_server.specs.Events.{event}
use Rattle.tracker_server.specs.declared.event.Event.{Event}
use Rattle.tracker_rounds.specs.declared.ask.Ask.{Ask}
use Rattle.tracker_rounds.specs.declared.ask.Ask.TheVariants as ask
use Rattle.tracker_rounds.specs.declared.ask.Entered.{Entered}
use Rattle.tracker_rounds.specs.declared.ask.Told.{Told}
use Rattle.tracker_rounds.specs.declared.ask.UserCall.{UserCall}

-- only to do what is due may find nothing to do
abbrev pub is_look : Ask → Bool
is_look (ask.Call asked) = false
is_look ask.Look = true

-- the call that was made: the one that was asked for, or the one that was due
abbrev pub made_of : Ask → Told → UserCall
made_of (ask.Call asked) told = asked
made_of ask.Look told = told.made.value

-- what was entered in the trail
abbrev pub entry_of : Entered → Entry Ask Told
entry_of e = record { by = e.by; ask = e.ask.value; told = e.told.value }

-- as an event. A worker's number is one less than the one under which it makes its calls
abbrev pub event_of : Entry Ask Told → Event
event_of e = event (e.by - 1) (made_of e.ask e.told).user (made_of e.ask e.told).call e.told.reply

abbrev pub events_in : List (Entry Ask Told) → List Event
events_in entries = map event_of entries

-- ---- worker 0, who does what is due, and the others

abbrev pub look_by : ℕ → ℕ
look_by zero = 1
look_by (suc worker) = 0

abbrev pub other_by : ℕ → ℕ
other_by zero = 0
other_by (suc worker) = 1

-- how many calls are worker 0's
abbrev pub looks_in : List Event → ℕ
looks_in [] = 0
looks_in (e ∷ events) = look_by e.worker + looks_in events

-- and how many are of the others
abbrev pub others_in : List Event → ℕ
others_in [] = 0
others_in (e ∷ events) = other_by e.worker + others_in events

-- worker 0 has made at most as many calls as the others at each time
abbrev pub IsNeverAhead : List Event → Type 0
IsNeverAhead events =
    (front : List Event) (back : List Event) → events ≡ front ++ back
    → looks_in front ≤ others_in front
