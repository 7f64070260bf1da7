-- A worker's connections, one behind another, and its seat, which no call changes.
use Rattle.std.proofs.Common.{◌≡◌, ◌-◌, ℕ, List, [], ◌∷◌, ◌++◌, Option, ap, sym, ◌∙◌, append_assoc, append-nil}
use Rattle.std.proofs.lemmas.List.{map-append}
use Rattle.desk_turn.specs.declared.entry.Entry.{Entry}
use Rattle.tracker_calls.specs.declared.call.Call.{Call}
use Rattle.tracker_server.specs.Events.{event, Lead}
use Rattle.tracker_server.specs.Exchanges.{Exchange, AreAnswered, events_of}
use Rattle.tracker_server.specs.declared.event.Event.{Event}
use Rattle.tracker_rounds.specs.declared.ask.Ask.{Ask}
use Rattle.tracker_rounds.specs.declared.ask.Told.{Told}
use Rattle.tracker_rounds.specs.Seated.{AreConnections, AreOfConnections, asks_call, events_along}
use Rattle.tracker_rounds.specs.Trail.{event_of, events_in}

pub connections_none : (worker : ℕ) (events : List Event) → events ≡ [] → AreOfConnections worker events
connections_none worker events none = record { connections = []; answered = tt; events_are = none }

answered_more : (worker : ℕ) (connections : List (List Exchange)) (exchanges : List Exchange) (ahead later : Option (List ℕ))
    → AreConnections worker connections → AreAnswered worker ahead later exchanges → AreConnections worker (connections ++ exchanges ∷ [])
answered_more worker [] exchanges ahead later none answered = (ahead, later, answered, tt)
answered_more worker (first ∷ connections) exchanges ahead later so_far answered =
    (so_far.0, so_far.1, so_far.2, answered_more worker connections exchanges ahead later so_far.3 answered)

along_more : (connections : List (List Exchange)) (exchanges : List Exchange) → events_along (connections ++ exchanges ∷ []) ≡ events_along connections ++ events_of exchanges
along_more [] exchanges = append-nil (events_of exchanges)
along_more (first ∷ connections) exchanges =
    ap (λ l. events_of first ++ l) (along_more connections exchanges) ∙ sym (append_assoc (events_of first) (events_along connections) (events_of exchanges))

pub connections_more : (worker : ℕ) (events now : List Event) (exchanges : List Exchange) (ahead later : Option (List ℕ)) → AreOfConnections worker events
    → AreAnswered worker ahead later exchanges → now ≡ events ++ events_of exchanges → AreOfConnections worker now
connections_more worker events now exchanges ahead later so_far answered is = record {
  connections = so_far.connections ++ exchanges ∷ [];
  answered = answered_more worker so_far.connections exchanges ahead later so_far.answered answered;
  events_are = is ∙ (ap (λ l. l ++ events_of exchanges) so_far.events_are ∙ sym (along_more so_far.connections exchanges));
}

-- what each event leaves as it is, all of them leave so
pub lead_stays : {State : Type 0} (old new : State) (events : List Event) → Lead (λ a e b. b ≡ a) old events new → new ≡ old
lead_stays old new [] same = same
lead_stays old new (e ∷ events) (next, same, rest) = lead_stays next new events rest ∙ same

-- a user's call was entered
pub seated_more : (old new : List (Entry Ask Told)) (by : ℕ) (user : List ℕ) (call : Call) (ask : Ask) (told : Told) → ask ≡ asks_call user call
    → new ≡ old ++ record { by = by; ask = ask; told = told } ∷ [] → events_in new ≡ events_in old ++ event (by - 1) user call told.reply ∷ []
seated_more old new by user call ask told is grows =
    let e : Entry Ask Told = record { by = by; ask = ask; told = told } in
    ap events_in grows
    ∙ (map-append event_of old (e ∷ []) ∙ ap (λ (a : Ask). events_in old ++ event_of (record { by = by; ask = a; told = told }) ∷ []) is)
