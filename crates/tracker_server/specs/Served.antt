-- What serving connections comes to for what makes the calls.
use Rattle.std.specs.Prelude.{◌≡◌, ℕ, List, [], ◌∷◌, ◌++◌, Option, Some, IfSome}
use Rattle.tracker_calls.specs.declared.call.Call.{Call}
use Rattle.tracker_calls.specs.declared.reply.Reply.{Reply}
use Rattle.tracker_http.specs.Streams.{Ending}
use Rattle.tracker_server.specs.Connections.{BeginWith}
use Rattle.tracker_server.specs.Events.{Lead}
use Rattle.tracker_server.specs.Exchanges.{Exchange, AreAnswered, events_of, requests_of}
use Rattle.tracker_server.specs.declared.event.Event.{Event}

-- in this state, the event's call may have its reply, and lead to that state
abbrev pub makes_event : {State : Type 0} → (State → List ℕ → Call → Reply → State → Type 0) → State
    → Event → State → Type 0
makes_event makes old e new = makes old e.caller e.call e.reply new

-- ---- one connection

-- a connection was served: its requests are those with which begins what comes in, and their calls, each behind a tick to the next reading
-- of its clock, lead from one state to another
pub record ServesLink {State : Type 0} (makes : State → List ℕ → Call → Reply → State → Type 0)
    (input readings : Option (List ℕ)) (old : State) (events : List Event)
    (new : State) : Type 0 where
  pub exchanges : List Exchange
  pub behind : Option Ending
  pub later : Option (List ℕ)
  pub read : IfSome input (λ bytes. BeginWith bytes (requests_of exchanges) behind)
  pub answered : AreAnswered 1 readings later exchanges
  pub events_are : events ≡ events_of exchanges
  pub led : Lead (makes_event makes) old events new

-- so it was where the state was told, which is told on
abbrev pub HasServedLink : {Maker State : Type 0} → (Maker → State → Type 0)
    → (State → List ℕ → Call → Reply → State → Type 0) → Option (List ℕ) → Option (List ℕ) → Maker
    → Maker → Type 0
HasServedLink {State = State} tells makes input readings old new =
    (state : State) → tells old state
    → (events : List Event) × (next : State) × tells new next
    × ServesLink makes input readings state events next

-- ---- one connection after another

-- these connections were served, one behind another
abbrev pub ServesLinks : {S T C State : Type 0} → (S → Option (List ℕ)) → (C → Option (List ℕ))
    → (State → List ℕ → Call → Reply → State → Type 0) → State → List (S × T × C) → List Event
    → State → Type 0
ServesLinks left ahead makes old [] events new = (events ≡ []) × (new ≡ old)
ServesLinks {State = State} left ahead makes old ((source, sink, clock) ∷ links) events new =
    (middle : State) × (first : List Event) × (rest : List Event) × (events ≡ first ++ rest)
    × ServesLink makes (left source) (ahead clock) old first middle
    × ServesLinks left ahead makes middle links rest new

-- where connections were told, these calls are those of the ones that came, one behind another, and the others are still to come
abbrev pub AreOfLinks : {S T C State : Type 0} → (S → Option (List ℕ)) → (C → Option (List ℕ))
    → (State → List ℕ → Call → Reply → State → Type 0) → Option (List (S × T × C))
    → Option (List (S × T × C)) → State → List Event → State → Type 0
AreOfLinks {S = S} {T = T} {C = C} left ahead makes before after old events new =
    IfSome before (λ all. (done : List (S × T × C)) × (rest : List (S × T × C))
    × (all ≡ done ++ rest) × (after ≡ Some rest)
    × ServesLinks left ahead makes old done events new)

-- calls lead from one state to another, and are those of the connections
pub record LedByLinks {S T C State : Type 0} (left : S → Option (List ℕ))
    (ahead : C → Option (List ℕ)) (makes : State → List ℕ → Call → Reply → State → Type 0)
    (before after : Option (List (S × T × C))) (old : State) (events : List Event)
    (new : State) : Type 0 where
  pub led : Lead (makes_event makes) old events new
  pub linked : AreOfLinks left ahead makes before after old events new

-- calls were made, one after another: where the state was told, they lead from it to the one that is told now
abbrev pub HasMadeCalls : {S T C Maker State : Type 0} → (S → Option (List ℕ))
    → (C → Option (List ℕ)) → (Maker → State → Type 0)
    → (State → List ℕ → Call → Reply → State → Type 0) → Option (List (S × T × C))
    → Option (List (S × T × C)) → Maker → Maker → Type 0
HasMadeCalls {State = State} left ahead tells makes before after old new =
    (state : State) → tells old state
    → (events : List Event) × (next : State) × tells new next
    × LedByLinks left ahead makes before after state events next
