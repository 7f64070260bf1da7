-- Connections and servers in which nothing outside failed.
use Rattle.std.specs.Prelude.{◌≡◌, ◌⊎◌, ℕ, List, Bool, Option, IfSome}
use Rattle.std.specs.Io.KnownBytes.{Appends}
use Rattle.request_lines.specs.Causes.{Rose}
use Rattle.tracker_keeper.specs.Rows.{Rows}
use Rattle.tracker_machine.specs.Machine.{Machine}
use Rattle.tracker_core.specs.Desk.{IsOpened}
use Rattle.tracker_http.specs.Streams.{Ending}
use Rattle.tracker_server.specs.Connections.{BeginWith, ClosesBy, EndsAs, Refused, joined, responses}
use Rattle.tracker_server.specs.Events.{Grew}
use Rattle.tracker_server.specs.Exchanges.{Exchange, AreAnswered, events_of, requests_of}
use Rattle.tracker_server.specs.declared.event.Event.{Event}
use Rattle.tracker_server.specs.declared.serve.ConnEnd.{ConnEnd}
use Rattle.tracker_server.specs.declared.serve.ConnEnd.TheVariants as conn

-- neither count of faults rose, and neither stands at its last value
pub record NeitherFailed (one_before one_now other_before other_now : ℕ) : Type 0 where
  pub one : ¬ (Rose one_before one_now)
  pub other : ¬ (Rose other_before other_now)

-- it ended by the bytes that came
abbrev pub IsByBytes : ConnEnd → Type 0
IsByBytes conn.Closed = Unit {0}
IsByBytes conn.Cut = Unit {0}
IsByBytes (conn.Refused status) = Unit {0}
IsByBytes conn.ReadFault = ⊥
IsByBytes conn.WriteFault = ⊥
IsByBytes conn.Memory = ⊥

-- the input begins with the requests of these exchanges, which were answered with the readings of the clock, and behind them is that
-- refused one, if any, or what ends the connection
pub record IsServed {Teller State : Type 0} (events : Teller → List Event)
    (tells : Teller → State → Type 0) (steps : State → Event → State → Type 0) (worker : ℕ)
    (input ahead later : Option (List ℕ)) (old new : Teller) (end : ConnEnd)
    (exchanges : List Exchange) (last : Option Refused) : Type 0 where
  pub closed : Bool
  pub behind : Option Ending
  pub ends : EndsAs end last closed behind
  pub closes_by : ClosesBy 16 (requests_of exchanges) closed
  pub read : IfSome input (λ bytes. BeginWith bytes (requests_of exchanges) behind)
  pub answered : AreAnswered worker ahead later exchanges
  pub grew : Grew events tells steps old new (events_of exchanges)

-- Where neither the source nor the sink failed, a connection ends by the bytes that came, and each request that was read has its whole
-- response, one behind another; or memory lacked. `Served` says which requests, replies and refused request these are.
abbrev pub EndsByBytes : Type 0 → ConnEnd → (List Exchange → Option Refused → Type 0)
    → Option (List ℕ) → Option (List ℕ) → Type 0
EndsByBytes Unfailing end Served old new =
    Unfailing
    → (end ≡ conn.Memory)
    ⊎ (IsByBytes end
    × ((exchanges : List Exchange) × (last : Option Refused) × Served exchanges last
    × Appends old new (joined (responses 16 exchanges last))))

-- Where neither the links nor the keeper failed, a server that was asked for over rows that are a tracker's, or none, ends as no link is
-- left, and no call was refused since the keeper failed; or memory lacked. `Served` says what was served, and that so many calls were
-- refused so.
abbrev pub EndsWithLinks : Type 0 → Type 0 → (Rows → Type 0) → List ℕ → ℕ → (ℕ → Type 0) → Type 0
EndsWithLinks Unfailing Asked Have setup_text status Served =
    (rows : Rows) (m : Machine) → Asked → Have rows → IsOpened setup_text rows m → Unfailing
    → (status ≡ 6) ⊎ ((status ≡ 0) × Served 0)
