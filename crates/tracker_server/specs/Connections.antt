-- How a connection is served: which requests are read, what is written, and how it ends.
use Rattle.std.specs.Prelude.{◌≡◌, ◌⊎◌, ◌-◌, ◌==◌, ◌||◌, ℕ, List, [], ◌∷◌, ◌++◌, Bool, true, false, Option, Some, None, IfSome, ⊤, if◌then◌else◌}
use Rattle.std.specs.Io.KnownBytes.{Appends}
use Rattle.tracker_http.specs.Requests.{IsRequest}
use Rattle.tracker_http.specs.Response.{response, refused_body}
use Rattle.tracker_http.specs.Streams.{Ending, at_end, inside, refuses, EndsBy}
use Rattle.tracker_http.specs.declared.head_fault.HeadFault.{HeadFault}
use Rattle.tracker_http.specs.declared.request.Request.{Request}
use Rattle.tracker_server.specs.Events.{Grew}
use Rattle.tracker_server.specs.Exchanges.{Exchange, AreAnswered, events_of, requests_of, response_to}
use Rattle.tracker_server.specs.declared.event.Event.{Event}
use Rattle.tracker_server.specs.declared.serve.ConnEnd.{ConnEnd}
use Rattle.tracker_server.specs.declared.serve.ConnEnd.TheVariants as conn

-- a request that is refused, and whether its method is HEAD
pub record Refused : Type 0 where
  pub fault : HeadFault
  pub is_head : Bool

-- ---- which requests are read

-- the response to this request closes the connection, where so many responses may still be made
abbrev pub closes : ℕ → Request → Bool
closes left r = r.close || left == 1

-- of these requests only the last one may close the connection, and this says whether it does
abbrev pub ClosesBy : ℕ → List Request → Bool → Type 0
ClosesBy left [] closed = closed ≡ false
ClosesBy left (r ∷ []) closed = closed ≡ closes left r
ClosesBy left (r ∷ s ∷ rs) closed = (closes left r ≡ false) × ClosesBy (left - 1) (s ∷ rs) closed

-- what is known of the bytes behind the requests that were read: nothing, or how they end
abbrev pub IsBehind : Option Ending → List ℕ → Type 0
IsBehind None bytes = ⊤
IsBehind (Some ending) bytes = EndsBy bytes ending

-- the bytes begin with these requests, one behind another, and this is known of what is behind them
abbrev pub BeginWith : List ℕ → List Request → Option Ending → Type 0
BeginWith bytes [] behind = IsBehind behind bytes
BeginWith bytes (r ∷ rs) behind =
    (text : List ℕ) × (rest : List ℕ) × (bytes ≡ text ++ rest) × IsRequest text r
    × BeginWith rest rs behind

-- ---- what is written

-- there is no body for HEAD
abbrev pub body_of : Refused → Option (List ℕ)
body_of r = if r.is_head then None else Some (refused_body r.fault.status)

-- the response to a request that is refused
abbrev pub refusal_response : Refused → List ℕ
refusal_response r = response r.fault.status (body_of r) true r.fault.allow

-- the responses, where so many may still be made, and behind them the one to a request that is refused
abbrev pub responses : ℕ → List Exchange → Option Refused → List (List ℕ)
responses left [] None = []
responses left [] (Some r) = refusal_response r ∷ []
responses left (x ∷ xs) last =
    response_to x.reply (closes left x.request) ∷ responses (left - 1) xs last

abbrev pub joined : List (List ℕ) → List ℕ
joined [] = []
joined (text ∷ texts) = text ++ joined texts

-- a front of these texts, in which all but perhaps the last stand whole
abbrev pub IsFront : List (List ℕ) → List ℕ → Type 0
IsFront [] front = front ≡ []
IsFront (text ∷ []) front = (back : List ℕ) × (text ≡ front ++ back)
IsFront (text ∷ next ∷ texts) front =
    (more : List ℕ) × (front ≡ text ++ more) × IsFront (next ∷ texts) more

-- all responses are written, but where writing failed, or memory lacked, a front of them
abbrev pub Writes : ConnEnd → List (List ℕ) → Option (List ℕ) → Option (List ℕ) → Type 0
Writes conn.WriteFault texts old new =
    (front : List ℕ) × IsFront texts front × Appends old new front
Writes conn.Memory texts old new = (front : List ℕ) × IsFront texts front × Appends old new front
Writes end texts old new = Appends old new (joined texts)

-- ---- how it ends

-- a request that is refused ends what is read
abbrev pub refusal_behind : Option Refused → Option Ending
refusal_behind None = None
refusal_behind (Some r) = Some (refuses r.fault r.is_head)

-- no request is refused behind a response that closes the connection
abbrev pub MayClose : Option Refused → Bool → Type 0
MayClose None closed = ⊤
MayClose (Some r) closed = closed ≡ false

-- How a connection ends: by the refused request that came last, by whether the last response closed it, and by what is known of
-- the bytes behind the requests.
abbrev pub EndsAs : ConnEnd → Option Refused → Bool → Option Ending → Type 0
EndsAs conn.Closed last closed behind =
    (last ≡ None)
    × (((closed ≡ true) × (behind ≡ None)) ⊎ ((closed ≡ false) × (behind ≡ Some at_end)))
EndsAs conn.Cut last closed behind = (last ≡ None) × (closed ≡ false) × (behind ≡ Some inside)
EndsAs (conn.Refused status) last closed behind =
    (r : Refused) × (r.fault.status ≡ status) × (last ≡ Some r) × (closed ≡ false)
    × (behind ≡ refusal_behind last)
EndsAs conn.ReadFault last closed behind = (last ≡ None) × (closed ≡ false) × (behind ≡ None)
EndsAs conn.WriteFault last closed behind = (behind ≡ refusal_behind last) × MayClose last closed
EndsAs conn.Memory last closed behind = (behind ≡ refusal_behind last) × MayClose last closed

-- A connection was served, on which so many responses might still be made: the requests that were read, with their events and
-- replies, and after them perhaps one that was refused.
pub record Serves {Teller State : Type 0} (events : Teller → List Event)
    (tells : Teller → State → Type 0)
    (steps : State → Event → State → Type 0) (worker left : ℕ) (input : Option (List ℕ))
    (taken_old taken_new : Option (List ℕ))
    (ahead later : Option (List ℕ)) (old new : Teller) (end : ConnEnd) : Type 0 where
  pub exchanges : List Exchange
  pub last : Option Refused
  pub closed : Bool
  pub behind : Option Ending
  pub ends : EndsAs end last closed behind
  pub closes_by : ClosesBy left (requests_of exchanges) closed
  pub read : IfSome input (λ bytes. BeginWith bytes (requests_of exchanges) behind)
  pub answered : AreAnswered worker ahead later exchanges
  pub grew : Grew events tells steps old new (events_of exchanges)
  pub written : Writes end (responses left exchanges last) taken_old taken_new
