-- How far serving one request brings a connection.
use Rattle.std.specs.Prelude.{◌≡◌, ℕ, List, false, Option}
use Rattle.std.specs.Io.KnownBytes.{Consumes}
use Rattle.tracker_http.specs.Requests.{IsRequest}
use Rattle.tracker_http.specs.declared.request.Request.{Request}
use Rattle.tracker_server.specs.Connections.{Serves, closes}
use Rattle.tracker_server.specs.Exchanges.{IsExchanged}
use Rattle.tracker_server.specs.Sending.{IsSent}
use Rattle.tracker_server.specs.declared.event.Event.{Event}
use Rattle.tracker_server.specs.declared.send.Sent.TheVariants as sent
use Rattle.tracker_server.specs.declared.serve.Step.{Step}
use Rattle.tracker_server.specs.declared.serve.Step.TheVariants as step

-- a request was read and answered, its response is written, and the connection stays open
pub record ServesFirst {Teller State : Type 0} (events : Teller → List Event)
    (tells : Teller → State → Type 0)
    (steps : State → Event → State → Type 0) (worker left : ℕ) (input rest : Option (List ℕ))
    (taken_old taken_new : Option (List ℕ))
    (ahead later : Option (List ℕ)) (old new : Teller) : Type 0 where
  pub request : Request
  pub bytes : List ℕ
  pub is_request : IsRequest bytes request
  pub consumes : Consumes input rest bytes
  pub stays : closes left request ≡ false
  pub exchanged : IsExchanged events tells steps worker ahead later old new request
      (closes left request) (IsSent taken_old taken_new sent.Whole)

abbrev pub ServesNext : {Teller State : Type 0} → (Teller → List Event) → (Teller → State → Type 0)
    → (State → Event → State → Type 0)
    → ℕ → ℕ → Option (List ℕ) → Option (List ℕ) → Option (List ℕ) → Option (List ℕ)
    → Option (List ℕ) → Option (List ℕ)
    → Teller → Teller → Step → Type 0
ServesNext events tells steps worker left input rest taken_old taken_new ahead later old new
    step.Goes =
    ServesFirst events tells steps worker left input rest taken_old taken_new ahead later old new
ServesNext events tells steps worker left input rest taken_old taken_new ahead later old new
    (step.Ends end) =
    Serves events tells steps worker left input taken_old taken_new ahead later old new end
