-- The requests of a connection are those of the bytes.
use Rattle.std.proofs.Common.{ℕ, List, [], ◌∷◌, Some}
use Rattle.tracker_http.specs.Streams.{Ending, AreRequests}
use Rattle.tracker_http.specs.declared.request.Request.{Request}
use Rattle.tracker_server.specs.Connections.{BeginWith}

pub theirs : (bytes : List ℕ) (rs : List Request) (ending : Ending) → BeginWith bytes rs (Some ending) → AreRequests bytes rs ending
theirs bytes [] ending e = e
theirs bytes (r ∷ rs) ending e = (e.0, e.1, e.2, e.3, theirs e.1 rs ending e.4)
