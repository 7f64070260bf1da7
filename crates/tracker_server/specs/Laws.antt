-- What is true of all connections.
use Rattle.std.specs.Prelude.{ℕ, List, Some}
use Rattle.tracker_http.specs.Streams.{Ending, AreRequests}
use Rattle.tracker_http.specs.declared.request.Request.{Request}
use Rattle.tracker_server.specs.Connections.{BeginWith}

-- requests behind which it is known how the bytes end are those of the whole stream
abbrev pub AreTheirs : Type 0
AreTheirs =
    (bytes : List ℕ) (rs : List Request) (ending : Ending) → BeginWith bytes rs (Some ending)
    → AreRequests bytes rs ending
