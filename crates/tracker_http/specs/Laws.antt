-- What is true of all streams of requests.
use Rattle.std.specs.Prelude.{◌≡◌, ℕ, List, [], ◌∷◌, Bool, Option, Some}
use Rattle.tracker_http.specs.HeadFaults.{refused}
use Rattle.tracker_http.specs.Requests.{TakesNext}
use Rattle.tracker_http.specs.Streams.{Ending, at_end, inside, refuses, AreRequests}
use Rattle.tracker_http.specs.declared.verb.Verb.{Verb}
use Rattle.tracker_http.specs.declared.request.Request.{Request}
use Rattle.tracker_http.specs.declared.request.Next.TheVariants as next

-- bytes hold one list of requests, which ends in one way
abbrev pub OneReading : Type 0
OneReading =
    (bytes : List ℕ) (rs others : List Request) (ending other : Ending)
    → AreRequests bytes rs ending → AreRequests bytes others other
    → (rs ≡ others) × (ending ≡ other)

-- a request that is taken is the first of them
abbrev pub TakenIsFirst : Type 0
TakenIsFirst =
    (bytes rest : List ℕ) (r : Request) (rs : List Request) (ending : Ending)
    → TakesNext (Some bytes) (Some rest) (next.Request r)
    → AreRequests rest rs ending → AreRequests bytes (r ∷ rs) ending

-- where none is, the bytes end so
abbrev pub EndIsTheirs : Type 0
EndIsTheirs =
    (bytes rest : List ℕ) → TakesNext (Some bytes) (Some rest) next.End
    → AreRequests bytes [] at_end

abbrev pub CutIsTheirs : Type 0
CutIsTheirs =
    (bytes rest : List ℕ) → TakesNext (Some bytes) (Some rest) next.Cut
    → AreRequests bytes [] inside

abbrev pub RefusalIsTheirs : Type 0
RefusalIsTheirs = (bytes rest : List ℕ) (status : ℕ) (allow : Option Verb) (is_head : Bool)
    → TakesNext (Some bytes) (Some rest) (next.Refused status allow is_head)
    → AreRequests bytes [] (refuses (refused status allow) is_head)
