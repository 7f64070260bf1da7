-- What the text of a filter asks for.
use Rattle.std.specs.Prelude.{◌≡◌, ◌≢◌, Option, Some, None, Result, Ok}
use Rattle.jql_bound.specs.declared.cond.Bound.{Bound}
use Rattle.tracker_calls.specs.declared.cause.Cause.{Cause}
use Rattle.tracker_machine.specs.Query.{Query}
use Rattle.tracker_state.specs.State.{query_of}

-- what is asked for is what is bound, and nothing is asked for where nothing is
abbrev pub Asks : Result Query Cause → Option Bound → Type 0
Asks asked (Some bound) = asked ≡ Ok (query_of bound)
Asks asked None = (query : Query) → asked ≢ Ok query
