-- What a text asks for.
use Rattle.std.specs.Prelude.{ℕ, List, Option, Result, Ok, Err}
use Rattle.field_values.specs.Parts.{Parts}
use Rattle.jql_syntax.specs.Either.{QueryOrFault, text_is, text_has}
use Rattle.jql_syntax.specs.Fault.{number_of_kind as number_of_text_fault}
use Rattle.jql_syntax.proofs.Total.{text_decided}
use Rattle.jql_bound.specs.Condition.{Condition}
use Rattle.jql_bound.specs.declared.order.OrderKey.{OrderKey}
use Rattle.jql_grammar.specs.Binding.{bound_in, number_of_kind}
use Rattle.jql_grammar.specs.Conditions.{PlacedFault}
use Rattle.jql_grammar.specs.Scope.{scope_by}
use Rattle.tracker_calls.specs.declared.cause.Cause.{Cause}
use Rattle.tracker_calls.specs.declared.cause.Cause.TheVariants as cause

-- a condition, if any, and sort keys
pub record Query : Type 0 where
  pub condition : Option Condition
  pub keys : List OrderKey

-- what a text that is read asks for in the setup, or the fault that it has there
abbrev pub bound_or_fault : Result (Option Condition × List OrderKey) PlacedFault
    → Result Query Cause
bound_or_fault (Ok bound) = Ok (record { condition = bound.0; keys = bound.1 })
bound_or_fault (Err fault) = Err (cause.Query (number_of_kind fault.kind) fault.place)

-- what a text asks for when the user asks it, or its first fault
abbrev pub asked_by : Parts → ℕ → (text : List ℕ) → QueryOrFault text → Result Query Cause
asked_by setup user text (text_is q keys is) =
    bound_or_fault (bound_in (scope_by setup (record { 0 = user })) q keys)
asked_by setup user text (text_has place kind is) =
    Err (cause.Query (number_of_text_fault kind) place)

-- each text is a query or has a first fault, and never both
unfoldable pub asked : Parts → ℕ → List ℕ → Result Query Cause
asked setup user text = asked_by setup user text (text_decided text)
