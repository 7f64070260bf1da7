-- What a call wants of an issue's fields.
use Rattle.std.specs.Prelude.{ℕ, List, Option, Some, None, decimal}
use Rattle.field_values.specs.Parts.{Parts}
use Rattle.fields.specs.SetupParts.{names_in}
use Rattle.tracker_calls.specs.declared.given.GivenField.{GivenField}
use Rattle.tracker_calls.specs.declared.cause.Cause.{Cause}
use Rattle.tracker_calls.specs.declared.cause.Cause.TheVariants as cause
use Rattle.tracker_calls.specs.declared.cause.Thing.TheVariants as thing
use Rattle.tracker_machine.specs.declared.wanted.Wanted.{Wanted}
use Rattle.tracker_machine.specs.Wanted.{wanted_in}
use Rattle.tracker_machine.specs.Create.{create_wants}
use Rattle.wanted_values.specs.declared.wants.Opening.{Opening}
use Rattle.wanted_values.specs.declared.names.UnknownName.{UnknownName}
use Rattle.wanted_values.specs.declared.names.UnknownName.TheVariants as unknown_name

-- what a call wants of each field, by what it gives in `set`, and beside it where it is a create
abbrev pub wants_of : Parts → List GivenField → Option Opening → ℕ → Wanted
wants_of setup set None n = wanted_in (names_in setup) n set
wants_of setup set (Some opening) n =
    create_wants setup opening.caller.0 opening.issue_type.now opening.summary.now set n

-- the refusal of a name in `set` that stands for nothing
abbrev pub unknown_name_refusal : UnknownName → Cause
unknown_name_refusal (unknown_name.Field name) = cause.Unknown thing.Field name.now
unknown_name_refusal (unknown_name.Sprint k) = cause.Unknown thing.Sprint (decimal k)
