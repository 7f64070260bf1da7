use Rattle.std.proofs.Common.{◌≡◌, drop, map, None}
use Rattle.std.specs.Prelude.{filter}
use Rattle.fields.specs.SetupParts.{parts, names_in}
use Rattle.workflow.specs.Inputs.{is_refused, least_with}
use Rattle.workflow.proofs.inputs.least_refused.Given as goal

abbrev pub invariant-loop-input : goal.invariant-loop-input
invariant-loop-input l =
    least_with None (map (λ c. c.field.0) (filter (is_refused (names_in (parts l.setup))) l.inputs))
    ≡ least_with l.first (map (λ c. c.field.0) (filter (is_refused (names_in (parts l.setup))) (drop l.input-index l.inputs)))
