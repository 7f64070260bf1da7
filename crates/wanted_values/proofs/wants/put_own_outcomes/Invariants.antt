use Rattle.std.proofs.Common.{◌≡◌, ◌++◌, drop, map, option_map}
use Rattle.fields.specs.SetupParts.{names_in}
use Rattle.workflow.specs.Inputs.{least_with}
use Rattle.tracker_machine.specs.Wanted.{faults_in, changes_to}
use Rattle.wanted_values.specs.Wants.{wants_of}
use Rattle.wanted_values.proofs.wants.put_own_outcomes.Given as goal

-- what is left to come leads to the same
abbrev pub invariant-loop-field : goal.invariant-loop-field
invariant-loop-field l =
    (least_with (option_map (λ f. f.0) l.fn.outcome.fault) (faults_in (names_in l.set.setup) (wants_of l.set.setup l.set.set l.opening) (map (λ f. f.number.0) l.fields))
    ≡ least_with (option_map (λ f. f.0) l.outcome.fault) (faults_in (names_in l.set.setup) (wants_of l.set.setup l.set.set l.opening) (map (λ f. f.number.0) (drop l.field-index l.fields))))
    × (l.fn.outcome.changes.items ++ changes_to (wants_of l.set.setup l.set.set l.opening) (map (λ f. f.number.0) l.fields)
    ≡ l.outcome.changes.items ++ changes_to (wants_of l.set.setup l.set.set l.opening) (map (λ f. f.number.0) (drop l.field-index l.fields)))
