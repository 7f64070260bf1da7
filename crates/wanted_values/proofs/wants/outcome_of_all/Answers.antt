use Rattle.std.proofs.Common.{◌≡◌, ◌++◌, ℕ, List, map, Option, option_map, ap, ap₂, ◌∙◌}
use Rattle.field_values.specs.declared.field.Field.{Field}
use Rattle.field_values.specs.declared.numbers.FieldNo.{FieldNo}
use Rattle.field_values.specs.Parts.{Parts}
use Rattle.fields.specs.SetupParts.{names_in}
use Rattle.change_history.specs.declared.change.Change.{Change}
use Rattle.workflow.specs.Inputs.{least_with}
use Rattle.tracker_machine.specs.Wanted.{faults_in, field_at_fault, changes_to, changes_of}
use Rattle.wanted_values.specs.Wants.{wants_of}
use Rattle.wanted_values.proofs.Outcomes.{faults_of_all, changes_to_all}
use Rattle.wanted_values.proofs.wants.outcome_of_all.Goals as goal

pub returns-clause-fault : goal.returns-clause-fault
unfolding field_at_fault
returns-clause-fault c =
    let setup = c.args.set.now.setup in
    let names = names_in setup in
    let wants = wants_of setup c.args.set.now.set c.args.opening in
    let number = λ (f : FieldNo). f.0 in
    let own : c.as_slice.result.now ≡ setup.field = c.as_slice.ensures ∙ ap (λ (p : Parts). p.field) c.setup.ensures in
    let built = c.put_outcomes.new.outcome.fault in
    faults_of_all names wants (option_map number built) (option_map number c.put_own_outcomes.new.outcome.fault)
    (c.in_ok-put_outcomes.ensures.fault
    ∙ ap₂ (λ (f : Option FieldNo) (ns : List ℕ). least_with (option_map number f) (faults_in names wants ns)) c.in_ok-outcome.ensures.fault c.built_in_fields.ensures)
    (c.in_ok-put_own_outcomes.ensures.fault
    ∙ ap (λ (fs : List Field). least_with (option_map number built) (faults_in names wants (map (λ f. f.number.0) fs))) own)

pub returns-clause-changes : goal.returns-clause-changes
unfolding changes_of
returns-clause-changes c =
    let setup = c.args.set.now.setup in
    let wants = wants_of setup c.args.set.now.set c.args.opening in
    let own : c.as_slice.result.now ≡ setup.field = c.as_slice.ensures ∙ ap (λ (p : Parts). p.field) c.setup.ensures in
    let built = c.put_outcomes.new.outcome.changes.items in
    changes_to_all setup.field wants built c.put_own_outcomes.new.outcome.changes.items
    (c.in_ok-put_outcomes.ensures.changes
    ∙ ap₂ (λ (before : List Change) (ns : List ℕ). before ++ changes_to wants ns) c.in_ok-outcome.ensures.changes c.built_in_fields.ensures)
    (c.in_ok-put_own_outcomes.ensures.changes
    ∙ ap (λ (fs : List Field). built ++ changes_to wants (map (λ f. f.number.0) fs)) own)
