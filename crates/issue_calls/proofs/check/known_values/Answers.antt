use Rattle.std.proofs.Common.{◌≡◌, ◌∙◌, List, length, Option, None, option_map, ap, sym, subst}
use Rattle.field_values.specs.Parts.{Parts}
use Rattle.field_values.specs.declared.numbers.FieldNo.{FieldNo}
use Rattle.fields.specs.SetupParts.{names_in}
use Rattle.change_history.specs.declared.change.Change.{Change}
use Rattle.tracker_machine.specs.Wanted.{field_at_fault}
use Rattle.tracker_machine.specs.Checks.{sprint_given, missing_sprint}
use Rattle.wanted_values.specs.InSprints.{AreOfSprints}
use Rattle.wanted_values.specs.Wants.{wants_of}
use Rattle.wanted_values.proofs.Fitting.{wanted_fit}
use Rattle.wanted_values.proofs.InSprints.{wants_of_sprints}
use Rattle.issue_calls.proofs.check.known_values.Goals as goal

pub returns-in-None-clause-sprints : goal.returns-in-None-clause-sprints
returns-in-None-clause-sprints c =
    let m = c.args.state.now.machine in
    let given = c.args.set.now in
    let wants = wants_of given.setup given.set c.args.opening in
    let none : field_at_fault (names_in given.setup) wants ≡ None =
    sym c.in_ok-outcome.ensures.fault ∙ ap (λ (fault : Option FieldNo). option_map (λ f. f.0) fault) c.in-None.is in
    let known : missing_sprint m.sprints (sprint_given given.setup.field given.set) ≡ None =
    subst (λ (p : Parts). missing_sprint m.sprints (sprint_given p.field given.set) ≡ None) (sym c.requires.setup) c.requires.known in
    subst (λ (cs : List Change). AreOfSprints (length m.sprints) cs) (sym c.in_ok-outcome.ensures.changes)
    (wants_of_sprints given.setup m.sprints given.set c.args.opening known (wanted_fit (names_in given.setup) wants none))
