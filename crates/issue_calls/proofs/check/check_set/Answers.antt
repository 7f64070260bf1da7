use Rattle.std.proofs.Common.{◌≡◌, ◌∙◌, ℕ, Option, None, ap, sym, subst}
use Rattle.field_values.specs.Parts.{Parts}
use Rattle.tracker_work.specs.Seen.{Seen}
use Rattle.tracker_machine.specs.Checks.{sprint_given, missing_sprint, names_refusal}
use Rattle.wanted_values.proofs.Resolving.{sprint_there}
use Rattle.issue_calls.proofs.check.check_set.Goals as goal

pub returns-in-None-clause-known : goal.returns-in-None-clause-known
returns-in-None-clause-known c =
    let m = c.args.state.now.machine in
    let given = c.args.set.now in
    let fields = given.setup.field in
    let is : c.missing_sprint-missing.result ≡ missing_sprint m.sprints (sprint_given fields given.set) =
    c.missing_sprint-missing.ensures
    ∙ ap (λ (seen : Seen). missing_sprint seen.sprints c.sprint_given.result) c.work.ensures.seen
    ∙ ap (λ (sprint : Option ℕ). missing_sprint m.sprints sprint) c.sprint_given.ensures in
    let passed : names_refusal fields (missing_sprint m.sprints (sprint_given fields given.set)) given.set ≡ None =
    ap (λ (missing : Option ℕ). names_refusal fields missing given.set) (sym is) ∙ sym c.in-None.ensures in
    subst (λ (p : Parts). missing_sprint m.sprints (sprint_given p.field given.set) ≡ None) c.requires (sprint_there fields m.sprints given.set passed)
