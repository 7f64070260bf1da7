use Rattle.std.proofs.Common.{◌≡◌, true, sym, subst}
use Rattle.workflow.specs.Laws.{AllFit}
use Rattle.tracker_keeper.specs.Forms.{are_opening}
use Rattle.tracker_machine.proofs.Opening.{created_listed}
use Rattle.fields.specs.SetupParts.{names_in}
use Rattle.change_history.specs.History.{opening_value}
use Rattle.tracker_machine.specs.Wanted.{changes_of}
use Rattle.tracker_machine.specs.Create.{create_wants, filled}
use Rattle.tracker_machine.specs.Tracker.{AreNamed, AreSmall}
use Rattle.wanted_values.proofs.Named.{created_named}
use Rattle.issue_calls.proofs.Ops.{unfilled_small}
use Rattle.issue_calls.proofs.create.check_values.Goals as goal

pub returns-clause-named : goal.returns-clause-named
returns-clause-named c =
    let setup = c.args.state.now.machine.setup in
    let wants = create_wants setup c.args.opening.caller.0 c.args.opening.issue_type.now c.args.opening.summary.now c.args.set.now.set in
    let same : c.in_ok-changes.changes.items ≡ changes_of (names_in setup) wants = c.in_ok-changes.ensures.changes in
    subst (λ cs. AreNamed (opening_value (filled cs))) (sym same)
    (created_named c.args.state.now.machine c.args.opening.caller.0 c.args.opening.issue_type.now c.args.opening.summary.now c.args.set.now.set c.in_ok-changes.ensures.check)

pub returns-clause-listed : goal.returns-clause-listed
returns-clause-listed c = λ small.
    let names = names_in c.args.state.now.machine.setup in
    let wants = create_wants c.args.state.now.machine.setup c.args.opening.caller.0 c.args.opening.issue_type.now c.args.opening.summary.now c.args.set.now.set in
    let same : c.in_ok-changes.changes.items ≡ changes_of names wants = c.in_ok-changes.ensures.changes in
    subst (λ cs. are_opening names (filled cs) ≡ true) (sym same)
    (created_listed names wants (subst (λ cs. AllFit names cs) same c.in_ok-changes.ensures.fitting) (subst (λ cs. AreSmall cs) same (unfilled_small c.in_ok-changes.changes.items small)))
