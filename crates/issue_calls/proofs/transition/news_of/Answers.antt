use Rattle.std.proofs.Common.{List, subst, sym}
use Rattle.std.proofs.lemmas.Result.{IfOk-weaker}
use Rattle.field_values.specs.declared.numbers.TheConstants.FieldNo.{REPORTER as reporter}
use Rattle.fields.specs.SetupParts.{parts, names_in}
use Rattle.change_history.specs.declared.change.Change.{Change}
use Rattle.change_history.specs.History.{present}
use Rattle.workflow.proofs.FitPlans.{planned_fit}
use Rattle.wanted_values.specs.InSprints.{AreOfSprints}
use Rattle.issue_calls.proofs.Holding.{reporter_fits}
use Rattle.wanted_values.proofs.InSprints.{planned_of_sprints}
use Rattle.issue_calls.proofs.transition.news_of.Goals as goal

pub returns-clause-sprints : goal.returns-clause-sprints
returns-clause-sprints c =
    let setup = parts c.args.setup.now in
    let h = c.args.issue.now.history in
    let t = c.args.transition.now in
    let inputs = c.args.inputs.items in
    let reports = reporter_fits (names_in setup) (present h reporter) c.requires.reporter in
    let fit = planned_fit setup h c.args.caller t inputs c.requires.sound c.requires.user reports c.requires.inputs in
    IfOk-weaker c.planned.result _ _ (λ net is count all. subst (λ (cs : List Change). AreOfSprints count cs) (sym is)
    (planned_of_sprints setup h c.args.caller t inputs count c.requires.rules fit all)) c.planned.ensures
