use Rattle.std.proofs.Common.{List, subst, sym}
use Rattle.change_history.specs.declared.change.Change.{Change}
use Rattle.change_history.specs.History.{present}
use Rattle.workflow.specs.Difference.{AreNews}
use Rattle.workflow.specs.Laws.{AllFit}
use Rattle.workflow.proofs.Differing.{net_is}
use Rattle.wanted_values.specs.InSprints.{AreOfSprints}
use Rattle.wanted_values.proofs.Fitting.{fits_net}
use Rattle.wanted_values.proofs.InSprints.{net_of_sprints}
use Rattle.issue_calls.proofs.edit.news_of.Goals as goal

pub returns-clause-news : goal.returns-clause-news
returns-clause-news c =
    let before = present c.args.issue.now.history in
    subst (λ (cs : List Change). AreNews before 0 cs) (sym c.net_changes.ensures) (net_is before c.args.changes.items).news

pub returns-clause-fitting : goal.returns-clause-fitting
returns-clause-fitting c = λ names fit.
    let before = present c.args.issue.now.history in
    subst (λ (cs : List Change). AllFit names cs) (sym c.net_changes.ensures) (fits_net names before c.args.changes.items fit)

pub returns-clause-sprints : goal.returns-clause-sprints
returns-clause-sprints c = λ count all.
    let before = present c.args.issue.now.history in
    subst (λ (cs : List Change). AreOfSprints count cs) (sym c.net_changes.ensures) (net_of_sprints count before c.args.changes.items all)
