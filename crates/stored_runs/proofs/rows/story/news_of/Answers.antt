use Rattle.std.proofs.Common.{List, subst, sym}
use Rattle.change_history.specs.declared.change.Change.{Change}
use Rattle.change_history.specs.History.{present}
use Rattle.workflow.specs.Difference.{AreNews}
use Rattle.workflow.proofs.Differing.{net_is}
use Rattle.stored_runs.proofs.rows.story.news_of.Goals as goal

pub returns : goal.returns
returns c =
    subst (λ (cs : List Change). AreNews (present c.args.issue.now.history) 0 cs) (sym c.net_changes.ensures)
    (net_is (present c.args.issue.now.history) c.args.changes.items).news
