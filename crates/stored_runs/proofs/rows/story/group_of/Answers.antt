use Rattle.std.proofs.Common.{◌<◌, List, subst, sym, refl, arith}
use Rattle.change_history.specs.declared.entry.Entry.{Entry}
use Rattle.change_history.specs.History.{present, last_change, MayAdd}
use Rattle.workflow.specs.Net.{with_changes}
use Rattle.workflow.proofs.Differing.{may_be_added}
use Rattle.stored_runs.proofs.rows.story.group_of.Goals as goal

pub returns : goal.returns
returns c =
    let h = c.args.issue.now.history in
    let greater : last_change h.change h.entries < c.in-Some.change = omega (arith, c.last_change.ensures, c.in-Some.ensures) in
    subst (λ (entries : List Entry). MayAdd h c.in-Some.change c.args.at c.args.author entries) (sym c.in_ok-entries.ensures)
    (may_be_added h (with_changes (present h) c.args.net.now) c.args.net.now c.in-Some.change c.args.at c.args.author
    (record { news = c.requires.news; gives = λ f. refl }) c.requires.some c.requires.later greater)
