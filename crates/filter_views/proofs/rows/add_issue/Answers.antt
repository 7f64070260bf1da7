use Rattle.std.proofs.Common.{◌≡◌, ◌∙◌, sym, ap, set}
use Rattle.std.proofs.lemmas.List.Edits.{map_over_more}
use Rattle.filter_views.specs.Fields.{with_issue}
use Rattle.filter_views.proofs.AllRows.{still_old, short_at}
use Rattle.filter_views.proofs.rows.add_issue.Goals as goal

pub add_issue-requires-clause-truths : goal.add_issue-requires-clause-truths
add_issue-requires-clause-truths c =
    rw (still_old c.args.rows.now c.loop-at.rows c.loop-at.at c.index-rows-at.result c.loop-at-test.true c.loop-at.invariant)
    ((short_at c.args.rows.now c.loop-at.at c.index-rows-at.result c.requires c.loop-at-test.true).0)

pub add_issue-requires-clause-places : goal.add_issue-requires-clause-places
add_issue-requires-clause-places c =
    rw (still_old c.args.rows.now c.loop-at.rows c.loop-at.at c.index-rows-at.result c.loop-at-test.true c.loop-at.invariant)
    ((short_at c.args.rows.now c.loop-at.at c.index-rows-at.result c.requires c.loop-at-test.true).1)

pub loop-at-preserved : goal.loop-at-preserved
loop-at-preserved c =
    let x = c.index-rows-at.result in
    let is : c.add_issue.new.self ≡ with_issue x = c.add_issue.ensures ∙ ap with_issue (sym c.index-rows-at.is) in
    ap (set c.loop-at.rows c.loop-at.at) is ∙ map_over_more with_issue c.args.rows.now c.loop-at.rows c.loop-at.at x c.loop-at-test.true c.loop-at.invariant c.index-rows-at.is
