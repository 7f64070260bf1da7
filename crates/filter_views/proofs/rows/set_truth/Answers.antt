use Rattle.std.proofs.Common.{subst, arith, length}
use Rattle.filter_views.specs.FilterRow.{HasNumber}
use Rattle.filter_views.proofs.Lookups.{row_found, row_missing}
use Rattle.filter_views.proofs.Truths.{puts_truth}
use Rattle.filter_views.proofs.rows.set_truth.Goals as goal

pub set_truth-requires : goal.set_truth-requires
set_truth-requires c =
    let found = row_found c.args.rows.now c.args.filter.0 c.in-Ok.at c.requires.rising c.in-Ok.ensures.found c.index-rows-at.result in
    subst (λ r. HasNumber c.args.issue.0 (length r.truths)) found c.requires.there

pub returns-in-Ok : goal.returns-in-Ok
returns-in-Ok c = puts_truth c.args.rows.now c.args.filter.0 c.in-Ok.at c.requires.rising c.in-Ok.ensures.found c.index-rows-at.result c.args.issue.0 c.args.holds c.requires.there c.set_truth.new.self c.set_truth.ensures

pub returns-in_default : goal.returns-in_default
returns-in_default c =
    let missing = row_missing c.args.rows.now c.args.filter.0 c.in_default.field-0 c.in_default.ensures.absent in
    let none = subst (λ r. HasNumber c.args.issue.0 (length r.truths)) missing c.requires.there in
    absurd (omega (arith, none.0, none.1))
