use Rattle.std.proofs.Common.{sym, ◌∙◌, ap}
use Rattle.filter_views.specs.FilterRow.{truth_at}
use Rattle.filter_views.proofs.Lookups.{row_found, row_missing, false_there}
use Rattle.filter_views.proofs.rows.holds_in.Goals as goal

pub returns-in-Ok : goal.returns-in-Ok
returns-in-Ok c =
    let found = row_found c.args.rows.now c.args.filter.0 c.in-Ok.at c.requires c.in-Ok.ensures.found c.index-rows-at.result in
    c.holds.ensures ∙ ap (λ r. truth_at r c.args.issue.0) (c.index-rows-at.is ∙ sym found)

pub returns-in-Err : goal.returns-in-Err
returns-in-Err c =
    let missing = row_missing c.args.rows.now c.args.filter.0 c.in-Err.field-0 c.in-Err.ensures.absent in
    false_there c.args.issue.0 ∙ ap (λ r. truth_at r c.args.issue.0) (sym missing)
