use Rattle.std.proofs.Common.{sym, ◌∙◌}
use Rattle.tracker_loading.proofs.Tests.{decided, ruled_out}
use Rattle.tracker_loading.proofs.Lookup.{has_row, no_row, no_row_past}
use Rattle.tracker_loading.proofs.places.has_row.Goals as goal

pub returns-in-Some : goal.returns-in-Some
returns-in-Some c =
    let rows = c.args.rows.now in
    let row = c.in-Some.row.now in
    let place = c.count_before.result in
    decided c.is_of.result
    (λ is. has_row rows c.args.kind c.args.no place c.requires c.count_before.ensures row (sym c.in-Some.ensures) (sym c.is_of.ensures ∙ is))
    (λ other. no_row rows c.args.kind c.args.no place c.requires c.count_before.ensures row (sym c.in-Some.ensures) (sym c.is_of.ensures ∙ other))

pub returns-in-None : goal.returns-in-None
returns-in-None c =
    ruled_out (no_row_past c.args.rows.now c.args.kind c.args.no c.count_before.result c.requires c.count_before.ensures (sym c.in-None.ensures))
