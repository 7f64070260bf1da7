use Rattle.tracker_loading.proofs.Tests.{decided_not}
use Rattle.tracker_loading.proofs.Alone.{alone_between, not_alone}
use Rattle.std.proofs.Common.{sym, ◌∙◌}
use Rattle.tracker_loading.proofs.places.is_alone.Goals as goal

pub returns : goal.returns
returns c =
    let rows = c.args.rows.now in
    let row = c.args.row.now in
    decided_not c.has_twin.result
    (λ twin. not_alone rows c.args.place row c.requires.there (sym c.has_twin.ensures ∙ twin))
    (λ none. alone_between rows c.args.place row c.requires.order c.requires.there (sym c.has_twin.ensures ∙ none))
