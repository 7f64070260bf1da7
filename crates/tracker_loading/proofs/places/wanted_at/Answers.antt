use Rattle.std.proofs.Common.{sym, ◌∙◌}
use Rattle.std.proofs.lemmas.Bool.{false≢true}
use Rattle.tracker_loading.proofs.Order.{ahead_of_all}
use Rattle.tracker_loading.proofs.places.wanted_at.Goals as goal

pub returns-then-is_ahead : goal.returns-then-is_ahead
returns-then-is_ahead c =
    ahead_of_all c.args.rows.now c.args.place c.in-Some.row.now c.args.kind c.args.no c.requires (sym c.in-Some.ensures) (c.is_ahead.ensures.0 c.if-is_ahead.true)

pub returns : goal.returns
returns c = (sym c.in-Some.ensures, λ ahead. false≢true (sym c.if-is_ahead.false ∙ c.is_ahead.ensures.1 ahead))
