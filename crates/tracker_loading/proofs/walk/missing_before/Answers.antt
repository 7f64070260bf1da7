use Rattle.std.proofs.Common.{sym, ◌∙◌}
use Rattle.std.proofs.lemmas.Bool.{false≢true}
use Rattle.tracker_loading.specs.Reading.{gathered_in}
use Rattle.tracker_loading.proofs.Faults.{in_time_if, in_time_always}
use Rattle.tracker_loading.proofs.walk.missing_before.Goals as goal

pub returns-in_default : goal.returns-in_default
returns-in_default c = in_time_always (gathered_in c.args.read.now) c.args.row.now (sym c.in_default.ensures)

pub returns : goal.returns
returns c =
    in_time_if (gathered_in c.args.read.now) c.args.row.now c.in-Some.kind c.in-Some.no (sym c.in-Some.ensures)
    (λ ahead. false≢true (sym c.if-is_ahead.false ∙ c.is_ahead.ensures.1 ahead))
