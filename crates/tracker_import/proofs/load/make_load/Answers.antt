use Rattle.tracker_import.proofs.LoadMade.{load_made, made_unsummed}
use Rattle.tracker_import.proofs.Stages.{load_is_short}
use Rattle.tracker_import.proofs.load.make_load.Goals as goal

pub make_each-requires-clause-few : goal.make_each-requires-clause-few
make_each-requires-clause-few g c = rw c.new-calls.ensures (load_is_short c.args.number c.requires)

pub returns-in-Ok-summary_of : goal.returns-in-Ok-summary_of
returns-in-Ok-summary_of g c =
    load_made _ _ _ c.args.number c.args.desk.now c.make_each.new.desk c.new-calls.result c.in-Ok-make_each.counts c.in-Ok-summary_of.summary
    c.state.result.now.machine c.new-calls.ensures c.in-Ok-make_each.ensures c.state.ensures.machine c.in-Ok-summary_of.ensures

pub returns-in-Ok-make_each : goal.returns-in-Ok-make_each
returns-in-Ok-make_each g c =
    made_unsummed _ _ _ c.args.number c.args.desk.now c.make_each.new.desk c.new-calls.result c.in-Ok-make_each.counts c.new-calls.ensures c.in-Ok-make_each.ensures
