use Rattle.tracker_keeper.specs.Rows.{with_ops}
use Rattle.row_amend.proofs.trial.test.Goals as goal

pub returns-in-Ok-loaded-clause-tracker : goal.returns-in-Ok-loaded-clause-tracker
returns-in-Ok-loaded-clause-tracker c = λ kept has.
    let listed = c.in-Ok-loaded.ensures.loads (with_ops c.args.ops.now kept) (c.in-Ok.ensures.done kept has) in
    (c.in-Ok-loaded.loaded.state.machine, (listed.0, listed.1, (c.in-Ok-loaded.loaded.format, listed.2)))

pub returns-in-Err-clause-fault : goal.returns-in-Err-clause-fault
returns-in-Err-clause-fault c = λ kept has. c.in-Err.ensures.fault (with_ops c.args.ops.now kept) (c.in-Ok.ensures.done kept has)
