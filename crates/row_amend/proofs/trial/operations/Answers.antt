use Rattle.std.proofs.lemmas.Result.{err_from_is_err_and}
use Rattle.fields.specs.SetupParts.{parts}
use Rattle.row_amend.proofs.Tried.{amended_by}
use Rattle.row_amend.proofs.trial.operations.Goals as goal

pub returns-in_err-state-clause-fault : goal.returns-in_err-state-clause-fault
returns-in_err-state-clause-fault c = λ kept has.
    let p = err_from_is_err_and c.from_residual.result c.from_residual.ensures.1 in rw (p.1, p.2) (c.in_err-state.ensures.fault kept has)

pub returns-in-Ok-clause-done : goal.returns-in-Ok-clause-done
returns-in-Ok-clause-done c = λ kept has.
    amended_by c.rows_are_amended.ensures c.in_ok-state.field-0.format kept c.in_ok-state.field-0.state.machine c.args.setup.text (parts c.args.setup) c.in-Ok.ops.items
    (c.in_ok-state.ensures.loads kept has) c.in-Ok.ensures.ops
