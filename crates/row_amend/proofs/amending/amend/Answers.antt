use Rattle.std.proofs.lemmas.Result.{err_from_is_err_and}
use Rattle.row_amend.proofs.amending.amend.Goals as goal

pub returns-in_err-ops-clause-fault : goal.returns-in_err-ops-clause-fault
returns-in_err-ops-clause-fault g c = λ kept listing.
    let p = err_from_is_err_and c.from_residual.result c.from_residual.ensures.1 in rw (p.1, p.2) (c.in_err-ops.ensures.fault kept listing)
