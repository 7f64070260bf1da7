use Rattle.std.proofs.Common.{refl}
use Rattle.std.proofs.lemmas.Result.{err_from_is_err_and}
use Rattle.jql_syntax.proofs.Reading.{stuck, goes_both, stop_latter, stop_former, off}
use Rattle.jql_syntax.proofs.read_past.read_end.Goals as goal

pub returns-in_default-clause-err : goal.returns-in_default-clause-err
returns-in_default-clause-err c = rw c.fault.ensures (stuck c.args.ts.now refl (off c.in_default.ensures.none))

pub returns-in_err-end-clause-err : goal.returns-in_err-end-clause-err
returns-in_err-end-clause-err c = let p = err_from_is_err_and c.from_residual.result c.from_residual.ensures.1 in
    rw (p.1, p.2) (stop_latter c.in-Some.ensures.some (stop_former c.in_err-end.ensures.err))

pub returns-in-Some-take-clause-ok : goal.returns-in-Some-take-clause-ok
returns-in-Some-take-clause-ok c = goes_both c.in-Some.ensures.some (goes_both c.in_ok-end.ensures.ok c.in-Some-take.ensures.some)

pub returns-in-None-clause-err : goal.returns-in-None-clause-err
returns-in-None-clause-err c = rw c.fault-in-None.ensures (stop_latter c.in-Some.ensures.some (stop_latter c.in_ok-end.ensures.ok (stuck c.in_ok-end.rest.now refl c.in-None.ensures.none)))
