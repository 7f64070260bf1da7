use Rattle.std.proofs.Common.{refl}
use Rattle.std.proofs.lemmas.Result.{err_from_is_err_and}
use Rattle.jql_syntax.specs.Node.{during}
use Rattle.jql_syntax.proofs.Reading.{stuck, goes_rule, goes_both, stop_latter, stop_rule, off}
use Rattle.jql_syntax.proofs.read_past.read_during.Goals as goal

pub returns-in_default-clause-err : goal.returns-in_default-clause-err
returns-in_default-clause-err c = rw c.fault.ensures (stuck c.args.ts.now refl (off c.in_default.ensures.none))

pub returns-in_err-start-clause-err : goal.returns-in_err-start-clause-err
returns-in_err-start-clause-err c = let p = err_from_is_err_and c.from_residual.result c.from_residual.ensures.1 in
    rw (p.1, p.2) (stop_rule (stop_latter c.in-Some.ensures.some c.in_err-start.ensures.err))

pub returns-clause-ok : goal.returns-clause-ok
returns-clause-ok c = goes_rule during (goes_both c.in-Some.ensures.some c.in_ok-start.ensures.ok)
