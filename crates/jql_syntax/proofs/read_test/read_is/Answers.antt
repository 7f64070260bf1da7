use Rattle.std.proofs.Common.{refl}
use Rattle.std.proofs.lemmas.Result.{IfOk-weaker}
use Rattle.jql_syntax.proofs.Reading.{stuck, goes_both, stop_latter, off, IfErr-weaker}
use Rattle.jql_syntax.proofs.read_test.read_is.Goals as goal

pub returns-in_default-clause-err : goal.returns-in_default-clause-err
returns-in_default-clause-err c = rw c.fault.ensures (stuck c.args.ts.now refl (off c.in_default.ensures.none))

pub returns-clause-ok : goal.returns-clause-ok
returns-clause-ok c = IfOk-weaker c.read_emptiness.result _ _ (λ x h. goes_both c.in-Some.ensures.some h) c.read_emptiness.ensures.ok

pub returns-clause-err : goal.returns-clause-err
returns-clause-err c = IfErr-weaker c.read_emptiness.result _ _ (λ s h. stop_latter c.in-Some.ensures.some h) c.read_emptiness.ensures.err
