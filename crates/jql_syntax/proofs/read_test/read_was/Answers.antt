use Rattle.std.proofs.Common.{refl}
use Rattle.std.proofs.lemmas.Result.{IfOk-weaker}
use Rattle.jql_syntax.proofs.Reading.{stuck, reads_one, goes_both, goes_first, goes_second, stop_latter, stop_first, stop_second, off, on, IfErr-weaker}
use Rattle.jql_syntax.proofs.read_test.read_was.Goals as goal

pub returns-in_default-clause-err : goal.returns-in_default-clause-err
returns-in_default-clause-err c = rw c.fault.ensures (stuck c.args.ts.now refl (off c.in_default.ensures.none))

pub returns-in-Some-take-clause-ok : goal.returns-in-Some-take-clause-ok
returns-in-Some-take-clause-ok c = IfOk-weaker c.read_past.result _ _ (λ x h. goes_both c.in-Some.ensures.some (goes_first _ (on (reads_one c.in-Some-take.ensures.some)) (goes_both c.in-Some-take.ensures.some h))) c.read_past.ensures.ok

pub returns-in-Some-take-clause-err : goal.returns-in-Some-take-clause-err
returns-in-Some-take-clause-err c = IfErr-weaker c.read_past.result _ _ (λ s h. stop_latter c.in-Some.ensures.some (stop_first (on (reads_one c.in-Some-take.ensures.some)) (stop_latter c.in-Some-take.ensures.some h))) c.read_past.ensures.err

pub returns-in-None-clause-ok : goal.returns-in-None-clause-ok
returns-in-None-clause-ok c = IfOk-weaker c.read_past-in-None.result _ _ (λ x h. goes_both c.in-Some.ensures.some (goes_second _ (off c.in-None.ensures.none) h)) c.read_past-in-None.ensures.ok

pub returns-in-None-clause-err : goal.returns-in-None-clause-err
returns-in-None-clause-err c = IfErr-weaker c.read_past-in-None.result _ _ (λ s h. stop_latter c.in-Some.ensures.some (stop_second (off c.in-None.ensures.none) h)) c.read_past-in-None.ensures.err
