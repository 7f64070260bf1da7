use Rattle.std.proofs.Common.{sym}
use Rattle.std.proofs.lemmas.Result.{IfOk-weaker}
use Rattle.jql_syntax.proofs.Reading.{goes_first, goes_second, stop_first, stop_second, off, on, IfErr-weaker}
use Rattle.jql_syntax.proofs.read_test.read_comparison.Goals as goal

pub returns-then-starts-clause-ok : goal.returns-then-starts-clause-ok
returns-then-starts-clause-ok c = IfOk-weaker c.read_compared.result _ _ (λ x h. goes_first _ (on (sym c.if-starts.ensures)) (h)) c.read_compared.ensures.ok

pub returns-then-starts-clause-err : goal.returns-then-starts-clause-err
returns-then-starts-clause-err c = IfErr-weaker c.read_compared.result _ _ (λ s h. stop_first (on (sym c.if-starts.ensures)) (h)) c.read_compared.ensures.err

pub returns-then-starts-2-clause-ok : goal.returns-then-starts-2-clause-ok
returns-then-starts-2-clause-ok c = IfOk-weaker c.read_compared-then-starts-2.result _ _ (λ x h. goes_second _ (off (sym c.if-starts.ensures)) (goes_first _ (on (sym c.if-starts-2.ensures)) (h))) c.read_compared-then-starts-2.ensures.ok

pub returns-then-starts-2-clause-err : goal.returns-then-starts-2-clause-err
returns-then-starts-2-clause-err c = IfErr-weaker c.read_compared-then-starts-2.result _ _ (λ s h. stop_second (off (sym c.if-starts.ensures)) (stop_first (on (sym c.if-starts-2.ensures)) (h))) c.read_compared-then-starts-2.ensures.err

pub returns-then-starts-3-clause-ok : goal.returns-then-starts-3-clause-ok
returns-then-starts-3-clause-ok c = IfOk-weaker c.read_compared-then-starts-3.result _ _ (λ x h. goes_second _ (off (sym c.if-starts.ensures)) (goes_second _ (off (sym c.if-starts-2.ensures)) (goes_first _ (on (sym c.if-starts-3.ensures)) (h)))) c.read_compared-then-starts-3.ensures.ok

pub returns-then-starts-3-clause-err : goal.returns-then-starts-3-clause-err
returns-then-starts-3-clause-err c = IfErr-weaker c.read_compared-then-starts-3.result _ _ (λ s h. stop_second (off (sym c.if-starts.ensures)) (stop_second (off (sym c.if-starts-2.ensures)) (stop_first (on (sym c.if-starts-3.ensures)) (h)))) c.read_compared-then-starts-3.ensures.err

pub returns-then-starts-4-clause-ok : goal.returns-then-starts-4-clause-ok
returns-then-starts-4-clause-ok c = IfOk-weaker c.read_compared-then-starts-4.result _ _ (λ x h. goes_second _ (off (sym c.if-starts.ensures)) (goes_second _ (off (sym c.if-starts-2.ensures)) (goes_second _ (off (sym c.if-starts-3.ensures)) (goes_first _ (on (sym c.if-starts-4.ensures)) (h))))) c.read_compared-then-starts-4.ensures.ok

pub returns-then-starts-4-clause-err : goal.returns-then-starts-4-clause-err
returns-then-starts-4-clause-err c = IfErr-weaker c.read_compared-then-starts-4.result _ _ (λ s h. stop_second (off (sym c.if-starts.ensures)) (stop_second (off (sym c.if-starts-2.ensures)) (stop_second (off (sym c.if-starts-3.ensures)) (stop_first (on (sym c.if-starts-4.ensures)) (h))))) c.read_compared-then-starts-4.ensures.err

pub returns-then-starts-5-clause-ok : goal.returns-then-starts-5-clause-ok
returns-then-starts-5-clause-ok c = IfOk-weaker c.read_compared-then-starts-5.result _ _ (λ x h. goes_second _ (off (sym c.if-starts.ensures)) (goes_second _ (off (sym c.if-starts-2.ensures)) (goes_second _ (off (sym c.if-starts-3.ensures)) (goes_second _ (off (sym c.if-starts-4.ensures)) (goes_first _ (on (sym c.if-starts-5.ensures)) (h)))))) c.read_compared-then-starts-5.ensures.ok

pub returns-then-starts-5-clause-err : goal.returns-then-starts-5-clause-err
returns-then-starts-5-clause-err c = IfErr-weaker c.read_compared-then-starts-5.result _ _ (λ s h. stop_second (off (sym c.if-starts.ensures)) (stop_second (off (sym c.if-starts-2.ensures)) (stop_second (off (sym c.if-starts-3.ensures)) (stop_second (off (sym c.if-starts-4.ensures)) (stop_first (on (sym c.if-starts-5.ensures)) (h)))))) c.read_compared-then-starts-5.ensures.err

pub returns-clause-ok : goal.returns-clause-ok
returns-clause-ok c = IfOk-weaker c.read_compared-2.result _ _ (λ x h. goes_second _ (off (sym c.if-starts.ensures)) (goes_second _ (off (sym c.if-starts-2.ensures)) (goes_second _ (off (sym c.if-starts-3.ensures)) (goes_second _ (off (sym c.if-starts-4.ensures)) (goes_second _ (off (sym c.if-starts-5.ensures)) (h)))))) c.read_compared-2.ensures.ok

pub returns-clause-err : goal.returns-clause-err
returns-clause-err c = IfErr-weaker c.read_compared-2.result _ _ (λ s h. stop_second (off (sym c.if-starts.ensures)) (stop_second (off (sym c.if-starts-2.ensures)) (stop_second (off (sym c.if-starts-3.ensures)) (stop_second (off (sym c.if-starts-4.ensures)) (stop_second (off (sym c.if-starts-5.ensures)) (h)))))) c.read_compared-2.ensures.err
