use Rattle.std.proofs.Common.{sym}
use Rattle.std.proofs.lemmas.Result.{IfOk-weaker}
use Rattle.jql_syntax.specs.Grammar.{order}
use Rattle.jql_syntax.proofs.Reading.{goes_first, goes_second, goes_nothing, stop_first, off, on, IfErr-weaker}
use Rattle.jql_syntax.proofs.read_query.read_order.Goals as goal

pub returns-then-starts-clause-ok : goal.returns-then-starts-clause-ok
returns-then-starts-clause-ok c = IfOk-weaker c.read_keys.result _ _ (λ x h. goes_first _ (on (sym c.if-starts.ensures)) h) c.read_keys.ensures.ok

pub returns-then-starts-clause-err : goal.returns-then-starts-clause-err
returns-then-starts-clause-err c = IfErr-weaker c.read_keys.result _ _ (λ s h. stop_first (on (sym c.if-starts.ensures)) h) c.read_keys.ensures.err

pub returns-clause-ok : goal.returns-clause-ok
returns-clause-ok c = rw c.new.ensures (goes_second order (off (sym c.if-starts.ensures)) (goes_nothing c.args.ts.now))
