use Rattle.std.proofs.lemmas.Result.{err_from_is_err_and}
use Rattle.std.specs.Prelude.{option_map}
use Rattle.jql_syntax.specs.View.{view, unboxed}
use Rattle.jql_syntax.proofs.Whole.{fails_halted, fails_ended, reads_whole, filled, unfilled}
use Rattle.jql_syntax.proofs.reader.read_all.Goals as goal

pub returns-in_err-condition-clause-err : goal.returns-in_err-condition-clause-err
returns-in_err-condition-clause-err c = let p = err_from_is_err_and c.from_residual.result c.from_residual.ensures.1 in
    rw (p.1, p.2) (fails_halted c.args.ts.now _ c.in_err-condition.ensures.err)

pub returns-then-is_empty-clause-ok : goal.returns-then-is_empty-clause-ok
returns-then-is_empty-clause-ok c = reads_whole c.args.ts.now c.in_ok-condition.rest.now (option_map view (unboxed c.in_ok-condition.condition)) c.in_ok-condition.keys c.in_ok-condition.ensures.ok (unfilled c.in_ok-condition.rest.now c.if-is_empty.ensures)

pub returns-else-is_empty-clause-err : goal.returns-else-is_empty-clause-err
returns-else-is_empty-clause-err c = rw c.fault.ensures (fails_ended c.args.ts.now c.in_ok-condition.rest.now c.in_ok-condition.ensures.ok (filled c.in_ok-condition.rest.now c.if-is_empty.ensures))
