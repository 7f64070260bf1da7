use Rattle.std.proofs.Common.{sym}
use Rattle.std.proofs.lemmas.Result.{err_from_is_err_and}
use Rattle.jql_syntax.specs.Node.{a_predicate}
use Rattle.jql_syntax.specs.Grammar.{predicate}
use Rattle.jql_syntax.proofs.Reading.{many_none, many_next, many_done, many_fail, map_push}
use Rattle.jql_syntax.proofs.Strict.{predicate_shorter}
use Rattle.jql_syntax.proofs.read_past.read_predicates.Goals as goal

pub predicates-init : goal.predicates-init
predicates-init c = rw c.new-predicates.ensures (many_none predicate c.args.ts.now)

pub returns-in_err-predicate-clause-err : goal.returns-in_err-predicate-clause-err
returns-in_err-predicate-clause-err c = let p = err_from_is_err_and c.from_residual.result c.from_residual.ensures.1 in
    rw (p.1, p.2) (many_fail c.predicates.invariant (sym c.predicates-test.ensures) c.in_err-predicate.ensures.err)

pub predicates-smaller : goal.predicates-smaller
predicates-smaller c = predicate_shorter c.in_ok-predicate.ensures.ok

pub predicates-preserved : goal.predicates-preserved
predicates-preserved c = rw (c.in_ok-push.ensures.ok, map_push a_predicate c.predicates.predicates c.in_ok-predicate.predicate) (many_next c.predicates.invariant (sym c.predicates-test.ensures) c.in_ok-predicate.ensures.ok)

pub returns-clause-ok : goal.returns-clause-ok
returns-clause-ok c = many_done c.predicates.invariant (sym c.predicates-test.ensures)
