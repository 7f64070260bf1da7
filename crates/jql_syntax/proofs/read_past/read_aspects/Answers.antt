use Rattle.std.proofs.Common.{sym}
use Rattle.std.proofs.lemmas.Result.{err_from_is_err_and}
use Rattle.jql_syntax.specs.Node.{an_aspect}
use Rattle.jql_syntax.specs.Grammar.{aspect}
use Rattle.jql_syntax.proofs.Reading.{many_none, many_next, many_done, many_fail, map_push}
use Rattle.jql_syntax.proofs.Strict.{aspect_shorter}
use Rattle.jql_syntax.proofs.read_past.read_aspects.Goals as goal

pub aspects-init : goal.aspects-init
aspects-init c = rw c.new-aspects.ensures (many_none aspect c.args.ts.now)

pub returns-in_err-aspect-clause-err : goal.returns-in_err-aspect-clause-err
returns-in_err-aspect-clause-err c = let p = err_from_is_err_and c.from_residual.result c.from_residual.ensures.1 in
    rw (p.1, p.2) (many_fail c.aspects.invariant (sym c.aspects-test.ensures) c.in_err-aspect.ensures.err)

pub aspects-smaller : goal.aspects-smaller
aspects-smaller c = aspect_shorter c.in_ok-aspect.ensures.ok

pub aspects-preserved : goal.aspects-preserved
aspects-preserved c = rw (c.in_ok-push.ensures.ok, map_push an_aspect c.aspects.aspects c.in_ok-aspect.aspect) (many_next c.aspects.invariant (sym c.aspects-test.ensures) c.in_ok-aspect.ensures.ok)

pub returns-clause-ok : goal.returns-clause-ok
returns-clause-ok c = many_done c.aspects.invariant (sym c.aspects-test.ensures)
