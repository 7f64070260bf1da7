use Rattle.std.proofs.Common.{arith}
use Rattle.std.proofs.lemmas.Result.{err_from_is_err_and}
use Rattle.jql_syntax.specs.Node.{a_key}
use Rattle.jql_syntax.specs.declared.token.Mark.TheVariants.{Comma}
use Rattle.jql_syntax.proofs.Reading.{stop_former, goes_shorter, key_shorter, some_first, some_next, some_done, some_fail, map_push}
use Rattle.jql_syntax.proofs.read_query.read_sortings.Goals as goal

pub returns-in_err-first-clause-err : goal.returns-in_err-first-clause-err
returns-in_err-first-clause-err c = let p = err_from_is_err_and c.from_residual.result c.from_residual.ensures.1 in
    rw (p.1, p.2) (stop_former c.in_err-first.ensures.err)

pub keys-init : goal.keys-init
keys-init c = rw (c.in_ok-push.ensures.ok, c.new-keys.ensures) (some_first Comma c.in_ok-first.ensures.ok)

pub returns-in_err-key-clause-err : goal.returns-in_err-key-clause-err
returns-in_err-key-clause-err c = let p = err_from_is_err_and c.from_residual-in_err-key.result c.from_residual-in_err-key.ensures.1 in
    rw (p.1, p.2) (some_fail c.keys.invariant c.in-Some.ensures.some c.in_err-key.ensures.err)

pub keys-smaller : goal.keys-smaller
keys-smaller c = let h = key_shorter c.in-Some.ensures.some in let k = goes_shorter c.in_ok-key.ensures.ok in omega arith

pub keys-preserved : goal.keys-preserved
keys-preserved c = rw (c.in_ok-push-2.ensures.ok, map_push a_key c.keys.keys c.in_ok-key.key) (some_next c.keys.invariant c.in-Some.ensures.some c.in_ok-key.ensures.ok)

pub returns-clause-ok : goal.returns-clause-ok
returns-clause-ok c = some_done c.keys.invariant c.in_default.ensures.none
