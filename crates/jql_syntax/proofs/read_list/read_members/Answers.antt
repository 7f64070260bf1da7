use Rattle.std.proofs.Common.{arith}
use Rattle.std.proofs.lemmas.Result.{err_from_is_err_and}
use Rattle.jql_syntax.specs.Node.{an_item}
use Rattle.jql_syntax.specs.declared.token.Mark.TheVariants.{Comma}
use Rattle.jql_syntax.proofs.Reading.{stop_former, goes_shorter, key_shorter, some_first, some_next, some_done, some_fail, map_push}
use Rattle.jql_syntax.proofs.read_list.read_members.Goals as goal

pub returns-in_err-first-clause-err : goal.returns-in_err-first-clause-err
returns-in_err-first-clause-err c = let p = err_from_is_err_and c.from_residual.result c.from_residual.ensures.1 in
    rw (p.1, p.2) (stop_former c.in_err-first.ensures.err)

pub members-init : goal.members-init
members-init c = rw (c.in_ok-push.ensures.ok, c.new-items.ensures) (some_first Comma c.in_ok-first.ensures.ok)

pub returns-in_err-item-clause-err : goal.returns-in_err-item-clause-err
returns-in_err-item-clause-err c = let p = err_from_is_err_and c.from_residual-in_err-item.result c.from_residual-in_err-item.ensures.1 in
    rw (p.1, p.2) (some_fail c.members.invariant c.in-Some.ensures.some c.in_err-item.ensures.err)

pub members-smaller : goal.members-smaller
members-smaller c = let h = key_shorter c.in-Some.ensures.some in let k = goes_shorter c.in_ok-item.ensures.ok in omega arith

pub members-preserved : goal.members-preserved
members-preserved c = rw (c.in_ok-push-2.ensures.ok, map_push an_item c.members.items c.in_ok-item.item) (some_next c.members.invariant c.in-Some.ensures.some c.in_ok-item.ensures.ok)

pub returns-clause-ok : goal.returns-clause-ok
returns-clause-ok c = some_done c.members.invariant c.in_default.ensures.none
