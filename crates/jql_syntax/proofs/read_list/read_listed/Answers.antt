use Rattle.std.proofs.Common.{refl, append-nil, map}
use Rattle.std.proofs.lemmas.Result.{err_from_is_err_and}
use Rattle.jql_syntax.specs.Node.{an_item}
use Rattle.jql_syntax.specs.Form.{both}
use Rattle.jql_syntax.specs.Grammar.{item_or_author, separated, key}
use Rattle.jql_syntax.specs.declared.token.Mark.TheVariants.{Open, Close, Comma}
use Rattle.jql_syntax.proofs.Reading.{stuck, no_key, goes_both, goes_as, stop_latter, stop_former}
use Rattle.jql_syntax.proofs.read_list.read_listed.Goals as goal

pub returns-in_default-clause-err : goal.returns-in_default-clause-err
returns-in_default-clause-err c = rw c.fault.ensures (stuck c.args.ts.now refl (no_key Open (both (separated (item_or_author c.args.author) Comma) (key Close)) c.args.ts.now c.in_default.ensures.none))

pub returns-in_err-items-clause-err : goal.returns-in_err-items-clause-err
returns-in_err-items-clause-err c = let p = err_from_is_err_and c.from_residual.result c.from_residual.ensures.1 in
    rw (p.1, p.2) (stop_latter c.in-Some.ensures.some (stop_former c.in_err-items.ensures.err))

pub returns-in-Some-take-clause-ok : goal.returns-in-Some-take-clause-ok
returns-in-Some-take-clause-ok c = goes_as (goes_both c.in-Some.ensures.some (goes_both c.in_ok-items.ensures.ok c.in-Some-take.ensures.some)) (append-nil (map an_item c.in_ok-items.items))

pub returns-in-None-clause-err : goal.returns-in-None-clause-err
returns-in-None-clause-err c = rw c.fault-in-None.ensures (stop_latter c.in-Some.ensures.some (stop_latter c.in_ok-items.ensures.ok (stuck c.in_ok-items.rest.now refl c.in-None.ensures.none)))
