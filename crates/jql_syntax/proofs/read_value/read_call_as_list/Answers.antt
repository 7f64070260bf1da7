use Rattle.std.proofs.Common.{refl, sym}
use Rattle.std.proofs.lemmas.Result.{err_from_is_err_and}
use Rattle.jql_syntax.specs.Node.{called}
use Rattle.jql_syntax.proofs.Reading.{stuck, neither, goes_rule, goes_both, goes_as, stop_latter, stop_rule, call_parts}
use Rattle.std.proofs.Common.{false}
use Rattle.jql_syntax.proofs.read_value.read_call_as_list.Goals as goal

pub returns-in_default-clause-err : goal.returns-in_default-clause-err
returns-in_default-clause-err c = rw c.fault.ensures (stuck c.args.ts.now refl (neither _ false c.in_default.ensures.none refl))

pub returns-in_err-argument-clause-err : goal.returns-in_err-argument-clause-err
returns-in_err-argument-clause-err c = let p = err_from_is_err_and c.from_residual.result c.from_residual.ensures.1 in
    rw (p.1, p.2) (stop_rule (stop_latter c.in-Some.ensures.some c.in_err-argument.ensures.err))

pub returns-clause-ok : goal.returns-clause-ok
returns-clause-ok c = rw (c.in_ok-name.ensures) (goes_as (goes_rule called (goes_both c.in-Some.ensures.some c.in_ok-argument.ensures.ok)) (sym (call_parts c.in-Some.name.now c.in_ok-argument.argument)))
