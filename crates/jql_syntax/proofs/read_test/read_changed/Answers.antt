use Rattle.std.proofs.Common.{[], ◌∷◌, refl, ap}
use Rattle.std.proofs.lemmas.Result.{err_from_is_err_and}
use Rattle.jql_syntax.specs.Node.{a_test, changed}
use Rattle.jql_syntax.proofs.Reading.{stuck, goes_rule, goes_both, goes_as, stop_latter, stop_rule, off, aspects_back}
use Rattle.jql_syntax.specs.declared.query.Test.TheVariants.{Changed}
use Rattle.jql_syntax.proofs.read_test.read_changed.Goals as goal

pub returns-in_default-clause-err : goal.returns-in_default-clause-err
returns-in_default-clause-err c = rw c.fault.ensures (stuck c.args.ts.now refl (off c.in_default.ensures.none))

pub returns-in_err-aspects-clause-err : goal.returns-in_err-aspects-clause-err
returns-in_err-aspects-clause-err c = let p = err_from_is_err_and c.from_residual.result c.from_residual.ensures.1 in
    rw (p.1, p.2) (stop_rule (stop_latter c.in-Some.ensures.some c.in_err-aspects.ensures.err))

pub returns-clause-ok : goal.returns-clause-ok
returns-clause-ok c = goes_as (goes_rule changed (goes_both c.in-Some.ensures.some c.in_ok-aspects.ensures.ok)) (ap (λ v. a_test (Changed v) ∷ []) (aspects_back c.in_ok-aspects.aspects))
