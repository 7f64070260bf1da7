use Rattle.std.proofs.Common.{refl}
use Rattle.jql_syntax.specs.Node.{is_empty, is_not_empty}
use Rattle.jql_syntax.specs.Form.{both, rule}
use Rattle.jql_syntax.specs.Grammar.{key}
use Rattle.jql_syntax.specs.declared.token.Mark.TheVariants.{Empty, Not}
use Rattle.jql_syntax.proofs.Reading.{stuck, neither, reads_one, goes_rule, goes_both, goes_first, goes_second, stop_latter, stop_rule, stop_first, off, on}
use Rattle.jql_syntax.proofs.read_test.read_emptiness.Goals as goal

pub returns-in-Some-take-clause-ok : goal.returns-in-Some-take-clause-ok
returns-in-Some-take-clause-ok c = goes_first _ (on (reads_one c.in-Some.ensures.some)) (goes_rule is_not_empty (goes_both c.in-Some.ensures.some c.in-Some-take.ensures.some))

pub returns-in-None-clause-err : goal.returns-in-None-clause-err
returns-in-None-clause-err c = rw c.fault.ensures (stop_first (on (reads_one c.in-Some.ensures.some)) (stop_rule (stop_latter c.in-Some.ensures.some (stuck c.in-Some.rest.now refl c.in-None.ensures.none))))

pub returns-in-Some-take-2-clause-ok : goal.returns-in-Some-take-2-clause-ok
returns-in-Some-take-2-clause-ok c = goes_second (rule is_not_empty (both (key Not) (key Empty))) (off c.in_default.ensures.none) (goes_rule is_empty c.in-Some-take-2.ensures.some)

pub returns-in-None-take-clause-err : goal.returns-in-None-take-clause-err
returns-in-None-take-clause-err c = rw c.fault-in-None-take.ensures (stuck c.args.ts.now refl (neither _ _ (off c.in_default.ensures.none) c.in-None-take.ensures.none))
