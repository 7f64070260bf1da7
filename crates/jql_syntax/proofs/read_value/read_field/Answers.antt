use Rattle.std.proofs.Common.{refl}
use Rattle.jql_syntax.specs.Node.{named_field, numbered_field}
use Rattle.jql_syntax.proofs.Reading.{stuck, neither, reads_one, goes_rule, goes_first, goes_second}
use Rattle.jql_syntax.proofs.read_value.read_field.Goals as goal

pub returns-in-Some-clause-ok : goal.returns-in-Some-clause-ok
returns-in-Some-clause-ok c = rw c.in_ok-copy.ensures (goes_first _ (reads_one c.in-Some.ensures.some) (goes_rule named_field c.in-Some.ensures.some))

pub returns-in-Some-take_number-clause-ok : goal.returns-in-Some-take_number-clause-ok
returns-in-Some-take_number-clause-ok c = goes_second _ c.in_default.ensures.none (goes_rule numbered_field c.in-Some-take_number.ensures.some)

pub returns-in-None-clause-err : goal.returns-in-None-clause-err
returns-in-None-clause-err c = rw c.fault.ensures (stuck c.args.ts.now refl (neither _ _ c.in_default.ensures.none c.in-None.ensures.none))
