use Rattle.std.proofs.Common.{refl, sym}
use Rattle.std.proofs.lemmas.Result.{IfOk-weaker}
use Rattle.jql_syntax.specs.Node.{empty_item}
use Rattle.jql_syntax.proofs.Reading.{stuck, neither, goes_rule, goes_first, goes_second, stop_first, IfErr-weaker}
use Rattle.jql_syntax.proofs.read_value.read_item.Goals as goal

pub returns-then-starts_value-clause-ok : goal.returns-then-starts_value-clause-ok
returns-then-starts_value-clause-ok c = IfOk-weaker c.read_author.result _ _ (λ x h. goes_first _ (sym c.if-starts_value.ensures) h) c.read_author.ensures.ok

pub returns-then-starts_value-clause-err : goal.returns-then-starts_value-clause-err
returns-then-starts_value-clause-err c = IfErr-weaker c.read_author.result _ _ (λ s h. stop_first (sym c.if-starts_value.ensures) h) c.read_author.ensures.err

pub returns-in-Some-clause-ok : goal.returns-in-Some-clause-ok
returns-in-Some-clause-ok c = goes_second _ (sym c.if-starts_value.ensures) (goes_rule empty_item c.in-Some.ensures.some)

pub returns-in-None-clause-err : goal.returns-in-None-clause-err
returns-in-None-clause-err c = rw c.fault.ensures (stuck c.args.ts.now refl (neither _ _ (sym c.if-starts_value.ensures) c.in-None.ensures.none))
