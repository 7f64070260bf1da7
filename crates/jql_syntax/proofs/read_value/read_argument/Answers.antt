use Rattle.std.proofs.Common.{refl, append-nil}
use Rattle.jql_syntax.specs.Form.{one, both, either, nothing, any_text}
use Rattle.jql_syntax.specs.Grammar.{key}
use Rattle.jql_syntax.specs.Reader.{argument_parts}
use Rattle.jql_syntax.specs.declared.token.Mark.TheVariants.{Open, Close}
use Rattle.jql_syntax.proofs.Reading.{stuck, no_key, goes_both, goes_as, stop_latter}
use Rattle.jql_syntax.proofs.read_value.read_argument.Goals as goal

pub returns-in_default-clause-err : goal.returns-in_default-clause-err
returns-in_default-clause-err c = rw c.fault.ensures (stuck c.args.ts.now refl (no_key Open (both (either (one any_text) nothing) (key Close)) c.args.ts.now c.in_default.ensures.none))

pub returns-in-Some-take-clause-ok : goal.returns-in-Some-take-clause-ok
returns-in-Some-take-clause-ok c = goes_as (goes_both c.in-Some.ensures.some (goes_both c.in_ok-argument.ensures c.in-Some-take.ensures.some)) (append-nil (argument_parts c.in_ok-argument.argument))

pub returns-in-None-clause-err : goal.returns-in-None-clause-err
returns-in-None-clause-err c = rw c.fault-in-None.ensures (stop_latter c.in-Some.ensures.some (stop_latter c.in_ok-argument.ensures (stuck c.in_ok-argument.rest.now refl c.in-None.ensures.none)))
