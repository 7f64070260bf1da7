use Rattle.std.proofs.Common.{sym}
use Rattle.jql_syntax.proofs.Reading.{taken, is_sign}
use Rattle.jql_syntax.proofs.take.take.Goals as goal

pub returns-then-is_mark-clause-some : goal.returns-then-is_mark-clause-some
returns-then-is_mark-clause-some c = taken c.args.ts.now c.in-Some.rest.now c.in-Some.ensures.some (is_sign c.args.mark c.in-Some.token.now (sym c.if-is_mark.ensures))
