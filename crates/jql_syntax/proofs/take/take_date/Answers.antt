use Rattle.std.proofs.Common.{refl, ap, sym, ◌∙◌}
use Rattle.jql_syntax.specs.Reader.{words}
use Rattle.jql_syntax.proofs.Reading.{taken, is_date, of_looks_text, no_date}
use Rattle.std.specs.Option.{is_some}
use Rattle.relative_dates.specs.Reading.{read_term}
use Rattle.jql_syntax.proofs.take.take_date.Goals as goal

pub returns-then-is_some-clause-some : goal.returns-then-is_some-clause-some
returns-then-is_some-clause-some c = taken c.args.ts.now c.in-Some.rest.now c.in-Some.ensures.some (is_date c.in-Some-plain_of.ensures.some (ap is_some (sym (c.read.ensures ∙ ap read_term c.as_str.ensures)) ∙ sym c.if-is_some.ensures))

pub returns-else-is_some-clause-err : goal.returns-else-is_some-clause-err
returns-else-is_some-clause-err c = (refl, rw c.in-Some.ensures.some (of_looks_text (words c.in-Some.rest.now) c.in-Some-plain_of.ensures.some), no_date c.args.ts.now (words c.in-Some.rest.now) c.in-Some.ensures.some c.in-Some-plain_of.ensures.some (ap is_some (sym (c.read.ensures ∙ ap read_term c.as_str.ensures)) ∙ sym c.if-is_some.ensures))
