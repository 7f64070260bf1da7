use Rattle.std.proofs.Common.{sym}
use Rattle.std.proofs.lemmas.Result.{err_from_is_err_and}
use Rattle.jql_syntax.specs.Form.{rule}
use Rattle.jql_syntax.specs.Grammar.{among_then, item_then, past_among}
use Rattle.jql_syntax.proofs.Reading.{goes_rule, goes_first, goes_second, goes_as, stop_rule, stop_first, stop_second, off, on}
use Rattle.jql_syntax.proofs.read_test.read_past.Goals as goal

pub returns-in_err-members-clause-err : goal.returns-in_err-members-clause-err
returns-in_err-members-clause-err c = let p = err_from_is_err_and c.from_residual.result c.from_residual.ensures.1 in
    rw (p.1, p.2) (stop_first (on (sym c.if-starts.ensures)) (stop_rule c.in_err-members.ensures.err))

pub returns-then-starts-clause-ok : goal.returns-then-starts-clause-ok
returns-then-starts-clause-ok c = goes_first _ (on (sym c.if-starts.ensures)) (goes_as (goes_rule (among_then c.args.negated) c.in_ok-members.ensures.ok) c.was_in.ensures)

pub returns-in_err-item-clause-err : goal.returns-in_err-item-clause-err
returns-in_err-item-clause-err c = let p = err_from_is_err_and c.from_residual-in_err-item.result c.from_residual-in_err-item.ensures.1 in
    rw (p.1, p.2) (stop_second (off (sym c.if-starts.ensures)) (stop_rule c.in_err-item.ensures.err))

pub returns-clause-ok : goal.returns-clause-ok
returns-clause-ok c = goes_second (rule (among_then c.args.negated) past_among) (off (sym c.if-starts.ensures)) (goes_as (goes_rule (item_then c.args.negated) c.in_ok-item.ensures.ok) c.was.ensures)
