use Rattle.std.proofs.Common.{[], ◌∷◌, ap, sym}
use Rattle.std.proofs.lemmas.Result.{err_from_is_err_and}
use Rattle.jql_syntax.specs.Node.{several_items, one_item, a_choice}
use Rattle.jql_syntax.specs.Form.{both, rule}
use Rattle.jql_syntax.specs.Grammar.{listed, item_or_author, separated, key}
use Rattle.jql_syntax.specs.declared.token.Mark.TheVariants.{Open, Close, Comma}
use Rattle.jql_syntax.proofs.Reading.{no_key, with_key, goes_rule, goes_first, goes_second, goes_as, stop_rule, stop_first, stop_second, items_back}
use Rattle.jql_syntax.specs.declared.query.Choice.TheVariants.{Several}
use Rattle.jql_syntax.proofs.read_list.read_choice.Goals as goal

pub returns-in_err-items-clause-err : goal.returns-in_err-items-clause-err
returns-in_err-items-clause-err c = let p = err_from_is_err_and c.from_residual.result c.from_residual.ensures.1 in
    rw (p.1, p.2) (stop_first (with_key Open (both (separated (item_or_author c.args.author) Comma) (key Close)) c.args.ts.now (sym c.if-starts.ensures)) (stop_rule c.in_err-items.ensures.err))

pub returns-then-starts-clause-ok : goal.returns-then-starts-clause-ok
returns-then-starts-clause-ok c = goes_as (goes_first _ (with_key Open (both (separated (item_or_author c.args.author) Comma) (key Close)) c.args.ts.now (sym c.if-starts.ensures)) (goes_rule several_items c.in_ok-items.ensures.ok)) (ap (λ v. a_choice (Several v) ∷ []) (items_back c.in_ok-items.items))

pub returns-in_err-item-clause-err : goal.returns-in_err-item-clause-err
returns-in_err-item-clause-err c = let p = err_from_is_err_and c.from_residual-in_err-item.result c.from_residual-in_err-item.ensures.1 in
    rw (p.1, p.2) (stop_second (no_key Open (both (separated (item_or_author c.args.author) Comma) (key Close)) c.args.ts.now (sym c.if-starts.ensures)) (stop_rule c.in_err-item.ensures.err))

pub returns-clause-ok : goal.returns-clause-ok
returns-clause-ok c = goes_second (rule several_items (listed (item_or_author c.args.author))) (no_key Open (both (separated (item_or_author c.args.author) Comma) (key Close)) c.args.ts.now (sym c.if-starts.ensures)) (goes_rule one_item c.in_ok-item.ensures.ok)
