use Rattle.std.proofs.Common.{◌≡◌, ap, sym, ◌∙◌}
use Rattle.std.specs.Ordering.{ordering_reverse}
use Rattle.jql_meaning.specs.Order.{standing_cmp}
use Rattle.jql_eval.specs.Standings.{seen}
use Rattle.jql_eval.proofs.Standings.{standing_cmp-total}
use Rattle.jql_eval.proofs.standing.standing_cmp.Goals as goal

pub returns-in-LongKey-Key : goal.returns-in-LongKey-Key
returns-in-LongKey-Key c =
    let one = seen c.args.one.now in
    let other = seen c.args.other.now in
    let turned : standing_cmp other one ≡ c.to_long_cmp-in-LongKey-Key.result = rw (c.in-LongKey-Key.is-0, c.in-LongKey-Key.is-1) (sym c.to_long_cmp-in-LongKey-Key.ensures) in
    c.reverse.ensures ∙ ap ordering_reverse (sym turned) ∙ sym (standing_cmp-total.antisymm one other)
