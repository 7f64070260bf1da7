use Rattle.std.proofs.Common.{◌≡◌, drop}
use Rattle.fields.specs.SetupParts.{parts}
use Rattle.jql_meaning.specs.Order.{issue_cmp}
use Rattle.jql_eval.proofs.order.compare.Given as goal

abbrev pub invariant-loop-key : goal.invariant-loop-key
invariant-loop-key l = issue_cmp (parts l.setup) l.order.keys l.ranks l.one.history l.other.history ≡ issue_cmp (parts l.setup) (drop l.key-index l.order.keys) l.ranks l.one.history l.other.history
