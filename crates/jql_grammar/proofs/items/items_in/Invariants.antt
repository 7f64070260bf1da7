use Rattle.std.proofs.Common.{◌≡◌, drop}
use Rattle.jql_grammar.specs.Scope.{scope_of}
use Rattle.jql_grammar.specs.Items.{items_in}
use Rattle.jql_grammar.proofs.Turns.{after}
use Rattle.jql_grammar.proofs.items.items_in.Given as goal

abbrev pub invariant-loop-item : goal.invariant-loop-item
invariant-loop-item l = items_in (scope_of l.binder) l.kind l.items ≡ after l.operands (items_in (scope_of l.binder) l.kind (drop l.item-index l.items))
