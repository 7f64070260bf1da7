use Rattle.std.proofs.Common.{◌≡◌, ◌++◌, drop}
use Rattle.jql_grammar.specs.Values.{statuses_of}
use Rattle.jql_grammar.proofs.values.statuses_of.Given as goal

abbrev pub invariant-loop-place : goal.invariant-loop-place
invariant-loop-place l = statuses_of l.category 0 l.statuses ≡ l.nos ++ statuses_of l.category l.place (drop l.place l.statuses)
