use Rattle.std.proofs.Common.{◌≡◌, drop}
use Rattle.jql_grammar.specs.Sorting.{keys_in}
use Rattle.jql_grammar.proofs.Turns.{after}
use Rattle.jql_grammar.proofs.sorting.bind_keys.Given as goal

abbrev pub invariant-loop-key : goal.invariant-loop-key
invariant-loop-key l =
    keys_in l.binder.setup.now.field l.place l.keys ≡ after l.bound (keys_in l.binder.setup.now.field l.next (drop l.key-index l.keys))
