use Rattle.std.proofs.Common.{◌≡◌}
use Rattle.toml.specs.View.{members_view}
use Rattle.setup_drafts.specs.Keys.{unknown_key}
use Rattle.setup_drafts.proofs.keys.unknown_key.Given as goal

abbrev pub invariant-loop-name : goal.invariant-loop-name
invariant-loop-name l = unknown_key l.set (members_view l.table.entries) ≡ unknown_key l.set (members_view l.name-iterator)
