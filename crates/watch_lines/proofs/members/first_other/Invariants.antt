use Rattle.std.proofs.Common.{◌≡◌, map, string_bytes}
use Rattle.serde_json.specs.View.{members_view}
use Rattle.call_lines.specs.Asked.{names_of}
use Rattle.watch_lines.specs.Asked.{first_other}
use Rattle.watch_lines.proofs.members.first_other.Given as goal

abbrev pub invariant-loop-name : goal.invariant-loop-name
invariant-loop-name l = first_other l.kind (names_of (members_view l.members.entries)) ≡ first_other l.kind (map string_bytes l.name-iterator)
