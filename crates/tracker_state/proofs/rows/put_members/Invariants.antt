use Rattle.std.proofs.Common.{◌≡◌, ◌+◌, ◌++◌, take}
use Rattle.fields.specs.SetupParts.{parts}
use Rattle.tracker_machine.specs.Kept.{put_parts, members_from}
use Rattle.tracker_state.proofs.rows.put_members.Given as goal

abbrev pub invariant-loop-group : goal.invariant-loop-group
invariant-loop-group l =
    (l.number.0 ≡ l.group-index + 1)
    × (l.ops.items ≡ l.fn.ops.items ++ put_parts (parts l.setup) (members_from 1 (take l.group-index l.group-items)))
