use Rattle.std.proofs.Common.{◌≡◌, map, take}
use Rattle.tracker_machine.specs.Sprints.{told_row}
use Rattle.setting_calls.proofs.remaining.told_rows.Given as goal

abbrev pub invariant-loop-row : goal.invariant-loop-row
invariant-loop-row l = l.told ≡ map (told_row l.state.machine.histories) (take l.row-index l.rows)
