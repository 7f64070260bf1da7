use Rattle.std.proofs.Common.{◌≡◌, drop}
use Rattle.tracker_machine.specs.Members.{stranger_refusal}
use Rattle.setting_calls.proofs.set_group.check_users.Given as goal

abbrev pub invariant-loop-name : goal.invariant-loop-name
invariant-loop-name l =
    stranger_refusal l.state.machine.setup.users l.names ≡ stranger_refusal l.state.machine.setup.users (drop l.name-index l.names)
