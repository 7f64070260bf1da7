use Rattle.std.proofs.Common.{◌≡◌, map, take}
use Rattle.rising_numbers.specs.ByNumber.{by_number}
use Rattle.tracker_machine.specs.Saved.{filter_number}
use Rattle.filter_lists.specs.Listed.{lists}
use Rattle.filter_lists.proofs.lists.list.Given as goal

-- of the issues up to this place it is told
abbrev pub invariant-loop-place : goal.invariant-loop-place
invariant-loop-place l = l.room.items ≡ map (lists l.state.machine l.user.0 (by_number filter_number l.fn.filter.0 l.state.machine.filters)) (take l.place l.state.machine.histories)
