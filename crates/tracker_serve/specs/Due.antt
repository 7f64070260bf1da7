-- What worker 0 is to do for a tracker.
use Rattle.std.specs.Prelude.{List, Option, Some, None, if◌then◌else◌}
use Rattle.board.specs.Order.{Pair}
use Rattle.fields.specs.Naming.{name_at}
use Rattle.rank_balancer.specs.declared.balance.Balance.{Balance}
use Rattle.rank_balancer.specs.declared.balance.Balance.TheVariants.{Idle, Moving}
use Rattle.tracker_calls.specs.declared.call.Call.{Call}
use Rattle.tracker_calls.specs.declared.call.Call.TheVariants as call
use Rattle.tracker_core.specs.Desk.{DeskParts}
use Rattle.tracker_machine.specs.Machine.{Machine}
use Rattle.tracker_machine.specs.Rebalance.{is_offered}
use Rattle.tracker_rounds.specs.declared.ask.UserCall.{UserCall}

-- a rebalancing is begun where one is offered, and one that was begun is carried on, sixteen ranks at once
abbrev pub due_call : List Pair → Balance → Option Call
due_call order (Idle bucket) = if is_offered order then Some call.RebalanceStart else None
due_call order (Moving from to) = Some (call.RebalanceStep 16)

-- by the setup's rebalancer
abbrev pub by_rebalancer : Machine → Option Call → Option UserCall
by_rebalancer m None = None
by_rebalancer m (Some c) =
    Some (record { user = name_at m.setup.users m.setup.rebalancer.0; call = c })

abbrev pub due_in : Machine → Option UserCall
due_in m = by_rebalancer m (due_call m.order m.balance)

-- the same of a desk's parts
abbrev pub due_at : {P : Type 0} → DeskParts P → Option UserCall
due_at parts = due_in parts.machine
