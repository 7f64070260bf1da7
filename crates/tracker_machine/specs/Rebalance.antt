-- The calls `rebalance_start`, `rebalance_step` and `balance`: all ranks go from one bucket to the next, some at a time.
use Rattle.std.specs.Prelude.{ℕ, Bool, List, length, nat_le, None, Result, Ok, Err}
use Rattle.field_values.specs.declared.rules.Permission.TheVariants as permission
use Rattle.board.specs.Order.{Pair, longest_in}
use Rattle.board.specs.Moved.{Sides}
use Rattle.rank_balancer.specs.declared.balance.Balance.{Balance}
use Rattle.rank_balancer.specs.declared.balance.Balance.TheVariants.{Idle, Moving}
use Rattle.rank_balancer.specs.Balance.{next_bucket}
use Rattle.rank_balancer.specs.Step.{Move, after_moves, left_in}
use Rattle.rank_balancer.specs.Planned.{planned}
use Rattle.tracker_calls.specs.declared.reply.BalanceState.{BalanceState}
use Rattle.tracker_calls.specs.declared.reply.BalanceState.TheVariants as state
use Rattle.tracker_calls.specs.declared.cause.BalanceKept.TheVariants as kept
use Rattle.tracker_calls.specs.declared.reply.Answer.{Answer}
use Rattle.tracker_calls.specs.declared.reply.Answer.TheVariants as answer
use Rattle.tracker_calls.specs.declared.cause.Cause.{Cause}
use Rattle.tracker_calls.specs.declared.cause.Cause.TheVariants as cause
use Rattle.tracker_machine.specs.Machine.{Machine}
use Rattle.tracker_machine.specs.Checks.{permission_refusal}
use Rattle.tracker_machine.specs.Effect.Effect.{NewBalance, NewRanks}
use Rattle.tracker_machine.specs.Rank.{no_room}
use Rattle.tracker_machine.specs.Meaning.{Meaning, unless}
use Rattle.tracker_machine.specs.Meaning.Meaning.{Refuses, Tells, Makes}

-- the balance is another one than the call is for
abbrev pub balance_refusal : Balance → Cause
balance_refusal (Idle bucket) = cause.BalanceIs (kept.Idle bucket)
balance_refusal (Moving from to) = cause.BalanceIs (kept.Moving from to)

-- ---- a start

-- a balance at rest moves to the next bucket
abbrev pub started : Balance → Meaning
started (Idle bucket) =
    Makes (answer.RebalanceStart bucket (next_bucket bucket))
    (NewBalance (Moving bucket (next_bucket bucket)))
started (Moving from to) = Refuses (balance_refusal (Moving from to))

abbrev pub rebalance_start_meaning : Machine → ℕ → Meaning
rebalance_start_meaning m caller =
    unless (permission_refusal m caller permission.Administer None) (started m.balance)

-- ---- a step

-- how many ranks are left in the old bucket, and how many went to the new one
abbrev pub step_answer : List Pair → ℕ → List Move → Answer
step_answer order from moves =
    answer.RebalanceStep (left_in from (after_moves order moves)) (length moves)

-- what comes of the moves of a step; where one of them finds no rank, the call is refused
abbrev pub with_planned : List Pair → ℕ → Result (List Move) Sides → Meaning
with_planned order from (Ok moves) = Makes (step_answer order from moves) (NewRanks moves)
with_planned order from (Err sides) = Refuses (no_room sides)

abbrev pub stepped : List Pair → Balance → ℕ → Meaning
stepped order (Idle bucket) count = Refuses (balance_refusal (Idle bucket))
stepped order (Moving from to) count = with_planned order from (planned order from to count)

abbrev pub rebalance_step_meaning : Machine → ℕ → ℕ → Meaning
rebalance_step_meaning m caller count =
    unless (permission_refusal m caller permission.Administer None)
    (stepped m.order m.balance count)

-- ---- where the ranks stand

abbrev pub balance_state : List Pair → Balance → BalanceState
balance_state order (Idle bucket) = state.Idle bucket
balance_state order (Moving from to) = state.Moving from (left_in from order) to

-- a rebalancing is offered once a rank has 128 bytes
abbrev pub is_offered : List Pair → Bool
is_offered order = nat_le 128 (longest_in order)

abbrev pub balance_answer : Machine → Answer
balance_answer m =
    answer.Balance (balance_state m.order m.balance) (longest_in m.order) (is_offered m.order)

abbrev pub balance_meaning : Machine → Meaning
balance_meaning m = Tells (balance_answer m)
