-- Rebalancings, as calls prepare them.
use Rattle.std.proofs.Common.{◌≡◌, ◌+◌, ℕ, List, length, Some, None, refl, sym, ap}
use Rattle.std.specs.Prelude.{Result, Ok, Err}
use Rattle.std.proofs.lemmas.Option.{same_Some, none-some}
use Rattle.board.specs.Order.{Pair, IsOrder}
use Rattle.board.specs.Moved.{Sides}
use Rattle.rank_balancer.specs.declared.balance.Balance.{Balance}
use Rattle.rank_balancer.specs.declared.balance.Balance.TheVariants.{Idle, Moving}
use Rattle.rank_balancer.specs.Balance.{Agrees, IsInCircle, IsMoving, after_start, from_of, to_of}
use Rattle.rank_balancer.specs.Step.{Move, ArePicks, after_moves, left_in, ranks_left}
use Rattle.rank_balancer.proofs.Keeps.{picks_keep_all}
use Rattle.tracker_calls.specs.declared.reply.Answer.TheVariants as answer
use Rattle.tracker_calls.specs.declared.cause.Cause.{Cause}
use Rattle.tracker_machine.specs.Rank.{no_room}
use Rattle.tracker_machine.specs.Rebalance.{balance_refusal, started, stepped, with_planned}
use Rattle.rank_balancer.specs.Planned.{planned}
use Rattle.tracker_machine.specs.Effect.Effect.{NewBalance}
use Rattle.tracker_machine.specs.Meaning.Meaning.{Refuses, Makes}
use Rattle.tracker_state.specs.Check.{room_refusal}

-- ---- a start

-- the bucket of a balance that ranks agree with
pub in_circle : (order : List Pair) (b : Balance) → Agrees order b → IsInCircle b
in_circle order (Idle bucket) agrees = agrees.0
in_circle order (Moving from to) agrees = tt

pub starts : (b next : Balance) → after_start b ≡ Some next → started b ≡ Makes (answer.RebalanceStart (from_of next) (to_of next)) (NewBalance next)
starts (Idle bucket) next is = ap (λ (n : Balance). Makes (answer.RebalanceStart (from_of n) (to_of n)) (NewBalance n)) (same_Some _ next is)
starts (Moving from to) next is = absurd (none-some next is)

pub starts_later : (b : Balance) → after_start b ≡ None → started b ≡ Refuses (balance_refusal b)
starts_later (Idle bucket) is = absurd (none-some _ (sym is))
starts_later (Moving from to) is = refl

-- ---- a step

pub plan_refused : (order : List Pair) (from : ℕ) (given : Result (List Move) Sides) (r : Cause) → room_refusal given ≡ Some r
    → with_planned order from given ≡ Refuses r
plan_refused order from (Ok moves) r is = absurd (none-some r is)
plan_refused order from (Err sides) r is = ap Refuses (same_Some (no_room sides) r is)

pub steps : (order : List Pair) (b : Balance) (count : ℕ) → IsMoving b
    → stepped order b count ≡ with_planned order (from_of b) (planned order (from_of b) (to_of b) count)
steps order (Idle bucket) count moving = absurd moving
steps order (Moving from to) count moving = refl

-- each move takes one rank away from the old bucket
pub left_behind : (order : List Pair) (b : Balance) (moves : List Move) → IsOrder order → Agrees order b → IsMoving b
    → ArePicks order (from_of b) (to_of b) moves → left_in (from_of b) (after_moves order moves) + length moves ≡ ranks_left order b
left_behind order (Idle bucket) moves is agrees moving picks = absurd moving
left_behind order (Moving from to) moves is agrees moving picks = (picks_keep_all order from to moves is agrees picks).fewer
