use Rattle.std.proofs.Common.{◌≡◌, ◌==◌, ◌∷◌, List, length, ap, ap₂, sym, ◌∙◌}
use Rattle.std.specs.Prelude.{if◌then◌else◌}
use Rattle.rank_balancer.specs.declared.balance.Balance.{Balance}
use Rattle.rank_balancer.specs.declared.balance.Balance.TheVariants.{Idle, Moving}
use Rattle.rank_balancer.specs.Balance.{from_of, to_of}
use Rattle.rank_balancer.specs.Step.{Move}
use Rattle.tracker_ranks.specs.Ranked.{balance_moved}
use Rattle.tracker_calls.specs.declared.reply.Answer.TheVariants as answer
use Rattle.tracker_machine.specs.Effect.{IsAllowed}
use Rattle.tracker_machine.specs.Effect.Effect.{NewRanks}
use Rattle.tracker_machine.specs.Meaning.Meaning.{Makes}
use Rattle.tracker_machine.specs.Rebalance.{with_planned}
use Rattle.tracker_state.specs.Rows.{present_op}
use Rattle.rank_calls.specs.Rows.{rank_ops}
use Rattle.rank_calls.proofs.Ops.{step_ops_are}
use Rattle.rank_calls.proofs.rebalance.step.Goals as goal

pub returns : goal.returns
unfolding IsAllowed
returns c =
    let m = c.args.state.now.machine in
    let from = from_of m.balance in
    let to = to_of m.balance in
    let moves = c.in_ok-moves.moves in
    let left = c.left_after-left.ensures in
    let after : c.balance_after.result ≡ balance_moved m.order m.balance moves =
    c.balance_after.ensures
    ∙ ap (λ (b : Balance). if c.left_after-left.result == 0 then Idle (to_of b) else Moving (from_of b) (to_of b)) c.balance.ensures
    ∙ ap (λ n. if n == 0 then Idle to else Moving from to) left in
    record {
      means = ap (with_planned m.order from) c.in_ok-moves.ensures.moves
          ∙ ap₂ (λ n k. Makes (answer.RebalanceStep n k) (NewRanks moves)) (sym left) (sym (ap (λ (ms : List Move). length ms) c.moves-3.ensures));
      keeps = c.in_ok-rows.ensures
          ∙ ap₂ (λ change moment. present_op c.balance_after.result change moment ∷ rank_ops c.moves-2.result.now) c.change.ensures c.moment.ensures
          ∙ ap (λ (ms : List Move). present_op c.balance_after.result m.change m.moment ∷ rank_ops ms) c.moves-2.ensures
          ∙ step_ops_are m moves c.balance_after.result after;
      allowed = (c.requires.moving, c.in_ok-moves.ensures.picks);
      fits = tt;
    }
