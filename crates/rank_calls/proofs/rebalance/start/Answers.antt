use Rattle.std.proofs.Common.{ap₂, sym, ◌∙◌, ◌∷◌, []}
use Rattle.tracker_calls.specs.declared.reply.Answer.TheVariants as answer
use Rattle.tracker_machine.specs.Effect.{IsAllowed}
use Rattle.tracker_machine.specs.Effect.Effect.{NewBalance}
use Rattle.tracker_machine.specs.Meaning.Meaning.{Makes}
use Rattle.tracker_state.specs.Rows.{present_op}
use Rattle.rank_calls.proofs.Ops.{start_ops_are}
use Rattle.rank_calls.proofs.Rebalancing.{starts}
use Rattle.rank_calls.proofs.rebalance.start.Goals as goal

pub returns : goal.returns
unfolding IsAllowed
returns c =
    let m = c.args.state.now.machine in
    let next = c.args.next in
    record {
      means = starts m.balance next c.requires
          ∙ ap₂ (λ from to. Makes (answer.RebalanceStart from to) (NewBalance next)) (sym c.left_bucket.ensures) (sym c.empty_bucket.ensures.bucket);
      keeps = c.in_ok-rows.ensures ∙ ap₂ (λ change moment. present_op next change moment ∷ []) c.change.ensures c.moment.ensures ∙ start_ops_are m next;
      allowed = c.requires;
      fits = tt;
    }
