use Rattle.std.proofs.Common.{ap, sym, ◌∙◌}
use Rattle.tracker_calls.specs.declared.reply.Answer.{Answer}
use Rattle.tracker_machine.specs.Rank.{moved_rank}
use Rattle.tracker_machine.specs.Move.{newly_ranked}
use Rattle.tracker_machine.specs.Effect.{IsAllowed}
use Rattle.tracker_machine.specs.Effect.Effect.{NewRank}
use Rattle.tracker_machine.specs.Meaning.Meaning.{Makes}
use Rattle.rank_calls.proofs.Ops.{rank_ops_are}
use Rattle.rank_calls.proofs.Ranking.{given_means, ranked_anew}
use Rattle.rank_calls.proofs.moves.put.Goals as goal

pub returns : goal.returns
unfolding IsAllowed
returns c =
    let m = c.args.state.now.machine in
    let rank = c.in_ok-rank.rank in
    let issue = c.args.issue in
    let name = c.args.name.now in
    record {
      means = given_means (moved_rank m issue c.args.place) (newly_ranked m name issue) rank c.in_ok-rank.ensures.rank
          ∙ ranked_anew m name issue rank (sym c.if-has_rank.ensures)
          ∙ ap (λ (a : Answer). Makes a (NewRank issue rank)) (sym c.in_ok-answer.ensures.answer);
      keeps = c.in_ok-answer.ensures.rows ∙ rank_ops_are m issue rank;
      allowed = record { place = c.args.place; named = c.requires; given = c.in_ok-rank.ensures.rank };
      fits = tt;
    }
