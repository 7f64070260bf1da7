use Rattle.std.proofs.Common.{Option, MatchOption, subst}
use Rattle.rank_strings.specs.Rank.{RankParts}
use Rattle.rank_strings.specs.Text.{IsTextOf}
use Rattle.tracker_keeper.proofs.Lone.{rank_row}
use Rattle.tracker_keeper.proofs.lone_texts.read_rank.Goals as goal

pub returns-in-Ok-Some : goal.returns-in-Ok-Some
returns-in-Ok-Some c = λ setup.
    let bytes = c.as_bytes.result.now in
    let reads = subst (λ (o : Option RankParts). MatchOption o ((r : RankParts) → ¬ IsTextOf bytes r) (λ r. IsTextOf bytes r)) c.in-Ok-Some.field-0-is c.in-Ok-Some.ensures in
    rank_row c.args.no (record { 0 = c.in-Some.issue }) c.in-Ok-Some.rank c.args.body.now c.in-Some.ensures
    (subst (λ bs. IsTextOf bs c.in-Ok-Some.rank) c.as_bytes.ensures.value reads) setup
