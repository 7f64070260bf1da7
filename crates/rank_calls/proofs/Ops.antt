-- The operations that are prepared are those that keep the effect.
use Rattle.std.proofs.Common.{◌≡◌, List, [], ◌∷◌, refl, ap, ◌∙◌}
use Rattle.field_values.specs.declared.numbers.IssueNo.{IssueNo}
use Rattle.field_values.specs.Parts.{Parts}
use Rattle.rank_strings.specs.Rank.{RankParts}
use Rattle.rank_balancer.specs.declared.balance.Balance.{Balance}
use Rattle.rank_balancer.specs.Step.{Move}
use Rattle.tracker_ranks.specs.Ranked.{balance_moved}
use Rattle.tracker_keeper.specs.declared.row.RowOp.{RowOp}
use Rattle.tracker_keeper.specs.Bodies.{body_text}
use Rattle.tracker_machine.specs.Machine.{Machine}
use Rattle.tracker_machine.specs.Effect.Effect.{NewRank, NewBalance, NewRanks}
use Rattle.tracker_machine.specs.Kept.{rank_parts, put_parts, parts_of, ops_of}
use Rattle.tracker_state.specs.Rows.{present_op, rank_op}
use Rattle.rank_calls.specs.Rows.{rank_ops}

pub rank_ops_are : (m : Machine) (issue : IssueNo) (rank : RankParts) → rank_op issue rank ∷ [] ≡ ops_of (NewRank issue rank) m
unfolding ops_of parts_of body_text
rank_ops_are m issue rank = refl

pub start_ops_are : (m : Machine) (next : Balance) → present_op next m.change m.moment ∷ [] ≡ ops_of (NewBalance next) m
unfolding ops_of parts_of body_text
start_ops_are m next = refl

rank_puts : (setup : Parts) (moves : List Move) → rank_ops moves ≡ put_parts setup (rank_parts moves)
unfolding body_text
rank_puts setup [] = refl
rank_puts setup (move ∷ moves) = ap (λ (ops : List RowOp). rank_op move.0 move.1 ∷ ops) (rank_puts setup moves)

pub step_ops_are : (m : Machine) (moves : List Move) (next : Balance) → next ≡ balance_moved m.order m.balance moves
    → present_op next m.change m.moment ∷ rank_ops moves ≡ ops_of (NewRanks moves) m
unfolding ops_of parts_of body_text
step_ops_are m moves next is =
    ap (λ (b : Balance). present_op b m.change m.moment ∷ rank_ops moves) is
    ∙ ap (λ (ops : List RowOp). present_op (balance_moved m.order m.balance moves) m.change m.moment ∷ ops) (rank_puts m.setup moves)
