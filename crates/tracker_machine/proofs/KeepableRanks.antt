-- The ranks of a tracker's issues may be kept.
use Rattle.std.proofs.Common.{◌≡◌, ℕ, length, List, [], ◌∷◌, Option, Some, None, option_map, refl, ap, ◌∙◌, subst, arith}
use Rattle.std.specs.List.{All}
use Rattle.std.proofs.lemmas.List.Elements.{All-nil, All-cons, All-head, All-tail}
use Rattle.std.proofs.lemmas.Option.{same_Some, none-some}
use Rattle.field_values.specs.declared.numbers.IssueNo.{IssueNo}
use Rattle.field_values.specs.Parts.{Parts}
use Rattle.rank_strings.specs.Rank.{RankParts, IsRank}
use Rattle.board.specs.Order.{rank_in}
use Rattle.rank_balancer.specs.Step.{Move, after_move}
use Rattle.tracker_ranks.specs.Ranked.{IsOneOf}
use Rattle.tracker_ranks.proofs.Given.{in_from_rank, gives_one_rank}
use Rattle.tracker_keeper.specs.declared.part.Part.{Part}
use Rattle.tracker_keeper.specs.Forms.{IsNumber}
use Rattle.tracker_keeper.specs.Kept.{IsPart, IsPartAt}
use Rattle.tracker_machine.specs.Machine.{Machine}
use Rattle.tracker_machine.specs.Tracker.{IsTracker}
use Rattle.tracker_machine.specs.Kept.{rank_part, rank_numbered, rank_parts}
use Rattle.tracker_machine.proofs.Ranks.{IsNumbered, rank_of_order}

-- an issue of the tracker has a number that a row may have
pub number_kept : (m : Machine) (n : ℕ) → IsTracker m → IsOneOf (length m.order) n → IsNumber n
number_kept m n is one = (one.0, omega (arith, one.1, is.each, is.few_issues))

rank_kept : (setup : Parts) (issue : IssueNo) (rank : RankParts) → IsNumber issue.0 → IsRank rank → IsPart setup (rank_part issue rank)
unfolding IsPart
rank_kept setup issue rank number is_rank = (number, is_rank)

pub rank_part_kept : (m : Machine) (n : ℕ) (p : Part) → IsTracker m → rank_numbered m.order n ≡ Some p → IsPartAt m.setup 5 n p
rank_part_kept m n p is p_is = by_found (rank_in m.order n) refl p_is where
  by_found : (o : Option RankParts) → rank_in m.order n ≡ o → option_map (rank_part (record { 0 = n })) o ≡ Some p → IsPartAt m.setup 5 n p
  by_found None found more = absurd (none-some p more)
  by_found (Some rank) found more =
      let one = (is.ranked.numbered n).0 (in_from_rank m.order n rank found) in
      let kept = rank_kept m.setup (record { 0 = n }) rank (number_kept m n is one) (rank_of_order m.order n rank is.ranked.order found) in
      subst (IsPartAt m.setup 5 n) (same_Some _ p more) (record { is_part = kept; kind_is = refl; number_is = refl })

-- the rank that an issue of the tracker gets
pub new_rank_kept : (m next : Machine) (issue : IssueNo) (rank : RankParts) → IsTracker next → next.order ≡ after_move m.order (issue, rank) → IsNumber issue.0
    → IsPart m.setup (rank_part issue rank)
new_rank_kept m next issue rank is order number =
    rank_kept m.setup issue rank number
    (rank_of_order next.order issue.0 rank is.ranked.order (ap (λ ps. rank_in ps issue.0) order ∙ (gives_one_rank m.order (issue, rank)).own))

-- and those that moves give
pub ranks_kept : (m : Machine) (moves : List Move) → IsTracker m → All (IsNumbered (length m.order)) moves → All (IsPart m.setup) (rank_parts moves)
ranks_kept m [] is numbered = All-nil (IsPart m.setup)
ranks_kept m (move ∷ moves) is numbered =
    let here = All-head (IsNumbered (length m.order)) move moves numbered in
    All-cons (IsPart m.setup) (rank_part move.0 move.1) (rank_parts moves) (rank_kept m.setup move.0 move.1 (number_kept m move.0.0 is here.0) here.1)
    (ranks_kept m moves is (All-tail (IsNumbered (length m.order)) move moves numbered))
