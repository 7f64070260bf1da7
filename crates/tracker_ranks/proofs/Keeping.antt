-- A new issue, a move, a start and a step leave all issues ranked.
use Rattle.std.proofs.Common.{◌≡◌, ◌≢◌, ℕ, ◌+◌, inl, inr, List, [], ◌∷◌, ◌⊎◌, length, Option, Some, None, Result, Ok, refl, sym, ◌∙◌, ap, subst, arith}
use Rattle.std.specs.Prelude.{◌↔◌, IfSome, MatchResult, insert}
use Rattle.std.proofs.lemmas.Bool.{cases_eq}
use Rattle.std.proofs.lemmas.List.{length-append, map-append}
use Rattle.std.proofs.lemmas.List.Edits.{insert_end}
use Rattle.field_values.specs.declared.numbers.IssueNo.{IssueNo}
use Rattle.rank_strings.specs.Rank.{RankParts, IsRank}
use Rattle.rank_strings.specs.declared.fault.RankFault.TheVariants.{Exhausted}
use Rattle.board.specs.declared.place.Place.{Place}
use Rattle.board.specs.declared.place.Place.TheVariants.{Last}
use Rattle.board.specs.Order.{Pair, IsOrder, IsIn, IsFreeFor, rank_in, without}
use Rattle.board.specs.Place.{named_by, AreNamed, IsRankFor, ExplainsNoRank}
use Rattle.board.specs.Moved.{Sides}
use Rattle.board.specs.Laws.{PutsThere}
use Rattle.board.proofs.Placing.{ranks_put_there, others_asked}
use Rattle.board.proofs.Computed.{rank_is_computed}
use Rattle.board.proofs.Issues.{issues_are_moved, places_go_by_issues}
use Rattle.rank_balancer.specs.declared.balance.Balance.{Balance}
use Rattle.rank_balancer.specs.declared.balance.Balance.TheVariants.{Idle, Moving}
use Rattle.rank_balancer.specs.Balance.{Agrees, IsMoving, from_of, to_of}
use Rattle.rank_balancer.specs.Step.{Move, after_move, after_moves, IsStep, IsStuck}
use Rattle.rank_balancer.proofs.Agreeing.{empty_in_circle, places_keep_the_balance}
use Rattle.rank_balancer.proofs.Keeps.{picks_keep_all}
use Rattle.rank_balancer.proofs.Planned.{step_is_computed_law}
use Rattle.tracker_ranks.specs.Ranked.{IsOneOf, IsRanked, AreNumbered, IsNext, rank_for, with_last}
use Rattle.tracker_ranks.specs.Laws.{GoesLast, NewIssuesGoLast, MovesAlone, MovesChangeOneRank, StartsKeepRanks, StepsKeepRanks, PlansArePicks, NoIssueIsRanked, NumbersAreRanked}
use Rattle.tracker_ranks.proofs.Given.{same_in, in_from_rank, gives_one_rank, length-moved}

-- no issue
pub no_issue_is_ranked : NoIssueIsRanked
no_issue_is_ranked bucket lt = record {
  order = record { ranks = λ k d lt. absurd (omega arith); rising = λ i j d less lt. absurd (omega arith); once = λ i j d less lt. absurd (omega arith) };
  numbered = λ issue. (λ there. absurd (omega (arith, there)), λ one. absurd (omega (arith, one)));
  agrees = (lt, λ k d lt. absurd (omega arith));
}

-- issues of these numbers stand in the order
numbered_in : (ps : List Pair) (b : Balance) (o : Option IssueNo) → IsRanked ps b → IfSome o (λ i. IsOneOf (length ps) i.0) → IfSome o (λ i. IsIn ps i.0)
numbered_in ps b None ranked is = tt
numbered_in ps b (Some issue) ranked is = (ranked.numbered issue.0).1 is

pub numbers_are_ranked : NumbersAreRanked
numbers_are_ranked ps b asked place ranked named = record {
  issue_there = numbered_in ps b asked ranked named.issue;
  other_there = numbered_in ps b (named_by place) ranked named.other;
  differ = named.differ;
}

-- a rank that is computed is the one for the place
given_for : (ps : List Pair) (b : Balance) (asked : Option IssueNo) (place : Place) (rank : RankParts) → IsRanked ps b → AreNamed ps asked place →
    rank_for ps b asked place ≡ Ok rank → IsRank rank × IsRankFor ps asked place (to_of b) rank
given_for ps b asked place rank ranked named given =
    subst
    (λ (answer : Result RankParts Sides).
    MatchResult answer (λ r. IsRank r × IsRankFor ps asked place (to_of b) r) (λ sides. ExplainsNoRank ps asked place (to_of b) (Exhausted sides.0 sides.1)))
    given (rank_is_computed ps asked place (to_of b) ranked.order named (empty_in_circle b ps ranked.agrees))

-- a move
module _ (ps : List Pair) (b : Balance) (issue : IssueNo) (place : Place) (rank : RankParts) (ranked : IsRanked ps b)
    (numbered : AreNumbered (length ps) (Some issue) place) (given : rank_for ps b (Some issue) place ≡ Ok rank) where
  named : AreNamed ps (Some issue) place
  named = numbers_are_ranked ps b (Some issue) place ranked numbered

  is : IsRank rank × IsRankFor ps (Some issue) place (to_of b) rank
  is = given_for ps b (Some issue) place rank ranked named given

  puts : PutsThere ps issue (Some issue) place rank
  puts = ranks_put_there ps issue (Some issue) place (to_of b) rank ranked.order is.0 named refl is.1

  abbrev moved : List Pair
  moved = after_move ps (issue, rank)

  same_length : length moved ≡ length ps
  same_length = length-moved ps issue rank ranked.order named.issue_there

  numbered_moved : (n : ℕ) → IsIn moved n ↔ IsOneOf (length moved) n
  numbered_moved n = by (cases_eq issue.0 n)
    where
      by : (issue.0 ≡ n) ⊎ (issue.0 ≡ n → ⊥) → IsIn moved n ↔ IsOneOf (length moved) n
      by (inl same) = (
        λ there. subst (IsOneOf (length moved)) same (subst (λ count. IsOneOf count issue.0) (sym same_length) numbered.issue),
        λ one. subst (IsIn moved) same (in_from_rank moved issue.0 rank ((gives_one_rank ps (issue, rank)).own)),
      )
      by (inr differ) =
          let stays = (gives_one_rank ps (issue, rank)).others n differ in (
            λ there. subst (λ count. IsOneOf count n) (sym same_length) ((ranked.numbered n).0 (same_in moved ps n stays there)),
            λ one. same_in ps moved n (sym stays) ((ranked.numbered n).1 (subst (λ count. IsOneOf count n) same_length one)),
          )

  pub moves_alone : MovesAlone ps b issue place rank
  moves_alone = record {
    issues = issues_are_moved ps issue (Some issue) place (to_of b) rank ranked.order is.0 named refl is.1;
    ranks = gives_one_rank ps (issue, rank);
    stays = puts.stays;
    ranked = record {
      order = puts.in_order;
      numbered = numbered_moved;
      agrees = places_keep_the_balance ps b issue (Some issue) place rank ranked.agrees named is.1;
    };
  }

  pub free_to_move : IsFreeFor ps issue.0 rank
  free_to_move = puts.free

  pub there_to_move : IsIn ps issue.0
  there_to_move = named.issue_there

pub moves_change_one_rank : MovesChangeOneRank
moves_change_one_rank = moves_alone

-- a new issue
module _ (ps : List Pair) (b : Balance) (issue : IssueNo) (rank : RankParts) (ranked : IsRanked ps b) (next : IsNext ps b issue rank) where
  named_last : AreNamed ps None Last
  named_last = record { issue_there = tt; other_there = tt; differ = tt }

  is_last : IsRank rank × IsRankFor ps None Last (to_of b) rank
  is_last = given_for ps b None Last rank ranked named_last next.given

  pub is_new : IsIn ps issue.0 → ⊥
  is_new there = let one = (ranked.numbered issue.0).0 there in let number = next.number in omega (arith, one, number)

  puts_last : PutsThere ps issue None Last rank
  puts_last = ranks_put_there ps issue None Last (to_of b) rank ranked.order is_last.0 named_last is_new is_last.1

  pub free_to_add : IsFreeFor ps issue.0 rank
  free_to_add = puts_last.free

  pub added_last : after_move ps (issue, rank) ≡ with_last ps issue rank
  added_last =
      let left : ps ≡ without issue.0 ps = others_asked ps None issue ranked.order is_new in
      puts_last.there ∙ ap (λ xs. insert xs (length ps) (rank, issue)) (sym left) ∙ insert_end ps (rank, issue)

  abbrev added : List Pair
  added = with_last ps issue rank

  one_more : length added ≡ length ps + 1
  one_more = length-append ps ((rank, issue) ∷ [])

  own_last : rank_in added issue.0 ≡ Some rank
  own_last = ap (λ xs. rank_in xs issue.0) (sym added_last) ∙ (gives_one_rank ps (issue, rank)).own

  others_last : (n : ℕ) → issue.0 ≢ n → rank_in added n ≡ rank_in ps n
  others_last n differ = ap (λ xs. rank_in xs n) (sym added_last) ∙ (gives_one_rank ps (issue, rank)).others n differ

  numbered_added : (n : ℕ) → IsIn added n ↔ IsOneOf (length added) n
  numbered_added n = by (cases_eq issue.0 n)
    where
      by : (issue.0 ≡ n) ⊎ (issue.0 ≡ n → ⊥) → IsIn added n ↔ IsOneOf (length added) n
      by (inl same) =
          let number = next.number in let more = one_more in (
            λ there. (omega (arith, number, same), omega (arith, number, same, more)),
            λ one. subst (IsIn added) same (in_from_rank added issue.0 rank own_last),
          )
      by (inr differ) =
          let number = next.number in let more = one_more in let stays = others_last n differ in (
            λ there. let one = (ranked.numbered n).0 (same_in added ps n stays there) in (one.0, omega (arith, one, more)),
            λ one. same_in ps added n (sym stays) ((ranked.numbered n).1 (one.0, omega (arith, one, more, number, differ))),
          )

  pub goes_last : GoesLast ps b issue rank
  goes_last = record {
    there = added_last;
    issues = map-append (λ (p : Pair). p.1) ps ((rank, issue) ∷ []);
    ranked = record {
      order = subst IsOrder added_last puts_last.in_order;
      numbered = numbered_added;
      agrees = subst (λ xs. Agrees xs b) added_last (places_keep_the_balance ps b issue None Last rank ranked.agrees named_last is_last.1);
    };
  }

pub new_issues_go_last : NewIssuesGoLast
new_issues_go_last = goes_last

-- a start
pub starts_keep_ranks : StartsKeepRanks
starts_keep_ranks ps (Moving from to) ranked = tt
starts_keep_ranks ps (Idle bucket) ranked = record {
  order = ranked.order;
  numbered = ranked.numbered;
  agrees = (ranked.agrees.0, refl, λ k d lt. inl (ranked.agrees.1 k d lt));
}

-- a step
agrees_moving : (ps : List Pair) (b : Balance) → IsMoving b → Agrees ps b → Agrees ps (Moving (from_of b) (to_of b))
agrees_moving ps (Idle bucket) moving agrees = absurd moving
agrees_moving ps (Moving from to) moving agrees = agrees

pub steps_keep_ranks : StepsKeepRanks
steps_keep_ranks ps b moves ranked moving picks =
    let leaves = picks_keep_all ps (from_of b) (to_of b) moves ranked.order (agrees_moving ps b moving ranked.agrees) picks in
    let same = places_go_by_issues (after_moves ps moves) ps leaves.issues in
    let count = same.count in
    record {
      issues = leaves.issues;
      ranked = record {
        order = leaves.order;
        numbered = λ n. let before = same.before n in let was = ranked.numbered n in (
          λ there. subst (λ k. IsOneOf k n) (sym count) (was.0 (omega (arith, before, count, there))),
          λ one. let there = was.1 (subst (λ k. IsOneOf k n) count one) in omega (arith, before, count, there),
        );
        agrees = leaves.agrees;
      };
    }

pub plans_are_picks : PlansArePicks
plans_are_picks ps b most moves ranked moving is =
    let step = subst
    (λ (answer : Result (List Move) Sides). MatchResult answer (IsStep ps (from_of b) (to_of b) most) (λ sides. IsStuck ps (from_of b) (to_of b) most sides.0 sides.1))
    is (step_is_computed_law ps (from_of b) (to_of b) most ranked.order (agrees_moving ps b moving ranked.agrees)) in
    step.picks
