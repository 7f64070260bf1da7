-- A move changes the place of the moved issue alone.
use Rattle.std.proofs.Common.{◌≡◌, ℕ, Bool, true, false, List, Option, Some, None, refl, sym, ◌∙◌, ap, inl, inr, ◌⊎◌}
use Rattle.std.specs.Prelude.{if◌then◌else◌, length, Ok}
use Rattle.std.specs.Option.{option_map_or}
use Rattle.std.specs.Ordering.{eq_by_cmp}
use Rattle.std.proofs.lemmas.Bool.{cases_eq}
use Rattle.field_values.specs.declared.numbers.IssueNo.{IssueNo}
use Rattle.rank_strings.specs.Rank.{RankParts, rank_cmp}
use Rattle.rank_strings.proofs.Reading.{same_decided}
use Rattle.board.specs.declared.place.Place.{Place}
use Rattle.board.specs.Order.{rank_in}
use Rattle.board.specs.Issues.{issues_in}
use Rattle.rank_balancer.specs.Step.{after_move}
use Rattle.tracker_ranks.specs.Ranked.{AreNumbered}
use Rattle.tracker_ranks.specs.Laws.{MovesAlone}
use Rattle.tracker_ranks.proofs.Keeping.{moves_change_one_rank}
use Rattle.tracker_ranks.proofs.OneOrder.{ranks_make_one_order}
use Rattle.tracker_machine.specs.Machine.{Machine}
use Rattle.tracker_machine.specs.Tracker.{HasRanks}
use Rattle.tracker_machine.specs.Rank.{moved_rank, has_rank}
use Rattle.tracker_machine.specs.Move.{move_answer}
use Rattle.tracker_machine.specs.Effect.{applied}
use Rattle.tracker_machine.specs.Effect.Effect.{NewRank}
use Rattle.tracker_machine.specs.Meaning.{next_after}
use Rattle.tracker_machine.specs.Meaning.Meaning.{Tells, Makes}
use Rattle.tracker_runs.specs.RankLaws.{MovesOneIssue, MovesAreOfOneIssue}
use Rattle.tracker_machine.proofs.Ranks.{rank_of_order}

module _ (m : Machine) (issue : IssueNo) (place : Place) (rank : RankParts) (has : HasRanks m)
    (numbered : AreNumbered (length m.order) (Some issue) place) (given : moved_rank m issue place ≡ Ok rank) where
  alone : MovesAlone m.order m.balance issue place rank
  alone = moves_change_one_rank m.order m.balance issue place rank has.ranked numbered given

  -- the issue has the rank already
  own_rank : (o : Option RankParts) → rank_in m.order issue.0 ≡ o → option_map_or (λ own. eq_by_cmp rank_cmp own rank) o false ≡ true
      → rank_in m.order issue.0 ≡ Some rank
  own_rank None is same = absurd (cc)
  own_rank (Some own) is same =
      let one = rank_of_order m.order issue.0 own has.ranked.order is in
      let other = rank_of_order (after_move m.order (issue, rank)) issue.0 rank alone.ranked.order alone.ranks.own in
      is ∙ ap (λ (r : RankParts). Some r) ((same_decided own rank one other (eq_by_cmp rank_cmp own rank) refl).0 same)

  -- then the order after the move is the order
  pub stays : has_rank m.order issue rank ≡ true → after_move m.order (issue, rank) ≡ m.order
  stays same = ranks_make_one_order (after_move m.order (issue, rank)) m.order alone.ranked.order has.ranked.order (λ n. by n (cases_eq issue.0 n))
    where
      by : (n : ℕ) → (issue.0 ≡ n) ⊎ (issue.0 ≡ n → ⊥) → rank_in (after_move m.order (issue, rank)) n ≡ rank_in m.order n
      by n (inl is) =
          ap (rank_in (after_move m.order (issue, rank))) (sym is) ∙ alone.ranks.own ∙ sym (own_rank (rank_in m.order issue.0) refl same) ∙ ap (rank_in m.order) is
      by n (inr differ) = alone.ranks.others n differ

  pub one_issue : (name : List ℕ) (b : Bool) → has_rank m.order issue rank ≡ b
      → MovesOneIssue m (next_after (if b then Tells (move_answer name rank) else Makes (move_answer name rank) (NewRank issue rank)) m) issue place
  unfolding applied
  one_issue name true is = record { issues = ap issues_in (sym (stays is)) ∙ alone.issues; others = λ n differ. refl; rest = refl }
  one_issue name false is = record { issues = alone.issues; others = alone.ranks.others; rest = refl }

pub moves_are_of_one_issue : MovesAreOfOneIssue
moves_are_of_one_issue m name h place rank has numbered given = one_issue m h.no place rank has numbered given name (has_rank m.order h.no rank) refl
