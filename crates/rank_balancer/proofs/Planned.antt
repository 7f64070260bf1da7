-- A step that is computed is a step, and there is no other; the same for its refusal.
use Rattle.std.proofs.Common.{◌≡◌, ℕ, zero, suc, ◌+◌, ◌<◌, ◌==◌, min, true, false, List, [], ◌∷◌, ◌⊎◌, length, Option, Some, None, Result, Ok, Err, inl, inr, refl, sym, ◌∙◌, ap, subst, arith, if◌then◌else◌}
use Rattle.std.specs.Prelude.{All, MatchOption, MatchResult, IfSome, option_map}
use Rattle.std.proofs.lemmas.Bool.{cases_Bool, cases_eq}
use Rattle.std.proofs.lemmas.Bool.Decides.{nat_tests}
use Rattle.std.proofs.lemmas.List.Elements.{All-head, All-tail}
use Rattle.field_values.specs.declared.numbers.IssueNo.{IssueNo}
use Rattle.rank_strings.specs.Rank.{RankParts, IsRank}
use Rattle.rank_strings.specs.Between.{RanksGiven}
use Rattle.rank_strings.specs.declared.fault.RankFault.{RankFault}
use Rattle.rank_strings.specs.declared.fault.RankFault.TheVariants.{Exhausted, Memory}
use Rattle.rank_strings.proofs.Computed.{chosen_is_computed, chosen_alone, none_without_room}
use Rattle.board.specs.Order.{Pair, IsOrder}
use Rattle.board.specs.Moved.{Sides, IsRefusalOf}
use Rattle.rank_balancer.specs.declared.balance.Balance.{Balance}
use Rattle.rank_balancer.specs.declared.balance.Balance.TheVariants.{Moving}
use Rattle.rank_balancer.specs.Balance.{next_bucket, Agrees, from_of, to_of}
use Rattle.rank_balancer.specs.Pick.{first_in, last_in, or_else, pick_of, neighbour_in, IsNextRank, HasNoNextRank, low_of, high_of, ExplainsNoNext}
use Rattle.rank_balancer.specs.Step.{Move, after_move, after_moves, ArePicks, IsStep, IsStuck, ExplainsRefusal, left_in}
use Rattle.rank_balancer.specs.Planned.{next_rank, next_sides, behind_move, from_pick, planned}
use Rattle.rank_balancer.specs.Laws.{StepIsComputed, NoOtherStep, NoOtherRefusal}
use Rattle.rank_balancer.proofs.Keeps.{one_pick_keeps_all, none_left, none_picked}

-- the neighbour in the new bucket is a rank there
IsNeighbour : ℕ → RankParts → Type 0
IsNeighbour to r = IsRank r × (r.bucket ≡ to)

first_is_neighbour : (to : ℕ) (ps : List Pair) → All (λ p. IsRank p.0) ps → IfSome (option_map (λ (p : Pair). p.0) (first_in to ps)) (IsNeighbour to)
unfolding IsNeighbour
first_is_neighbour to [] ranks = tt
first_is_neighbour to (p ∷ ps) ranks = by (cases_Bool (p.0.bucket == to)) (first_is_neighbour to ps (All-tail (λ q. IsRank q.0) p ps ranks))
  where
    by : ((p.0.bucket == to) ≡ true) ⊎ ((p.0.bucket == to) ≡ false) → IfSome (option_map (λ (p : Pair). p.0) (first_in to ps)) (IsNeighbour to) →
        IfSome (option_map (λ (p : Pair). p.0) (first_in to (p ∷ ps))) (IsNeighbour to)
    by (inl is) others = rw is (All-head (λ q. IsRank q.0) p ps ranks, grind (arith, nat_tests))
    by (inr is) others = rw is others

last_is_neighbour : (to : ℕ) (ps : List Pair) → All (λ p. IsRank p.0) ps → IfSome (option_map (λ (p : Pair). p.0) (last_in to ps)) (IsNeighbour to)
unfolding IsNeighbour
last_is_neighbour to [] ranks = tt
last_is_neighbour to (p ∷ ps) ranks = by (last_in to ps) (cases_Bool (p.0.bucket == to)) (last_is_neighbour to ps (All-tail (λ q. IsRank q.0) p ps ranks))
  where
    by : (o : Option Pair) → ((p.0.bucket == to) ≡ true) ⊎ ((p.0.bucket == to) ≡ false) → IfSome (option_map (λ (p : Pair). p.0) o) (IsNeighbour to) →
        IfSome (option_map (λ (p : Pair). p.0) (or_else o (if p.0.bucket == to then Some p else None))) (IsNeighbour to)
    by (Some q) test others = others
    by None (inl is) others = rw is (All-head (λ q. IsRank q.0) p ps ranks, grind (arith, nat_tests))
    by None (inr is) others = rw is tt

neighbour_is_one : (to : ℕ) (ps : List Pair) → All (λ p. IsRank p.0) ps → IfSome (neighbour_in to ps) (IsNeighbour to)
neighbour_is_one to ps ranks = by (cases_Bool (to == 0))
  where
    by : ((to == 0) ≡ true) ⊎ ((to == 0) ≡ false) → IfSome (neighbour_in to ps) (IsNeighbour to)
    by (inl is) = rw is (last_is_neighbour to ps ranks)
    by (inr is) = rw is (first_is_neighbour to ps ranks)

-- the sides between which its rank is chosen
sides_given : (to : ℕ) (r : RankParts) → to < 3 → IsNeighbour to r → RanksGiven (low_of to (Some r)) (high_of to (Some r)) to
unfolding IsNeighbour
sides_given to r lt is = by (cases_Bool (to == 0))
  where
    by : ((to == 0) ≡ true) ⊎ ((to == 0) ≡ false) → RanksGiven (low_of to (Some r)) (high_of to (Some r)) to
    by (inl zero') = rw zero' (record {
      low_rank = is.0;
      high_rank = tt;
      neighbours = record { in_circle = lt; low_in_bucket = is.1; high_in_bucket = tt; in_order = tt };
    })
    by (inr other) = rw other (record {
      low_rank = tt;
      high_rank = is.0;
      neighbours = record { in_circle = lt; low_in_bucket = tt; high_in_bucket = is.1; in_order = tt };
    })

next_is_computed : (to : ℕ) (neighbour : Option RankParts) → to < 3 → IfSome neighbour (IsNeighbour to) →
    MatchOption (next_rank to neighbour) (HasNoNextRank to neighbour) (IsNextRank to neighbour)
next_is_computed to None lt is = refl
next_is_computed to (Some r) lt is = chosen_is_computed (low_of to (Some r)) (high_of to (Some r)) to (sides_given to r lt is)

next_alone : (to : ℕ) (neighbour : Option RankParts) (rank : RankParts) → to < 3 → IfSome neighbour (IsNeighbour to) →
    IsNextRank to neighbour rank → next_rank to neighbour ≡ Some rank
next_alone to None rank lt is next = ap Some (sym next)
next_alone to (Some r) rank lt is next = chosen_alone (low_of to (Some r)) (high_of to (Some r)) to (sides_given to r lt is) rank next

no_next : (to : ℕ) (neighbour : Option RankParts) → to < 3 → IfSome neighbour (IsNeighbour to) → HasNoNextRank to neighbour → next_rank to neighbour ≡ None
no_next to None lt is none = absurd none
no_next to (Some r) lt is none = none_without_room (low_of to (Some r)) (high_of to (Some r)) to (sides_given to r lt is) none

-- the new bucket is one of the three
to_in_circle : (ps : List Pair) (from to : ℕ) → Agrees ps (Moving from to) → to < 3
to_in_circle ps from to agrees = let lt = agrees.0 in let is = agrees.1 in grind (arith, nat_tests)

-- one pick of a step, by what is picked and by its rank
first_step : (ps : List Pair) (from to count : ℕ) (issue : Option IssueNo) (rank : Option RankParts) →
    pick_of ps (Moving from to) ≡ issue → next_rank to (neighbour_in to ps) ≡ rank →
    planned ps from to (suc count) ≡ from_pick (next_sides to (neighbour_in to ps)) issue rank (λ (m : Move). planned (after_move ps m) from to count)
unfolding planned
first_step ps from to count issue rank picked next =
    ap (λ (i : Option IssueNo). from_pick (next_sides to (neighbour_in to ps)) i (next_rank to (neighbour_in to ps)) (λ (m : Move). planned (after_move ps m) from to count)) picked
    ∙ ap (λ (r : Option RankParts). from_pick (next_sides to (neighbour_in to ps)) issue r (λ (m : Move). planned (after_move ps m) from to count)) next

no_step : (ps : List Pair) (from to : ℕ) → planned ps from to 0 ≡ Ok []
unfolding planned
no_step ps from to = refl

none_planned : (ps : List Pair) (from to most : ℕ) → pick_of ps (Moving from to) ≡ None → planned ps from to most ≡ Ok []
none_planned ps from to zero none = no_step ps from to
none_planned ps from to (suc count) none = first_step ps from to count None (next_rank to (neighbour_in to ps)) none refl

module _ (from to : ℕ) where
  abbrev Answers : List Pair → ℕ → Result (List Move) Sides → Type 0
  Answers ps most given = MatchResult given (IsStep ps from to most) (λ sides. IsStuck ps from to most sides.0 sides.1)

  some_left : (ps : List Pair) (issue : IssueNo) → pick_of ps (Moving from to) ≡ Some issue → 0 < left_in from ps
  some_left ps issue picked = by (cases_eq (left_in from ps) 0)
    where
      by : (left_in from ps ≡ 0) ⊎ (left_in from ps ≡ 0 → ⊥) → 0 < left_in from ps
      by (inl none) = let nothing_picked = none_picked ps from to none in absurd (cc)
      by (inr some) = omega arith

  -- what follows a pick
  behind : (ps : List Pair) (m : Move) (count : ℕ) → pick_of ps (Moving from to) ≡ Some m.0 → IsNextRank to (neighbour_in to ps) m.1 →
      left_in from (after_move ps m) + 1 ≡ left_in from ps → (given : Result (List Move) Sides) → Answers (after_move ps m) count given → Answers ps (suc count) (behind_move m given)
  behind ps m count picked next fewer (Ok ms) step = record { picks = (picked, next, step.picks); count = let n = step.count in omega (arith, n, fewer) }
  behind ps m count picked next fewer (Err sides) stuck = record {
    done = m ∷ stuck.done;
    picks = (picked, next, stuck.picks);
    more = let n = stuck.more in omega (arith, n, fewer);
    no_rank = stuck.no_rank;
  }

  pub step_is_computed : (most : ℕ) (ps : List Pair) → IsOrder ps → Agrees ps (Moving from to) → Answers ps most (planned ps from to most)
  step_is_computed zero ps order agrees = subst (Answers ps 0) (sym (no_step ps from to)) (record { picks = tt; count = omega arith })
  step_is_computed (suc count) ps order agrees =
      by (pick_of ps (Moving from to)) refl (next_rank to (neighbour_in to ps)) refl
      (next_is_computed to (neighbour_in to ps) (to_in_circle ps from to agrees) (neighbour_is_one to ps order.ranks))
      (λ qs. step_is_computed count qs)
    where
      by : (issue : Option IssueNo) → pick_of ps (Moving from to) ≡ issue → (rank : Option RankParts) → next_rank to (neighbour_in to ps) ≡ rank →
          MatchOption rank (HasNoNextRank to (neighbour_in to ps)) (IsNextRank to (neighbour_in to ps)) →
          ((qs : List Pair) → IsOrder qs → Agrees qs (Moving from to) → Answers qs count (planned qs from to count)) → Answers ps (suc count) (planned ps from to (suc count))
      by None picked rank is next others =
          let none = none_left ps from to picked in
          subst (Answers ps (suc count)) (sym (none_planned ps from to (suc count) picked)) (record { picks = tt; count = omega (arith, none) })
      by (Some issue) picked None is none others =
          let some = some_left ps issue picked in
          subst (Answers ps (suc count)) (sym (first_step ps from to count (Some issue) None picked is))
          (record { done = []; picks = tt; more = omega (arith, some); no_rank = (none, refl, refl) })
      by (Some issue) picked (Some rank) is next others =
          let all = one_pick_keeps_all ps from to (issue, rank) order agrees picked next in
          subst (Answers ps (suc count)) (sym (first_step ps from to count (Some issue) (Some rank) picked is))
          (behind ps (issue, rank) count picked next all.fewer (planned (after_move ps (issue, rank)) from to count) (others (after_move ps (issue, rank)) all.order all.agrees))

  -- the first pick of some picks
  picked_first : (ps : List Pair) (m : Move) (count : ℕ) → IsOrder ps → Agrees ps (Moving from to) → pick_of ps (Moving from to) ≡ Some m.0 →
      IsNextRank to (neighbour_in to ps) m.1 → planned ps from to (suc count) ≡ behind_move m (planned (after_move ps m) from to count)
  picked_first ps m count order agrees picked next =
      first_step ps from to count (Some m.0) (Some m.1) picked
      (next_alone to (neighbour_in to ps) m.1 (to_in_circle ps from to agrees) (neighbour_is_one to ps order.ranks) next)

  pub step_alone : (most : ℕ) (ps : List Pair) (moves : List Move) → IsOrder ps → Agrees ps (Moving from to) → ArePicks ps from to moves →
      length moves ≡ min most (left_in from ps) → planned ps from to most ≡ Ok moves
  step_alone zero ps [] order agrees picks size = no_step ps from to
  step_alone zero ps (m ∷ ms) order agrees picks size = absurd (omega arith)
  step_alone (suc count) ps [] order agrees picks size = none_planned ps from to (suc count) (none_picked ps from to (omega (arith, size)))
  step_alone (suc count) ps (m ∷ ms) order agrees picks size =
      let all = one_pick_keeps_all ps from to m order agrees picks.0 picks.1 in
      let fewer = all.fewer in
      picked_first ps m count order agrees picks.0 picks.1
      ∙ ap (behind_move m) (step_alone count (after_move ps m) ms all.order all.agrees picks.2 (omega (arith, size, fewer)))

  pub refusal_alone : (done : List Move) (most : ℕ) (ps : List Pair) (low high : Option RankParts) → IsOrder ps → Agrees ps (Moving from to) → ArePicks ps from to done →
      length done < min most (left_in from ps) → ExplainsNoNext to (neighbour_in to (after_moves ps done)) (Exhausted low high) → planned ps from to most ≡ Err (low, high)
  refusal_alone done zero ps low high order agrees picks more none = absurd (omega (arith, more))
  refusal_alone [] (suc count) ps low high order agrees picks more none = by (pick_of ps (Moving from to)) refl
    where
      no_rank : next_rank to (neighbour_in to ps) ≡ None
      no_rank = no_next to (neighbour_in to ps) (to_in_circle ps from to agrees) (neighbour_is_one to ps order.ranks) none.0

      by : (issue : Option IssueNo) → pick_of ps (Moving from to) ≡ issue → planned ps from to (suc count) ≡ Err (low, high)
      by None picked = let z = none_left ps from to picked in absurd (omega (arith, z, more))
      by (Some issue) picked =
          let l = none.1 in
          let h = none.2 in
          first_step ps from to count (Some issue) None picked no_rank ∙ ap Err (λ i. (sym l i, sym h i))
  refusal_alone (m ∷ ms) (suc count) ps low high order agrees picks more none =
      let all = one_pick_keeps_all ps from to m order agrees picks.0 picks.1 in
      let fewer = all.fewer in
      picked_first ps m count order agrees picks.0 picks.1
      ∙ ap (behind_move m) (refusal_alone ms count (after_move ps m) low high all.order all.agrees picks.2 (omega (arith, more, fewer)) none)

pub step_is_computed_law : StepIsComputed
step_is_computed_law ps from to most order agrees = step_is_computed from to most ps order agrees

pub no_other_step : NoOtherStep
no_other_step ps from to most moves order agrees step = step_alone from to most ps moves order agrees step.picks step.count

pub no_other_refusal : NoOtherRefusal
no_other_refusal ps from to most low high order agrees stuck = refusal_alone from to stuck.done most ps low high order agrees stuck.picks stuck.more stuck.no_rank

-- what a plan answers
module _ (ps : List Pair) (b : Balance) (from to most : ℕ) (is : b ≡ Moving from to) (order : IsOrder ps) (agrees : Agrees ps b) where
  agrees_here : Agrees ps (Moving from to)
  agrees_here = subst (Agrees ps) is agrees

  pub plan_computed : (moves : List Move) → IsStep ps from (next_bucket from) most moves → planned ps (from_of b) (to_of b) most ≡ Ok moves
  plan_computed moves step =
      let P : Balance → Type 0 = λ x. planned ps (from_of x) (to_of x) most ≡ Ok moves in
      let here : P (Moving from to) =
      no_other_step ps from to most moves order agrees_here (subst (λ t. IsStep ps from t most moves) (sym agrees_here.1) step) in
      let there : P b = subst P (sym is) here in
      there

  pub plan_refused : (fault : RankFault) → ExplainsRefusal ps from (next_bucket from) most fault → IsRefusalOf (planned ps (from_of b) (to_of b) most) fault
  plan_refused (Exhausted low high) stuck =
      let P : Balance → Type 0 = λ x. planned ps (from_of x) (to_of x) most ≡ Err (low, high) in
      let here : P (Moving from to) =
      no_other_refusal ps from to most low high order agrees_here (subst (λ t. IsStuck ps from t most low high) (sym agrees_here.1) stuck) in
      let there : P b = subst P (sym is) here in
      there
  plan_refused Memory stuck = tt
