-- Ranks that a rebalancing gives stand 8,192 apart, so each has nine bytes and there is always room for the next.
use Rattle.std.proofs.Common.{◌≡◌, ℕ, zero, suc, ◌+◌, ◌-◌, ◌*◌, ◌<◌, ◌≤◌, ◌==◌, false, List, [], ◌∷◌, ◌⊎◌, length, set, Some, None, sym, ◌∙◌, ap, subst, inl, inr, arith}
use Rattle.std.specs.Prelude.{option_map, if◌then◌else◌}
use Rattle.std.proofs.lemmas.Bool.{cases_eq}
use Rattle.std.proofs.lemmas.Bool.Decides.{nat_tests}
use Rattle.std.proofs.lemmas.Option.{slice_get-get_or, slice_get_past}
use Rattle.tracker_limits.specs.Limits.{most_issues}
use Rattle.rank_strings.specs.Rank.{RankParts}
use Rattle.rank_strings.specs.Chosen.{number, IsChosen}
use Rattle.rank_strings.proofs.Unique.{stepped_up, stepped_down}
use Rattle.board.specs.Order.{Pair}
use Rattle.board.specs.Table.{nothing}
use Rattle.board.specs.Search.{rank_at}
use Rattle.board.specs.Place.{rank_above, rank_below}
use Rattle.rank_balancer.specs.Pick.{first_rank, IsNextRank}
use Rattle.rank_balancer.specs.Step.{after_move}
use Rattle.rank_balancer.proofs.Moved.{issue_at, rank_there, rank_elsewhere}
use Rattle.rank_balancer.proofs.Steps.{IsAfter, put}
use Rattle.rank_balancer.proofs.Plans.{fits_up, after_up, fits_down, after_down}

-- six digits alone, with this number
pub record IsPlain (r : RankParts) (n : ℕ) : Type 0 where
  pub alone : r.further ≡ []
  pub number_is : number r.front ≡ n

-- on the way up the ranks from the border on go down from `r00000` by 8,192
pub record SpacedUp (ps qs : List Pair) (from border : ℕ) : Type 0 where
  pub state : IsAfter ps qs from (from + 1) border
  pub spaced : (k gaps : ℕ) → border ≤ k → k + gaps + 1 ≡ length ps → ((rank_at qs k).further ≡ []) × (number (rank_at qs k).front + 8192 * gaps ≡ 1632586752)

-- and on the way down those up to the border go up from `900000`
pub record SpacedDown (ps qs : List Pair) (border : ℕ) : Type 0 where
  pub state : IsAfter ps qs 0 2 border
  pub spaced : (k : ℕ) → k < border → ((rank_at qs k).further ≡ []) × (number (rank_at qs k).front ≡ 544195584 + 8192 * k)

module _ (ps qs : List Pair) (from place : ℕ) (few : length ps ≤ most_issues) (low : from < 2) (was : SpacedUp ps qs from (place + 1)) (rank : RankParts) (next : IsNextRank (from + 1) (rank_below qs (place + 1)) rank) where
  new_up : (gaps : ℕ) → place + gaps + 1 ≡ length ps → (rank.further ≡ []) × (number rank.front + 8192 * gaps ≡ 1632586752)
  new_up zero is =
      let state = was.state in
      let n = state.len in
      let none : rank_below qs (place + 1) ≡ None = ap (option_map (λ (p : Pair). p.0)) (slice_get_past qs (place + 1) (omega (arith, n))) in
      let first : rank ≡ first_rank (from + 1) = subst (λ o. IsNextRank (from + 1) o rank) none next in
      let test : ((from + 1) == 0) ≡ false = grind (arith, nat_tests) in
      let front : rank.front ≡ 27 ∷ 0 ∷ 0 ∷ 0 ∷ 0 ∷ 0 ∷ [] = ap (λ (r : RankParts). r.front) first ∙ ap (λ b. (if b then 9 else 27) ∷ 0 ∷ 0 ∷ 0 ∷ 0 ∷ 0 ∷ []) test in
      let value : number rank.front ≡ 1632586752 = ap number front in
      (ap (λ (r : RankParts). r.further) first, omega (arith, value))
  new_up (suc gaps) is =
      let state = was.state in
      let n = state.len in
      let some : rank_below qs (place + 1) ≡ Some (rank_at qs (place + 1)) = ap (option_map (λ (p : Pair). p.0)) (slice_get-get_or qs (place + 1) nothing (omega (arith, n))) in
      let test : ((from + 1) == 0) ≡ false = grind (arith, nat_tests) in
      let given : IsNextRank (from + 1) (Some (rank_at qs (place + 1))) rank = subst (λ o. IsNextRank (from + 1) o rank) some next in
      let chosen : IsChosen None (Some (rank_at qs (place + 1))) (from + 1) rank = rw test at given in
      let beside = was.spaced (place + 1) gaps (omega arith) (omega arith) in
      let far = beside.1 in
      let stepped = stepped_down (rank_at qs (place + 1)) (from + 1) rank (omega (arith, far, few, is)) chosen in
      let step = stepped.0 in
      (stepped.1, omega (arith, step, far))

  pub spaced_up : SpacedUp ps (after_move qs (issue_at ps place, rank)) from place
  spaced_up = record {
    state = after_up ps qs from place rank low was.state next;
    spaced = λ k gaps ge is. by k gaps ge is (cases_eq k place);
  }
    where
      same : (k : ℕ) → rank_at (after_move qs (issue_at ps place, rank)) k ≡ rank_at (set qs place (rank, issue_at qs place)) k
      same k = ap (λ (xs : List Pair). rank_at xs k) (put ps qs from (from + 1) (place + 1) place rank was.state (fits_up ps qs from place rank low was.state next))

      by : (k gaps : ℕ) → place ≤ k → k + gaps + 1 ≡ length ps → (k ≡ place) ⊎ (k ≡ place → ⊥) → ((rank_at (after_move qs (issue_at ps place, rank)) k).further ≡ []) × (number (rank_at (after_move qs (issue_at ps place, rank)) k).front + 8192 * gaps ≡ 1632586752)
      by k gaps ge is (inl e) =
          let at : rank ≡ rank_at (after_move qs (issue_at ps place, rank)) k = sym (same k ∙ ap (rank_at (set qs place (rank, issue_at qs place))) e ∙ rank_there qs was.state.order place rank (fits_up ps qs from place rank low was.state next)) in
          subst (λ (r : RankParts). (r.further ≡ []) × (number r.front + 8192 * gaps ≡ 1632586752)) at (new_up gaps (omega (arith, e, is)))
      by k gaps ge is (inr e) =
          let at : rank_at qs k ≡ rank_at (after_move qs (issue_at ps place, rank)) k = sym (same k ∙ rank_elsewhere qs was.state.order place rank (fits_up ps qs from place rank low was.state next) k e) in
          subst (λ (r : RankParts). (r.further ≡ []) × (number r.front + 8192 * gaps ≡ 1632586752)) at (was.spaced k gaps (omega arith) is)

module _ (ps qs : List Pair) (place : ℕ) (few : length ps ≤ most_issues) (was : SpacedDown ps qs place) (lt : place < length ps) (rank : RankParts) (next : IsNextRank 0 (rank_above qs place) rank) where
  in_qs : place < length qs
  in_qs = let state = was.state in let n = state.len in omega (arith, n, lt)

  new_down : (rank.further ≡ []) × (number rank.front ≡ 544195584 + 8192 * place)
  new_down = by (place - 1) (cases_eq place 0)
    where
      by : (j : ℕ) → (place ≡ 0) ⊎ (place ≡ 0 → ⊥) → (rank.further ≡ []) × (number rank.front ≡ 544195584 + 8192 * place)
      by j (inl e) =
          let first : rank ≡ first_rank 0 = subst (λ o. IsNextRank 0 o rank) (ap (rank_above qs) e) next in
          let value : number rank.front ≡ 544195584 = ap (λ (r : RankParts). number r.front) first in
          (ap (λ (r : RankParts). r.further) first, omega (arith, value, e))
      by j (inr e) = step (place - 1) (omega arith)
        where
          step : (j : ℕ) → place ≡ suc j → (rank.further ≡ []) × (number rank.front ≡ 544195584 + 8192 * place)
          step j is =
              let inside = in_qs in
              let some : rank_above qs place ≡ Some (rank_at qs j) = ap (rank_above qs) is ∙ ap (option_map (λ (p : Pair). p.0)) (slice_get-get_or qs j nothing (omega (arith, inside))) in
              let chosen : IsChosen (Some (rank_at qs j)) None 0 rank = subst (λ o. IsNextRank 0 o rank) some next in
              let beside = was.spaced j (omega arith) in
              let far = beside.1 in
              let stepped = stepped_up (rank_at qs j) 0 rank (omega (arith, far, few, lt, is)) chosen in
              let up = stepped.0 in
              (stepped.1, omega (arith, up, far, is))

  pub spaced_down : SpacedDown ps (after_move qs (issue_at ps place, rank)) (place + 1)
  spaced_down = record {
    state = after_down ps qs place rank was.state in_qs next;
    spaced = λ k less. by k less (cases_eq k place);
  }
    where
      same : (k : ℕ) → rank_at (after_move qs (issue_at ps place, rank)) k ≡ rank_at (set qs place (rank, issue_at qs place)) k
      same k = ap (λ (xs : List Pair). rank_at xs k) (put ps qs 0 2 place place rank was.state (fits_down ps qs place rank was.state in_qs next))

      by : (k : ℕ) → k < place + 1 → (k ≡ place) ⊎ (k ≡ place → ⊥) → ((rank_at (after_move qs (issue_at ps place, rank)) k).further ≡ []) × (number (rank_at (after_move qs (issue_at ps place, rank)) k).front ≡ 544195584 + 8192 * k)
      by k less (inl e) =
          let at : rank ≡ rank_at (after_move qs (issue_at ps place, rank)) k = sym (same k ∙ ap (rank_at (set qs place (rank, issue_at qs place))) e ∙ rank_there qs was.state.order place rank (fits_down ps qs place rank was.state in_qs next)) in
          subst (λ (r : RankParts). (r.further ≡ []) × (number r.front ≡ 544195584 + 8192 * k)) at (subst (λ j. (rank.further ≡ []) × (number rank.front ≡ 544195584 + 8192 * j)) (sym e) new_down)
      by k less (inr e) =
          let at : rank_at qs k ≡ rank_at (after_move qs (issue_at ps place, rank)) k = sym (same k ∙ rank_elsewhere qs was.state.order place rank (fits_down ps qs place rank was.state in_qs next) k e) in
          subst (λ (r : RankParts). (r.further ≡ []) × (number r.front ≡ 544195584 + 8192 * k)) at (was.spaced k (omega arith))
