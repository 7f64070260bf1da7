-- The picks of a step, one after the other.
use Rattle.std.proofs.Common.{◌≡◌, ℕ, zero, suc, ◌+◌, ◌-◌, ◌<◌, ◌≤◌, ◌==◌, true, false, List, [], ◌∷◌, ◌++◌, ◌⊎◌, length, min, get_or, Option, Some, None, refl, sym, ◌∙◌, ap, subst, inl, inr, arith}
use Rattle.std.specs.Prelude.{option_map, if◌then◌else◌}
use Rattle.std.specs.declared.cmp.Ordering.TheVariants.{Less}
use Rattle.std.proofs.lemmas.Bool.{cases_eq, cases_Bool}
use Rattle.std.proofs.lemmas.Bool.Decides.{nat_tests}
use Rattle.std.proofs.lemmas.Option.{slice_get-get_or}
use Rattle.rank_strings.specs.Rank.{RankParts, IsRank, AreDigits, rank_cmp}
use Rattle.rank_strings.specs.Total.{rank_cmp-total}
use Rattle.rank_strings.specs.Chosen.{IsChosen}
use Rattle.board.specs.Order.{Pair}
use Rattle.board.specs.Table.{nothing}
use Rattle.board.specs.Search.{rank_at}
use Rattle.board.specs.Place.{rank_above, rank_below}
use Rattle.board.proofs.Placing.{less_by_bucket}
use Rattle.rank_balancer.specs.declared.balance.Balance.TheVariants.{Moving}
use Rattle.rank_balancer.specs.Border.{IsParted}
use Rattle.rank_balancer.specs.Pick.{pick_of, first_rank, neighbour_in, IsNextRank, ExplainsNoNext}
use Rattle.rank_balancer.specs.Step.{Move, after_move, after_moves, ArePicks, left_in, neighbour_after, IsStuck, ExplainsRefusal}
use Rattle.rank_strings.specs.declared.fault.RankFault.{RankFault}
use Rattle.rank_strings.specs.declared.fault.RankFault.TheVariants.{Exhausted, Memory}
use Rattle.rank_balancer.proofs.Moved.{issue_at, FitsAt, rank_there}
use Rattle.rank_balancer.proofs.Steps.{IsAfter, first_in-parted, last_in-parted, last_in-parted_none, left_in-low, left_in-high, goes_down, goes_up, put}

-- one more pick
pub after_moves-push : (ps : List Pair) (ms : List Move) (m : Move) → after_moves ps (ms ++ m ∷ []) ≡ after_move (after_moves ps ms) m
after_moves-push ps [] m = refl
after_moves-push ps (n ∷ ms) m = after_moves-push (after_move ps n) ms m

pub ArePicks-push : (ps : List Pair) (from to : ℕ) (ms : List Move) (m : Move) → ArePicks ps from to ms → pick_of (after_moves ps ms) (Moving from to) ≡ Some m.0 → IsNextRank to (neighbour_in to (after_moves ps ms)) m.1 → ArePicks ps from to (ms ++ m ∷ [])
ArePicks-push ps from to [] m picks picked next = (picked, next, tt)
ArePicks-push ps from to (n ∷ ms) m picks picked next = (picks.0, picks.1, ArePicks-push (after_move ps n) from to ms m picks.2 picked next)

pub neighbour_after-push : (ms : List Move) (m : Move) (first : Option RankParts) → neighbour_after (ms ++ m ∷ []) first ≡ Some m.1
neighbour_after-push [] m first = refl
neighbour_after-push (n ∷ ms) m first = neighbour_after-push ms m (Some n.1)

-- the first rank of a bucket is a rank
pub six_digits : (x : ℕ) → x < 36 → AreDigits (x ∷ 0 ∷ 0 ∷ 0 ∷ 0 ∷ 0 ∷ [])
six_digits x lt zero d h = lt
six_digits x lt (suc zero) d h = omega arith
six_digits x lt (suc (suc zero)) d h = omega arith
six_digits x lt (suc (suc (suc zero))) d h = omega arith
six_digits x lt (suc (suc (suc (suc zero)))) d h = omega arith
six_digits x lt (suc (suc (suc (suc (suc zero))))) d h = omega arith
six_digits x lt (suc (suc (suc (suc (suc (suc k)))))) d h = absurd (omega arith)

pub first_is_rank : (to : ℕ) → to < 3 → IsRank (first_rank to)
first_is_rank to lt = by (cases_Bool (to == 0))
  where
    of_digit : (x : ℕ) → 0 < x → x < 36 → IsRank (record { bucket = to; front = x ∷ 0 ∷ 0 ∷ 0 ∷ 0 ∷ 0 ∷ []; further = [] })
    of_digit x some digit = record {
      in_circle = lt;
      front_digits = six_digits x digit;
      front_length = refl;
      further_digits = λ k d h. absurd (omega arith);
      further_length = omega arith;
      no_last_zero = omega arith;
      not_zero = λ e same. let first : x ≡ 0 = ap (λ (ds : List ℕ). get_or ds 0 0) same in omega arith;
    }

    by : ((to == 0) ≡ true) ⊎ ((to == 0) ≡ false) → IsRank (first_rank to)
    by (inl is) = rw is (of_digit 9 (omega arith) (omega arith))
    by (inr is) = rw is (of_digit 27 (omega arith) (omega arith))

pub next_is_rank : (to : ℕ) (n : Option RankParts) (rank : RankParts) → to < 3 → IsNextRank to n rank → IsRank rank × (rank.bucket ≡ to)
next_is_rank to None rank lt next = (subst IsRank (sym next) (first_is_rank to lt), ap (λ (r : RankParts). r.bucket) next)
next_is_rank to (Some r) rank lt next = (next.between.is_rank, next.between.in_bucket)

-- on the way up
module _ (ps mid : List Pair) (from place : ℕ) (rank : RankParts) (low : from < 2) (was : IsAfter ps mid from (from + 1) (place + 1)) (next : IsNextRank (from + 1) (rank_below mid (place + 1)) rank) where
  up_test : ((from + 1) == 0) ≡ false
  up_test = grind (arith, nat_tests)

  pub neighbour_up : neighbour_in (from + 1) mid ≡ rank_below mid (place + 1)
  neighbour_up = rw up_test (ap (option_map (λ (p : Pair). p.0)) (first_in-parted mid from (from + 1) (place + 1) was.parted (omega arith)))

  pub pick_up : pick_of mid (Moving from (from + 1)) ≡ Some (issue_at ps place)
  pick_up =
      let test : (from == 2) ≡ false = grind (arith, nat_tests) in
      rw test (ap (option_map (λ (p : Pair). p.1)) (last_in-parted mid from (from + 1) place was.parted (omega arith)) ∙ ap Some (was.issues place))

  facts_up : IsRank rank × (rank.bucket ≡ from + 1)
  facts_up = next_is_rank (from + 1) (rank_below mid (place + 1)) rank (omega arith) next

  above_up : (k : ℕ) → place < k → k < length mid → rank_cmp rank (rank_at mid k) ≡ Less
  above_up k ge lt =
      let got : rank_below mid (place + 1) ≡ Some (rank_at mid (place + 1)) = ap (option_map (λ (p : Pair). p.0)) (slice_get-get_or mid (place + 1) nothing (omega arith)) in
      let chosen : IsChosen (if (from + 1) == 0 then Some (rank_at mid (place + 1)) else None) (if (from + 1) == 0 then None else Some (rank_at mid (place + 1))) (from + 1) rank = rw got at next in
      let below : rank_cmp rank (rank_at mid (place + 1)) ≡ Less = (rw up_test at chosen).between.below_high in
      by (cases_eq k (place + 1)) below
    where
      by : (k ≡ place + 1) ⊎ (k ≡ place + 1 → ⊥) → rank_cmp rank (rank_at mid (place + 1)) ≡ Less → rank_cmp rank (rank_at mid k) ≡ Less
      by (inl e) below = ap (λ j. rank_cmp rank (rank_at mid j)) e ∙ below
      by (inr e) below = rank_cmp-total.trans rank (rank_at mid (place + 1)) (rank_at mid k) below (was.order.rising (place + 1) k nothing (omega arith) lt)

  pub fits_up : FitsAt mid place rank
  fits_up = record {
    in_range = let n = was.parted.in_range in omega (arith, n);
    is_rank = facts_up.0;
    below = λ k lt. let b = was.parted.below k (omega arith) in let r = facts_up.1 in less_by_bucket (rank_at mid k) rank (omega (arith, b, r));
    above = above_up;
  }

  pub after_up : IsAfter ps (after_move mid (issue_at ps place, rank)) from (from + 1) place
  after_up = goes_down ps mid from (from + 1) (place + 1) place rank was fits_up refl facts_up.1

  pub next_up : rank_below (after_move mid (issue_at ps place, rank)) place ≡ Some rank
  next_up =
      let state = after_up in
      let n = state.len in
      let m = was.len in
      let lt = fits_up.in_range in
      ap (option_map (λ (p : Pair). p.0)) (slice_get-get_or (after_move mid (issue_at ps place, rank)) place nothing (omega (arith, n, m, lt)))
      ∙ ap Some (ap (λ (xs : List Pair). rank_at xs place) (put ps mid from (from + 1) (place + 1) place rank was fits_up) ∙ rank_there mid was.order place rank fits_up)

-- one more pick on the way up
pub record PlansUp (ps : List Pair) (from border place : ℕ) (ms : List Move) : Type 0 where
  pub picks : ArePicks ps from (from + 1) ms
  pub state : IsAfter ps (after_moves ps ms) from (from + 1) place
  pub neighbour : neighbour_after ms (rank_below ps border) ≡ rank_below (after_moves ps ms) place

pub plans_up : (ps : List Pair) (from border place : ℕ) (ms : List Move) (rank : RankParts) → from < 2 → PlansUp ps from border (place + 1) ms → IsNextRank (from + 1) (neighbour_after ms (rank_below ps border)) rank →
    PlansUp ps from border place (ms ++ (issue_at ps place, rank) ∷ [])
plans_up ps from border place ms rank low was next =
    let mid = after_moves ps ms in
    let given : IsNextRank (from + 1) (rank_below mid (place + 1)) rank = subst (λ n. IsNextRank (from + 1) n rank) was.neighbour next in
    let m : Move = (issue_at ps place, rank) in
    let pushed = after_moves-push ps ms m in
    record {
      picks = ArePicks-push ps from (from + 1) ms m was.picks (pick_up ps mid from place rank low was.state given) (subst (λ n. IsNextRank (from + 1) n rank) (sym (neighbour_up ps mid from place rank low was.state given)) given);
      state = subst (λ xs. IsAfter ps xs from (from + 1) place) (sym pushed) (after_up ps mid from place rank low was.state given);
      neighbour = neighbour_after-push ms m (rank_below ps border) ∙ sym (ap (λ xs. rank_below xs place) pushed ∙ next_up ps mid from place rank low was.state given);
    }

-- no rank is left for a pick on the way up
pub stuck_up : (ps : List Pair) (from border place most : ℕ) (ms : List Move) (low high : Option RankParts) → from < 2 → PlansUp ps from border (place + 1) ms → length ms < min most (left_in from ps) →
    ExplainsNoNext (from + 1) (neighbour_after ms (rank_below ps border)) (Exhausted low high) → IsStuck ps from (from + 1) most low high
stuck_up ps from border place most ms low high below was more no_rank =
    let mid = after_moves ps ms in
    let state = was.state in
    let is : neighbour_in (from + 1) mid ≡ rank_below mid (place + 1) =
    (let test : ((from + 1) == 0) ≡ false = grind (arith, nat_tests) in rw test (ap (option_map (λ (p : Pair). p.0)) (first_in-parted mid from (from + 1) (place + 1) state.parted (omega arith)))) in
    record { done = ms; picks = was.picks; more = more; no_rank = subst (λ n. ExplainsNoNext (from + 1) n (Exhausted low high)) (was.neighbour ∙ sym is) no_rank }

pub refused_up : (ps : List Pair) (from border place most : ℕ) (ms : List Move) (fault : RankFault) → from < 2 → IsParted ps from (from + 1) border → PlansUp ps from border (place + 1) ms → length ms < most → most ≤ border →
    ExplainsNoNext (from + 1) (neighbour_after ms (rank_below ps border)) fault → ExplainsRefusal ps from (from + 1) most fault
refused_up ps from border place most ms (Exhausted low high) below parted was more le no_rank =
    let left = left_in-low ps from (from + 1) border parted (omega arith) in
    stuck_up ps from border place most ms low high below was (omega (arith, left)) no_rank
refused_up ps from border place most ms Memory below parted was more le no_rank = tt

pub neighbour_after-last : (ms : List Move) (first : Option RankParts) (d : Move) → 0 < length ms → neighbour_after ms first ≡ Some (get_or ms (length ms - 1) d).1
neighbour_after-last [] first d some = absurd (omega arith)
neighbour_after-last (m ∷ []) first d some = refl
neighbour_after-last (m ∷ n ∷ ms) first d some =
    let k : length (m ∷ n ∷ ms) - 1 ≡ suc (length (n ∷ ms) - 1) = omega arith in
    neighbour_after-last (n ∷ ms) (Some m.1) d (omega arith) ∙ ap Some (ap (λ j. (get_or (m ∷ n ∷ ms) j d).1) (sym k))

-- on the way from bucket 2 down to 0
module _ (ps mid : List Pair) (place : ℕ) (rank : RankParts) (was : IsAfter ps mid 0 2 place) (lt : place < length mid) (next : IsNextRank 0 (rank_above mid place) rank) where
  pub pick_down : pick_of mid (Moving 2 0) ≡ Some (issue_at ps place)
  pick_down =
      ap (option_map (λ (p : Pair). p.1)) (first_in-parted mid 0 2 place was.parted (omega arith) ∙ slice_get-get_or mid place nothing lt) ∙ ap Some (was.issues place)

  facts_down : IsRank rank × (rank.bucket ≡ 0)
  facts_down = next_is_rank 0 (rank_above mid place) rank (omega arith) next

  below_down : (k : ℕ) → k < place → rank_cmp (rank_at mid k) rank ≡ Less
  below_down k less = by (place - 1) (omega arith)
    where
      along : (j : ℕ) → place ≡ suc j → rank_cmp (rank_at mid j) rank ≡ Less → (k ≡ j) ⊎ (k ≡ j → ⊥) → rank_cmp (rank_at mid k) rank ≡ Less
      along j is below (inl e) = ap (λ i. rank_cmp (rank_at mid i) rank) e ∙ below
      along j is below (inr e) = rank_cmp-total.trans (rank_at mid k) (rank_at mid j) rank (was.order.rising k j nothing (omega arith) (omega arith)) below

      by : (j : ℕ) → place ≡ suc j → rank_cmp (rank_at mid k) rank ≡ Less
      by j is =
          let got : rank_above mid place ≡ Some (rank_at mid j) = ap (rank_above mid) is ∙ ap (option_map (λ (p : Pair). p.0)) (slice_get-get_or mid j nothing (omega arith)) in
          let chosen : IsChosen (Some (rank_at mid j)) None 0 rank = subst (λ n. IsNextRank 0 n rank) got next in
          along j is chosen.between.above_low (cases_eq k j)

  pub fits_down : FitsAt mid place rank
  fits_down = record {
    in_range = lt;
    is_rank = facts_down.0;
    below = below_down;
    above = λ k more in_range. let b = was.parted.above k (omega arith) in_range in let r = facts_down.1 in less_by_bucket rank (rank_at mid k) (omega (arith, b, r));
  }

  pub after_down : IsAfter ps (after_move mid (issue_at ps place, rank)) 0 2 (place + 1)
  after_down = goes_up ps mid 0 2 place place rank was fits_down refl facts_down.1

  pub next_down : rank_above (after_move mid (issue_at ps place, rank)) (suc place) ≡ Some rank
  next_down =
      let state = after_down in
      let n = state.len in
      let m = was.len in
      ap (option_map (λ (p : Pair). p.0)) (slice_get-get_or (after_move mid (issue_at ps place, rank)) place nothing (omega (arith, n, m, lt)))
      ∙ ap Some (ap (λ (xs : List Pair). rank_at xs place) (put ps mid 0 2 place place rank was fits_down) ∙ rank_there mid was.order place rank fits_down)

pub neighbour_down : (mid : List Pair) (place : ℕ) → IsParted mid 0 2 place → neighbour_in 0 mid ≡ rank_above mid place
neighbour_down mid zero parted = ap (option_map (λ (p : Pair). p.0)) (last_in-parted_none mid 0 2 parted (omega arith))
neighbour_down mid (suc k) parted =
    let n = parted.in_range in
    let is : suc k ≡ k + 1 = omega arith in
    ap (option_map (λ (p : Pair). p.0)) (last_in-parted mid 0 2 k (subst (IsParted mid 0 2) is parted) (omega arith) ∙ sym (slice_get-get_or mid k nothing (omega (arith, n))))

pub record PlansDown (ps : List Pair) (border place : ℕ) (ms : List Move) : Type 0 where
  pub picks : ArePicks ps 2 0 ms
  pub state : IsAfter ps (after_moves ps ms) 0 2 place
  pub neighbour : neighbour_after ms (rank_above ps border) ≡ rank_above (after_moves ps ms) place

pub plans_down : (ps : List Pair) (border place : ℕ) (ms : List Move) (rank : RankParts) → place < length ps → PlansDown ps border place ms → IsNextRank 0 (neighbour_after ms (rank_above ps border)) rank →
    PlansDown ps border (place + 1) (ms ++ (issue_at ps place, rank) ∷ [])
plans_down ps border place ms rank in_range was next =
    let mid = after_moves ps ms in
    let state = was.state in
    let n = state.len in
    let lt : place < length mid = omega (arith, n) in
    let given : IsNextRank 0 (rank_above mid place) rank = subst (λ n. IsNextRank 0 n rank) was.neighbour next in
    let m : Move = (issue_at ps place, rank) in
    let pushed = after_moves-push ps ms m in
    let is : suc place ≡ place + 1 = omega arith in
    record {
      picks = ArePicks-push ps 2 0 ms m was.picks (pick_down ps mid place rank state lt given) (subst (λ n. IsNextRank 0 n rank) (sym (neighbour_down mid place state.parted)) given);
      state = subst (λ xs. IsAfter ps xs 0 2 (place + 1)) (sym pushed) (after_down ps mid place rank state lt given);
      neighbour = neighbour_after-push ms m (rank_above ps border) ∙ sym (ap (rank_above (after_moves ps (ms ++ m ∷ []))) (sym is) ∙ ap (λ xs. rank_above xs (suc place)) pushed ∙ next_down ps mid place rank state lt given);
    }

pub refused_down : (ps : List Pair) (border place most : ℕ) (ms : List Move) (fault : RankFault) → IsParted ps 0 2 border → PlansDown ps border place ms → length ms < most → most + border ≤ length ps →
    ExplainsNoNext 0 (neighbour_after ms (rank_above ps border)) fault → ExplainsRefusal ps 2 0 most fault
refused_down ps border place most ms (Exhausted low high) parted was more le no_rank =
    let mid = after_moves ps ms in
    let left = left_in-high ps 0 2 border parted (omega arith) in
    let state = was.state in
    record { done = ms; picks = was.picks; more = omega (arith, left); no_rank = subst (λ n. ExplainsNoNext 0 n (Exhausted low high)) (was.neighbour ∙ sym (neighbour_down mid place state.parted)) no_rank }
refused_down ps border place most ms Memory parted was more le no_rank = tt
