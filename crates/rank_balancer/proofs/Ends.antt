-- Steps of one count end a rebalancing.
use Rattle.std.proofs.Common.{◌≡◌, ◌≢◌, ℕ, zero, suc, ◌+◌, ◌-◌, ◌*◌, ◌/◌, ◌<◌, ◌≤◌, ◌==◌, min, true, false, List, [], ◌∷◌, ◌⊎◌, length, get_or, Option, Some, None, refl, sym, ◌∙◌, ap, subst, inl, inr, add-one, arith}
use Rattle.std.specs.Prelude.{option_map, All, if◌then◌else◌}
use Rattle.std.proofs.lemmas.Bool.{cases_eq, cases_lt}
use Rattle.std.proofs.lemmas.Bool.Decides.{nat_tests}
use Rattle.std.proofs.lemmas.List.{get_or_default}
use Rattle.std.proofs.lemmas.Option.{slice_get-get_or, slice_get_past}
use Rattle.std.proofs.Math.Nat.{mul-suc, suc-mul, zero-mul, mul_comm, mul-le-mul_left, mul-div-le, lt-mul-div-succ}
use Rattle.tracker_limits.specs.Limits.{most_issues}
use Rattle.rank_strings.specs.Rank.{RankParts, IsRank, AreDigits}
use Rattle.rank_strings.specs.Text.{rank_text}
use Rattle.rank_strings.specs.Chosen.{number}
use Rattle.rank_strings.proofs.Unique.{length-six}
use Rattle.rank_strings.proofs.Neighbours.{below-number}
use Rattle.board.specs.Order.{Pair, IsOrder}
use Rattle.board.specs.Table.{nothing}
use Rattle.board.specs.Search.{rank_at}
use Rattle.board.specs.Place.{rank_above, rank_below}
use Rattle.rank_balancer.specs.declared.balance.Balance.{Balance}
use Rattle.rank_balancer.specs.declared.balance.Balance.TheVariants.{Idle, Moving}
use Rattle.rank_balancer.specs.Balance.{next_bucket, Agrees, IsMoving, from_of, to_of}
use Rattle.rank_balancer.specs.Pick.{pick_of, neighbour_in, IsNextRank, HasNoNextRank}
use Rattle.rank_balancer.specs.Step.{Move, after_move, after_moves, ArePicks, IsStuck, left_in, balance_after}
use Rattle.rank_balancer.specs.Laws.{StepsLead, steps_for, IsOnTheWay, StepsEnd}
use Rattle.rank_balancer.proofs.Moved.{issue_at}
use Rattle.rank_balancer.proofs.Steps.{first_in-parted, last_in-parted_none, left_in-low, left_in-high}
use Rattle.rank_balancer.proofs.Plans.{six_digits, pick_up, pick_down, neighbour_down}
use Rattle.rank_balancer.proofs.Keeps.{neighbour_at, same_move, at_first, to_up}
use Rattle.rank_balancer.proofs.Spacing.{SpacedUp, SpacedDown, spaced_up, spaced_down}

-- some picks on the way up
pub moves_up : (ps qs : List Pair) (from border : ℕ) (moves : List Move) → length ps ≤ most_issues → from < 2 → SpacedUp ps qs from border → ArePicks qs from (from + 1) moves →
    (left : ℕ) × (left + length moves ≡ border) × SpacedUp ps (after_moves qs moves) from left
moves_up ps qs from border [] few low was picks = (border, omega arith, was)
moves_up ps qs from zero (m ∷ ms) few low was picks =
    let test : (from == 2) ≡ false = grind (arith, nat_tests) in
    let state = was.state in
    let none : pick_of qs (Moving from (from + 1)) ≡ None = rw test (ap (option_map (λ (p : Pair). p.1)) (last_in-parted_none qs from (from + 1) state.parted (omega arith))) in
    let some = picks.0 in
    absurd (cc)
moves_up ps qs from (suc place) (m ∷ ms) few low was picks =
    let is : suc place ≡ place + 1 = omega arith in
    let at : SpacedUp ps qs from (place + 1) = subst (SpacedUp ps qs from) is was in
    let state = at.state in
    let next : IsNextRank (from + 1) (rank_below qs (place + 1)) m.1 = subst (λ n. IsNextRank (from + 1) n m.1) (neighbour_at qs from (place + 1) state.parted) picks.1 in
    let own = same_move m (issue_at ps place) (sym (pick_up ps qs from place m.1 low state next) ∙ picks.0) in
    let one : SpacedUp ps (after_move qs m) from place = subst (λ (n : Move). SpacedUp ps (after_move qs n) from place) own (spaced_up ps qs from place few low at m.1 next) in
    let rest = moves_up ps (after_move qs m) from place ms few low one picks.2 in
    let n = rest.1 in
    (rest.0, omega (arith, n), rest.2)

-- some picks on the way down
pub moves_down : (ps qs : List Pair) (border : ℕ) (moves : List Move) → length ps ≤ most_issues → SpacedDown ps qs border → ArePicks qs 2 0 moves →
    (done : ℕ) × (border + length moves ≡ done) × SpacedDown ps (after_moves qs moves) done
moves_down ps qs border [] few was picks = (border, omega arith, was)
moves_down ps qs border (m ∷ ms) few was picks = by (cases_lt border (length ps)) (moves_down ps (after_move qs m) (border + 1) ms few)
  where
    by : (border < length ps) ⊎ (length ps ≤ border) → (SpacedDown ps (after_move qs m) (border + 1) → ArePicks (after_move qs m) 2 0 ms → (done : ℕ) × (border + 1 + length ms ≡ done) × SpacedDown ps (after_moves (after_move qs m) ms) done) →
        (done : ℕ) × (border + length (m ∷ ms) ≡ done) × SpacedDown ps (after_moves qs (m ∷ ms)) done
    by (inr ge) rest =
        let state = was.state in
        let n = state.len in
        let none : pick_of qs (Moving 2 0) ≡ None = ap (option_map (λ (p : Pair). p.1)) (first_in-parted qs 0 2 border state.parted (omega arith) ∙ slice_get_past qs border (omega (arith, n, ge))) in
        let some = picks.0 in
        absurd (cc)
    by (inl lt) rest =
        let state = was.state in
        let n = state.len in
        let inside : border < length qs = omega (arith, n, lt) in
        let next : IsNextRank 0 (rank_above qs border) m.1 = subst (λ o. IsNextRank 0 o m.1) (neighbour_down qs border state.parted) picks.1 in
        let own = same_move m (issue_at ps border) (sym (pick_down ps qs border m.1 state inside next) ∙ picks.0) in
        let one : SpacedDown ps (after_move qs m) (border + 1) = subst (λ (o : Move). SpacedDown ps (after_move qs o) (border + 1)) own (spaced_down ps qs border few was lt m.1 next) in
        let tail = rest one picks.2 in
        let d = tail.1 in
        (tail.0, omega (arith, d), tail.2)

-- there is a rank below each that isn't the least
room_up : (to : ℕ) (h : RankParts) → 0 < to → to < 3 → IsRank h → h.bucket ≡ to → 1 < number h.front → HasNoNextRank to (Some h) → ⊥
room_up to h some lt is_rank bucket more none =
    let test : (to == 0) ≡ false = grind (arith, nat_tests) in
    let closed = rw test at none in
    closed (record { bucket = to; front = 0 ∷ 0 ∷ 0 ∷ 0 ∷ 0 ∷ 1 ∷ []; further = [] })
    (record { is_rank = least; in_bucket = refl; above_low = tt; below_high = below-number (record { bucket = to; front = 0 ∷ 0 ∷ 0 ∷ 0 ∷ 0 ∷ 1 ∷ []; further = [] }) h least is_rank (sym bucket) more })
  where
    digits : AreDigits (0 ∷ 0 ∷ 0 ∷ 0 ∷ 0 ∷ 1 ∷ [])
    digits zero d h = omega arith
    digits (suc zero) d h = omega arith
    digits (suc (suc zero)) d h = omega arith
    digits (suc (suc (suc zero))) d h = omega arith
    digits (suc (suc (suc (suc zero)))) d h = omega arith
    digits (suc (suc (suc (suc (suc zero))))) d h = omega arith
    digits (suc (suc (suc (suc (suc (suc k)))))) d h = absurd (omega arith)

    least : IsRank (record { bucket = to; front = 0 ∷ 0 ∷ 0 ∷ 0 ∷ 0 ∷ 1 ∷ []; further = [] })
    least = record {
      in_circle = lt;
      front_digits = digits;
      front_length = refl;
      further_digits = λ k d h. absurd (omega arith);
      further_length = omega arith;
      no_last_zero = omega arith;
      not_zero = λ e same. let last : 1 ≡ 0 = ap (λ (ds : List ℕ). get_or ds 5 0) same in omega arith;
    }

-- and one above each that isn't the greatest
room_down : (l : RankParts) → IsRank l → l.bucket ≡ 0 → number l.front < 2116316160 → HasNoNextRank 0 (Some l) → ⊥
room_down l is_rank bucket less none =
    none (record { bucket = 0; front = 35 ∷ 0 ∷ 0 ∷ 0 ∷ 0 ∷ 0 ∷ []; further = [] })
    (record { is_rank = great; in_bucket = refl; above_low = below-number l (record { bucket = 0; front = 35 ∷ 0 ∷ 0 ∷ 0 ∷ 0 ∷ 0 ∷ []; further = [] }) is_rank great bucket less; below_high = tt })
  where
    great : IsRank (record { bucket = 0; front = 35 ∷ 0 ∷ 0 ∷ 0 ∷ 0 ∷ 0 ∷ []; further = [] })
    great = record {
      in_circle = omega arith;
      front_digits = six_digits 35 (omega arith);
      front_length = refl;
      further_digits = λ k d h. absurd (omega arith);
      further_length = omega arith;
      no_last_zero = omega arith;
      not_zero = λ e same. let first : 35 ≡ 0 = ap (λ (ds : List ℕ). get_or ds 0 0) same in omega arith;
    }

mul-add-one : (m n : ℕ) → m * (n + 1) ≡ m * n + m
mul-add-one m n = ap (λ k. m * k) (add-one n) ∙ mul-suc m n

-- an order on the way, with so many ranks left in the old bucket
State : List Pair → ℕ → ℕ → List Pair → ℕ → Type 0
State ps from to qs left =
    ((from < 2) × (to ≡ from + 1) × SpacedUp ps qs from left) ⊎ ((from ≡ 2) × (to ≡ 0) × ((done : ℕ) × (done + left ≡ length ps) × SpacedDown ps qs done))

module _ (ps : List Pair) (few : length ps ≤ most_issues) (from to : ℕ) where
  state_left : (qs : List Pair) (left : ℕ) → State ps from to qs left → left_in from qs ≡ left
  unfolding State
  state_left qs left (inl up) = let state = up.2.state in left_in-low qs from (from + 1) left state.parted (omega arith)
  state_left qs left (inr down) =
      let state = down.2.2.state in
      let n = state.len in
      let m = down.2.1 in
      let high = left_in-high qs 0 2 down.2.0 state.parted (omega arith) in
      ap (λ b. left_in b qs) down.0 ∙ omega (arith, high, n, m)

  state_moves : (qs : List Pair) (left : ℕ) (moves : List Move) → State ps from to qs left → ArePicks qs from to moves → (rest : ℕ) × (rest + length moves ≡ left) × State ps from to (after_moves qs moves) rest
  unfolding State
  state_moves qs left moves (inl up) picks =
      let done = moves_up ps qs from left moves few up.0 up.2 (subst (λ t. ArePicks qs from t moves) up.1 picks) in
      (done.0, done.1, inl (up.0, up.1, done.2))
  state_moves qs left moves (inr down) picks =
      let P : ℕ → ℕ → Type 0 = λ f t. ArePicks qs f t moves in
      let fixed : P 2 0 = subst (λ f. P f 0) down.0 (subst (λ t. P from t) down.1 picks) in
      let done = moves_down ps qs down.2.0 moves few down.2.2 fixed in
      let d = done.1 in
      let m = down.2.1 in
      let s = done.2.state in
      let r = s.parted.in_range in
      let n = s.len in
      (left - length moves, omega (arith, d, m, r, n), inr (down.0, down.1, (done.0, omega (arith, d, m, r, n), done.2)))

  state_room : (qs : List Pair) (left : ℕ) → State ps from to qs left → 0 < left → HasNoNextRank to (neighbour_in to qs) → ⊥
  unfolding State
  state_room qs zero s some none = absurd (omega arith)
  state_room qs (suc k) (inl up) some none =
      let state = up.2.state in
      let n = state.len in
      let at : neighbour_in to qs ≡ rank_below qs (suc k) = ap (λ t. neighbour_in t qs) up.1 ∙ neighbour_at qs from (suc k) state.parted in
      let closed : HasNoNextRank (from + 1) (rank_below qs (suc k)) = subst (λ t. HasNoNextRank t (rank_below qs (suc k))) up.1 (subst (HasNoNextRank to) at none) in
      by (cases_lt (suc k) (length qs)) closed
    where
      by : (suc k < length qs) ⊎ (length qs ≤ suc k) → HasNoNextRank (from + 1) (rank_below qs (suc k)) → ⊥
      by (inr ge) closed = subst (HasNoNextRank (from + 1)) (ap (option_map (λ (p : Pair). p.0)) (slice_get_past qs (suc k) ge)) closed
      by (inl lt) closed =
          let state = up.2.state in
          let n = state.len in
          let h = rank_at qs (suc k) in
          let spaced = up.2.spaced (suc k) (length ps - suc k - 1) (omega arith) (omega (arith, n, lt)) in
          let far = spaced.1 in
          let low = up.0 in
          room_up (from + 1) h (omega arith) (omega (arith, low)) (state.order.ranks (suc k) nothing lt) (state.parted.above (suc k) (omega arith) lt) (omega (arith, far, few))
          (subst (HasNoNextRank (from + 1)) (ap (option_map (λ (p : Pair). p.0)) (slice_get-get_or qs (suc k) nothing lt)) closed)
  state_room qs (suc k) (inr down) some none = by down.2.0 down.2.1 down.2.2
    where
      by : (done : ℕ) → done + suc k ≡ length ps → SpacedDown ps qs done → ⊥
      by zero m s =
          let state = s.state in
          let at : neighbour_in to qs ≡ None = ap (λ t. neighbour_in t qs) down.1 ∙ neighbour_down qs 0 state.parted in
          subst (HasNoNextRank to) at none
      by (suc j) m s =
          let state = s.state in
          let n = state.len in
          let inside : j < length qs = omega (arith, n, m) in
          let at : neighbour_in to qs ≡ Some (rank_at qs j) = ap (λ t. neighbour_in t qs) down.1 ∙ neighbour_down qs (suc j) state.parted ∙ ap (option_map (λ (p : Pair). p.0)) (slice_get-get_or qs j nothing inside) in
          let closed : HasNoNextRank 0 (Some (rank_at qs j)) = subst (λ t. HasNoNextRank t (Some (rank_at qs j))) down.1 (subst (HasNoNextRank to) at none) in
          let spaced = s.spaced j (omega arith) in
          let far = spaced.1 in
          room_down (rank_at qs j) (state.order.ranks j nothing inside) (state.parted.below j (omega arith)) (omega (arith, far, few, m)) closed

  state_done : (qs : List Pair) → State ps from to qs 0 → All (λ p. length (rank_text p.0) ≡ 9) qs
  unfolding State
  state_done qs (inl up) k d lt =
      let state = up.2.state in
      let n = state.len in
      let spaced = up.2.spaced k (length ps - k - 1) (omega arith) (omega (arith, n, lt)) in
      subst (λ (p : Pair). length (rank_text p.0) ≡ 9) (get_or_default qs k nothing d lt) (length-six (rank_at qs k) (state.order.ranks k nothing lt) spaced.0)
  state_done qs (inr down) k d lt =
      let state = down.2.2.state in
      let n = state.len in
      let m = down.2.1 in
      let spaced = down.2.2.spaced k (omega (arith, n, m, lt)) in
      subst (λ (p : Pair). length (rank_text p.0) ≡ 9) (get_or_default qs k nothing d lt) (length-six (rank_at qs k) (state.order.ranks k nothing lt) spaced.0)

  no_stuck : (qs : List Pair) (left count : ℕ) (low high : Option RankParts) → State ps from to qs left → IsStuck qs from to count low high → ⊥
  no_stuck qs left count low high s stuck =
      let rest = state_moves qs left stuck.done s stuck.picks in
      let l = state_left qs left s in
      let m = stuck.more in
      let r = rest.1 in
      state_room (after_moves qs stuck.done) rest.0 rest.2 (omega (arith, l, m, r)) stuck.no_rank.0

  -- where some steps lead
  Outcome : ℕ → ℕ → ℕ → List Pair → Balance → Type 0
  Outcome count k left rs e =
      ((e ≡ Moving from to) × ((l : ℕ) × State ps from to rs l × (l + k * count ≡ left) × ((k ≡ 0) ⊎ (0 < l)))) ⊎
      ((e ≡ Idle to) × State ps from to rs 0 × (left ≤ k * count) × (0 < k))

  -- an idle balance takes no step
  idle_stays : (count k : ℕ) (xs rs : List Pair) (e : Balance) → StepsLead count k xs (Idle to) rs e → (rs ≡ xs) × (e ≡ Idle to)
  idle_stays count zero xs rs e lead = lead
  idle_stays count (suc k) xs rs e lead = absurd lead.0

  next_step : (count k left : ℕ) (qs rs : List Pair) (e : Balance) (moves : List Move) → 1 ≤ count → length moves ≡ min count (left_in from qs) → (rest : ℕ) → rest + length moves ≡ left → State ps from to (after_moves qs moves) rest → left_in from qs ≡ left →
      StepsLead count k (after_moves qs moves) (balance_after (after_moves qs moves) from to) rs e → (StepsLead count k (after_moves qs moves) (Moving from to) rs e → Outcome count k rest rs e) → Outcome count (suc k) left rs e
  unfolding Outcome
  next_step count k left qs rs e moves some size rest sum s was lead go = by (cases_eq rest 0)
    where
      all : ℕ
      all = left_in from (after_moves qs moves)

      products : suc k * count ≡ k * count + count
      products = suc-mul k count

      further : Outcome count k rest rs e → (rest ≡ 0 → ⊥) → Outcome count (suc k) left rs e
      further (inl moving) differ = inl (moving.0, (moving.1.0, moving.1.1, (let f = products in let g = moving.1.2 in omega (arith, f, g, size, sum, was)), inr (positive moving.1.3)))
        where
          positive : (k ≡ 0) ⊎ (0 < moving.1.0) → 0 < moving.1.0
          positive (inl z) = let none : k * count ≡ 0 = ap (λ j. j * count) z ∙ zero-mul count in let g = moving.1.2 in omega (arith, none, g, differ)
          positive (inr h) = h
      further (inr idle) differ = inr (idle.0, idle.1, (let f = products in let g = idle.2 in omega (arith, f, g, size, sum, was)), omega arith)

      by : (rest ≡ 0) ⊎ (rest ≡ 0 → ⊥) → Outcome count (suc k) left rs e
      by (inl z) =
          let none : left_in from (after_moves qs moves) ≡ 0 = state_left (after_moves qs moves) rest s ∙ z in
          let test : (left_in from (after_moves qs moves) == 0) ≡ true = grind (arith, nat_tests) in
          let idle : balance_after (after_moves qs moves) from to ≡ Idle to = ap (λ b. if b then Idle to else Moving from to) test in
          let stays = idle_stays count k (after_moves qs moves) rs e (subst (λ b. StepsLead count k (after_moves qs moves) b rs e) idle lead) in
          let at : State ps from to (after_moves qs moves) 0 = subst (State ps from to (after_moves qs moves)) z s in
          inr (stays.1, subst (λ xs. State ps from to xs 0) (sym stays.0) at, (let f = products in omega (arith, f, size, sum, was, z)), omega arith)
      by (inr differ) =
          let left_there = state_left (after_moves qs moves) rest s in
          let other : left_in from (after_moves qs moves) ≢ 0 = λ z. differ (sym left_there ∙ z) in
          let test : (left_in from (after_moves qs moves) == 0) ≡ false = grind (arith, nat_tests) in
          let moving : balance_after (after_moves qs moves) from to ≡ Moving from to = ap (λ b. if b then Idle to else Moving from to) test in
          further (go (subst (λ b. StepsLead count k (after_moves qs moves) b rs e) moving lead)) differ

  outcome : (count k left : ℕ) (qs rs : List Pair) (e : Balance) → 1 ≤ count → State ps from to qs left → StepsLead count k qs (Moving from to) rs e → Outcome count k left rs e
  unfolding Outcome
  outcome count zero left qs rs e some s lead =
      let none : zero * count ≡ 0 = zero-mul count in
      inl (lead.1, (left, subst (λ xs. State ps from to xs left) (sym lead.0) s, omega (arith, none), inl refl))
  outcome count (suc k) left qs rs e some s lead =
      let moves = lead.1.0 in
      let step = lead.1.1 in
      let rest = state_moves qs left moves s step.picks in
      next_step count k left qs rs e moves some step.count rest.0 rest.1 rest.2 (state_left qs left s) lead.1.2 (λ further. outcome count k rest.0 (after_moves qs moves) rs e some rest.2 further)

  on_the_way : (count steps : ℕ) (qs : List Pair) (e : Balance) → 1 ≤ count → to ≡ next_bucket from → Outcome count steps (length ps) qs e → IsOnTheWay count steps (length ps) from qs e
  unfolding Outcome
  on_the_way count steps qs e some next (inl moving) = record {
    has_room = λ other low high is stuck. no_stuck qs moving.1.0 other low high moving.1.1 (subst (λ b. IsStuck qs (from_of b) (to_of b) other low high) moving.0 stuck);
    moves_on = λ less. moving.0 ∙ ap (Moving from) next;
    ends = λ last. absurd (too_many last moving.1.3);
  }
    where
      n : ℕ
      n = length ps

      too_many : steps ≡ steps_for (length ps) count → (steps ≡ 0) ⊎ (0 < moving.1.0) → ⊥
      too_many last (inl z) = omega arith
      too_many last (inr h) =
          let q = (length ps + (count - 1)) / count in
          let over : length ps + (count - 1) < count * (q + 1) = lt-mul-div-succ (length ps + (count - 1)) (omega arith) in
          let le : count * q ≤ count * steps = mul-le-mul_left count (omega arith) in
          let more : count * (q + 1) ≡ count * q + count = mul-add-one count q in
          let turned : steps * count ≡ count * steps = mul_comm steps count in
          let sum = moving.1.2 in
          omega (arith, over, le, more, turned, sum, h)
  on_the_way count steps qs e some next (inr idle) = record {
    has_room = λ other low high is stuck. absurd (subst IsMoving idle.0 is);
    moves_on = λ less. absurd (too_few less);
    ends = λ last. (idle.0 ∙ ap Idle next, state_done qs idle.1);
  }
    where
      too_few : steps < steps_for (length ps) count → ⊥
      too_few less =
          let q = (length ps + (count - 1)) / count in
          let under : count * q ≤ length ps + (count - 1) = mul-div-le (length ps + (count - 1)) count in
          let le : count * (steps + 1) ≤ count * q = mul-le-mul_left count (let pos = idle.3 in omega (arith, pos, less)) in
          let more : count * (steps + 1) ≡ count * steps + count = mul-add-one count steps in
          let turned : steps * count ≡ count * steps = mul_comm steps count in
          let enough = idle.2 in
          omega (arith, under, le, more, turned, enough)

-- before the first step
begins : (ps : List Pair) (bucket : ℕ) → IsOrder ps → Agrees ps (Idle bucket) → State ps bucket (next_bucket bucket) ps (length ps)
unfolding State
begins ps bucket order agrees = by (cases_eq bucket 2) (cases_lt bucket 2)
  where
    by : (bucket ≡ 2) ⊎ (bucket ≡ 2 → ⊥) → (bucket < 2) ⊎ (2 ≤ bucket) → State ps bucket (next_bucket bucket) ps (length ps)
    by (inl e) b = inr (
      e,
      ap next_bucket e,
      (
        0,
        omega arith,
        record {
          state = at_first ps 0 2 0 order (record { in_range = omega arith; below = λ k lt. absurd (omega arith); above = λ k ge lt. agrees.1 k nothing lt ∙ e });
          spaced = λ k lt. absurd (omega arith);
        },
      ),
    )
    by (inr e) (inl low) = inl (
      low,
      to_up bucket (next_bucket bucket) low refl,
      record {
        state = at_first ps bucket (bucket + 1) (length ps) order (record { in_range = omega arith; below = λ k lt. agrees.1 k nothing lt; above = λ k ge lt. absurd (omega arith) });
        spaced = λ k gaps ge is. absurd (omega arith);
      },
    )
    by (inr e) (inr ge) = let lt = agrees.0 in absurd (omega (arith, lt))

pub steps_end : StepsEnd
steps_end ps bucket count steps qs e order agrees few some lead =
    on_the_way ps few bucket (next_bucket bucket) count steps qs e some refl
    (outcome ps few bucket (next_bucket bucket) count steps (length ps) ps qs e some (begins ps bucket order agrees) lead)
