-- One pick keeps order and balance.
use Rattle.std.proofs.Common.{◌≡◌, ◌≢◌, ℕ, zero, suc, ◌+◌, ◌-◌, ◌<◌, ◌≤◌, ◌==◌, true, false, List, [], ◌∷◌, ◌++◌, ◌⊎◌, length, min, set, get_or, map, Option, Some, None, Result, Ok, Err, IfOk, refl, sym, ◌∙◌, ap, subst, inl, inr, arith}
use Rattle.std.specs.Prelude.{All, option_map, if◌then◌else◌}
use Rattle.std.proofs.lemmas.Bool.{cases_eq, cases_lt, cases_Bool}
use Rattle.std.proofs.lemmas.Bool.Decides.{nat_tests}
use Rattle.std.proofs.lemmas.List.{get_or_default}
use Rattle.field_values.specs.declared.numbers.IssueNo.{IssueNo}
use Rattle.rank_strings.specs.Rank.{RankParts}
use Rattle.board.specs.Order.{Pair, IsOrder}
use Rattle.board.specs.Table.{nothing}
use Rattle.board.specs.Place.{rank_above, rank_below}
use Rattle.board.proofs.Moves.{places_before-number_at}
use Rattle.board.proofs.Placing.{IsOrder-tail}
use Rattle.rank_balancer.specs.declared.balance.Balance.TheVariants.{Idle, Moving}
use Rattle.rank_balancer.specs.declared.balance.Balance.{Balance}
use Rattle.rank_balancer.specs.Balance.{next_bucket, Agrees, IsMoving, from_of, to_of}
use Rattle.rank_balancer.specs.Border.{bucket_at, IsBorder, IsParted}
use Rattle.rank_balancer.specs.Pick.{first_in, last_in, or_else, picked_from, pick_of, neighbour_in, IsNextRank}
use Rattle.rank_balancer.specs.Step.{Move, after_move, after_moves, ArePicks, IsStep, left_in, balance_after}
use Rattle.rank_balancer.specs.Laws.{KeepsAll, OnePickKeepsAll, PicksKeepAll}
use Rattle.rank_balancer.proofs.Picks.{buckets_rise, last_in-none, first_in-none}
use Rattle.rank_balancer.proofs.Moved.{issue_at, FitsAt}
use Rattle.std.proofs.lemmas.Option.{slice_get_past}
use Rattle.rank_balancer.proofs.Steps.{IsAfter, first_in-parted, last_in-parted_none, left_in-cons, left_in-low, left_in-high, put, free_move}
use Rattle.rank_balancer.proofs.Plans.{fits_up, after_up, pick_up, fits_down, after_down, pick_down, neighbour_down}

-- an order changes somewhere from buckets up to one to those beyond
pub some_border : (ps : List Pair) → IsOrder ps → (bucket : ℕ) → (m : ℕ) × IsBorder ps bucket m
some_border [] order bucket = (0, record { in_range = omega arith; up_to = λ k lt. absurd (omega arith); beyond = λ k ge lt. absurd (omega arith) })
some_border (p ∷ ps) order bucket = by (cases_lt bucket p.0.bucket) (some_border ps (IsOrder-tail p ps order) bucket)
  where
    by : (bucket < p.0.bucket) ⊎ (p.0.bucket ≤ bucket) → (m : ℕ) × IsBorder ps bucket m → (m : ℕ) × IsBorder (p ∷ ps) bucket m
    by (inl lt) tail = (
      0,
      record {
        in_range = omega arith;
        up_to = λ k less. absurd (omega arith);
        beyond = λ k ge in_range. let rise = buckets_rise (p ∷ ps) order 0 k nothing (omega arith) in_range in omega (arith, rise);
      },
    )
    by (inr le) (m, tail) = (suc m, record { in_range = let n = tail.in_range in omega (arith, n); up_to = lower; beyond = upper })
      where
        lower : (k : ℕ) → k < suc m → bucket_at (p ∷ ps) k ≤ bucket
        lower zero lt = le
        lower (suc k) lt = tail.up_to k (omega arith)

        upper : (k : ℕ) → suc m ≤ k → k < length (p ∷ ps) → bucket < bucket_at (p ∷ ps) k
        upper zero ge lt = absurd (omega arith)
        upper (suc k) ge lt = tail.beyond k (omega arith) (omega arith)

either : (ps : List Pair) (from to : ℕ) → Agrees ps (Moving from to) → (k : ℕ) → k < length ps → (bucket_at ps k ≡ from) ⊎ (bucket_at ps k ≡ to)
either ps from to agrees k lt = agrees.2 k nothing lt

pub to_up : (from to : ℕ) → from < 2 → to ≡ next_bucket from → to ≡ from + 1
to_up from to low is = let test : (from == 2) ≡ false = grind (arith, nat_tests) in is ∙ ap (λ b. if b then 0 else from + 1) test

pub parted_up : (ps : List Pair) (from border : ℕ) → from < 2 → Agrees ps (Moving from (from + 1)) → IsBorder ps from border → IsParted ps from (from + 1) border
parted_up ps from border low agrees b = record {
  in_range = b.in_range;
  below = λ k lt. let n = b.in_range in let up = b.up_to k lt in lower k up (either ps from (from + 1) agrees k (omega (arith, n)));
  above = λ k ge lt. let more = b.beyond k ge lt in upper k more (either ps from (from + 1) agrees k lt);
}
  where
    lower : (k : ℕ) → bucket_at ps k ≤ from → (bucket_at ps k ≡ from) ⊎ (bucket_at ps k ≡ from + 1) → bucket_at ps k ≡ from
    lower k up (inl e) = e
    lower k up (inr e) = absurd (omega (arith, e, up))

    upper : (k : ℕ) → from < bucket_at ps k → (bucket_at ps k ≡ from) ⊎ (bucket_at ps k ≡ from + 1) → bucket_at ps k ≡ from + 1
    upper k more (inl e) = absurd (omega (arith, e, more))
    upper k more (inr e) = e

pub parted_down : (ps : List Pair) (border : ℕ) → Agrees ps (Moving 2 0) → IsBorder ps 1 border → IsParted ps 0 2 border
parted_down ps border agrees b = record {
  in_range = b.in_range;
  below = λ k lt. let n = b.in_range in let up = b.up_to k lt in lower k up (either ps 2 0 agrees k (omega (arith, n)));
  above = λ k ge lt. let more = b.beyond k ge lt in upper k more (either ps 2 0 agrees k lt);
}
  where
    lower : (k : ℕ) → bucket_at ps k ≤ 1 → (bucket_at ps k ≡ 2) ⊎ (bucket_at ps k ≡ 0) → bucket_at ps k ≡ 0
    lower k up (inl e) = absurd (omega (arith, e, up))
    lower k up (inr e) = e

    upper : (k : ℕ) → 1 < bucket_at ps k → (bucket_at ps k ≡ 2) ⊎ (bucket_at ps k ≡ 0) → bucket_at ps k ≡ 2
    upper k more (inl e) = e
    upper k more (inr e) = absurd (omega (arith, e, more))

-- an order before any pick
pub at_first : (ps : List Pair) (low high border : ℕ) → IsOrder ps → IsParted ps low high border → IsAfter ps ps low high border
at_first ps low high border order parted = record { order = order; parted = parted; len = refl; issues = λ k. refl }

-- the issues stay where they are
issues_stay : (ps : List Pair) (place : ℕ) (rank : RankParts) → map (λ (p : Pair). p.1) (set ps place (rank, issue_at ps place)) ≡ map (λ (p : Pair). p.1) ps
issues_stay [] place rank = refl
issues_stay (p ∷ ps) zero rank = refl
issues_stay (p ∷ ps) (suc k) rank = ap (λ (is : List IssueNo). p.1 ∷ is) (issues_stay ps k rank)

module _ (ps : List Pair) (order : IsOrder ps) where
  -- a pick at a border, by what is known of it
  keeps_at : (from to low high border border' place : ℕ) (rank : RankParts) → (was : IsAfter ps ps low high border) → (fits : FitsAt ps place rank) → IsAfter ps (after_move ps (issue_at ps place, rank)) low high border' →
      Agrees (after_move ps (issue_at ps place, rank)) (Moving from to) → left_in from (after_move ps (issue_at ps place, rank)) + 1 ≡ left_in from ps → KeepsAll ps from to (issue_at ps place, rank)
  keeps_at from to low high border border' place rank was fits after agrees fewer = record {
    there = let at = places_before-number_at ps place order.once fits.in_range in let n = fits.in_range in omega (arith, at, n);
    free = free_move ps ps low high border place rank was fits;
    order = after.order;
    agrees = agrees;
    issues = ap (map (λ (p : Pair). p.1)) (put ps ps low high border place rank was fits) ∙ issues_stay ps place rank;
    fewer = fewer;
  }

pub neighbour_at : (ps : List Pair) (from border : ℕ) → IsParted ps from (from + 1) border → neighbour_in (from + 1) ps ≡ rank_below ps border
neighbour_at ps from border parted =
    let test : ((from + 1) == 0) ≡ false = grind (arith, nat_tests) in
    rw test (ap (option_map (λ (p : Pair). p.0)) (first_in-parted ps from (from + 1) border parted (omega arith)))

agrees_after : (ps : List Pair) (low high border from to : ℕ) → IsParted ps low high border → from < 3 → to ≡ next_bucket from → ((low ≡ from) × (high ≡ to)) ⊎ ((low ≡ to) × (high ≡ from)) → Agrees ps (Moving from to)
agrees_after ps low high border from to parted lt is which = (lt, is, λ k d in_range. subst (λ (p : Pair). (p.0.bucket ≡ from) ⊎ (p.0.bucket ≡ to)) (get_or_default ps k nothing d in_range) (by k in_range (cases_lt k border) which))
  where
    by : (k : ℕ) → k < length ps → (k < border) ⊎ (border ≤ k) → ((low ≡ from) × (high ≡ to)) ⊎ ((low ≡ to) × (high ≡ from)) → (bucket_at ps k ≡ from) ⊎ (bucket_at ps k ≡ to)
    by k in_range (inl h) (inl w) = inl (parted.below k h ∙ w.0)
    by k in_range (inl h) (inr w) = inr (parted.below k h ∙ w.0)
    by k in_range (inr h) (inl w) = inr (parted.above k h in_range ∙ w.1)
    by k in_range (inr h) (inr w) = inl (parted.above k h in_range ∙ w.1)

pub same_move : (m : Move) (issue : IssueNo) → Some issue ≡ Some m.0 → (issue, m.1) ≡ m
same_move m issue same = let e : issue ≡ m.0 = cc in ap (λ (i : IssueNo). (i, m.1)) e

-- on the way up
keeps_up : (ps : List Pair) (from : ℕ) (m : Move) → from < 2 → IsOrder ps → Agrees ps (Moving from (from + 1)) → pick_of ps (Moving from (from + 1)) ≡ Some m.0 → IsNextRank (from + 1) (neighbour_in (from + 1) ps) m.1 → KeepsAll ps from (from + 1) m
keeps_up ps from m low order agrees picked next = by (some_border ps order from)
  where
    with_border : (border : ℕ) → IsParted ps from (from + 1) border → KeepsAll ps from (from + 1) m
    with_border zero parted =
        let test : (from == 2) ≡ false = grind (arith, nat_tests) in
        let none : pick_of ps (Moving from (from + 1)) ≡ None = rw test (ap (option_map (λ (p : Pair). p.1)) (last_in-parted_none ps from (from + 1) parted (omega arith))) in
        absurd (cc)
    with_border (suc k) parted =
        let is : suc k ≡ k + 1 = omega arith in
        let at : IsParted ps from (from + 1) (k + 1) = subst (IsParted ps from (from + 1)) is parted in
        let was = at_first ps from (from + 1) (k + 1) order at in
        let given : IsNextRank (from + 1) (rank_below ps (k + 1)) m.1 = subst (λ n. IsNextRank (from + 1) n m.1) (neighbour_at ps from (k + 1) at) next in
        let after = after_up ps ps from k m.1 low was given in
        let differ : from ≢ from + 1 = omega arith in
        let left_before = left_in-low ps from (from + 1) (k + 1) at differ in
        let left_after = left_in-low (after_move ps (issue_at ps k, m.1)) from (from + 1) k after.parted differ in
        subst (KeepsAll ps from (from + 1)) (same_move m (issue_at ps k) (sym (pick_up ps ps from k m.1 low was given) ∙ picked))
        (keeps_at ps order from (from + 1) from (from + 1) (k + 1) k k m.1 was (fits_up ps ps from k m.1 low was given) after
        (agrees_after (after_move ps (issue_at ps k, m.1)) from (from + 1) k from (from + 1) after.parted (omega arith) agrees.1 (inl (refl, refl)))
        (omega (arith, left_before, left_after)))

    by : (b : ℕ) × IsBorder ps from b → KeepsAll ps from (from + 1) m
    by (b, border) = with_border b (parted_up ps from b low agrees border)

-- on the way down
keeps_down : (ps : List Pair) (m : Move) → IsOrder ps → Agrees ps (Moving 2 0) → pick_of ps (Moving 2 0) ≡ Some m.0 → IsNextRank 0 (neighbour_in 0 ps) m.1 → KeepsAll ps 2 0 m
keeps_down ps m order agrees picked next = by (some_border ps order 1)
  where
    with_border : (b : ℕ) → IsParted ps 0 2 b → (b < length ps) ⊎ (length ps ≤ b) → KeepsAll ps 2 0 m
    with_border b parted (inr ge) =
        let none : pick_of ps (Moving 2 0) ≡ None = ap (option_map (λ (p : Pair). p.1)) (first_in-parted ps 0 2 b parted (omega arith) ∙ slice_get_past ps b ge) in
        absurd (cc)
    with_border b parted (inl lt) =
        let was = at_first ps 0 2 b order parted in
        let given : IsNextRank 0 (rank_above ps b) m.1 = subst (λ n. IsNextRank 0 n m.1) (neighbour_down ps b parted) next in
        let after = after_down ps ps b m.1 was lt given in
        let differ : zero ≢ 2 = omega arith in
        let left_before = left_in-high ps 0 2 b parted differ in
        let left_after = left_in-high (after_move ps (issue_at ps b, m.1)) 0 2 (b + 1) after.parted differ in
        let len = after.len in
        subst (KeepsAll ps 2 0) (same_move m (issue_at ps b) (sym (pick_down ps ps b m.1 was lt given) ∙ picked))
        (keeps_at ps order 2 0 0 2 b (b + 1) b m.1 was (fits_down ps ps b m.1 was lt given) after
        (agrees_after (after_move ps (issue_at ps b, m.1)) 0 2 (b + 1) 2 0 after.parted (omega arith) agrees.1 (inr (refl, refl)))
        (omega (arith, left_before, left_after, len)))

    by : (b : ℕ) × IsBorder ps 1 b → KeepsAll ps 2 0 m
    by (b, border) = with_border b (parted_down ps b agrees border) (cases_lt b (length ps))

pub one_pick_keeps_all : OnePickKeepsAll
one_pick_keeps_all ps from to m order agrees picked next = by (cases_eq from 2) (cases_lt from 2)
  where
    by : (from ≡ 2) ⊎ (from ≡ 2 → ⊥) → (from < 2) ⊎ (2 ≤ from) → KeepsAll ps from to m
    by (inl e) b =
        let zero : to ≡ 0 = agrees.1 ∙ ap next_bucket e in
        let P : ℕ → ℕ → Type 0 = λ f t. Agrees ps (Moving f t) → pick_of ps (Moving f t) ≡ Some m.0 → IsNextRank t (neighbour_in t ps) m.1 → KeepsAll ps f t m in
        let down : P 2 0 = λ a p n. keeps_down ps m order a p n in
        let here : P from to = subst (λ f. P f to) (sym e) (subst (P 2) (sym zero) down) in
        here agrees picked next
    by (inr e) (inl low) =
        let more : to ≡ from + 1 = to_up from to low agrees.1 in
        let P : ℕ → Type 0 = λ t. Agrees ps (Moving from t) → pick_of ps (Moving from t) ≡ Some m.0 → IsNextRank t (neighbour_in t ps) m.1 → KeepsAll ps from t m in
        let up : P (from + 1) = λ a p n. keeps_up ps from m low order a p n in
        let here : P to = subst P (sym more) up in
        here agrees picked next
    by (inr e) (inr ge) = let lt = agrees.0 in absurd (omega (arith, lt))

left_none : (bucket : ℕ) (ps : List Pair) → left_in bucket ps ≡ 0 → All (λ p. p.0.bucket ≢ bucket) ps
left_none bucket [] none = λ k d lt. absurd (omega arith)
left_none bucket (p ∷ ps) none = by (cases_Bool (p.0.bucket == bucket)) (left_none bucket ps)
  where
    by : ((p.0.bucket == bucket) ≡ true) ⊎ ((p.0.bucket == bucket) ≡ false) → (left_in bucket ps ≡ 0 → All (λ q. q.0.bucket ≢ bucket) ps) → All (λ q. q.0.bucket ≢ bucket) (p ∷ ps)
    by (inl is) rest = let one = left_in-cons bucket p ps ∙ ap (λ b. (if b then 1 else 0) + left_in bucket ps) is in absurd (omega (arith, one, none))
    by (inr is) rest = let same = left_in-cons bucket p ps ∙ ap (λ b. (if b then 1 else 0) + left_in bucket ps) is in all_cons (grind (arith, nat_tests)) (rest (omega (arith, same, none)))
      where
        all_cons : p.0.bucket ≢ bucket → All (λ q. q.0.bucket ≢ bucket) ps → All (λ q. q.0.bucket ≢ bucket) (p ∷ ps)
        all_cons first tail zero d lt = first
        all_cons first tail (suc k) d lt = tail k d (omega arith)

-- the balance after some picks agrees with the order that they leave
agrees_then : (ps : List Pair) (from to : ℕ) → Agrees ps (Moving from to) → Agrees ps (balance_after ps from to)
agrees_then ps from to agrees = by (cases_Bool (left_in from ps == 0))
  where
    all_new : left_in from ps ≡ 0 → All (λ p. p.0.bucket ≡ to) ps
    all_new none k d lt = which (agrees.2 k d lt)
      where
        which : ((get_or ps k d).0.bucket ≡ from) ⊎ ((get_or ps k d).0.bucket ≡ to) → (get_or ps k d).0.bucket ≡ to
        which (inl e) = absurd (left_none from ps none k d lt e)
        which (inr e) = e

    in_circle : to < 3
    in_circle = let lt = agrees.0 in let is = agrees.1 in grind (arith, nat_tests)

    by : ((left_in from ps == 0) ≡ true) ⊎ ((left_in from ps == 0) ≡ false) → Agrees ps (balance_after ps from to)
    by (inl is) = rw is (in_circle, all_new (grind (arith, nat_tests)))
    by (inr is) = rw is agrees

pub leaves_moving : (ps : List Pair) (from to : ℕ) (moves : List Move) → IsOrder ps → Agrees ps (Moving from to) → ArePicks ps from to moves → IsOrder (after_moves ps moves) × Agrees (after_moves ps moves) (Moving from to) × (map (λ p. p.1) (after_moves ps moves) ≡ map (λ p. p.1) ps) × (left_in from (after_moves ps moves) + length moves ≡ left_in from ps)
leaves_moving ps from to [] order agrees picks = (order, agrees, refl, omega arith)
leaves_moving ps from to (m ∷ ms) order agrees picks =
    let one = one_pick_keeps_all ps from to m order agrees picks.0 picks.1 in
    let rest = leaves_moving (after_move ps m) from to ms one.order one.agrees picks.2 in
    let a = one.fewer in
    let b = rest.3 in
    (rest.0, rest.1, rest.2 ∙ one.issues, omega (arith, a, b))

pub picks_keep_all : PicksKeepAll
picks_keep_all ps from to moves order agrees picks =
    let all = leaves_moving ps from to moves order agrees picks in
    record { order = all.0; agrees = agrees_then (after_moves ps moves) from to all.1; issues = all.2; fewer = all.3 }

-- a step by its count
pub if_ok_then : {A E : Type 0} (P Q : A → Type 0) → ((x : A) → P x → Q x) → (r : Result A E) → IfOk r P → IfOk r Q
if_ok_then P Q then_q (Ok x) h = then_q x h
if_ok_then P Q then_q (Err e) h = tt

pub step_down : (ps : List Pair) (from most border : ℕ) (moves : List Move) → from ≡ 2 → IsOrder ps → Agrees ps (Moving from (next_bucket from)) → IsBorder ps 1 border → ArePicks ps 2 0 moves × (length moves ≡ min most (length ps - border)) → IsStep ps from (next_bucket from) most moves
step_down ps from most border moves is order agrees b h =
    let P : ℕ → Type 0 = λ f. Agrees ps (Moving f (next_bucket f)) → IsStep ps f (next_bucket f) most moves in
    let at_two : P 2 = λ a. let left = left_in-high ps 0 2 border (parted_down ps border a b) (omega arith) in
    let n = b.in_range in
    record { picks = h.0; count = h.1 ∙ ap (min most) (omega (arith, left, n)) } in
    let here : P from = subst P (sym is) at_two in
    here agrees

pub step_up : (ps : List Pair) (from most border : ℕ) (moves : List Move) → from ≢ 2 → IsOrder ps → Agrees ps (Moving from (next_bucket from)) → IsBorder ps from border → ArePicks ps from (from + 1) moves × (length moves ≡ min most border) → IsStep ps from (next_bucket from) most moves
step_up ps from most border moves differ order agrees b h =
    let lt = agrees.0 in
    let low : from < 2 = omega (arith, lt) in
    let next = to_up from (next_bucket from) low refl in
    let P : ℕ → Type 0 = λ t. Agrees ps (Moving from t) → IsStep ps from t most moves in
    let at_next : P (from + 1) = λ a. let left = left_in-low ps from (from + 1) border (parted_up ps from border low a b) (omega arith) in
    record { picks = h.0; count = h.1 ∙ ap (min most) (sym left) } in
    let here : P (next_bucket from) = subst P (sym next) at_next in
    here agrees

-- a pick among others
picks_split : (ps : List Pair) (from to : ℕ) (ms : List Move) (m : Move) (others : List Move) → ArePicks ps from to (ms ++ m ∷ others) →
    ArePicks ps from to ms × (pick_of (after_moves ps ms) (Moving from to) ≡ Some m.0) × IsNextRank to (neighbour_in to (after_moves ps ms)) m.1
picks_split ps from to [] m others picks = (tt, picks.0, picks.1)
picks_split ps from to (n ∷ ms) m others picks =
    let rest = picks_split (after_move ps n) from to ms m others picks.2 in
    ((picks.0, picks.1, rest.0), rest.1, rest.2)

agrees_moving : (ps : List Pair) (b : Balance) → IsMoving b → Agrees ps b → Agrees ps (Moving (from_of b) (to_of b))
agrees_moving ps (Idle bucket) moving agrees = absurd moving
agrees_moving ps (Moving from to) moving agrees = agrees

pub keeps_among : (ps : List Pair) (b : Balance) (moves ms : List Move) (m : Move) (others : List Move) → IsOrder ps → IsMoving b → Agrees ps b → ArePicks ps (from_of b) (to_of b) moves → moves ≡ ms ++ m ∷ others →
    KeepsAll (after_moves ps ms) (from_of b) (to_of b) m
keeps_among ps b moves ms m others order moving agrees picks is =
    let split = picks_split ps (from_of b) (to_of b) ms m others (subst (ArePicks ps (from_of b) (to_of b)) is picks) in
    let before = leaves_moving ps (from_of b) (to_of b) ms order (agrees_moving ps b moving agrees) split.0 in
    one_pick_keeps_all (after_moves ps ms) (from_of b) (to_of b) m before.0 before.1 split.1 split.2

-- nothing is picked exactly where no rank is left
first_none : (bucket : ℕ) (ps : List Pair) → first_in bucket ps ≡ None → left_in bucket ps ≡ 0
first_none bucket [] none = refl
first_none bucket (p ∷ ps) none = by (cases_Bool (p.0.bucket == bucket)) (first_none bucket ps)
  where
    by : ((p.0.bucket == bucket) ≡ true) ⊎ ((p.0.bucket == bucket) ≡ false) → (first_in bucket ps ≡ None → left_in bucket ps ≡ 0) → left_in bucket (p ∷ ps) ≡ 0
    by (inl is) rest = let some : first_in bucket (p ∷ ps) ≡ Some p = ap (λ b. if b then Some p else first_in bucket ps) is in absurd (cc)
    by (inr is) rest =
        let same : first_in bucket (p ∷ ps) ≡ first_in bucket ps = ap (λ b. if b then Some p else first_in bucket ps) is in
        let left = left_in-cons bucket p ps ∙ ap (λ b. (if b then 1 else 0) + left_in bucket ps) is in
        let tail = rest (sym same ∙ none) in
        omega (arith, left, tail)

last_none : (bucket : ℕ) (ps : List Pair) → last_in bucket ps ≡ None → left_in bucket ps ≡ 0
last_none bucket [] none = refl
last_none bucket (p ∷ ps) none = by (last_in bucket ps) refl (last_none bucket ps) (cases_Bool (p.0.bucket == bucket))
  where
    by : (o : Option Pair) → last_in bucket ps ≡ o → (last_in bucket ps ≡ None → left_in bucket ps ≡ 0) → ((p.0.bucket == bucket) ≡ true) ⊎ ((p.0.bucket == bucket) ≡ false) → left_in bucket (p ∷ ps) ≡ 0
    by (Some q) is rest test = let some : last_in bucket (p ∷ ps) ≡ Some q = ap (λ o. or_else o (if p.0.bucket == bucket then Some p else None)) is in absurd (cc)
    by None is rest (inl test) = let some : last_in bucket (p ∷ ps) ≡ Some p = ap (λ o. or_else o (if p.0.bucket == bucket then Some p else None)) is ∙ ap (λ b. if b then Some p else None) test in absurd (cc)
    by None is rest (inr test) =
        let left = left_in-cons bucket p ps ∙ ap (λ b. (if b then 1 else 0) + left_in bucket ps) test in
        let tail = rest is in
        omega (arith, left, tail)

pub none_left : (ps : List Pair) (from to : ℕ) → pick_of ps (Moving from to) ≡ None → left_in from ps ≡ 0
none_left ps from to none = by (cases_Bool (from == 2))
  where
    unmapped : (o : Option Pair) → option_map (λ (p : Pair). p.1) o ≡ None → o ≡ None
    unmapped None h = refl
    unmapped (Some p) h = absurd (cc)

    by : ((from == 2) ≡ true) ⊎ ((from == 2) ≡ false) → left_in from ps ≡ 0
    by (inl is) = first_none from ps (sym (ap (λ b. if b then first_in from ps else last_in from ps) is) ∙ unmapped (picked_from from ps) none)
    by (inr is) = last_none from ps (sym (ap (λ b. if b then first_in from ps else last_in from ps) is) ∙ unmapped (picked_from from ps) none)

pub none_picked : (ps : List Pair) (from to : ℕ) → left_in from ps ≡ 0 → pick_of ps (Moving from to) ≡ None
none_picked ps from to none = by (cases_Bool (from == 2))
  where
    absent : (k : ℕ) → k < length ps → bucket_at ps k ≢ from
    absent k lt = left_none from ps none k nothing lt

    by : ((from == 2) ≡ true) ⊎ ((from == 2) ≡ false) → pick_of ps (Moving from to) ≡ None
    by (inl is) = ap (option_map (λ (p : Pair). p.1)) (ap (λ b. if b then first_in from ps else last_in from ps) is ∙ first_in-none ps from absent)
    by (inr is) = ap (option_map (λ (p : Pair). p.1)) (ap (λ b. if b then first_in from ps else last_in from ps) is ∙ last_in-none ps from absent)

pub balance_idle : (ps : List Pair) (b : Balance) (from to : ℕ) → b ≡ Moving from to → pick_of ps b ≡ None → Idle to ≡ balance_after ps (from_of b) (to_of b)
balance_idle ps b from to is none =
    let P : Balance → Type 0 = λ x. pick_of ps x ≡ None → Idle to ≡ balance_after ps (from_of x) (to_of x) in
    let here : P (Moving from to) = λ n. let z = none_left ps from to n in let test : (left_in from ps == 0) ≡ true = grind (arith, nat_tests) in sym (ap (λ t. if t then Idle to else Moving from to) test) in
    let there : P b = subst P (sym is) here in
    there none

pub balance_stays : (ps : List Pair) (b : Balance) (from to : ℕ) → b ≡ Moving from to → (pick_of ps b ≡ None → ⊥) → b ≡ balance_after ps (from_of b) (to_of b)
balance_stays ps b from to is some =
    let P : Balance → Type 0 = λ x. (pick_of ps x ≡ None → ⊥) → x ≡ balance_after ps (from_of x) (to_of x) in
    let here : P (Moving from to) = λ n. let differ : left_in from ps ≢ 0 = λ z. n (none_picked ps from to z) in let test : (left_in from ps == 0) ≡ false = grind (arith, nat_tests) in sym (ap (λ t. if t then Idle to else Moving from to) test) in
    let there : P b = subst P (sym is) here in
    there some
