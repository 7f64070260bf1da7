-- One pick keeps order and balance, and moves the border between the two buckets by one place.
use Rattle.std.proofs.Common.{◌≡◌, ◌≢◌, ℕ, zero, suc, ◌+◌, ◌<◌, ◌≤◌, ◌==◌, true, false, List, [], ◌∷◌, ◌⊎◌, length, set, get_or, Some, None, sym, ◌∙◌, ap, subst, inl, inr, arith}
use Rattle.std.specs.Prelude.{slice_get, if◌then◌else◌}
use Rattle.std.proofs.lemmas.Bool.{cases_eq, cases_lt}
use Rattle.std.proofs.lemmas.Bool.Decides.{nat_tests}
use Rattle.std.proofs.lemmas.List.{length-set}
use Rattle.std.proofs.lemmas.List.Sums.{sum_by-cons}
use Rattle.std.proofs.lemmas.Option.{slice_get-get_or, slice_get_past}
use Rattle.field_values.specs.declared.numbers.IssueNo.{IssueNo}
use Rattle.rank_strings.specs.Rank.{RankParts}
use Rattle.board.specs.Order.{Pair, IsOrder, IsFreeFor, without, put_in}
use Rattle.board.specs.Table.{nothing}
use Rattle.rank_balancer.specs.Border.{bucket_at, IsParted}
use Rattle.rank_balancer.specs.Pick.{first_in, last_in}
use Rattle.rank_balancer.specs.Step.{Move, after_move, left_in}
use Rattle.rank_balancer.proofs.Picks.{first_in-at, first_in-none, last_in-at, last_in-none}
use Rattle.rank_balancer.proofs.Moved.{issue_at, FitsAt, free_at, put_in-set, order_after, same_issues, rank_there, rank_elsewhere}

-- the pair behind a border is the first of the high bucket, and the one before it the last of the low one
pub first_in-parted : (ps : List Pair) (low high border : ℕ) → IsParted ps low high border → low ≢ high → first_in high ps ≡ slice_get ps border
first_in-parted ps low high border parted differ = by (cases_lt border (length ps))
  where
    absent : (k : ℕ) → k < border → bucket_at ps k ≢ high
    absent k lt same = differ (sym (parted.below k lt) ∙ same)

    by : (border < length ps) ⊎ (length ps ≤ border) → first_in high ps ≡ slice_get ps border
    by (inl lt) = first_in-at ps high border lt (parted.above border (omega arith) lt) absent ∙ sym (slice_get-get_or ps border nothing lt)
    by (inr ge) = first_in-none ps high (λ k lt. absent k (omega arith)) ∙ sym (slice_get_past ps border ge)

pub last_in-parted : (ps : List Pair) (low high k : ℕ) → IsParted ps low high (k + 1) → low ≢ high → last_in low ps ≡ Some (get_or ps k nothing)
last_in-parted ps low high k parted differ =
    let n = parted.in_range in
    last_in-at ps low k (omega arith) (parted.below k (omega arith)) (λ j lt in_range same. differ (sym same ∙ parted.above j (omega arith) in_range))

pub last_in-parted_none : (ps : List Pair) (low high : ℕ) → IsParted ps low high 0 → low ≢ high → last_in low ps ≡ None
last_in-parted_none ps low high parted differ = last_in-none ps low (λ j lt same. differ (sym same ∙ parted.above j (omega arith) lt))

pub left_in-cons : (bucket : ℕ) (p : Pair) (ps : List Pair) → left_in bucket (p ∷ ps) ≡ (if p.0.bucket == bucket then 1 else 0) + left_in bucket ps
left_in-cons bucket p ps = sum_by-cons (λ q. if q.0.bucket == bucket then 1 else 0) p ps

parted_tail : (p : Pair) (ps : List Pair) (low high border : ℕ) → IsParted (p ∷ ps) low high (suc border) → IsParted ps low high border
parted_tail p ps low high border parted = record {
  in_range = let n = parted.in_range in omega (arith, n);
  below = λ k lt. parted.below (suc k) (omega arith);
  above = λ k ge lt. parted.above (suc k) (omega arith) (omega arith);
}

parted_tail_high : (p : Pair) (ps : List Pair) (low high : ℕ) → IsParted (p ∷ ps) low high 0 → IsParted ps low high 0
parted_tail_high p ps low high parted = record {
  in_range = omega arith;
  below = λ k lt. absurd (omega arith);
  above = λ k ge lt. parted.above (suc k) (omega arith) (omega arith);
}

-- so many ranks are in the low bucket, and all others in the high one
pub left_in-low : (ps : List Pair) (low high border : ℕ) → IsParted ps low high border → low ≢ high → left_in low ps ≡ border
left_in-low [] low high border parted differ = let n = parted.in_range in omega (arith, n)
left_in-low (p ∷ ps) low high zero parted differ =
    let here : p.0.bucket ≡ high = parted.above 0 (omega arith) (omega arith) in
    let test : (p.0.bucket == low) ≡ false = grind (arith, nat_tests, here, differ) in
    let rest = left_in-low ps low high 0 (parted_tail_high p ps low high parted) differ in
    left_in-cons low p ps ∙ ap (λ b. (if b then 1 else 0) + left_in low ps) test ∙ omega (arith, rest)
left_in-low (p ∷ ps) low high (suc border) parted differ =
    let here : p.0.bucket ≡ low = parted.below 0 (omega arith) in
    let test : (p.0.bucket == low) ≡ true = grind (arith, nat_tests, here) in
    let rest = left_in-low ps low high border (parted_tail p ps low high border parted) differ in
    left_in-cons low p ps ∙ ap (λ b. (if b then 1 else 0) + left_in low ps) test ∙ omega (arith, rest)

pub left_in-high : (ps : List Pair) (low high border : ℕ) → IsParted ps low high border → low ≢ high → left_in high ps + border ≡ length ps
left_in-high [] low high border parted differ = let n = parted.in_range in omega (arith, n)
left_in-high (p ∷ ps) low high zero parted differ =
    let here : p.0.bucket ≡ high = parted.above 0 (omega arith) (omega arith) in
    let test : (p.0.bucket == high) ≡ true = grind (arith, nat_tests, here) in
    let rest = left_in-high ps low high 0 (parted_tail_high p ps low high parted) differ in
    let one = left_in-cons high p ps ∙ ap (λ b. (if b then 1 else 0) + left_in high ps) test in
    omega (arith, one, rest)
left_in-high (p ∷ ps) low high (suc border) parted differ =
    let here : p.0.bucket ≡ low = parted.below 0 (omega arith) in
    let test : (p.0.bucket == high) ≡ false = grind (arith, nat_tests, here, differ) in
    let rest = left_in-high ps low high border (parted_tail p ps low high border parted) differ in
    let none = left_in-cons high p ps ∙ ap (λ b. (if b then 1 else 0) + left_in high ps) test in
    omega (arith, none, rest)

-- what some picks have left of an order: the issues as they were, and the border
pub record IsAfter (ps mid : List Pair) (low high border : ℕ) : Type 0 where
  pub order : IsOrder mid
  pub parted : IsParted mid low high border
  pub len : length mid ≡ length ps
  pub issues : (k : ℕ) → issue_at mid k ≡ issue_at ps k

-- a pair at the border gets a rank of the other bucket
module _ (ps mid : List Pair) (low high border place : ℕ) (rank : RankParts) (was : IsAfter ps mid low high border) (fits : FitsAt mid place rank) where
  abbrev move : Move
  move = (issue_at ps place, rank)

  pub put : after_move mid move ≡ set mid place (rank, issue_at mid place)
  put = ap (λ (i : IssueNo). put_in (rank, i) (without i.0 mid)) (sym (was.issues place)) ∙ put_in-set mid was.order place rank fits

  after : (border' : ℕ) → IsParted (set mid place (rank, issue_at mid place)) low high border' → IsAfter ps (after_move mid move) low high border'
  after border' parted = subst (λ xs. IsAfter ps xs low high border') (sym put) (record {
    order = order_after mid was.order place rank fits;
    parted = parted;
    len = length-set mid place (rank, issue_at mid place) ∙ was.len;
    issues = λ k. same_issues mid was.order place rank fits k ∙ was.issues k;
  })

  pub free_move : IsFreeFor mid (issue_at ps place).0 rank
  free_move = subst (λ (i : IssueNo). IsFreeFor mid i.0 rank) (was.issues place) (free_at mid was.order place rank fits)

  bucket_there : bucket_at (set mid place (rank, issue_at mid place)) place ≡ rank.bucket
  bucket_there = ap (λ (r : RankParts). r.bucket) (rank_there mid was.order place rank fits)

  bucket_elsewhere : (k : ℕ) → k ≢ place → bucket_at (set mid place (rank, issue_at mid place)) k ≡ bucket_at mid k
  bucket_elsewhere k e = ap (λ (r : RankParts). r.bucket) (rank_elsewhere mid was.order place rank fits k e)

  -- on the way up the border goes down
  pub goes_down : place + 1 ≡ border → rank.bucket ≡ high → IsAfter ps (after_move mid move) low high place
  goes_down is bucket = after place (record {
    in_range = let n = was.parted.in_range in let m = length-set mid place (rank, issue_at mid place) in omega (arith, n, m);
    below = λ k lt. bucket_elsewhere k (omega arith) ∙ was.parted.below k (omega arith);
    above = λ k ge lt. high_from k ge (let m = length-set mid place (rank, issue_at mid place) in omega (arith, m, lt)) (cases_eq k place);
  })
    where
      high_from : (k : ℕ) → place ≤ k → k < length mid → (k ≡ place) ⊎ (k ≡ place → ⊥) → bucket_at (set mid place (rank, issue_at mid place)) k ≡ high
      high_from k ge lt (inl e) = ap (λ j. bucket_at (set mid place (rank, issue_at mid place)) j) e ∙ bucket_there ∙ bucket
      high_from k ge lt (inr e) = bucket_elsewhere k e ∙ was.parted.above k (omega arith) lt

  -- and on the way down it goes up
  pub goes_up : place ≡ border → rank.bucket ≡ low → IsAfter ps (after_move mid move) low high (place + 1)
  goes_up is bucket = after (place + 1) (record {
    in_range = let n = fits.in_range in let m = length-set mid place (rank, issue_at mid place) in omega (arith, n, m);
    below = λ k lt. low_to k lt (cases_eq k place);
    above = λ k ge lt. let m = length-set mid place (rank, issue_at mid place) in bucket_elsewhere k (omega arith) ∙ was.parted.above k (omega arith) (omega (arith, m, lt));
  })
    where
      low_to : (k : ℕ) → k < place + 1 → (k ≡ place) ⊎ (k ≡ place → ⊥) → bucket_at (set mid place (rank, issue_at mid place)) k ≡ low
      low_to k lt (inl e) = ap (λ j. bucket_at (set mid place (rank, issue_at mid place)) j) e ∙ bucket_there ∙ bucket
      low_to k lt (inr e) = bucket_elsewhere k e ∙ was.parted.below k (omega arith)
