-- The picked pair stands at the border between two buckets.
use Rattle.std.proofs.Common.{◌≡◌, ◌≢◌, ℕ, zero, suc, ◌+◌, ◌<◌, ◌≤◌, ◌==◌, true, false, Bool, List, [], ◌∷◌, ◌⊎◌, length, get_or, Some, None, refl, sym, ◌∙◌, ap, inl, inr, arith}
use Rattle.std.specs.List.Sorted.{IsPartitionedBy, IsPartitionPoint}
use Rattle.std.proofs.lemmas.Bool.{cases_eq, cases_lt}
use Rattle.std.proofs.lemmas.Bool.Decides.{nat_tests}
use Rattle.std.specs.Prelude.{nat_le, option_map}
use Rattle.std.proofs.lemmas.List.{get_or-map, length-map}
use Rattle.std.proofs.lemmas.Option.{slice_get-get_or}
use Rattle.field_values.specs.declared.numbers.IssueNo.{IssueNo}
use Rattle.rank_strings.specs.Rank.{RankParts}
use Rattle.board.specs.Order.{Pair, IsOrder, rank_in}
use Rattle.board.specs.Issues.{issues_in}
use Rattle.board.specs.Place.{rank_below}
use Rattle.board.specs.Search.{rank_at}
use Rattle.board.specs.Table.{nothing}
use Rattle.board.proofs.Tabled.{rank_in-at}
use Rattle.board.proofs.Placing.{bucket_le}
use Rattle.rank_balancer.specs.Border.{bucket_at, is_up_to, IsBorder, StandsAt}
use Rattle.rank_balancer.specs.Pick.{first_in, last_in}

-- buckets rise along an order
pub buckets_rise : (ps : List Pair) → IsOrder ps → (i j : ℕ) (d : Pair) → i ≤ j → j < length ps → (get_or ps i d).0.bucket ≤ (get_or ps j d).0.bucket
buckets_rise ps order i j d le lt = by (cases_eq i j)
  where
    by : (i ≡ j) ⊎ (i ≡ j → ⊥) → (get_or ps i d).0.bucket ≤ (get_or ps j d).0.bucket
    by (inl e) = let same = ap (λ k. (get_or ps k d).0.bucket) e in omega arith
    by (inr e) = bucket_le (get_or ps i d).0 (get_or ps j d).0 (order.rising i j d (omega arith) lt)

pub parted_by_bucket : (ps : List Pair) (bucket : ℕ) → IsOrder ps → IsPartitionedBy (λ p. nat_le p.0.bucket bucket) ps
parted_by_bucket ps bucket order i j d le lt h = let rise = buckets_rise ps order i j d le lt in grind (arith, nat_tests)

-- the same by issues: one at a place, and its rank
module _ (ps : List Pair) (order : IsOrder ps) (bucket : ℕ) (is : List IssueNo) (same : is ≡ issues_in ps) where
  abbrev q : IssueNo → Bool
  q i = is_up_to bucket (rank_in ps i.0)

  up_to_at : (k : ℕ) (d : IssueNo) → k < length ps → is_up_to bucket (rank_in ps (get_or is k d).0) ≡ nat_le (bucket_at ps k) bucket
  up_to_at k d lt =
      let i : get_or is k d ≡ (get_or ps k nothing).1 = ap (λ (xs : List IssueNo). get_or xs k d) same ∙ get_or-map (λ (p : Pair). p.1) ps k nothing d lt in
      ap q i ∙ ap (is_up_to bucket) (rank_in-at ps k order lt)

  many : length is ≡ length ps
  many = ap length same ∙ length-map ps (λ (p : Pair). p.1)

  pub issues_parted : IsPartitionedBy (λ i. is_up_to bucket (rank_in ps i.0)) is
  issues_parted i j d le lt h =
      let n = many in
      up_to_at i d (omega arith) ∙ parted_by_bucket ps bucket order i j nothing le (omega arith) (sym (up_to_at j d (omega arith)) ∙ h)

  pub border_of_issues : (n : ℕ) → n ≤ length is → IsPartitionPoint (λ i. is_up_to bucket (rank_in ps i.0) ≡ true) (λ i. is_up_to bucket (rank_in ps i.0) ≡ false) is n → IsBorder ps bucket n
  border_of_issues n le point =
      let m = many in
      record {
        in_range = omega arith;
        up_to = λ k lt. let h = sym (up_to_at k nothing.1 (omega arith)) ∙ point.0 k nothing.1 (omega arith) lt in grind (arith, nat_tests);
        beyond = λ k ge lt. let h = sym (up_to_at k nothing.1 lt) ∙ point.1 k nothing.1 ge (omega arith) in grind (arith, nat_tests);
      }

-- the bucket of the rank at a place
pub bucket_below : (ps : List Pair) (place : ℕ) (rank : RankParts) → place < length ps → Some rank ≡ rank_below ps place → rank.bucket ≡ bucket_at ps place
bucket_below ps place rank lt is =
    let got : Some rank ≡ Some (rank_at ps place) = is ∙ ap (option_map (λ (p : Pair). p.0)) (slice_get-get_or ps place nothing lt) in
    let same : rank ≡ rank_at ps place = cc in
    ap (λ (r : RankParts). r.bucket) same

pub some_below : (ps : List Pair) (place : ℕ) → place < length ps → None ≡ rank_below ps place → ⊥
some_below ps place lt is =
    let got : None ≡ Some (rank_at ps place) = is ∙ ap (option_map (λ (p : Pair). p.0)) (slice_get-get_or ps place nothing lt) in
    cc

-- no pair of the bucket
pub first_in-none : (ps : List Pair) (bucket : ℕ) → ((k : ℕ) → k < length ps → bucket_at ps k ≢ bucket) → first_in bucket ps ≡ None
first_in-none [] bucket absent = refl
first_in-none (p ∷ ps) bucket absent = let rest = first_in-none ps bucket (λ k lt. absent (suc k) (omega arith)) in let other = absent 0 (omega arith) in grind (arith, nat_tests)

pub last_in-none : (ps : List Pair) (bucket : ℕ) → ((k : ℕ) → k < length ps → bucket_at ps k ≢ bucket) → last_in bucket ps ≡ None
last_in-none [] bucket absent = refl
last_in-none (p ∷ ps) bucket absent =
    let rest = last_in-none ps bucket (λ k lt. absent (suc k) (omega arith)) in
    let other : p.0.bucket ≢ bucket = absent 0 (omega arith) in
    let test : (p.0.bucket == bucket) ≡ false = grind (arith, nat_tests) in
    rw (rest, test) refl

-- the first pair of the bucket
pub first_in-at : (ps : List Pair) (bucket k : ℕ) → k < length ps → bucket_at ps k ≡ bucket → ((j : ℕ) → j < k → bucket_at ps j ≢ bucket) → first_in bucket ps ≡ Some (get_or ps k nothing)
first_in-at [] bucket k lt is absent = absurd (omega arith)
first_in-at (p ∷ ps) bucket zero lt is absent = let test : (p.0.bucket == bucket) ≡ true = grind (arith, nat_tests) in rw test refl
first_in-at (p ∷ ps) bucket (suc k) lt is absent =
    let other : p.0.bucket ≢ bucket = absent 0 (omega arith) in
    let test : (p.0.bucket == bucket) ≡ false = grind (arith, nat_tests) in
    rw test (first_in-at ps bucket k (omega arith) is (λ j less. absent (suc j) (omega arith)))

-- the last pair of the bucket
pub last_in-at : (ps : List Pair) (bucket k : ℕ) → k < length ps → bucket_at ps k ≡ bucket → ((j : ℕ) → k < j → j < length ps → bucket_at ps j ≢ bucket) → last_in bucket ps ≡ Some (get_or ps k nothing)
last_in-at [] bucket k lt is absent = absurd (omega arith)
last_in-at (p ∷ ps) bucket zero lt is absent =
    let test : (p.0.bucket == bucket) ≡ true = grind (arith, nat_tests) in
    let rest = last_in-none ps bucket (λ j less. absent (suc j) (omega arith) (omega arith)) in
    rw (rest, test) refl
last_in-at (p ∷ ps) bucket (suc k) lt is absent =
    let rest = last_in-at ps bucket k (omega arith) is (λ j less in_range. absent (suc j) (omega arith) (omega arith)) in
    rw rest refl

module _ (ps : List Pair) (order : IsOrder ps) (bucket above : ℕ) (border : IsBorder ps bucket above) where
  pub last_found : (k : ℕ) → above ≡ k + 1 → bucket_at ps k ≡ bucket → StandsAt ps k (last_in bucket ps)
  last_found k is here =
      let n = border.in_range in
      (omega arith, last_in-at ps bucket k (omega arith) here (λ j less lt same. let h = border.beyond j (omega arith) lt in omega arith))

  pub last_absent : (k : ℕ) → above ≡ k + 1 → bucket_at ps k ≢ bucket → last_in bucket ps ≡ None
  last_absent k is other = last_in-none ps bucket (λ j lt same. by j lt same (cases_lt j above))
    where
      by : (j : ℕ) → j < length ps → bucket_at ps j ≡ bucket → (j < above) ⊎ (above ≤ j) → ⊥
      by j lt same (inl h) = let n = border.in_range in let rise = buckets_rise ps order j k nothing (omega arith) (omega arith) in let up = border.up_to k (omega arith) in other (omega arith)
      by j lt same (inr h) = let beyond = border.beyond j h lt in omega arith

  pub last_nowhere : above ≡ 0 → last_in bucket ps ≡ None
  last_nowhere is = last_in-none ps bucket (λ j lt same. let beyond = border.beyond j (omega arith) lt in omega arith)

-- bucket 2 is the last one
module _ (ps : List Pair) (order : IsOrder ps) (place : ℕ) (border : IsBorder ps 1 place) where
  pub first_found : place < length ps → StandsAt ps place (first_in 2 ps)
  first_found lt =
      let more = border.beyond place (omega arith) lt in
      let most = (order.ranks place nothing lt).in_circle in
      (lt, first_in-at ps 2 place lt (omega arith) (λ j less same. let up = border.up_to j less in omega arith))

  pub first_absent : length ps ≤ place → first_in 2 ps ≡ None
  first_absent le = first_in-none ps 2 (λ j lt same. let up = border.up_to j (omega arith) in omega arith)
