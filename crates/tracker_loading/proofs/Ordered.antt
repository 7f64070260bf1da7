-- Ranks of issues by their numbers make the order of a tracker.
use Rattle.std.proofs.Common.{◌⊎◌, inl, inr, ◌≡◌, ◌≢◌, ℕ, zero, suc, ◌+◌, ◌<◌, ◌≤◌, Bool, true, List, length, get_or, None, refl, sym, ◌∙◌, ap, arith}
use Rattle.std.specs.Prelude.{AllPairs, option_map}
use Rattle.std.specs.List.{IsDistinct}
use Rattle.std.specs.List.Sorted.{IsPermutation}
use Rattle.std.specs.declared.cmp.Ordering.{Ordering}
use Rattle.std.specs.declared.cmp.Ordering.TheVariants.{Less, Equal, Greater}
use Rattle.std.specs.Ordering.{is_eq, ordering_reverse}
use Rattle.std.proofs.lemmas.Bool.{cases_lt, false≢true}
use Rattle.std.proofs.lemmas.Cmp.{tied_itself}
use Rattle.std.proofs.lemmas.List.Sorted.{All-permutation, length_permutation, IsPermutation-sym}
use Rattle.std.proofs.lemmas.Map.Keys.{IsDistinct-IsPermutation, IsDistinct-from_apart, apart_from_distinct}
use Rattle.std.proofs.lemmas.Option.{slice_get_past}
use Rattle.rank_strings.specs.Rank.{RankParts, rank_cmp}
use Rattle.rank_strings.specs.Total.{rank_cmp-total}
use Rattle.board.specs.Order.{Pair, places_before, rank_in}
use Rattle.rank_balancer.specs.declared.balance.Balance.{Balance}
use Rattle.rank_balancer.specs.declared.balance.Balance.TheVariants.{Idle, Moving}
use Rattle.rank_balancer.specs.Balance.{Agrees}
use Rattle.tracker_ranks.specs.Loaded.{AreLoaded, MayBeLoaded, numbered_from}
use Rattle.tracker_ranks.specs.Ranked.{IsRanked, OrderedIssues}
use Rattle.tracker_ranks.proofs.Loading.{length-numbered_from, numbered, pair_numbered}
use Rattle.tracker_ranks.proofs.OneOrder.{ranks_make_one_order, loaded_ranks_are_those}

-- pairs of one rank
abbrev same_rank : Pair → Pair → Bool
same_rank p q = is_eq (rank_cmp p.0 q.0)

is_eq-reverse : (o : Ordering) → is_eq (ordering_reverse o) ≡ is_eq o
is_eq-reverse Less = refl
is_eq-reverse Equal = refl
is_eq-reverse Greater = refl

same_rank-flips : (p q : Pair) → same_rank p q ≡ same_rank q p
same_rank-flips p q = ap is_eq (rank_cmp-total.antisymm p.0 q.0) ∙ is_eq-reverse (rank_cmp q.0 p.0)

module _ (ranks : List RankParts) (order : List Pair) (b : Balance) (same : IsPermutation (numbered_from 1 ranks) order) (ranked : IsRanked order b) where
  back : IsPermutation order (numbered_from 1 ranks)
  back = IsPermutation-sym (numbered_from 1 ranks) order same

  pub as_many : length order ≡ length ranks
  as_many = length_permutation (numbered_from 1 ranks) order same ∙ length-numbered_from 1 ranks

  distinct : IsDistinct same_rank (numbered_from 1 ranks)
  distinct =
      IsDistinct-IsPermutation same_rank same_rank-flips order (numbered_from 1 ranks) back
      (IsDistinct-from_apart same_rank order (λ i j d less lt. ap is_eq (ranked.order.rising i j d less lt)))

  -- no two ranks are the same
  differ : AllPairs (λ one other. one ≢ other) ranks
  differ i j d less lt one =
      let n = length-numbered_from 1 ranks in
      let p = get_or (numbered_from 1 ranks) i (d, numbered 0) in
      let q = get_or (numbered_from 1 ranks) j (d, numbered 0) in
      let apart = apart_from_distinct same_rank (numbered_from 1 ranks) i j (d, numbered 0) distinct less (omega (arith, n, lt)) in
      let first = ap (λ (x : Pair). x.0) (pair_numbered 1 ranks i (d, numbered 0) d (omega (arith, less, lt))) in
      let other = ap (λ (x : Pair). x.0) (pair_numbered 1 ranks j (d, numbered 0) d lt) in
      let equal : is_eq (rank_cmp p.0 q.0) ≡ true = ap is_eq (ap (rank_cmp p.0) (other ∙ sym one ∙ sym first) ∙ tied_itself rank_cmp-total p.0) in
      false≢true (sym apart ∙ equal)

  agreeing : (own : Balance) → Agrees order own → Agrees (numbered_from 1 ranks) own
  agreeing (Idle bucket) agrees = (agrees.0, All-permutation (λ (p : Pair). p.0.bucket ≡ bucket) order (numbered_from 1 ranks) back agrees.1)
  agreeing (Moving from to) agrees =
      (agrees.0, agrees.1, All-permutation (λ (p : Pair). (p.0.bucket ≡ from) ⊎ (p.0.bucket ≡ to)) order (numbered_from 1 ranks) back agrees.2)

  -- such ranks may be loaded
  pub may_be_ranked : MayBeLoaded ranks b
  may_be_ranked = record { differ = differ; agrees = agreeing b ranked.agrees }

  -- no issue has the number 0
  no_first : (ps : List Pair) (own : Balance) → IsRanked ps own → rank_in ps 0 ≡ None
  no_first ps own is = by (cases_lt (places_before ps 0) (length ps))
    where
      by : (places_before ps 0 < length ps) ⊎ (length ps ≤ places_before ps 0) → rank_in ps 0 ≡ None
      by (inl there) = let one = (is.numbered 0).0 there in absurd (omega (arith, one))
      by (inr past) = ap (option_map (λ (p : Pair). p.0)) (slice_get_past ps (places_before ps 0) past)

  -- and then they are in that order
  pub loaded_order : (loaded : OrderedIssues) → IsRanked loaded.order loaded.balance → AreLoaded ranks b loaded → loaded.order ≡ order
  loaded_order loaded is are = ranks_make_one_order loaded.order order is.order ranked.order by
    where
      this : OrderedIssues
      this = record { order = order; balance = b; room = 0 }

      by : (issue : ℕ) → rank_in loaded.order issue ≡ rank_in order issue
      by zero = no_first loaded.order loaded.balance is ∙ sym (no_first order b ranked)
      by (suc n) =
          let next : suc n ≡ n + 1 = omega arith in
          ap (rank_in loaded.order) next ∙ loaded_ranks_are_those ranks b loaded is are n
          ∙ sym (ap (rank_in order) next ∙ loaded_ranks_are_those ranks b this ranked (record { issues = same; balance = refl }) n)
