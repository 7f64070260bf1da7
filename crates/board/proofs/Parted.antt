-- What a search finds among pairs in order.
use Rattle.std.proofs.Common.{◌≡◌, ◌≢◌, ℕ, ◌≤◌, true, false, List, length, get_or, inl, inr, refl, sym, ap, subst, arith}
use Rattle.std.proofs.lemmas.Bool.{cases_eq}
use Rattle.std.specs.declared.cmp.Ordering.{Ordering}
use Rattle.std.specs.declared.cmp.Ordering.TheVariants.{Less, Equal, Greater}
use Rattle.std.specs.Ordering.{is_lt}
use Rattle.std.specs.List.Sorted.{IsPartitionedBy, IsPartitionPoint}
use Rattle.rank_strings.specs.Rank.{RankParts, IsRank, rank_cmp}
use Rattle.rank_strings.specs.Total.{rank_cmp-total}
use Rattle.board.specs.Order.{Pair, IsOrder}
use Rattle.board.specs.Table.{nothing}
use Rattle.board.specs.Search.{IsFront}

pub less_from_lt : (o : Ordering) → is_lt o ≡ true → o ≡ Less
less_from_lt Less h = refl
less_from_lt Equal h = cc
less_from_lt Greater h = cc

pub not_less_from_lt : (o : Ordering) → is_lt o ≡ false → o ≢ Less
not_less_from_lt o h less = let t : is_lt o ≡ true = ap is_lt less in cc

module _ (ps : List Pair) (order : IsOrder ps) (r : RankParts) where
  -- ranks below r stand before those that aren't
  pub parted : IsPartitionedBy (λ p. is_lt (rank_cmp p.0 r)) ps
  parted i j d le in_range below =
      elim (cases_eq i j) [
        | inl same ↦ subst (λ k. is_lt (rank_cmp (get_or ps k d).0 r) ≡ true) (sym same) below
        | inr differ ↦
            ap is_lt (rank_cmp-total.trans (get_or ps i d).0 (get_or ps j d).0 r (order.rising i j d (omega arith) in_range) (less_from_lt (rank_cmp (get_or ps j d).0 r) below))
      ]

  pub front : (n : ℕ) → IsRank r → n ≤ length ps → IsPartitionPoint (λ p. is_lt (rank_cmp p.0 r) ≡ true) (λ p. is_lt (rank_cmp p.0 r) ≡ false) ps n → IsFront ps r n
  front n is_rank in_range point = record {
    is_rank = is_rank;
    in_range = in_range;
    below = λ k lt. less_from_lt (rank_cmp (get_or ps k nothing).0 r) (point.0 k nothing (omega arith) lt);
    not_below = λ k le lt. not_less_from_lt (rank_cmp (get_or ps k nothing).0 r) (point.1 k nothing le lt);
  }
