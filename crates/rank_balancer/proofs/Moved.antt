-- A picked pair gets its new rank where it stands.
use Rattle.std.proofs.Common.{◌≡◌, ◌≢◌, ℕ, zero, suc, ◌+◌, ◌<◌, List, [], ◌∷◌, ◌⊎◌, length, set, get_or, refl, sym, ◌∙◌, ap, subst, inl, inr, arith}
use Rattle.std.specs.Prelude.{insert, remove}
use Rattle.std.specs.declared.cmp.Ordering.TheVariants.{Less}
use Rattle.std.proofs.lemmas.Bool.{cases_eq}
use Rattle.std.proofs.lemmas.List.{get_or-set_same, get_or-set_other}
use Rattle.field_values.specs.declared.numbers.IssueNo.{IssueNo}
use Rattle.rank_strings.specs.Rank.{RankParts, IsRank, rank_cmp}
use Rattle.board.specs.Order.{Pair, IsOrder, IsFreeFor, without, put_in}
use Rattle.board.specs.Table.{nothing}
use Rattle.board.specs.Search.{rank_at, Fits}
use Rattle.board.proofs.Moves.{places_before-number_at}
use Rattle.board.proofs.Given.{without-at}
use Rattle.board.proofs.Put.{AreOthers, others}
use Rattle.board.proofs.Placing.{put_in-fits, free_where_fits, order_is_kept}

insert_set : {X : Type 0} (xs : List X) (k : ℕ) (x : X) → k < length xs → insert (remove xs k) k x ≡ set xs k x
insert_set [] k x lt = absurd (omega arith)
insert_set (y ∷ xs) zero x lt = refl
insert_set (y ∷ xs) (suc k) x lt = ap (λ ys. y ∷ ys) (insert_set xs k x (omega arith))

abbrev pub issue_at : List Pair → ℕ → IssueNo
issue_at ps place = let p = get_or ps place nothing in p.1

-- a rank that is above all ranks before a place and below all behind it
pub record FitsAt (ps : List Pair) (place : ℕ) (rank : RankParts) : Type 0 where
  pub in_range : place < length ps
  pub is_rank : IsRank rank
  pub below : (k : ℕ) → k < place → rank_cmp (rank_at ps k) rank ≡ Less
  pub above : (k : ℕ) → place < k → k < length ps → rank_cmp rank (rank_at ps k) ≡ Less

module _ (ps : List Pair) (order : IsOrder ps) (place : ℕ) (rank : RankParts) (fits_at : FitsAt ps place rank) where
  abbrev issue : IssueNo
  issue = issue_at ps place

  abbrev rest : List Pair
  rest = without issue.0 ps

  o : AreOthers ps rest place
  o = subst (λ k. AreOthers ps rest k) (places_before-number_at ps place order.once fits_at.in_range) (others ps issue.0 order)

  fits : Fits rest rank place
  fits =
      let n = o.there fits_at.in_range in
      let lt = fits_at.in_range in
      record {
        in_range = omega (arith, n, lt);
        below = λ k less. ap (λ p. rank_cmp p.0 rank) (o.before k less) ∙ fits_at.below k less;
        above = λ k ge in_range. ap (λ p. rank_cmp rank p.0) (o.behind k ge) ∙ fits_at.above (k + 1) (omega arith) (omega (arith, n, in_range));
      }

  pub free_at : IsFreeFor ps issue.0 rank
  free_at = free_where_fits rest rank place fits

  -- nothing moves, and the pair has the new rank
  pub put_in-set : put_in (rank, issue) rest ≡ set ps place (rank, issue)
  put_in-set = put_in-fits rest (rank, issue) place fits ∙ ap (λ xs. insert xs place (rank, issue)) (without-at ps place order.once fits_at.in_range) ∙ insert_set ps place (rank, issue) fits_at.in_range

  pub order_after : IsOrder (set ps place (rank, issue))
  order_after = subst IsOrder put_in-set (order_is_kept ps issue rank order fits_at.is_rank free_at)

  pub same_issues : (k : ℕ) → issue_at (set ps place (rank, issue)) k ≡ issue_at ps k
  same_issues k = by (cases_eq k place)
    where
      by : (k ≡ place) ⊎ (k ≡ place → ⊥) → issue_at (set ps place (rank, issue)) k ≡ issue_at ps k
      by (inl e) = ap (λ j. issue_at (set ps place (rank, issue)) j) e ∙ ap (λ p. p.1) (get_or-set_same ps place (rank, issue) nothing fits_at.in_range) ∙ ap (issue_at ps) (sym e)
      by (inr e) = ap (λ p. p.1) (get_or-set_other ps place k (rank, issue) nothing e)

  pub rank_there : rank_at (set ps place (rank, issue)) place ≡ rank
  rank_there = ap (λ p. p.0) (get_or-set_same ps place (rank, issue) nothing fits_at.in_range)

  pub rank_elsewhere : (k : ℕ) → k ≢ place → rank_at (set ps place (rank, issue)) k ≡ rank_at ps k
  rank_elsewhere k e = ap (λ p. p.0) (get_or-set_other ps place k (rank, issue) nothing e)
