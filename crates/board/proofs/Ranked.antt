-- What is kept when an issue gets its rank and its place.
use Rattle.std.proofs.Common.{◌≡◌, ℕ, ◌+◌, ◌<◌, ◌≤◌, List, length, get_or, set, Option, Some, None, refl, sym, ◌∙◌, ap, subst, arith}
use Rattle.std.specs.Prelude.{insert, remove, slice_index, IfSome}
use Rattle.std.proofs.lemmas.List.{length-set}
use Rattle.field_values.specs.declared.numbers.IssueNo.{IssueNo}
use Rattle.rank_strings.specs.Rank.{RankParts, IsRank}
use Rattle.rank_strings.specs.Text.{rank_text}
use Rattle.board.specs.Order.{Pair, IsOrder, IsFreeFor, place_in, rank_in, without, put_in}
use Rattle.board.specs.Issues.{other_issues}
use Rattle.board.specs.Table.{nothing, pairs_by, IsTableOf, IsKept}
use Rattle.board.specs.Search.{IsFront, Fits, GoesTo}
use Rattle.board.specs.Lengths.{AreCountsOf, AreCountedFor}
use Rattle.board.proofs.Given.{absent_from_none, found_from_some, number_at_found}
use Rattle.board.proofs.Put.{fits_there}
use Rattle.board.proofs.Placing.{put_in-fits, order_is_kept, without-differs}
use Rattle.board.proofs.Gaps.{places_before_none}
use Rattle.board.proofs.Counts.{counted_after, one_counted}
use Rattle.board.proofs.Tabled.{number_in, length-pairs, number-pairs, without-pairs, numbers_once, others-at, others-absent, others-differ, pairs-insert, table_after}

abbrev numbered : ℕ → IssueNo
numbered n = record { 0 = n }

-- a new issue goes behind those that are below it
pub new_fits : (ps : List Pair) (rank : RankParts) (issue below : ℕ) → IsOrder ps → IsFreeFor ps issue rank → IsFront ps rank below → place_in ps issue ≡ None → Fits (without issue ps) rank below
new_fits ps rank issue below order free front none =
    let n = front.in_range in
    fits_there ps rank issue (length ps) below below order free front (places_before_none ps issue none)
    (record { later = λ lt. absurd (omega (arith, n, lt)); earlier = λ le. refl })

-- an issue that stands there goes where its rank belongs among the others
pub old_fits : (ps : List Pair) (rank : RankParts) (issue place below to : ℕ) → IsOrder ps → IsFreeFor ps issue rank → IsFront ps rank below → place_in ps issue ≡ Some place → GoesTo place below to → Fits (without issue ps) rank to
old_fits ps rank issue place below to order free front some goes =
    let found = found_from_some ps issue place some in
    fits_there ps rank issue place below to order free front (sym found.1) goes

-- the rank that an issue has is counted
pub counted_if : (ps : List Pair) (issue : ℕ) (counts : List ℕ) (o : Option RankParts) → IsOrder ps → AreCountsOf ps counts → o ≡ rank_in ps issue → IfSome o (λ rank. 0 < slice_index counts (length (rank_text rank)))
counted_if ps issue counts None order counted is = tt
counted_if ps issue counts (Some rank) order counted is = one_counted ps issue counts rank order.once counted (sym is)

module _ (ranks : List (Option RankParts)) (is : List IssueNo) (issue : IssueNo) (order : IsOrder (pairs_by ranks is)) (table : IsTableOf (pairs_by ranks is) ranks) where
  abbrev ps : List Pair
  ps = pairs_by ranks is

  pub new_one : place_in (pairs_by ranks is) issue.0 ≡ None → other_issues issue.0 is ≡ is
  new_one none =
      let n = length-pairs ranks is in
      others-absent issue.0 is (λ k lt same. absent_from_none ps issue.0 order.once none k (omega arith) (number-pairs ranks is k nothing.1 lt ∙ same))

  -- where it stands
  pub record Stands (place : ℕ) : Type 0 where
    pub in_range : place < length is
    pub others : other_issues issue.0 is ≡ remove is place
    pub there : get_or is place nothing.1 ≡ issue

  pub old_one : (place : ℕ) → place_in (pairs_by ranks is) issue.0 ≡ Some place → Stands place
  old_one place some =
      let n = length-pairs ranks is in
      let found = found_from_some ps issue.0 place some in
      let lt : place < length is = omega arith in
      let here : number_in is place ≡ issue.0 = sym (number-pairs ranks is place nothing.1 lt) ∙ number_at_found ps issue.0 place some in
      record {
        in_range = lt;
        others = others-at is place issue.0 (numbers_once ranks is order table) lt here;
        there = ap numbered here;
      }

  module _ (rank : RankParts) (is_rank : IsRank rank) (free : IsFreeFor (pairs_by ranks is) issue.0 rank) (in_table : issue.0 < length ranks)
      (to : ℕ) (fits : Fits (without issue.0 (pairs_by ranks is)) rank to) where
    abbrev after : List Pair
    after = put_in (rank, issue) (without issue.0 ps)

    pub pairs_after : pairs_by (set ranks issue.0 (Some rank)) (insert (other_issues issue.0 is) to issue) ≡ put_in (rank, issue) (without issue.0 (pairs_by ranks is))
    pairs_after =
        let left = without-pairs ranks issue.0 is in
        let n = ap length left ∙ length-pairs ranks (other_issues issue.0 is) in
        let f = fits.in_range in
        pairs-insert ranks issue rank in_table (other_issues issue.0 is) to (omega (arith, n, f)) (others-differ is issue.0)
        ∙ ap (λ (xs : List Pair). insert xs to (rank, issue)) (sym left)
        ∙ sym (put_in-fits (without issue.0 ps) (rank, issue) to fits)

    pub kept_after : (new : List IssueNo) (old_counts counts : List ℕ) (slots : ℕ) → new ≡ insert (other_issues issue.0 is) to issue → AreCountsOf (pairs_by ranks is) old_counts
        → AreCountedFor old_counts counts (rank_in (pairs_by ranks is) issue.0) (length (rank_text rank))
        → (0 < length (set ranks issue.0 (Some rank)) → 255 ≤ length counts) → length ranks ≤ slots + 1 → IsKept new (set ranks issue.0 (Some rank)) counts slots
    kept_after new old_counts counts slots new_is old counted lengths enough =
        let given = set ranks issue.0 (Some rank) in
        let same : pairs_by given new ≡ after = ap (pairs_by given) new_is ∙ pairs_after in
        let n = length-set ranks issue.0 (Some rank) in
        record {
          order = subst IsOrder (sym same) (order_is_kept ps issue rank order is_rank free);
          table = subst (λ qs. IsTableOf qs given) (sym same) (table_after ranks issue rank in_table ps table (without-differs ps issue.0));
          counted = subst (λ qs. AreCountsOf qs counts) (sym same) (counted_after ps issue rank old_counts counts order.once old counted);
          all_lengths = lengths;
          enough = omega arith;
        }
