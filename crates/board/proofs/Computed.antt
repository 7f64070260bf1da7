-- The rank for a place that is computed is the one that is given, and none is where none is given.
use Rattle.std.proofs.Common.{◌≡◌, ℕ, zero, suc, ◌<◌, ◌≤◌, ◌==◌, ◌&&◌, Bool, true, false, inl, inr, List, [], ◌∷◌, ◌⊎◌, length, Option, Some, None, Result, Ok, Err, IfOk, IfErr, refl, sym, ◌∙◌, ap, subst, arith, if◌then◌else◌}
use Rattle.std.specs.Prelude.{All, MatchOption, MatchResult, IfSome, option_map, slice_get}
use Rattle.std.proofs.lemmas.Bool.{cases_Bool, cases_lt, false≢true}
use Rattle.std.proofs.lemmas.Bool.Decides.{nat_tests}
use Rattle.std.proofs.lemmas.List.Elements.{All-cons, All-head, All-tail}
use Rattle.std.proofs.lemmas.Option.{slice_get-get_or, slice_get_past}
use Rattle.std.specs.Ordering.{is_lt}
use Rattle.field_values.specs.declared.numbers.IssueNo.{IssueNo}
use Rattle.rank_strings.specs.Rank.{RankParts, IsRank, IsBelow, rank_cmp}
use Rattle.rank_strings.specs.Between.{RanksGiven, HasNoRoom}
use Rattle.rank_strings.specs.Chosen.{IsChosen}
use Rattle.rank_strings.specs.Choice.{chosen_between}
use Rattle.rank_strings.specs.declared.fault.RankFault.{RankFault}
use Rattle.rank_strings.specs.declared.fault.RankFault.TheVariants.{Exhausted, Memory}
use Rattle.rank_strings.proofs.Unique.{same_chosen}
use Rattle.rank_strings.proofs.Computed.{chosen_is_computed}
use Rattle.board.specs.declared.place.Place.{Place}
use Rattle.board.specs.Order.{Pair, IsOrder, IsIn, places_before, rank_in, without, put_in}
use Rattle.board.specs.Table.{nothing}
use Rattle.board.specs.Search.{rank_at}
use Rattle.board.specs.Place.{others, gap, stands_at, rank_above, rank_below, bucket_between, bucket_beside, if_in, IsChosenBeside, ExplainsBeside, AreNamed, IsRankFor, ExplainsNoRank}
use Rattle.board.specs.Moved.{Sides, or_sides, rank_beside, own_rank, rank_given, with_rank, IsRefusalOf}
use Rattle.board.specs.Issues.{issues_in, issues_moved}
use Rattle.board.specs.Laws.{MovesKeepTheOrder}
use Rattle.board.proofs.Gaps.{beside_in_order}
use Rattle.board.proofs.Placing.{ranks_put_there}
use Rattle.board.proofs.Issues.{issues_are_moved}
use Rattle.board.proofs.Put as Put

-- what holds of all ranks holds of those beside a gap
if_at : (Q : RankParts → Type 0) (ps : List Pair) (k : ℕ) → All (λ p. Q p.0) ps → IfSome (option_map (λ (p : Pair). p.0) (slice_get ps k)) Q
if_at Q ps k all = by (cases_lt k (length ps))
  where
    by : (k < length ps) ⊎ (length ps ≤ k) → IfSome (option_map (λ (p : Pair). p.0) (slice_get ps k)) Q
    by (inl lt) = rw (slice_get-get_or ps k nothing lt) (all k nothing lt)
    by (inr ge) = rw (slice_get_past ps k ge) tt

if_above : (Q : RankParts → Type 0) (ps : List Pair) (g : ℕ) → All (λ p. Q p.0) ps → IfSome (rank_above ps g) Q
if_above Q ps zero all = tt
if_above Q ps (suc k) all = if_at Q ps k all

-- a neighbour that decides is in the bucket
if_deciding : (Q : RankParts → Type 0) (bucket : ℕ) (o : Option RankParts) → IfSome o Q → IfSome (if_in bucket o) Q
if_deciding Q bucket None h = tt
if_deciding Q bucket (Some r) h = by (cases_Bool (r.bucket == bucket))
  where
    by : ((r.bucket == bucket) ≡ true) ⊎ ((r.bucket == bucket) ≡ false) → IfSome (if_in bucket (Some r)) Q
    by (inl is) = rw is h
    by (inr is) = rw is tt

deciding_in_bucket : (bucket : ℕ) (o : Option RankParts) → IfSome (if_in bucket o) (λ r. r.bucket ≡ bucket)
deciding_in_bucket bucket None = tt
deciding_in_bucket bucket (Some r) = by (cases_Bool (r.bucket == bucket))
  where
    by : ((r.bucket == bucket) ≡ true) ⊎ ((r.bucket == bucket) ≡ false) → IfSome (if_in bucket (Some r)) (λ r. r.bucket ≡ bucket)
    by (inl is) = rw is (grind (arith, nat_tests))
    by (inr is) = rw is tt

deciding_in_order : (bucket : ℕ) (low high : Option RankParts) → IfSome low (λ l. IfSome high (λ h. IsBelow l h)) →
    IfSome (if_in bucket low) (λ l. IfSome (if_in bucket high) (λ h. IsBelow l h))
deciding_in_order bucket low high in_order =
    if_deciding (λ l. IfSome (if_in bucket high) (λ h. IsBelow l h)) bucket low (both low in_order)
  where
    both : (low : Option RankParts) → IfSome low (λ l. IfSome high (λ h. IsBelow l h)) → IfSome low (λ l. IfSome (if_in bucket high) (λ h. IsBelow l h))
    both None h = tt
    both (Some l) h = if_deciding (λ h. IsBelow l h) bucket high h

-- the bucket of a place is one of those beside it, or the one for an empty order
pub bucket_is_one : (P : ℕ → Type 0) (low high : Option RankParts) (empty : ℕ) → IfSome low (λ r. P r.bucket) → IfSome high (λ r. P r.bucket) → P empty →
    P (bucket_beside low high empty)
bucket_is_one P None None empty l h e = e
bucket_is_one P (Some low) None empty l h e = l
bucket_is_one P None (Some high) empty l h e = h
bucket_is_one P (Some low) (Some high) empty l h e = by (cases_Bool ((low.bucket == 0) && (high.bucket == 2)))
  where
    by : (((low.bucket == 0) && (high.bucket == 2)) ≡ true) ⊎ (((low.bucket == 0) && (high.bucket == 2)) ≡ false) → P (bucket_between low.bucket high.bucket)
    by (inl is) = let zero' : low.bucket ≡ 0 = grind (arith, nat_tests) in rw is (subst P zero' l)
    by (inr is) = rw is h

-- beside a gap of an order
module _ (ps : List Pair) (g empty : ℕ) (order : IsOrder ps) (circle : empty < 3) where
  abbrev low : Option RankParts
  low = rank_above ps g

  abbrev high : Option RankParts
  high = rank_below ps g

  abbrev bucket : ℕ
  bucket = bucket_beside low high empty

  low_rank : IfSome low IsRank
  low_rank = if_above IsRank ps g order.ranks

  high_rank : IfSome high IsRank
  high_rank = if_at IsRank ps g order.ranks

  in_circle : bucket < 3
  in_circle =
      bucket_is_one (λ b. b < 3) low high empty
      (if_above (λ r. r.bucket < 3) ps g (λ k d lt. (order.ranks k d lt).in_circle))
      (if_at (λ r. r.bucket < 3) ps g (λ k d lt. (order.ranks k d lt).in_circle)) circle

  pub deciding : RanksGiven (if_in bucket low) (if_in bucket high) bucket
  deciding = record {
    low_rank = if_deciding IsRank bucket low low_rank;
    high_rank = if_deciding IsRank bucket high high_rank;
    neighbours = record {
      in_circle = in_circle;
      low_in_bucket = deciding_in_bucket bucket low;
      high_in_bucket = deciding_in_bucket bucket high;
      in_order = deciding_in_order bucket low high (beside_in_order ps g order);
    };
  }

  pub beside_is_computed : MatchResult (rank_beside low high empty) (IsChosenBeside low high empty) (λ sides. ExplainsBeside low high empty (Exhausted sides.0 sides.1))
  beside_is_computed = by (chosen_between (if_in bucket low) (if_in bucket high) bucket) (chosen_is_computed (if_in bucket low) (if_in bucket high) bucket deciding)
    where
      by : (found : Option RankParts) → MatchOption found (HasNoRoom (if_in bucket low) (if_in bucket high) bucket) (IsChosen (if_in bucket low) (if_in bucket high) bucket) →
          MatchResult (or_sides (if_in bucket low, if_in bucket high) found) (IsChosenBeside low high empty) (λ sides. ExplainsBeside low high empty (Exhausted sides.0 sides.1))
      by None none = (refl, refl, none)
      by (Some r) chosen = chosen

in_order_others : (ps : List Pair) (asked : Option IssueNo) → IsOrder ps → IsOrder (others ps asked)
in_order_others ps None order = order
in_order_others ps (Some issue) order = (Put.others ps issue.0 order).in_order

-- the issue's own rank
own_found : (ps : List Pair) (issue : ℕ) → IsIn ps issue → rank_in ps issue ≡ Some (rank_at ps (places_before ps issue))
own_found ps issue there = ap (option_map (λ (p : Pair). p.0)) (slice_get-get_or ps (places_before ps issue) nothing there)

module _ (ps : List Pair) (asked : Option IssueNo) (place : Place) (empty : ℕ) (order : IsOrder ps) (named : AreNamed ps asked place) (circle : empty < 3) where
  abbrev rest : List Pair
  rest = others ps asked

  abbrev above : Option RankParts
  above = rank_above rest (gap ps asked place)

  abbrev below : Option RankParts
  below = rank_below rest (gap ps asked place)

  abbrev Answers : Result RankParts Sides → Type 0
  Answers given = MatchResult given (λ rank. IsRank rank × IsRankFor ps asked place empty rank) (λ sides. ExplainsNoRank ps asked place empty (Exhausted sides.0 sides.1))

  own_given : (o : Option IssueNo) → asked ≡ o → IfSome o (λ i. IsIn ps i.0) → stands_at ps o place ≡ true → Answers (or_sides (None, None) (own_rank ps o))
  own_given None e there stands = absurd (false≢true stands)
  own_given (Some i) e there stands =
      let found = own_found ps i.0 there in
      rw found (
        order.ranks (places_before ps i.0) nothing there,
        record {
          kept = λ j same _. let one : Some i ≡ Some j = sym e ∙ same in let is : i ≡ j = cc in ap (λ (k : IssueNo). rank_in ps k.0) (sym is) ∙ found;
          moved = λ apart. absurd (false≢true (sym apart ∙ ap (λ o. stands_at ps o place) e ∙ stands));
        },
      )

  beside_given : stands_at ps asked place ≡ false → (given : Result RankParts Sides) →
      MatchResult given (IsChosenBeside above below empty) (λ sides. ExplainsBeside above below empty (Exhausted sides.0 sides.1)) → Answers given
  beside_given apart (Ok rank) chosen = (chosen.between.is_rank, record { kept = λ i same stands. absurd (false≢true (sym apart ∙ stands)); moved = λ _. chosen })
  beside_given apart (Err sides) explained = (apart, explained)

  given_by : (b : Bool) → stands_at ps asked place ≡ b → rank_given ps asked place empty ≡ (if b then or_sides (None, None) (own_rank ps asked) else rank_beside above below empty)
  unfolding rank_given
  given_by b is = ap (λ c. if c then or_sides (None, None) (own_rank ps asked) else rank_beside above below empty) is

  pub rank_is_computed : Answers (rank_given ps asked place empty)
  rank_is_computed = by (cases_Bool (stands_at ps asked place))
    where
      by : (stands_at ps asked place ≡ true) ⊎ (stands_at ps asked place ≡ false) → Answers (rank_given ps asked place empty)
      by (inl is) = subst Answers (sym (given_by true is)) (own_given asked refl named.issue_there is)
      by (inr is) = subst Answers (sym (given_by false is)) (beside_given is (rank_beside above below empty) (beside_is_computed rest (gap ps asked place) empty (in_order_others ps asked order) circle))

  abbrev given_here : RanksGiven (if_in (bucket_beside above below empty) above) (if_in (bucket_beside above below empty) below) (bucket_beside above below empty)
  given_here = deciding rest (gap ps asked place) empty (in_order_others ps asked order) circle

  same_rank : (a b : RankParts) → IsRankFor ps asked place empty a → IsRankFor ps asked place empty b → a ≡ b
  same_rank a b fa fb = by asked refl (cases_Bool (stands_at ps asked place))
    where
      by : (o : Option IssueNo) → asked ≡ o → (stands_at ps asked place ≡ true) ⊎ (stands_at ps asked place ≡ false) → a ≡ b
      by o e (inr apart) =
          same_chosen (if_in (bucket_beside above below empty) above) (if_in (bucket_beside above below empty) below) (bucket_beside above below empty)
          given_here a b (fa.moved apart) (fb.moved apart)
      by None e (inl stands) = absurd (false≢true (sym (ap (λ o. stands_at ps o place) e) ∙ stands))
      by (Some i) e (inl stands) = let one = fa.kept i e stands in let two = fb.kept i e stands in cc

  not_both : (a : RankParts) (l h : Option RankParts) → IsRankFor ps asked place empty a → ExplainsNoRank ps asked place empty (Exhausted l h) → ⊥
  not_both a l h is none = none.1.2 a (is.moved none.0).between

  pub rank_given_alone : (rank : RankParts) → IsRankFor ps asked place empty rank → rank_given ps asked place empty ≡ Ok rank
  rank_given_alone rank is = by (rank_given ps asked place empty) rank_is_computed
    where
      by : (given : Result RankParts Sides) → Answers given → given ≡ Ok rank
      by (Ok r) h = ap Ok (same_rank r rank h.1 is)
      by (Err sides) h = absurd (not_both rank sides.0 sides.1 is h)

  pub refusal_alone : (l h : Option RankParts) → ExplainsNoRank ps asked place empty (Exhausted l h) → rank_given ps asked place empty ≡ Err (l, h)
  refusal_alone l h none = by (rank_given ps asked place empty) rank_is_computed
    where
      by : (given : Result RankParts Sides) → Answers given → given ≡ Err (l, h)
      by (Ok r) answer = absurd (not_both r l h answer.1 none)
      by (Err sides) answer =
          let a : sides.0 ≡ l = answer.1.0 ∙ sym none.1.0 in
          let b : sides.1 ≡ h = answer.1.1 ∙ sym none.1.1 in
          ap Err (λ i. (a i, b i))

  -- what an answer is
  pub answer_computed : (answer : Result RankParts RankFault) → IfOk answer (IsRankFor ps asked place empty) →
      IfOk answer (λ rank. rank_given ps asked place empty ≡ Ok rank)
  answer_computed (Ok rank) is = rank_given_alone rank is
  answer_computed (Err fault) is = tt

  pub refusal_computed : (answer : Result RankParts RankFault) → IfErr answer (ExplainsNoRank ps asked place empty) →
      IfErr answer (IsRefusalOf (rank_given ps asked place empty))
  refusal_computed (Ok rank) explained = tt
  refusal_computed (Err (Exhausted l h)) explained = refusal_alone l h explained
  refusal_computed (Err Memory) explained = tt

pub moves_keep_the_order : MovesKeepTheOrder
moves_keep_the_order ps asked issue place empty order named asked_for circle = by (rank_given ps asked place empty) (rank_is_computed ps asked place empty order named circle)
  where
    by : (given : Result RankParts Sides) →
        MatchResult given (λ rank. IsRank rank × IsRankFor ps asked place empty rank) (λ sides. ExplainsNoRank ps asked place empty (Exhausted sides.0 sides.1)) →
        IfOk (with_rank ps issue given) (λ qs. IsOrder qs × (issues_in qs ≡ issues_moved issue place (issues_in ps)))
    by (Err sides) h = tt
    by (Ok rank) h = (
      (ranks_put_there ps issue asked place empty rank order h.0 named asked_for h.1).in_order,
      issues_are_moved ps issue asked place empty rank order h.0 named asked_for h.1,
    )

-- what holds of all buckets, and of the one for an empty order, holds of all after a rank that is given for a place is put
all_without : (Q : Pair → Type 0) (issue : ℕ) (ps : List Pair) → All Q ps → All Q (without issue ps)
all_without Q issue [] all = all
all_without Q issue (p ∷ ps) all = by (cases_Bool (p.1.0 == issue)) (all_without Q issue ps (All-tail Q p ps all))
  where
    by : ((p.1.0 == issue) ≡ true) ⊎ ((p.1.0 == issue) ≡ false) → All Q (without issue ps) → All Q (without issue (p ∷ ps))
    by (inl is) rest = rw is rest
    by (inr is) rest = rw is (All-cons Q p (without issue ps) (All-head Q p ps all) rest)

all_put_in : (Q : Pair → Type 0) (x : Pair) (ps : List Pair) → Q x → All Q ps → All Q (put_in x ps)
all_put_in Q x [] one all = All-cons Q x [] one all
all_put_in Q x (p ∷ ps) one all = by (cases_Bool (is_lt (rank_cmp x.0 p.0))) (all_put_in Q x ps one (All-tail Q p ps all))
  where
    by : (is_lt (rank_cmp x.0 p.0) ≡ true) ⊎ (is_lt (rank_cmp x.0 p.0) ≡ false) → All Q (put_in x ps) → All Q (put_in x (p ∷ ps))
    by (inl is) rest = rw is (All-cons Q x (p ∷ ps) one all)
    by (inr is) rest = rw is (All-cons Q p (put_in x ps) (All-head Q p ps all) rest)

pub buckets_kept : (P : ℕ → Type 0) (ps : List Pair) (issue : IssueNo) (asked : Option IssueNo) (place : Place) (empty : ℕ) (rank : RankParts) →
    AreNamed ps asked place → IsRankFor ps asked place empty rank → P empty → All (λ p. P p.0.bucket) ps → All (λ p. P p.0.bucket) (put_in (rank, issue) (without issue.0 ps))
buckets_kept P ps issue asked place empty rank named is e all =
    all_put_in (λ p. P p.0.bucket) (rank, issue) (without issue.0 ps) (by asked refl named.issue_there (cases_Bool (stands_at ps asked place)))
    (all_without (λ p. P p.0.bucket) issue.0 ps all)
  where
    among : (o : Option IssueNo) → All (λ p. P p.0.bucket) (others ps o)
    among None = all
    among (Some i) = all_without (λ p. P p.0.bucket) i.0 ps all

    by : (o : Option IssueNo) → asked ≡ o → IfSome o (λ i. IsIn ps i.0) → (stands_at ps asked place ≡ true) ⊎ (stands_at ps asked place ≡ false) → P rank.bucket
    by o same there (inr apart) =
        subst P (sym (is.moved apart).between.in_bucket)
        (bucket_is_one P (rank_above (others ps asked) (gap ps asked place)) (rank_below (others ps asked) (gap ps asked place)) empty
        (if_above (λ r. P r.bucket) (others ps asked) (gap ps asked place) (among asked))
        (if_at (λ r. P r.bucket) (others ps asked) (gap ps asked place) (among asked)) e)
    by None same there (inl stands) = absurd (false≢true (sym (ap (λ o. stands_at ps o place) same) ∙ stands))
    by (Some i) same there (inl stands) =
        let got : Some (rank_at ps (places_before ps i.0)) ≡ Some rank = sym (own_found ps i.0 there) ∙ is.kept i same stands in
        let here : rank_at ps (places_before ps i.0) ≡ rank = cc in
        subst (λ (r : RankParts). P r.bucket) here (all (places_before ps i.0) nothing there)
