-- The rank that is given for a place puts the issue there.
use Rattle.std.proofs.Common.{◌≡◌, ◌≢◌, ℕ, zero, suc, ◌+◌, ◌-◌, ◌<◌, ◌≤◌, ◌==◌, true, false, Bool, List, [], ◌∷◌, ◌⊎◌, length, get_or, Option, Some, None, refl, sym, ◌∙◌, ap, subst, inl, inr, arith}
use Rattle.std.specs.Prelude.{All, insert, remove, option_map, IfSome}
use Rattle.std.specs.declared.cmp.Ordering.TheVariants.{Less, Equal, Greater}
use Rattle.std.specs.Ordering.{is_lt}
use Rattle.std.proofs.lemmas.Bool.{cases_eq, cases_lt, cases_Bool, false≢true}
use Rattle.std.proofs.lemmas.Bool.Decides.{nat_tests}
use Rattle.std.proofs.lemmas.Cmp.{tied_itself}
use Rattle.std.proofs.lemmas.List.{get_or_default}
use Rattle.std.proofs.lemmas.List.Edits.{length-insert, get_or-insert_below, get_or-insert_at, get_or-insert_above}
use Rattle.std.proofs.lemmas.Option.{slice_get-get_or}
use Rattle.rank_strings.specs.Rank.{RankParts, IsRank, IsBelow, rank_cmp}
use Rattle.rank_strings.specs.Total.{rank_cmp-total}
use Rattle.rank_strings.proofs.Order.{nat_cmp-less, nat_cmp-greater}
use Rattle.field_values.specs.declared.numbers.IssueNo.{IssueNo}
use Rattle.board.specs.declared.place.Place.{Place}
use Rattle.board.specs.declared.place.Place.TheVariants.{Before, After, Last}
use Rattle.board.specs.Order.{Pair, IsOrder, IsFreeFor, places_before, rank_in, without, put_in}
use Rattle.board.specs.Table.{nothing, number_at}
use Rattle.board.specs.Search.{rank_at, Fits}
use Rattle.board.specs.Place.{above_place, gap, stands_at, others, rank_above, rank_below, bucket_beside, AreNamed, IsRankFor, IsChosenBeside}
use Rattle.board.specs.Laws.{IsAskedFor, PutsThere, RanksPutThere, OrderIsKept}
use Rattle.board.proofs.Moves.{places_before-number_at, number_at-places_before}
use Rattle.board.proofs.Parted.{less_from_lt, not_less_from_lt}
use Rattle.board.proofs.Given.{without-absent, without-at}
use Rattle.board.proofs.Put.{AreOthers, put_in-at, AllPairs-insert, above_from_not_below}
use Rattle.board.proofs.Put as Put
use Rattle.board.proofs.Gaps.{GapAmong, places_before_le, beside_in_order, gap_among}

-- no pair that is left is the issue's
pub without-differs : (ps : List Pair) (issue : ℕ) (k : ℕ) → k < length (without issue ps) → number_at (without issue ps) k ≢ issue
without-differs [] issue k lt = absurd (omega arith)
without-differs (p ∷ ps) issue k lt = by (p.1.0 == issue) refl k lt (without-differs ps issue)
  where
    by : (b : Bool) → (p.1.0 == issue) ≡ b → (k : ℕ) → k < length (without issue (p ∷ ps)) → ((k : ℕ) → k < length (without issue ps) → number_at (without issue ps) k ≢ issue) → number_at (without issue (p ∷ ps)) k ≢ issue
    by true is k lt rest = rw is (rest k (let shorter = rw is at lt in shorter))
    by false is zero lt rest = rw is (let other : p.1.0 ≢ issue = grind (arith, nat_tests) in other)
    by false is (suc k) lt rest = rw is (let shorter = rw is at lt in rest k (omega arith))

pub IsOrder-insert : (rest : List Pair) (to : ℕ) (rank : RankParts) (issue : IssueNo) → IsOrder rest → IsRank rank → Fits rest rank to → ((k : ℕ) → k < length rest → number_at rest k ≢ issue.0) → IsOrder (insert rest to (rank, issue))
IsOrder-insert rest to rank issue order is_rank fits differ = record {
  ranks = λ k d lt. all k d lt (cases_lt k to) (cases_eq k to);
  rising = AllPairs-insert (λ p q. IsBelow p.0 q.0) rest to x order.rising fits.in_range
      (λ k d lt. let n = fits.in_range in subst (λ p. IsBelow p.0 rank) (get_or_default rest k nothing d (omega (arith, n))) (fits.below k lt))
      (λ k d le lt. subst (λ p. IsBelow rank p.0) (get_or_default rest k nothing d lt) (fits.above k le lt));
  once = AllPairs-insert (λ p q. p.1.0 ≢ q.1.0) rest to x order.once fits.in_range
      (λ k d lt. let n = fits.in_range in subst (λ p. p.1.0 ≢ issue.0) (get_or_default rest k nothing d (omega (arith, n))) (differ k (omega (arith, n))))
      (λ k d le lt. λ same. differ k lt (ap (λ p. p.1.0) (get_or_default rest k nothing d lt) ∙ sym same));
}
  where
    x : Pair
    x = (rank, issue)

    all : (k : ℕ) (d : Pair) → k < length (insert rest to (rank, issue)) → (k < to) ⊎ (to ≤ k) → (k ≡ to) ⊎ (k ≡ to → ⊥) → IsRank (get_or (insert rest to (rank, issue)) k d).0
    all k d lt (inl a) e = let n = fits.in_range in subst (λ p. IsRank p.0) (sym (get_or-insert_below rest to (rank, issue) d k a fits.in_range)) (order.ranks k d (omega (arith, n)))
    all k d lt (inr a) (inl e) = subst (λ p. IsRank p.0) (sym (ap (λ m. get_or (insert rest to (rank, issue)) m d) e ∙ get_or-insert_at rest to (rank, issue) d fits.in_range)) is_rank
    all k d lt (inr a) (inr e) =
        let n = length-insert rest to (rank, issue) fits.in_range in
        let is : k - 1 + 1 ≡ k = omega arith in
        subst (λ p. IsRank p.0) (sym (ap (λ m. get_or (insert rest to (rank, issue)) m d) (sym is) ∙ get_or-insert_above rest to (rank, issue) d (k - 1) (omega arith) fits.in_range)) (order.ranks (k - 1) d (omega arith))

pub IsOrder-tail : (p : Pair) (ps : List Pair) → IsOrder (p ∷ ps) → IsOrder ps
IsOrder-tail p ps order = record {
  ranks = λ k d lt. order.ranks (suc k) d (omega arith);
  rising = λ i j d less lt. order.rising (suc i) (suc j) d (omega arith) (omega arith);
  once = λ i j d less lt. order.once (suc i) (suc j) d (omega arith) (omega arith);
}

-- a rank that none of them has goes somewhere among them
pub fits_somewhere : (rest : List Pair) (rank : RankParts) → IsOrder rest → IsRank rank → All (λ p. p.0 ≢ rank) rest → (to : ℕ) × Fits rest rank to
fits_somewhere [] rank order is_rank free = (0, record { in_range = omega arith; below = λ k lt. absurd (omega arith); above = λ k le lt. absurd (omega arith) })
fits_somewhere (p ∷ rest) rank order is_rank free = by (is_lt (rank_cmp p.0 rank)) refl (fits_somewhere rest rank (IsOrder-tail p rest order) is_rank (λ k d lt. free (suc k) d (omega arith)))
  where
    by : (b : Bool) → is_lt (rank_cmp p.0 rank) ≡ b → (to : ℕ) × Fits rest rank to → (to : ℕ) × Fits (p ∷ rest) rank to
    by true is (to, f) = (suc to, record { in_range = let n = f.in_range in omega (arith, n); below = lower; above = upper })
      where
        lower : (k : ℕ) → k < suc to → rank_cmp (rank_at (p ∷ rest) k) rank ≡ Less
        lower zero lt = less_from_lt (rank_cmp p.0 rank) is
        lower (suc k) lt = f.below k (omega arith)

        upper : (k : ℕ) → suc to ≤ k → k < length (p ∷ rest) → rank_cmp rank (rank_at (p ∷ rest) k) ≡ Less
        upper zero le lt = absurd (omega arith)
        upper (suc k) le lt = f.above k (omega arith) (omega arith)
    by false is found = (0, record { in_range = omega arith; below = λ k lt. absurd (omega arith); above = upper })
      where
        first : rank_cmp rank p.0 ≡ Less
        first = above_from_not_below p.0 rank (order.ranks 0 nothing (omega arith)) is_rank (not_less_from_lt (rank_cmp p.0 rank) is) (free 0 nothing (omega arith))

        upper : (k : ℕ) → 0 ≤ k → k < length (p ∷ rest) → rank_cmp rank (rank_at (p ∷ rest) k) ≡ Less
        upper zero le lt = first
        upper (suc k) le lt = rank_cmp-total.trans rank p.0 (rank_at rest k) first (order.rising 0 (suc k) nothing (omega arith) lt)

pub put_in-fits : (rest : List Pair) (x : Pair) (to : ℕ) → Fits rest x.0 to → put_in x rest ≡ insert rest to x
put_in-fits rest x to f = put_in-at rest to x f.in_range f.below f.above

pub order_is_kept : OrderIsKept
order_is_kept ps issue rank order is_rank free =
    let o = Put.others ps issue.0 order in
    let f = fits_somewhere (without issue.0 ps) rank o.in_order is_rank free in
    subst IsOrder (sym (put_in-fits (without issue.0 ps) (rank, issue) f.0 f.1))
    (IsOrder-insert (without issue.0 ps) f.0 rank issue o.in_order is_rank f.1 (without-differs ps issue.0))

-- what fits has no equal
pub free_where_fits : (rest : List Pair) (rank : RankParts) (to : ℕ) → Fits rest rank to → All (λ p. p.0 ≢ rank) rest
free_where_fits rest rank to f k d lt same = by (cases_lt k to)
  where
    at : rank_at rest k ≡ rank
    at = ap (λ p. p.0) (get_or_default rest k nothing d lt) ∙ same

    itself : rank_cmp rank rank ≡ Equal
    itself = tied_itself rank_cmp-total rank

    by : (k < to) ⊎ (to ≤ k) → ⊥
    by (inl a) = let less : rank_cmp rank rank ≡ Less = sym (ap (λ r. rank_cmp r rank) at) ∙ f.below k a in let no : Equal ≡ Less = sym itself ∙ less in cc
    by (inr a) = let less : rank_cmp rank rank ≡ Less = sym (ap (λ r. rank_cmp rank r) at) ∙ f.above k a lt in let no : Equal ≡ Less = sym itself ∙ less in cc

-- buckets are compared first
pub less_by_bucket : (a b : RankParts) → a.bucket < b.bucket → rank_cmp a b ≡ Less
less_by_bucket a b lt = let first = nat_cmp-less a.bucket b.bucket lt in rw first refl

pub bucket_le : (a b : RankParts) → IsBelow a b → a.bucket ≤ b.bucket
bucket_le a b below = by (cases_lt b.bucket a.bucket)
  where
    by : (b.bucket < a.bucket) ⊎ (a.bucket ≤ b.bucket) → a.bucket ≤ b.bucket
    by (inr le) = le
    by (inl lt) = let first = nat_cmp-greater a.bucket b.bucket lt in let no : Greater ≡ Less = rw first at below in absurd (cc)

-- the rank is above the low neighbour, also where that is in another bucket, and below the high one
low_below : (low high : Option RankParts) (empty : ℕ) (rank : RankParts) → IfSome low (λ l. IfSome high (λ h. IsBelow l h)) → IsChosenBeside low high empty rank → IfSome low (λ l. IsBelow l rank)
low_below None high empty rank in_order chosen = tt
low_below (Some l) None empty rank in_order chosen =
    let same : (l.bucket == l.bucket) ≡ true = grind (arith, nat_tests) in
    rw same at chosen.between.above_low
low_below (Some l) (Some h) empty rank in_order chosen = by (cases_Bool (l.bucket == bucket_beside (Some l) (Some h) empty))
  where
    b : ℕ
    b = bucket_beside (Some l) (Some h) empty

    by : ((l.bucket == bucket_beside (Some l) (Some h) empty) ≡ true) ⊎ ((l.bucket == bucket_beside (Some l) (Some h) empty) ≡ false) → IsBelow l rank
    by (inl is) = rw is at chosen.between.above_low
    by (inr is) =
        let le = bucket_le l h in_order in
        let here = chosen.between.in_bucket in
        less_by_bucket l rank (grind (arith, nat_tests))

high_above : (low high : Option RankParts) (empty : ℕ) (rank : RankParts) → IfSome low (λ l. IfSome high (λ h. IsBelow l h)) → IsChosenBeside low high empty rank → IfSome high (λ h. IsBelow rank h)
high_above low None empty rank in_order chosen = tt
high_above None (Some h) empty rank in_order chosen =
    let same : (h.bucket == h.bucket) ≡ true = grind (arith, nat_tests) in
    rw same at chosen.between.below_high
high_above (Some l) (Some h) empty rank in_order chosen = by (cases_Bool (h.bucket == bucket_beside (Some l) (Some h) empty))
  where
    by : ((h.bucket == bucket_beside (Some l) (Some h) empty) ≡ true) ⊎ ((h.bucket == bucket_beside (Some l) (Some h) empty) ≡ false) → IsBelow rank h
    by (inl is) = rw is at chosen.between.below_high
    by (inr is) =
        let here = chosen.between.in_bucket in
        less_by_bucket rank h (grind (arith, nat_tests))

-- a rank between those beside a gap fits there
pub fits_between : (rest : List Pair) (g : ℕ) (rank : RankParts) → IsOrder rest → g ≤ length rest → IfSome (rank_above rest g) (λ l. IsBelow l rank) → IfSome (rank_below rest g) (λ h. IsBelow rank h) → Fits rest rank g
fits_between rest g rank order le low high = record { in_range = le; below = lower g le low; above = λ k ge lt. upper k ge lt (cases_eq k g) }
  where
    lower : (g : ℕ) → g ≤ length rest → IfSome (rank_above rest g) (λ l. IsBelow l rank) → (k : ℕ) → k < g → rank_cmp (rank_at rest k) rank ≡ Less
    lower zero le low k lt = absurd (omega arith)
    lower (suc a) le low k lt =
        let last : rank_cmp (rank_at rest a) rank ≡ Less = rw (slice_get-get_or rest a nothing (omega arith)) at low in
        along (cases_eq k a) last
      where
        along : (k ≡ a) ⊎ (k ≡ a → ⊥) → rank_cmp (rank_at rest a) rank ≡ Less → rank_cmp (rank_at rest k) rank ≡ Less
        along (inl e) last = ap (λ j. rank_cmp (rank_at rest j) rank) e ∙ last
        along (inr e) last = rank_cmp-total.trans (rank_at rest k) (rank_at rest a) rank (order.rising k a nothing (omega arith) (omega arith)) last

    upper : (k : ℕ) → g ≤ k → k < length rest → (k ≡ g) ⊎ (k ≡ g → ⊥) → rank_cmp rank (rank_at rest k) ≡ Less
    upper k ge lt e =
        let first : rank_cmp rank (rank_at rest g) ≡ Less = rw (slice_get-get_or rest g nothing (omega arith)) at high in
        along e first
      where
        along : (k ≡ g) ⊎ (k ≡ g → ⊥) → rank_cmp rank (rank_at rest g) ≡ Less → rank_cmp rank (rank_at rest k) ≡ Less
        along (inl e) first = ap (λ j. rank_cmp rank (rank_at rest j)) e ∙ first
        along (inr e) first = rank_cmp-total.trans rank (rank_at rest g) (rank_at rest k) first (order.rising g k nothing (omega arith) lt)

-- the gap lies among the other pairs
gap_in_range : (ps : List Pair) (asked : Option IssueNo) (place : Place) → IsOrder ps → AreNamed ps asked place → gap ps asked place ≤ length (others ps asked)
gap_in_range ps None (Before other) order named = let lt = named.other_there in omega (arith, lt)
gap_in_range ps None (After other) order named = let lt = named.other_there in omega (arith, lt)
gap_in_range ps None Last order named = omega arith
gap_in_range ps (Some issue) place order named = by place named (gap_among ps order issue named.issue_there place named)
  where
    n : length (without issue.0 ps) + 1 ≡ length ps
    n = let o = Put.others ps issue.0 order in o.there named.issue_there

    by : (place : Place) → AreNamed ps (Some issue) place → GapAmong (places_before ps issue.0) (above_place ps place) (above_place (without issue.0 ps) place) → above_place (without issue.0 ps) place ≤ length (without issue.0 ps)
    by (Before other) named g = places_before_le (without issue.0 ps) other.0
    by (After other) named g = in_range (cases_lt (places_before ps issue.0) (places_before ps other.0 + 1))
      where
        in_range : (places_before ps issue.0 < places_before ps other.0 + 1) ⊎ (places_before ps other.0 + 1 ≤ places_before ps issue.0) → places_before (without issue.0 ps) other.0 + 1 ≤ length (without issue.0 ps)
        in_range (inl lt) = let is = g.behind lt in let there = named.other_there in let m = n in omega (arith, is, there, m)
        in_range (inr ge) = let is = g.before ge in let there = named.issue_there in let m = n in omega (arith, is, there, m)
    by Last named g = omega arith

-- what is asked for is left out
pub others_asked : (ps : List Pair) (asked : Option IssueNo) (issue : IssueNo) → IsOrder ps → IsAskedFor ps asked issue → others ps asked ≡ without issue.0 ps
others_asked ps None issue order new =
    sym (without-absent ps issue.0 (λ k lt same. new (let here = sym (places_before-number_at ps k order.once lt) ∙ ap (places_before ps) same in omega arith)))
others_asked ps (Some i) issue order same = ap (λ j. without j.0 ps) same

pub insert_removed : {X : Type 0} (xs : List X) (k : ℕ) (d : X) → k < length xs → insert (remove xs k) k (get_or xs k d) ≡ xs
insert_removed [] k d lt = absurd (omega arith)
insert_removed (x ∷ xs) zero d lt = refl
insert_removed (x ∷ xs) (suc k) d lt = ap (λ ys. x ∷ ys) (insert_removed xs k d (omega arith))

paired : (p : Pair) (rank : RankParts) (issue : IssueNo) → p.0 ≡ rank → p.1 ≡ issue → p ≡ (rank, issue)
paired p rank issue e f = let first : (r : RankParts) → Pair = λ r. (r, p.1) in let second : (i : IssueNo) → Pair = λ i. (rank, i) in ap first e ∙ ap second f

abbrev numbered : ℕ → IssueNo
numbered n = record { 0 = n }

module _ (ps : List Pair) (issue : IssueNo) (rank : RankParts) (order : IsOrder ps) (is_rank : IsRank rank) where
  abbrev rest : List Pair
  rest = without issue.0 ps

  there_from_fits : (asked : Option IssueNo) (place : Place) → Fits rest rank (gap ps asked place) → (stands_at ps asked place ≡ true → insert rest (gap ps asked place) (rank, issue) ≡ ps) → PutsThere ps issue asked place rank
  there_from_fits asked place f stays =
      let put = put_in-fits rest (rank, issue) (gap ps asked place) f in
      let free = free_where_fits rest rank (gap ps asked place) f in
      record { free = free; there = put; stays = λ yes. put ∙ stays yes; in_order = order_is_kept ps issue rank order is_rank free }

  -- the issue moves
  puts_moved : (asked : Option IssueNo) (place : Place) (empty : ℕ) → AreNamed ps asked place → IsAskedFor ps asked issue → IsRankFor ps asked place empty rank → stands_at ps asked place ≡ false → PutsThere ps issue asked place rank
  puts_moved asked place empty named asked_for is not_there =
      let left = others_asked ps asked issue order asked_for in
      let o = Put.others ps issue.0 order in
      let among : IsOrder (others ps asked) = subst IsOrder (sym left) o.in_order in
      let chosen = is.moved not_there in
      let low = rank_above (others ps asked) (gap ps asked place) in
      let high = rank_below (others ps asked) (gap ps asked place) in
      let in_order = beside_in_order (others ps asked) (gap ps asked place) among in
      let f = fits_between (others ps asked) (gap ps asked place) rank among (gap_in_range ps asked place order named) (low_below low high empty rank in_order chosen) (high_above low high empty rank in_order chosen) in
      there_from_fits asked place (subst (λ xs. Fits xs rank (gap ps asked place)) left f) (λ yes. absurd (false≢true (sym not_there ∙ yes)))

  -- the issue stands there
  puts_kept : (i : IssueNo) (place : Place) → AreNamed ps (Some i) place → i ≡ issue → rank_in ps i.0 ≡ Some rank → stands_at ps (Some i) place ≡ true → PutsThere ps issue (Some i) place rank
  puts_kept i place named same has there =
      there_from_fits (Some i) place (subst (Fits rest rank) at fits) (λ yes. ap (λ k. insert rest k (rank, issue)) (sym at) ∙ back)
    where
      own : ℕ
      own = places_before ps i.0

      lt : places_before ps i.0 < length ps
      lt = named.issue_there

      at : places_before ps i.0 ≡ gap ps (Some i) place
      at = grind (arith, nat_tests, there)

      o : AreOthers ps rest (places_before ps i.0)
      o = subst (λ j. AreOthers ps (without issue.0 ps) (places_before ps j.0)) (sym same) (Put.others ps issue.0 order)

      rank_is : rank_at ps (places_before ps i.0) ≡ rank
      rank_is = let got : Some (rank_at ps (places_before ps i.0)) ≡ Some rank = sym (ap (option_map (λ (p : Pair). p.0)) (slice_get-get_or ps (places_before ps i.0) nothing lt)) ∙ has in cc

      number_is : number_at ps (places_before ps i.0) ≡ issue.0
      number_is = number_at-places_before ps i.0 lt ∙ ap (λ j. j.0) same

      pair_is : get_or ps (places_before ps i.0) nothing ≡ (rank, issue)
      pair_is = let issue_is : (get_or ps (places_before ps i.0) nothing).1 ≡ issue = ap numbered number_is in paired (get_or ps (places_before ps i.0) nothing) rank issue rank_is issue_is

      back : insert rest (places_before ps i.0) (rank, issue) ≡ ps
      back =
          let left : without issue.0 ps ≡ remove ps (places_before ps i.0) = sym (ap (λ n. without n ps) number_is) ∙ without-at ps (places_before ps i.0) order.once lt in
          ap (λ xs. insert xs (places_before ps i.0) (rank, issue)) left ∙ sym (ap (λ x. insert (remove ps (places_before ps i.0)) (places_before ps i.0) x) pair_is)
          ∙ insert_removed ps (places_before ps i.0) nothing lt

      fits : Fits rest rank (places_before ps i.0)
      fits = record {
        in_range = let n = o.there lt in omega (arith, n, lt);
        below = λ k less. ap (λ p. rank_cmp p.0 rank) (o.before k less) ∙ ap (rank_cmp (rank_at ps k)) (sym rank_is) ∙ order.rising k (places_before ps i.0) nothing less lt;
        above = λ k ge in_range. let n = o.there lt in ap (λ p. rank_cmp rank p.0) (o.behind k ge) ∙ ap (λ r. rank_cmp r (rank_at ps (k + 1))) (sym rank_is) ∙ order.rising (places_before ps i.0) (k + 1) nothing (omega (arith, ge)) (omega (arith, n, in_range));
      }

pub ranks_put_there : RanksPutThere
ranks_put_there ps issue asked place empty rank order is_rank named asked_for is = by (cases_Bool (stands_at ps asked place))
  where
    stays : (asked : Option IssueNo) → AreNamed ps asked place → IsAskedFor ps asked issue → IsRankFor ps asked place empty rank → stands_at ps asked place ≡ true → PutsThere ps issue asked place rank
    stays None named asked_for is there = absurd (false≢true there)
    stays (Some i) named asked_for is there = puts_kept ps issue rank order is_rank i place named asked_for (is.kept i refl there) there

    by : (stands_at ps asked place ≡ true) ⊎ (stands_at ps asked place ≡ false) → PutsThere ps issue asked place rank
    by (inl there) = stays asked named asked_for is there
    by (inr not_there) = puts_moved ps issue rank order is_rank asked place empty named asked_for is not_there

-- what no other pair has is free
free_cons : (p : Pair) (others : List Pair) (rank : RankParts) → p.0 ≢ rank → All (λ q. q.0 ≢ rank) others → All (λ q. q.0 ≢ rank) (p ∷ others)
free_cons p others rank first all zero d lt = first
free_cons p others rank first all (suc k) d lt = all k d (omega arith)

pub free_from_each : (ps : List Pair) (issue : ℕ) (rank : RankParts) → ((k : ℕ) → k < length ps → number_at ps k ≢ issue → rank_at ps k ≢ rank) → IsFreeFor ps issue rank
free_from_each [] issue rank each = λ k d lt. absurd (omega arith)
free_from_each (p ∷ ps) issue rank each = by (cases_Bool (p.1.0 == issue)) (free_from_each ps issue rank (λ k lt. each (suc k) (omega arith)))
  where
    by : ((p.1.0 == issue) ≡ true) ⊎ ((p.1.0 == issue) ≡ false) → IsFreeFor ps issue rank → IsFreeFor (p ∷ ps) issue rank
    by (inl is) tail = rw is tail
    by (inr is) tail = rw is (free_cons p (without issue ps) rank (each 0 (omega arith) (grind (arith, nat_tests))) tail)
