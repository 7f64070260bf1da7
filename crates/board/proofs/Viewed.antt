-- What an order's list of pairs says of its issues and of their table.
use Rattle.std.proofs.Common.{◌≡◌, ◌≢◌, ℕ, zero, suc, ◌+◌, ◌-◌, ◌<◌, ◌≤◌, List, [], ◌∷◌, length, get_or, set, replicate, Option, Some, None, ◌⊎◌, inl, inr, refl, sym, ◌∙◌, ap, subst, arith}
use Rattle.std.specs.Prelude.{All, AllPairs, map, option_map, slice_get}
use Rattle.std.specs.declared.cmp.Ordering.TheVariants.{Less, Equal, Greater}
use Rattle.std.specs.Ordering.{nat_cmp, ordering_reverse}
use Rattle.std.proofs.lemmas.Bool.{cases_eq, cases_lt}
use Rattle.std.proofs.lemmas.Cmp.{tied_itself, nat_cmp_total}
use Rattle.std.proofs.lemmas.List.{get_or_past, get_or-replicate, get_or-set_same, get_or-set_other, length-replicate}
use Rattle.std.proofs.lemmas.Option.{slice_get-get_or, slice_get_past}
use Rattle.field_values.specs.declared.numbers.IssueNo.{IssueNo}
use Rattle.rank_strings.specs.Rank.{RankParts, rank_cmp}
use Rattle.rank_strings.specs.Total.{rank_cmp-total}
use Rattle.rank_strings.proofs.Order.{nat_cmp-less, nat_cmp-greater}
use Rattle.board.specs.Order.{Pair, IsOrder, HasRoomFor, places_before, place_in, pair_before, rank_in, beside}
use Rattle.board.specs.Place.{rank_below}
use Rattle.board.specs.Table.{nothing, number_at, issue_before, pairs_by, IsTableOf, ArePlacesTo, ArePlacesIn}
use Rattle.board.specs.Search.{rank_at, compared}
use Rattle.board.proofs.Moves.{places_before-number_at, number_at-places_before}
use Rattle.board.proofs.Gaps.{places_before_le}
use Rattle.board.proofs.Tabled.{number_in, length-pairs, issues-pairs, issue-pairs, place-none, ranked, rank_in-at}

-- an issue's rank is that of the pair at its place
pub rank_in-some : (ps : List Pair) (issue : ℕ) (rank : RankParts) → rank_in ps issue ≡ Some rank → (places_before ps issue < length ps) × (rank_at ps (places_before ps issue) ≡ rank)
rank_in-some ps issue rank has = by (cases_lt (places_before ps issue) (length ps))
  where
    by : (places_before ps issue < length ps) ⊎ (length ps ≤ places_before ps issue) → (places_before ps issue < length ps) × (rank_at ps (places_before ps issue) ≡ rank)
    by (inl lt) =
        let got : Some (rank_at ps (places_before ps issue)) ≡ Some rank = sym (ap (option_map (λ (p : Pair). p.0)) (slice_get-get_or ps (places_before ps issue) nothing lt)) ∙ has in
        let same : rank_at ps (places_before ps issue) ≡ rank = cc in
        (lt, same)
    by (inr ge) =
        let none : rank_in ps issue ≡ None = ap (option_map (λ (p : Pair). p.0)) (slice_get_past ps (places_before ps issue) ge) in
        absurd (cc)

pub rank_in-none : (ps : List Pair) (issue : ℕ) → rank_in ps issue ≡ None → places_before ps issue ≡ length ps
rank_in-none ps issue none = by (cases_lt (places_before ps issue) (length ps))
  where
    by : (places_before ps issue < length ps) ⊎ (length ps ≤ places_before ps issue) → places_before ps issue ≡ length ps
    by (inl lt) =
        let some : rank_in ps issue ≡ Some (rank_at ps (places_before ps issue)) = ap (option_map (λ (p : Pair). p.0)) (slice_get-get_or ps (places_before ps issue) nothing lt) in
        absurd (cc)
    by (inr ge) = let le = places_before_le ps issue in omega arith

-- two issues stand to each other as their ranks do
pub places_by_ranks : (ps : List Pair) (one other : ℕ) (a b : RankParts) → IsOrder ps → rank_in ps one ≡ Some a → rank_in ps other ≡ Some b → rank_cmp a b ≡ nat_cmp (places_before ps one) (places_before ps other)
places_by_ranks ps one other a b order has_a has_b = by (cases_lt (places_before ps one) (places_before ps other)) (cases_lt (places_before ps other) (places_before ps one))
  where
    f : (places_before ps one < length ps) × (rank_at ps (places_before ps one) ≡ a)
    f = rank_in-some ps one a has_a

    g : (places_before ps other < length ps) × (rank_at ps (places_before ps other) ≡ b)
    g = rank_in-some ps other b has_b

    ranks : rank_cmp a b ≡ rank_cmp (rank_at ps (places_before ps one)) (rank_at ps (places_before ps other))
    ranks = sym (ap (λ r. rank_cmp r b) f.1 ∙ refl) ∙ ap (rank_cmp (rank_at ps (places_before ps one))) (sym g.1)

    by : ((places_before ps one) < (places_before ps other)) ⊎ ((places_before ps other) ≤ (places_before ps one)) → ((places_before ps other) < (places_before ps one)) ⊎ ((places_before ps one) ≤ (places_before ps other)) → rank_cmp a b ≡ nat_cmp (places_before ps one) (places_before ps other)
    by (inl lt) x = ranks ∙ order.rising (places_before ps one) (places_before ps other) nothing lt g.0 ∙ sym (nat_cmp-less (places_before ps one) (places_before ps other) lt)
    by (inr ge) (inl lt) = ranks ∙ rank_cmp-total.antisymm (rank_at ps (places_before ps one)) (rank_at ps (places_before ps other)) ∙ ap ordering_reverse (order.rising (places_before ps other) (places_before ps one) nothing lt f.0) ∙ sym (nat_cmp-greater (places_before ps one) (places_before ps other) lt)
    by (inr ge) (inr le) =
        let e : (places_before ps one) ≡ (places_before ps other) = omega arith in
        ranks ∙ ap (λ k. rank_cmp (rank_at ps (places_before ps one)) (rank_at ps k)) (sym e) ∙ tied_itself rank_cmp-total (rank_at ps (places_before ps one))
        ∙ sym (ap (nat_cmp (places_before ps one)) (sym e) ∙ tied_itself nat_cmp_total (places_before ps one))

pub place_before_none : (ps : List Pair) (one other : ℕ) (a : RankParts) → rank_in ps one ≡ Some a → rank_in ps other ≡ None → Less ≡ nat_cmp (places_before ps one) (places_before ps other)
place_before_none ps one other a has none =
    let lt = (rank_in-some ps one a has).0 in
    let e = rank_in-none ps other none in
    sym (nat_cmp-less (places_before ps one) (places_before ps other) (omega arith))

pub none_before_place : (ps : List Pair) (one other : ℕ) (b : RankParts) → rank_in ps one ≡ None → rank_in ps other ≡ Some b → Greater ≡ nat_cmp (places_before ps one) (places_before ps other)
none_before_place ps one other b none has =
    let lt = (rank_in-some ps other b has).0 in
    let e = rank_in-none ps one none in
    sym (nat_cmp-greater (places_before ps one) (places_before ps other) (omega arith))

pub none_and_none : (ps : List Pair) (one other : ℕ) → rank_in ps one ≡ None → rank_in ps other ≡ None → Equal ≡ nat_cmp (places_before ps one) (places_before ps other)
none_and_none ps one other no_one no_other =
    let e : places_before ps other ≡ places_before ps one = rank_in-none ps other no_other ∙ sym (rank_in-none ps one no_one) in
    sym (ap (nat_cmp (places_before ps one)) e ∙ tied_itself nat_cmp_total (places_before ps one))

pub places_compared : (ps : List Pair) (one other : ℕ) → IsOrder ps → compared (rank_in ps one) (rank_in ps other) ≡ nat_cmp (places_before ps one) (places_before ps other)
places_compared ps one other order = by (rank_in ps one) refl (rank_in ps other) refl
  where
    by : (o : Option RankParts) → rank_in ps one ≡ o → (p : Option RankParts) → rank_in ps other ≡ p → compared o p ≡ nat_cmp (places_before ps one) (places_before ps other)
    by (Some a) e (Some b) f = places_by_ranks ps one other a b order e f
    by (Some a) e None f = place_before_none ps one other a e f
    by None e (Some b) f = none_before_place ps one other b e f
    by None e None f = none_and_none ps one other e f

-- a number that an issue has, or for which room was made, is one of the table
pub number_fits : (ranks : List (Option RankParts)) (is : List IssueNo) (issue slots : ℕ) → IsTableOf (pairs_by ranks is) ranks → slots ≡ length ranks →
    (place_in (pairs_by ranks is) issue ≡ None → HasRoomFor (record { pairs = pairs_by ranks is; room = slots - 1 }) issue) → issue < length ranks
number_fits ranks is issue slots table many has = by (cases_lt issue (length ranks))
  where
    by : (issue < length ranks) ⊎ (length ranks ≤ issue) → issue < length ranks
    by (inl lt) = lt
    by (inr ge) =
        let h = has (sym (place-none (pairs_by ranks is) issue (sym (table issue) ∙ get_or_past ranks issue None ge))) in
        let count : length (pairs_by ranks is) < slots - 1 = h.count in
        let number : issue ≤ slots - 1 = h.number in
        omega arith

-- room for an issue in the table is room in the list
pub room_fits : (ranks : List (Option RankParts)) (is : List IssueNo) (issue slots room : ℕ) → slots ≡ length ranks → length ranks ≤ room + 1 →
    (place_in (pairs_by ranks is) issue ≡ None → HasRoomFor (record { pairs = pairs_by ranks is; room = slots - 1 }) issue) → place_in (pairs_by ranks is) issue ≡ None → length is < room
room_fits ranks is issue slots room many enough has none =
    let h = has none in
    let n = length-pairs ranks is in
    let count : length (pairs_by ranks is) < slots - 1 = h.count in
    omega arith

-- the issues beside a place are those of the pairs there
issues-before : (ranks : List (Option RankParts)) (is : List IssueNo) (k : ℕ) → issue_before is k ≡ option_map (λ (p : Pair). p.1) (pair_before (pairs_by ranks is) k)
issues-before ranks is zero = refl
issues-before ranks is (suc k) = issue-pairs ranks is k

pub beside_by : (ranks : List (Option RankParts)) (is : List IssueNo) (place : ℕ) → (issue_before is place, slice_get is (place + 1)) ≡ beside (pairs_by ranks is) (Some place)
beside_by ranks is place = λ i. (issues-before ranks is place i, issue-pairs ranks is (place + 1) i)

-- the rank below a gap is that of the issue there
pub rank_at_gap : (ps : List Pair) (above : ℕ) (issue : IssueNo) → IsOrder ps → option_map (λ (p : Pair). p.1) (slice_get ps above) ≡ Some issue → rank_in ps issue.0 ≡ rank_below ps above
rank_at_gap ps above issue order there = by (cases_lt above (length ps))
  where
    by : (above < length ps) ⊎ (length ps ≤ above) → rank_in ps issue.0 ≡ rank_below ps above
    by (inl lt) =
        let got = slice_get-get_or ps above nothing lt in
        let at : Some (get_or ps above nothing).1 ≡ Some issue = sym (ap (option_map (λ (p : Pair). p.1)) got) ∙ there in
        let same : (get_or ps above nothing).1 ≡ issue = cc in
        sym (ap (λ (i : IssueNo). rank_in ps i.0) same) ∙ rank_in-at ps above order lt ∙ sym (ap (option_map (λ (p : Pair). p.0)) got)
    by (inr ge) =
        let none : option_map (λ (p : Pair). p.1) (slice_get ps above) ≡ None = ap (option_map (λ (p : Pair). p.1)) (slice_get_past ps above ge) in
        absurd (cc)

pub no_rank_at_gap : (ps : List Pair) (above : ℕ) → option_map (λ (p : Pair). p.1) (slice_get ps above) ≡ None → None ≡ rank_below ps above
no_rank_at_gap ps above none = by (slice_get ps above) refl
  where
    by : (o : Option Pair) → slice_get ps above ≡ o → None ≡ rank_below ps above
    by None e = sym (ap (option_map (λ (p : Pair). p.0)) e)
    by (Some p) e = let some : option_map (λ (p : Pair). p.1) (slice_get ps above) ≡ Some p.1 = ap (option_map (λ (p : Pair). p.1)) e in absurd (cc)

-- at a place that is taken
pub rank_below-at : (ps : List Pair) (place : ℕ) → place < length ps → rank_below ps place ≡ Some (rank_at ps place)
rank_below-at ps place lt = ap (option_map (λ (p : Pair). p.0)) (slice_get-get_or ps place nothing lt)

-- one place more
pub places_more : (is : List IssueNo) (at : ℕ) (old new : List ℕ) → AllPairs (λ i j. i.0 ≢ j.0) is → at < length is → number_in is at < length new → ArePlacesTo is at old new → ArePlacesTo is (at + 1) old (set new (number_in is at) at)
places_more is at old new once lt in_table filled = record {
  inside = λ k d less. inside k d less (cases_eq k at);
  others = λ n d differ. get_or-set_other new (number_in is at) n at d (λ e. differ at (omega arith) (sym e)) ∙ filled.others n d (λ k less. differ k (omega arith));
}
  where
    inside : (k d : ℕ) → k < at + 1 → (k ≡ at) ⊎ (k ≡ at → ⊥) → get_or (set new (number_in is at) at) (number_in is k) d ≡ k
    inside k d less (inl e) = ap (λ j. get_or (set new (number_in is at) at) (number_in is j) d) e ∙ get_or-set_same new (number_in is at) at d in_table ∙ sym e
    inside k d less (inr e) = get_or-set_other new (number_in is at) (number_in is k) at d (once k at nothing.1 (omega arith) lt) ∙ filled.inside k d (omega arith)

-- the number of an issue of the order is one of the table
pub number_in_table : (ranks : List (Option RankParts)) (is : List IssueNo) → IsOrder (pairs_by ranks is) → IsTableOf (pairs_by ranks is) ranks → All (λ i. i.0 < length ranks) is
number_in_table ranks is order table k d lt = by (cases_lt (get_or is k d).0 (length ranks))
  where
    by : ((get_or is k d).0 < length ranks) ⊎ (length ranks ≤ (get_or is k d).0) → (get_or is k d).0 < length ranks
    by (inl in_range) = in_range
    by (inr past) =
        let some = ranked ranks is order table k d lt in
        let none = get_or_past ranks (get_or is k d).0 None past in
        absurd (cc)

-- a table of places that one walk has filled
pub places_filled : (ps : List Pair) (is : List IssueNo) (old new : List ℕ) → IsOrder ps → is ≡ map (λ (p : Pair). p.1) ps → ((n : ℕ) → get_or old n (length ps) ≡ length ps) → ArePlacesTo is (length ps) old new → ArePlacesIn ps new
places_filled ps is old new order is_is empty filled issue = by (cases_lt (places_before ps issue) (length ps))
  where
    numbers : (k : ℕ) → k < length ps → number_in is k ≡ number_at ps k
    numbers k lt = ap (λ (xs : List IssueNo). number_in xs k) is_is ∙ number_map ps k lt
      where
        number_map : (ps : List Pair) (k : ℕ) → k < length ps → number_in (map (λ (p : Pair). p.1) ps) k ≡ number_at ps k
        number_map [] k lt = absurd (omega arith)
        number_map (p ∷ ps) zero lt = refl
        number_map (p ∷ ps) (suc k) lt = number_map ps k (omega arith)

    by : (places_before ps issue < length ps) ⊎ (length ps ≤ places_before ps issue) → get_or new issue (length ps) ≡ places_before ps issue
    by (inl lt) =
        let here : number_in is (places_before ps issue) ≡ issue = numbers (places_before ps issue) lt ∙ number_at-places_before ps issue lt in
        sym (ap (λ n. get_or new n (length ps)) here) ∙ filled.inside (places_before ps issue) (length ps) lt
    by (inr ge) =
        let le = places_before_le ps issue in
        let end : length ps ≡ places_before ps issue = omega arith in
        filled.others issue (length ps) (λ k lt same.
        let at : number_at ps k ≡ issue = sym (numbers k lt) ∙ same in
        let place = sym (places_before-number_at ps k order.once lt) ∙ ap (places_before ps) at in omega arith)
        ∙ empty issue ∙ end

-- one that was all ends before the walk
get_or-replicate_same : (n end m : ℕ) → get_or (replicate n end) m end ≡ end
get_or-replicate_same n end m = by (cases_lt m n)
  where
    by : (m < n) ⊎ (n ≤ m) → get_or (replicate n end) m end ≡ end
    by (inl lt) = get_or-replicate n m end end lt
    by (inr le) = let many = length-replicate n end in get_or_past (replicate n end) m end (omega (arith, many))

pub places_walked : (ranks : List (Option RankParts)) (is : List IssueNo) (numbers : ℕ) (new : List ℕ) → IsOrder (pairs_by ranks is) → ArePlacesTo is (length is) (replicate numbers (length is)) new
    → ArePlacesIn (pairs_by ranks is) new
places_walked ranks is numbers new order filled =
    let many : length is ≡ length (pairs_by ranks is) = sym (length-pairs ranks is) in
    places_filled (pairs_by ranks is) is (replicate numbers (length is)) new order (issues-pairs ranks is)
    (subst (λ end. (n : ℕ) → get_or (replicate numbers (length is)) n end ≡ end) many (get_or-replicate_same numbers (length is)))
    (subst (λ to. ArePlacesTo is to (replicate numbers (length is)) new) many filled)
