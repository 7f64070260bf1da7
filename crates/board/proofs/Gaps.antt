-- A place in the whole order, and among the other issues.
use Rattle.std.proofs.Common.{◌≡◌, ◌≢◌, ℕ, zero, suc, ◌+◌, ◌-◌, ◌<◌, ◌≤◌, true, false, List, [], ◌∷◌, ◌⊎◌, length, get_or, Option, Some, None, Result, Ok, Err, IfOk, IfErr, refl, sym, ◌∙◌, ap, inl, inr, arith}
use Rattle.std.specs.Prelude.{slice_get, option_map, IfSome, MatchOption}
use Rattle.std.proofs.lemmas.Bool.{cases_eq, cases_lt}
use Rattle.std.proofs.lemmas.Bool.Decides.{nat_tests}
use Rattle.std.proofs.lemmas.Option.{slice_get-get_or, slice_get_past}
use Rattle.field_values.specs.declared.numbers.IssueNo.{IssueNo}
use Rattle.rank_strings.specs.Rank.{RankParts, IsBelow}
use Rattle.rank_strings.specs.declared.fault.RankFault.{RankFault}
use Rattle.rank_strings.specs.declared.fault.RankFault.TheVariants.{Exhausted, Memory}
use Rattle.board.specs.declared.place.Place.{Place}
use Rattle.board.specs.declared.place.Place.TheVariants.{Before, After, Last}
use Rattle.board.specs.Order.{Pair, IsOrder, places_before, place_in, rank_in, pair_before, without}
use Rattle.board.specs.Moved.{own_rank}
use Rattle.board.specs.Table.{nothing, number_at}
use Rattle.board.specs.Place.{above_place, gap, stands_at, others, rank_above, rank_below, IsBeside, AreNamed, IsRankFor, IsChosenBeside, ExplainsBeside, ExplainsNoRank}
use Rattle.board.proofs.Moves.{places_before-number_at, number_at-places_before}
use Rattle.board.proofs.Put.{AreOthers}
use Rattle.board.proofs.Put as Put

pub places_before_le : (ps : List Pair) (issue : ℕ) → places_before ps issue ≤ length ps
places_before_le [] issue = omega arith
places_before_le (p ∷ ps) issue = let rest = places_before_le ps issue in grind (arith, nat_tests)

pub places_before_none : (ps : List Pair) (issue : ℕ) → place_in ps issue ≡ None → length ps ≡ places_before ps issue
places_before_none ps issue none = by (cases_lt (places_before ps issue) (length ps))
  where
    by : (places_before ps issue < length ps) ⊎ (length ps ≤ places_before ps issue) → length ps ≡ places_before ps issue
    by (inl lt) = let is : place_in ps issue ≡ Some (places_before ps issue) = grind (arith, nat_tests) in absurd (cc)
    by (inr le) = let h = places_before_le ps issue in omega arith

-- the ranks beside a gap are in order
pub beside_in_order : (ps : List Pair) (above : ℕ) → IsOrder ps → IfSome (rank_above ps above) (λ l. IfSome (rank_below ps above) (λ h. IsBelow l h))
beside_in_order ps zero order = tt
beside_in_order ps (suc a) order = by (cases_lt (suc a) (length ps)) (cases_lt a (length ps))
  where
    by : (suc a < length ps) ⊎ (length ps ≤ suc a) → (a < length ps) ⊎ (length ps ≤ a) → IfSome (rank_above ps (suc a)) (λ l. IfSome (rank_below ps (suc a)) (λ h. IsBelow l h))
    by (inl lt) b = rw (slice_get-get_or ps a nothing (omega arith), slice_get-get_or ps (suc a) nothing lt) (order.rising a (suc a) nothing (omega arith) lt)
    by (inr le) (inl lt) = rw (slice_get-get_or ps a nothing lt, slice_get_past ps (suc a) le) tt
    by (inr le) (inr ge) = rw (slice_get_past ps a ge) tt

-- how a gap among the others is to the gap in the whole order
pub record GapAmong (own above among : ℕ) : Type 0 where
  pub before : above ≤ own → among ≡ above
  pub behind : own < above → among + 1 ≡ above

module _ (ps : List Pair) (order : IsOrder ps) (issue : IssueNo) (there : places_before ps issue.0 < length ps) where
  abbrev rest : List Pair
  rest = without issue.0 ps

  abbrev own : ℕ
  own = places_before ps issue.0

  o : AreOthers ps rest own
  o = Put.others ps issue.0 order

  -- another issue
  other_place : (other : ℕ) → places_before ps other < length ps → issue.0 ≢ other → GapAmong own (places_before ps other) (places_before rest other) × (places_before ps other ≢ own)
  other_place other lt differ = (record { before = λ le. let e = apart in low (omega (arith, e)); behind = λ l. high l }, apart)
    where
      q : ℕ
      q = places_before ps other

      here : number_at ps (places_before ps other) ≡ other
      here = number_at-places_before ps other lt

      apart : places_before ps other ≡ own → ⊥
      apart same = differ (sym (number_at-places_before ps issue.0 there) ∙ ap (number_at ps) (sym same) ∙ here)

      low : places_before ps other < own → places_before rest other ≡ places_before ps other
      low less =
          let n = o.there there in
          let same : number_at rest (places_before ps other) ≡ other = ap (λ p. p.1.0) (o.before (places_before ps other) less) ∙ here in
          sym (ap (places_before rest) same) ∙ places_before-number_at rest (places_before ps other) o.in_order.once (omega (arith, n))

      high : own < places_before ps other → places_before rest other + 1 ≡ places_before ps other
      high more =
          let n = o.there there in
          let k = places_before ps other - 1 in
          let is : k + 1 ≡ places_before ps other = omega arith in
          let same : number_at rest k ≡ other = ap (λ p. p.1.0) (o.behind k (omega arith)) ∙ ap (number_at ps) is ∙ here in
          let at = sym (ap (places_before rest) same) ∙ places_before-number_at rest k o.in_order.once (omega (arith, n)) in
          omega (arith, at)

  pub gap_among : (place : Place) → AreNamed ps (Some issue) place → GapAmong own (above_place ps place) (above_place rest place)
  gap_among (Before other) named =
      let f = other_place other.0 named.other_there named.differ in
      record { before = f.0.before; behind = f.0.behind }
  gap_among (After other) named =
      let f = other_place other.0 named.other_there named.differ in
      let apart = f.1 in
      record { before = λ le. ap (λ k. k + 1) (f.0.before (omega arith)); behind = λ lt. ap (λ k. k + 1) (f.0.behind (omega arith)) }
  gap_among Last named = let n = o.there there in record { before = λ le. absurd (omega arith); behind = λ lt. n }

  same_get : (k j : ℕ) → get_or rest k nothing ≡ get_or ps j nothing → (k < length rest → j < length ps) → (j < length ps → k < length rest) → slice_get rest k ≡ slice_get ps j
  same_get k j same to from = by (cases_lt k (length rest)) (cases_lt j (length ps))
    where
      by : (k < length rest) ⊎ (length rest ≤ k) → (j < length ps) ⊎ (length ps ≤ j) → slice_get rest k ≡ slice_get ps j
      by (inl a) (inl b) = slice_get-get_or rest k nothing a ∙ ap Some same ∙ sym (slice_get-get_or ps j nothing b)
      by (inl a) (inr b) = let c = to a in absurd (omega arith)
      by (inr a) (inl b) = let c = from b in absurd (omega arith)
      by (inr a) (inr b) = slice_get_past rest k a ∙ sym (slice_get_past ps j b)

  get_before : (k : ℕ) → k < own → slice_get rest k ≡ slice_get ps k
  get_before k lt = let n = o.there there in same_get k k (o.before k lt) (λ h. omega (arith, n)) (λ h. omega (arith, n))

  get_behind : (k : ℕ) → own ≤ k → slice_get rest k ≡ slice_get ps (k + 1)
  get_behind k le = let n = o.there there in same_get k (k + 1) (o.behind k le) (λ h. omega (arith, n)) (λ h. omega (arith, n))

  -- the pairs beside the place are the same
  pub beside_same : (above among : ℕ) → GapAmong own above among → own ≢ above → own + 1 ≢ above → (pair_before rest among ≡ pair_before ps above) × (slice_get rest among ≡ slice_get ps above)
  beside_same above among g apart behind = by (cases_lt above own)
    where
      just_before : (k j : ℕ) → k ≡ j → j < own → pair_before rest k ≡ pair_before ps j
      just_before zero zero e lt = refl
      just_before zero (suc j) e lt = absurd (omega arith)
      just_before (suc k) zero e lt = absurd (omega arith)
      just_before (suc k) (suc j) e lt = let same : k ≡ j = omega arith in ap (slice_get rest) same ∙ get_before j (omega arith)

      just_behind : (k j : ℕ) → k + 1 ≡ j → own < k → pair_before rest k ≡ pair_before ps j
      just_behind zero j e lt = absurd (omega arith)
      just_behind (suc k) zero e lt = absurd (omega arith)
      just_behind (suc k) (suc j) e lt = let same : k + 1 ≡ j = omega arith in get_behind k (omega arith) ∙ ap (slice_get ps) same

      by : (above < own) ⊎ (own ≤ above) → (pair_before rest among ≡ pair_before ps above) × (slice_get rest among ≡ slice_get ps above)
      by (inl lt) = let is = g.before (omega arith) in (just_before among above is lt, ap (slice_get rest) is ∙ get_before above lt)
      by (inr le) = let is = g.behind (omega arith) in (just_behind among above is (omega (arith, is)), get_behind among (omega (arith, is)) ∙ ap (slice_get ps) is)

  pub stands_from : (place : Place) → AreNamed ps (Some issue) place → IsBeside own (above_place ps place) → stands_at ps (Some issue) place ≡ true
  stands_from place named beside = by (cases_lt own (above_place ps place))
    where
      by : (own < above_place ps place) ⊎ (above_place ps place ≤ own) → stands_at ps (Some issue) place ≡ true
      by (inl lt) = let g = gap_among place named in let is = g.behind lt in let le = beside.1 in let same : own ≡ above_place rest place = omega (arith, is, le) in grind (arith, nat_tests)
      by (inr ge) = let g = gap_among place named in let is = g.before ge in let le = beside.0 in let same : own ≡ above_place rest place = omega (arith, is, le) in grind (arith, nat_tests)

  pub stands_not : (place : Place) → AreNamed ps (Some issue) place → ¬ IsBeside own (above_place ps place) → stands_at ps (Some issue) place ≡ false
  stands_not place named apart = by (cases_lt own (above_place ps place)) (cases_lt (own + 1) (above_place ps place))
    where
      by : (own < above_place ps place) ⊎ (above_place ps place ≤ own) → (own + 1 < above_place ps place) ⊎ (above_place ps place ≤ own + 1) → stands_at ps (Some issue) place ≡ false
      by (inl lt) (inr le) = absurd (apart (omega arith, le))
      by (inl lt) (inl more) = let g = gap_among place named in let is = g.behind lt in let differ : own ≢ above_place rest place = omega (arith, is) in grind (arith, nat_tests)
      by (inr ge) h = other (cases_eq own (above_place ps place))
        where
          other : (own ≡ above_place ps place) ⊎ (own ≡ above_place ps place → ⊥) → stands_at ps (Some issue) place ≡ false
          other (inl e) = absurd (apart (omega arith, omega arith))
          other (inr e) = let g = gap_among place named in let is = g.before ge in let differ : own ≢ above_place rest place = omega (arith, is) in grind (arith, nat_tests)

  -- where the issue doesn't stand there, the ranks beside the place are those beside the gap in the whole order
  sides_of_own : (place : Place) → AreNamed ps (Some issue) place → stands_at ps (Some issue) place ≡ false →
      (rank_above rest (above_place rest place) ≡ rank_above ps (above_place ps place)) × (rank_below rest (above_place rest place) ≡ rank_below ps (above_place ps place))
  sides_of_own place named not_there =
      let here : IsBeside own (above_place ps place) → ⊥ = λ beside. let yes = stands_from place named beside in absurd (cc) in
      let same = beside_same (above_place ps place) (above_place rest place) (gap_among place named) (λ e. here (omega arith, omega arith)) (λ e. here (omega arith, omega arith)) in
      (ap (option_map (λ p. p.0)) same.0, ap (option_map (λ p. p.0)) same.1)

pub sides : (ps : List Pair) (issue : Option IssueNo) (place : Place) → IsOrder ps → AreNamed ps issue place → stands_at ps issue place ≡ false →
    (rank_above (others ps issue) (gap ps issue place) ≡ rank_above ps (above_place ps place)) × (rank_below (others ps issue) (gap ps issue place) ≡ rank_below ps (above_place ps place))
sides ps None place order named not_there = (refl, refl)
sides ps (Some issue) place order named not_there = sides_of_own ps order issue named.issue_there place named not_there

-- the rank that the issue has
pub kept_rank : (ps : List Pair) (issue : Option IssueNo) (place : Place) (empty : ℕ) (rank : RankParts) → stands_at ps issue place ≡ true → own_rank ps issue ≡ Some rank → IsRankFor ps issue place empty rank
kept_rank ps None place empty rank stands own = absurd (cc)
kept_rank ps (Some issue) place empty rank stands own =
    record { kept = λ i same _. let e : issue ≡ i = cc in sym (ap (λ j. rank_in ps j.0) e) ∙ own; moved = λ no. absurd (cc) }

module _ (ps : List Pair) (issue : Option IssueNo) (place : Place) (empty : ℕ) (order : IsOrder ps) (named : AreNamed ps issue place) (not_there : stands_at ps issue place ≡ false) where
  pub moved_rank : (r : Result RankParts RankFault) → IfOk r (IsChosenBeside (rank_above ps (above_place ps place)) (rank_below ps (above_place ps place)) empty) → IfOk r (IsRankFor ps issue place empty)
  moved_rank (Ok rank) chosen =
      let s = sides ps issue place order named not_there in
      record { kept = λ i same yes. absurd (cc); moved = λ no. rw (s.0, s.1) chosen }
  moved_rank (Err fault) chosen = tt

  pub no_rank : (r : Result RankParts RankFault) → IfErr r (ExplainsBeside (rank_above ps (above_place ps place)) (rank_below ps (above_place ps place)) empty) → IfErr r (ExplainsNoRank ps issue place empty)
  no_rank (Ok rank) explained = tt
  no_rank (Err (Exhausted low high)) explained = let s = sides ps issue place order named not_there in (not_there, rw (s.0, s.1) explained)
  no_rank (Err Memory) explained = tt

-- an issue that is beside the gap stands there, with its rank
pub rank_standing : (ps : List Pair) (issue : IssueNo) (place : Place) → IsOrder ps → AreNamed ps (Some issue) place → IsBeside (places_before ps issue.0) (above_place ps place) →
    MatchOption (rank_in ps issue.0) (stands_at ps (Some issue) place ≡ false) (λ rank. (stands_at ps (Some issue) place ≡ true) × (own_rank ps (Some issue) ≡ Some rank))
rank_standing ps issue place order named beside = by (rank_in ps issue.0) refl
  where
    by : (o : Option RankParts) → rank_in ps issue.0 ≡ o → MatchOption o (stands_at ps (Some issue) place ≡ false) (λ rank. (stands_at ps (Some issue) place ≡ true) × (own_rank ps (Some issue) ≡ Some rank))
    by None e = let some = ap (option_map (λ (p : Pair). p.0)) (slice_get-get_or ps (places_before ps issue.0) nothing named.issue_there) in absurd (cc)
    by (Some rank) e = (stands_from ps order issue named.issue_there place named beside, e)
