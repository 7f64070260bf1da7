-- The rank whose last digit is halfway, among the shortest ranks between.
use Rattle.std.proofs.Common.{◌≡◌, ℕ, ◌+◌, ◌<◌, ◌≤◌, inl, inr, List, [], ◌∷◌, ◌++◌, length, Option, Some, None, refl, sym, ap, ◌∙◌, arith}
use Rattle.std.proofs.lemmas.List.{length_push}
use Rattle.std.proofs.lemmas.List.Elements.{All-nil}
use Rattle.std.specs.declared.cmp.Ordering.TheVariants.{Less}
use Rattle.std.specs.Ordering.{nat_cmp}
use Rattle.std.specs.Option.{IfSome}
use Rattle.std.specs.Cmp.Lexicographic.{slice_cmp}
use Rattle.rank_strings.specs.Rank.{RankParts, IsRank, AreDigits, last_or, IsBelow}
use Rattle.rank_strings.specs.Between.{RanksGiven, LiesBetween, IsShortest, HasNoRoom}
use Rattle.rank_strings.specs.Chosen.{number, least_above, greatest_below, front_of, further_of, IsFinest, IsChosen}
use Rattle.rank_strings.specs.Gap.{lowest_at, highest_at, padded, HasNoGapBefore, IsGap}
use Rattle.rank_strings.proofs.Numbers.{zeros_are_digits}
use Rattle.rank_strings.proofs.Fitting.{IsBelowEnd, FitsBetween, AreEnds, IsLastOf, not_less-nil, padded_fits, length-padded, last_or-push, length-fitting, last-fitting}
use Rattle.rank_strings.proofs.Neighbours.{below-cases, below-number, below-further, number-positive}
use Rattle.rank_strings.proofs.Room.{behind_from_between}

number-front_of : (low : Option RankParts) → number (front_of low) + 1 ≡ least_above low
number-front_of None = refl
number-front_of (Some l) = refl

-- the low neighbour's six digits are not above the high neighbour's
front-order : (low : Option RankParts) (high : RankParts) (bucket : ℕ) → RanksGiven low (Some high) bucket →
    number (front_of low) ≤ number high.front
front-order None high bucket h = omega arith
front-order (Some l) high bucket h =
    elim (below-cases l high h.low_rank h.high_rank (h.neighbours.low_in_bucket ∙ sym h.neighbours.high_in_bucket) h.neighbours.in_order)
    [ inl less ↦ omega arith | inr same ↦ omega (arith, same.0) ]

-- and are below them where the high neighbour has no further digits
front-below : (low : Option RankParts) (high : RankParts) (bucket : ℕ) → RanksGiven low (Some high) bucket →
    high.further ≡ [] → number (front_of low) < number high.front
front-below None high bucket h alone = number-positive high h.high_rank alone
front-below (Some l) high bucket h alone =
    elim (below-cases l high h.low_rank h.high_rank (h.neighbours.low_in_bucket ∙ sym h.neighbours.high_in_bucket) h.neighbours.in_order)
    [ inl less ↦ less | inr same ↦ absurd (not_less-nil l.further (rw alone at same.1)) ]

-- where they are the same, the further digits decide
further-order : (low : Option RankParts) (high : RankParts) (bucket : ℕ) → RanksGiven low (Some high) bucket → (d : ℕ) (ds : List ℕ) →
    high.further ≡ d ∷ ds → number high.front ≤ number (front_of low) → slice_cmp nat_cmp (further_of low) (d ∷ ds) ≡ Less
further-order None high bucket h d ds is top = refl
further-order (Some l) high bucket h d ds is top =
    elim (below-cases l high h.low_rank h.high_rank (h.neighbours.low_in_bucket ∙ sym h.neighbours.high_in_bucket) h.neighbours.in_order)
    [ inl less ↦ absurd (omega arith) | inr same ↦ rw is at same.1 ]

ends-apart : (low high : Option RankParts) (bucket : ℕ) → RanksGiven low high bucket → greatest_below high < least_above low →
    IsBelowEnd (further_of high) (further_of low)
ends-apart low None bucket h none = tt
ends-apart low (Some high) bucket h none = go high.further refl
  where
    go : (ds : List ℕ) → high.further ≡ ds → IsBelowEnd high.further (further_of low)
    go [] is = rw is tt
    go (d ∷ ds) is =
        let top : number high.front < least_above low = rw is at none in
        rw is (further-order low high bucket h d ds is (omega (arith, number-front_of low)))

further-digits : (r : Option RankParts) → IfSome r IsRank → AreDigits (further_of r)
further-digits None h = All-nil (λ d. d < 36)
further-digits (Some r) h = h.further_digits

further-last : (r : Option RankParts) → IfSome r IsRank → 0 < last_or 1 (further_of r)
further-last None h = omega arith
further-last (Some r) h = h.no_last_zero

ends_from_neighbours : (low high : Option RankParts) (bucket : ℕ) → RanksGiven low high bucket → greatest_below high < least_above low →
    AreEnds (further_of low) (further_of high)
ends_from_neighbours low high bucket h none = record {
  low_digits = further-digits low h.low_rank;
  high_digits = further-digits high h.high_rank;
  no_last_zero = further-last high h.high_rank;
  apart = ends-apart low high bucket h none;
}

front-digits : (r : Option RankParts) → IfSome r IsRank → AreDigits (front_of r)
front-digits None h = zeros_are_digits
front-digits (Some r) h = h.front_digits

front-length : (r : Option RankParts) → IfSome r IsRank → length (front_of r) ≡ 6
front-length None h = refl
front-length (Some r) h = h.front_length

above-fitting : (low : Option RankParts) (bucket : ℕ) → IfSome low IsRank → IfSome low (λ l. l.bucket ≡ bucket) →
    (r : RankParts) → IsRank r → r.bucket ≡ bucket → r.front ≡ front_of low → slice_cmp nat_cmp (further_of low) r.further ≡ Less →
    IfSome low (λ l. IsBelow l r)
above-fitting None bucket h e r k b front above = tt
above-fitting (Some l) bucket h e r k b front above = below-further l r h k (e ∙ sym b) (sym (ap number front)) above

below-fitting : (low high : Option RankParts) (bucket : ℕ) → RanksGiven low high bucket → greatest_below high < least_above low →
    (r : RankParts) → IsRank r → r.bucket ≡ bucket → r.front ≡ front_of low → IsBelowEnd (further_of high) r.further →
    IfSome high (λ h. IsBelow r h)
below-fitting low None bucket h none r k b front below = tt
below-fitting low (Some high) bucket h none r k b front below = go high.further refl
  where
    same : r.bucket ≡ high.bucket
    same = b ∙ sym h.neighbours.high_in_bucket

    go : (ds : List ℕ) → high.further ≡ ds → IsBelow r high
    go [] is =
        let less : number r.front < number high.front = rw front (front-below low high bucket h is) in
        below-number r high k h.high_rank same less
    go (d ∷ ds) is =
        let top : number high.front < least_above low = rw is at none in
        let numbers : number r.front ≡ number high.front =
        rw front (omega (arith, number-front_of low, front-order low high bucket h)) in
        below-further r high k h.high_rank same numbers (rw is (rw is at below))

-- further digits that fit make a rank between
pub between_from_fitting : (low high : Option RankParts) (bucket : ℕ) → RanksGiven low high bucket →
    greatest_below high < least_above low → (ds : List ℕ) → FitsBetween (further_of low) (further_of high) ds → length ds ≤ 245 →
    LiesBetween low high bucket (record { bucket = bucket; front = front_of low; further = ds })
between_from_fitting low high bucket h none ds fits short =
    let r : RankParts = record { bucket = bucket; front = front_of low; further = ds } in
    let rank : IsRank r = record {
      in_circle = h.neighbours.in_circle;
      front_digits = front-digits low h.low_rank;
      front_length = front-length low h.low_rank;
      further_digits = fits.digits;
      further_length = short;
      no_last_zero = fits.no_last_zero;
      not_zero = λ alone _. not_less-nil (further_of low) (rw alone at fits.above);
    } in
    record {
      is_rank = rank;
      in_bucket = refl;
      above_low = above-fitting low bucket h.low_rank h.neighbours.low_in_bucket r rank refl refl fits.above;
      below_high = below-fitting low high bucket h none r rank refl refl fits.below;
    }

-- where no digit fits within the room for further digits, no rank lies between
pub no_room_from_no_gap : (low high : Option RankParts) (bucket : ℕ) → RanksGiven low high bucket →
    greatest_below high < least_above low → HasNoGapBefore (further_of low) (further_of high) 245 → HasNoRoom low high bucket
no_room_from_no_gap low high bucket h none no_gap r between =
    let behind = behind_from_between low high bucket h none r between in
    let long = length-fitting 245 (further_of low) (further_of high) no_gap r.further behind.fits in
    let short = between.is_rank.further_length in
    omega arith

-- the rank that has a digit in the gap
abbrev pub rank_in_gap : Option RankParts → ℕ → ℕ → ℕ → RankParts
rank_in_gap low bucket depth digit =
    record { bucket = bucket; front = front_of low; further = padded depth (further_of low) ++ digit ∷ [] }

length-in_gap : (depth : ℕ) (low : List ℕ) (digit : ℕ) → length (padded depth low ++ digit ∷ []) ≡ depth + 1
length-in_gap depth low digit = length_push (padded depth low) digit ∙ ap (λ n. n + 1) (length-padded depth low)

-- each digit that fits in the gap makes a shortest rank
shortest_in_gap : (low high : Option RankParts) (bucket depth digit : ℕ) → RanksGiven low high bucket →
    greatest_below high < least_above low → depth < 245 → HasNoGapBefore (further_of low) (further_of high) depth →
    lowest_at (further_of low) depth ≤ digit → digit ≤ highest_at (further_of high) depth →
    IsShortest low high bucket (rank_in_gap low bucket depth digit)
shortest_in_gap low high bucket depth digit h none in_room none_before least most =
    let size = length-in_gap depth (further_of low) digit in
    let fits = padded_fits depth (further_of low) (further_of high) (ends_from_neighbours low high bucket h none) none_before digit least most in
    record {
      between = between_from_fitting low high bucket h none (padded depth (further_of low) ++ digit ∷ []) fits (omega (arith, size));
      shortest = λ s between.
          let behind = behind_from_between low high bucket h none s between in
          let long = length-fitting depth (further_of low) (further_of high) none_before s.further behind.fits in
          omega (arith, size);
    }

-- a shortest rank has its last digit in the gap
last_in_gap : (low high : Option RankParts) (bucket depth digit : ℕ) → RanksGiven low high bucket →
    greatest_below high < least_above low → HasNoGapBefore (further_of low) (further_of high) depth →
    LiesBetween low high bucket (rank_in_gap low bucket depth digit) → (s : RankParts) → IsShortest low high bucket s →
    IsLastOf (further_of low) (further_of high) depth s.further
last_in_gap low high bucket depth digit h none none_before there s shortest =
    let behind = behind_from_between low high bucket h none s shortest.between in
    let long = length-fitting depth (further_of low) (further_of high) none_before s.further behind.fits in
    let short = shortest.shortest (rank_in_gap low bucket depth digit) there in
    last-fitting depth (further_of low) (further_of high) none_before s.further behind.fits
    (omega (arith, length-in_gap depth (further_of low) digit))

pub any_shortest_in_gap : (low high : Option RankParts) (bucket depth : ℕ) → RanksGiven low high bucket →
    greatest_below high < least_above low → depth < 245 → HasNoGapBefore (further_of low) (further_of high) depth →
    lowest_at (further_of low) depth ≤ highest_at (further_of high) depth → (s : RankParts) → IsShortest low high bucket s →
    IsLastOf (further_of low) (further_of high) depth s.further
any_shortest_in_gap low high bucket depth h none in_room none_before fits s shortest =
    let lowest = lowest_at (further_of low) depth in
    let there = shortest_in_gap low high bucket depth lowest h none in_room none_before (omega arith) fits in
    last_in_gap low high bucket depth lowest h none none_before there.between s shortest

pub finest_in_gap : (low high : Option RankParts) (bucket depth digit : ℕ) → RanksGiven low high bucket →
    greatest_below high < least_above low → IsGap (further_of low) (further_of high) depth digit →
    IsFinest low high bucket (rank_in_gap low bucket depth digit)
finest_in_gap low high bucket depth digit h none gap =
    let lowest = lowest_at (further_of low) depth in
    let highest = highest_at (further_of high) depth in
    let half = gap.halfway in
    let fits = gap.fits in
    let at = shortest_in_gap low high bucket depth in
    let here = at digit h none gap.in_room gap.none_before (omega arith) (omega arith) in
    let bottom = at lowest h none gap.in_room gap.none_before (omega arith) fits in
    let top = at highest h none gap.in_room gap.none_before fits (omega arith) in
    let last = λ (d : ℕ). last_or-push 0 (padded depth (further_of low)) d in
    record {
      shortest = here;
      front = refl;
      lowest = rank_in_gap low bucket depth lowest;
      lowest_between = bottom;
      highest = rank_in_gap low bucket depth highest;
      highest_between = top;
      at_least = λ s shortest. rw (last lowest) (last_in_gap low high bucket depth digit h none gap.none_before here.between s shortest).lowest;
      at_most = λ s shortest. rw (last highest) (last_in_gap low high bucket depth digit h none gap.none_before here.between s shortest).highest;
      half = rw (last digit, last lowest, last highest) half;
    }

pub chosen_in_gap : (low high : Option RankParts) (bucket depth digit : ℕ) → RanksGiven low high bucket →
    greatest_below high < least_above low → IsGap (further_of low) (further_of high) depth digit →
    IsChosen low high bucket (rank_in_gap low bucket depth digit)
chosen_in_gap low high bucket depth digit h none gap =
    let finest = finest_in_gap low high bucket depth digit h none gap in
    record {
      between = finest.shortest.between;
      spaced = λ some. absurd (omega arith);
      finest = λ _. finest;
    }
