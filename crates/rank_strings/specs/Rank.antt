-- What a rank is, and how ranks are ordered.
use Rattle.std.specs.Prelude.{ℕ, ◌≡◌, ◌≢◌, ◌<◌, ◌≤◌, List, [], ◌∷◌, ◌++◌, length, replicate, All}
use Rattle.std.specs.declared.cmp.Ordering.{Ordering}
use Rattle.std.specs.declared.cmp.Ordering.TheVariants.{Less}
use Rattle.std.specs.Ordering.{nat_cmp, ordering_then}
use Rattle.std.specs.Cmp.Lexicographic.{slice_cmp}

-- a rank has a bucket, six digits in front, and further digits behind them
pub record RankParts : Type 0 where
  pub bucket : ℕ
  pub front : List ℕ
  pub further : List ℕ

-- the digits of a rank, from the left
abbrev pub digits : RankParts → List ℕ
digits r = r.front ++ r.further

-- a digit is one of the 36 numbers below 36
abbrev pub AreDigits : List ℕ → Type 0
AreDigits ds = All (λ d. d < 36) ds

-- the last digit of a list, and `none` where it is empty
abbrev pub last_or : ℕ → List ℕ → ℕ
last_or none [] = none
last_or none (d ∷ ds) = last_or d ds

-- a rank lies in one of three buckets, has at most 245 further digits, the last of which is not 0, and
-- is not six zeros alone
pub record IsRank (r : RankParts) : Type 0 where
  pub in_circle : r.bucket < 3
  pub front_digits : AreDigits r.front
  pub front_length : length r.front ≡ 6
  pub further_digits : AreDigits r.further
  pub further_length : length r.further ≤ 245
  pub no_last_zero : 0 < last_or 1 r.further
  pub not_zero : r.further ≡ [] → r.front ≢ replicate 6 0

-- ranks are ordered by their buckets, and then by their digits from the left, a beginning of a list first
abbrev pub rank_cmp : RankParts → RankParts → Ordering
rank_cmp a b = ordering_then (nat_cmp a.bucket b.bucket) (slice_cmp nat_cmp (digits a) (digits b))

abbrev pub IsBelow : RankParts → RankParts → Type 0
IsBelow a b = rank_cmp a b ≡ Less
