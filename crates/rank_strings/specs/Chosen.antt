-- The rank that is chosen between two neighbours.
use Rattle.std.specs.Prelude.{ℕ, ◌≡◌, ◌+◌, ◌-◌, ◌*◌, ◌/◌, ◌<◌, ◌≤◌, List, [], ◌∷◌, replicate, Option, Some, None, nat_le, if◌then◌else◌}
use Rattle.rank_strings.specs.Rank.{RankParts, last_or}
use Rattle.rank_strings.specs.Between.{LiesBetween, IsShortest}

-- digits read as a number in base 36, behind a number that was read before
abbrev pub number_after : ℕ → List ℕ → ℕ
number_after n [] = n
number_after n (d ∷ ds) = number_after (36 * n + d) ds

abbrev pub number : List ℕ → ℕ
number ds = number_after 0 ds

-- the number of `zzzzzz`
abbrev pub greatest_number : ℕ
greatest_number = 2176782335

-- the least number of six digits alone above the low neighbour
abbrev pub least_above : Option RankParts → ℕ
least_above None = 1
least_above (Some low) = number low.front + 1

-- six digits alone are below a rank where their number is smaller, or the same and further digits follow
abbrev pub below_rank : ℕ → List ℕ → ℕ
below_rank n [] = n - 1
below_rank n (_ ∷ _) = n

-- the greatest number of six digits alone below the high neighbour
abbrev pub greatest_below : Option RankParts → ℕ
greatest_below None = greatest_number
greatest_below (Some high) = below_rank (number high.front) high.further

-- half the sum of the least and the greatest number
abbrev pub halfway : Option RankParts → Option RankParts → ℕ
halfway low high = (least_above low + greatest_below high) / 2

-- beside one neighbour alone the number is 8,192 from it where there is room, between two it is halfway,
-- and the first rank of a bucket is `i00000`
abbrev pub spaced_number : Option RankParts → Option RankParts → ℕ
spaced_number None None = 1088391168
spaced_number (Some low) None =
    if nat_le (number low.front + 8192) greatest_number then number low.front + 8192
    else halfway (Some low) None
spaced_number None (Some high) =
    if nat_le 8193 (number high.front) then number high.front - 8192 else halfway None (Some high)
spaced_number (Some low) (Some high) = halfway (Some low) (Some high)

-- the six digits in front where no six digits alone lie between: those of the low neighbour, or six zeros
abbrev pub front_of : Option RankParts → List ℕ
front_of None = replicate 6 0
front_of (Some low) = low.front

-- the further digits of a neighbour, none where it is absent
abbrev pub further_of : Option RankParts → List ℕ
further_of None = []
further_of (Some r) = r.further

abbrev pub last_digit : RankParts → ℕ
last_digit r = last_or 0 r.further

-- of the shortest ranks between, this one's last digit is half the sum of the lowest and the highest
pub record IsFinest (low high : Option RankParts) (bucket : ℕ) (r : RankParts) : Type 0 where
  pub shortest : IsShortest low high bucket r
  pub front : r.front ≡ front_of low
  pub lowest : RankParts
  pub lowest_between : IsShortest low high bucket lowest
  pub highest : RankParts
  pub highest_between : IsShortest low high bucket highest
  pub at_least : (s : RankParts) → IsShortest low high bucket s → last_digit lowest ≤ last_digit s
  pub at_most : (s : RankParts) → IsShortest low high bucket s → last_digit s ≤ last_digit highest
  pub half : last_digit r ≡ (last_digit lowest + last_digit highest) / 2

-- the chosen rank has six digits alone wherever those lie between, and is the finest one elsewhere
pub record IsChosen (low high : Option RankParts) (bucket : ℕ) (r : RankParts) : Type 0 where
  pub between : LiesBetween low high bucket r
  pub spaced : least_above low ≤ greatest_below high
      → (r.further ≡ []) × (number r.front ≡ spaced_number low high)
  pub finest : greatest_below high < least_above low → IsFinest low high bucket r
