-- What holds of all ranks, of their texts and of the rank that is chosen.
use Rattle.std.specs.Prelude.{ℕ, ◌≡◌, ◌+◌, ◌<◌, ◌≤◌, List, [], length, Option, Some, None, MatchOption}
use Rattle.std.specs.declared.cmp.Ordering.TheVariants.{Equal}
use Rattle.std.specs.Ordering.{nat_cmp}
use Rattle.std.specs.Cmp.{IsTotalOrder}
use Rattle.std.specs.Cmp.Lexicographic.{slice_cmp}
use Rattle.rank_strings.specs.Rank.{RankParts, IsRank, rank_cmp}
use Rattle.rank_strings.specs.Text.{rank_text, IsTextOf}
use Rattle.rank_strings.specs.Between.{RanksGiven, LiesBetween, IsShortest, HasNoRoom}
use Rattle.rank_strings.specs.Chosen.{number, greatest_number, least_above, greatest_below, front_of, last_digit, IsChosen}
use Rattle.rank_strings.specs.Choice.{chosen_between}

-- the order of ranks is a total order
abbrev pub OrderIsTotal : Type 0
OrderIsTotal = IsTotalOrder rank_cmp

-- only a rank itself is its equal
abbrev pub EqualRanksAreTheSame : Type 0
EqualRanksAreTheSame = (a b : RankParts) → IsRank a → IsRank b → rank_cmp a b ≡ Equal → a ≡ b

-- ranks are ordered as their texts, byte by byte
abbrev pub RanksCompareAsTheirTexts : Type 0
RanksCompareAsTheirTexts =
    (a b : RankParts) → IsRank a → IsRank b
    → slice_cmp nat_cmp (rank_text a) (rank_text b) ≡ rank_cmp a b

-- bytes are the text of one rank at most
abbrev pub TextsAreOfOneRank : Type 0
TextsAreOfOneRank = (bytes : List ℕ) (a b : RankParts) → IsTextOf bytes a → IsTextOf bytes b → a ≡ b

-- where no six digits alone lie between, each rank between begins with the six digits that are named
abbrev pub FrontIsNamed : Type 0
FrontIsNamed =
    (low high : Option RankParts) (bucket : ℕ) → RanksGiven low high bucket
    → greatest_below high < least_above low →
    (r : RankParts) → LiesBetween low high bucket r → r.front ≡ front_of low

-- there the shortest ranks between differ in their last digit alone
abbrev pub ShortestDifferInTheLastDigit : Type 0
ShortestDifferInTheLastDigit =
    (low high : Option RankParts) (bucket : ℕ) → RanksGiven low high bucket
    → greatest_below high < least_above low →
    (a b : RankParts) → IsShortest low high bucket a → IsShortest low high bucket b
    → last_digit a ≡ last_digit b → a ≡ b

-- one rank at most is chosen between two neighbours
abbrev pub OneRankIsChosen : Type 0
OneRankIsChosen =
    (low high : Option RankParts) (bucket : ℕ) → RanksGiven low high bucket →
    (a b : RankParts) → IsChosen low high bucket a → IsChosen low high bucket b → a ≡ b

-- what is computed from two neighbours is the chosen rank, and nothing is computed only where no rank lies between
abbrev pub ChosenIsComputed : Type 0
ChosenIsComputed =
    (low high : Option RankParts) (bucket : ℕ) → RanksGiven low high bucket →
    MatchOption (chosen_between low high bucket) (HasNoRoom low high bucket)
    (IsChosen low high bucket)

-- it is the only rank that is chosen
abbrev pub NoOtherIsChosen : Type 0
NoOtherIsChosen =
    (low high : Option RankParts) (bucket : ℕ) → RanksGiven low high bucket →
    (r : RankParts) → IsChosen low high bucket r → chosen_between low high bucket ≡ Some r

-- where no rank lies between, nothing is computed
abbrev pub NoneWithoutRoom : Type 0
NoneWithoutRoom =
    (low high : Option RankParts) (bucket : ℕ) → RanksGiven low high bucket
    → HasNoRoom low high bucket →
    chosen_between low high bucket ≡ None

-- behind a lone neighbour with room for the step, the chosen rank is 8,192 above it and has nine bytes
abbrev pub StepsUp : Type 0
StepsUp =
    (low : RankParts) (bucket : ℕ) (r : RankParts) → number low.front + 8192 ≤ greatest_number
    → IsChosen (Some low) None bucket r →
    (number r.front ≡ number low.front + 8192) × (r.further ≡ []) × (length (rank_text r) ≡ 9)

-- before a lone neighbour with room for the step, it is 8,192 below it and has nine bytes
abbrev pub StepsDown : Type 0
StepsDown =
    (high : RankParts) (bucket : ℕ) (r : RankParts) → 8192 < number high.front
    → IsChosen None (Some high) bucket r →
    (number r.front + 8192 ≡ number high.front) × (r.further ≡ []) × (length (rank_text r) ≡ 9)
