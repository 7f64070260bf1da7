-- Why there is no rank between two neighbours.
use Rattle.std.specs.Prelude.{ℕ, ◌≡◌, Option, None}
use Rattle.rank_strings.specs.declared.fault.RankFault.{RankFault}
use Rattle.rank_strings.specs.declared.fault.RankFault.TheVariants.{Exhausted, Memory}
use Rattle.rank_strings.specs.Rank.{RankParts}
use Rattle.rank_strings.specs.Between.{HasNoRoom}

-- a bucket is exhausted between two neighbours where no rank lies between them; want of memory says nothing
abbrev pub ExplainsFault : Option RankParts → Option RankParts → ℕ → RankFault → Type 0
ExplainsFault low high bucket (Exhausted l h) = (l ≡ low) × (h ≡ high) × HasNoRoom low high bucket
ExplainsFault low high bucket Memory = Unit {0}

-- nothing is computed where a bucket is exhausted; want of memory says nothing
abbrev pub IsNoneFor : Option RankParts → RankFault → Type 0
IsNoneFor computed (Exhausted l h) = computed ≡ None
IsNoneFor computed Memory = Unit {0}
