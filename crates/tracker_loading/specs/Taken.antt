-- Ranks that are taken.
use Rattle.std.specs.Prelude.{◌≡◌, Bool, List}
use Rattle.std.specs.List.{list_any}
use Rattle.std.specs.BTreeMap.{is_at}
use Rattle.rank_strings.specs.Rank.{RankParts, rank_cmp}

-- whether a rank is one of these
abbrev pub is_taken : List RankParts → RankParts → Bool
is_taken ranks rank = list_any (is_at (rank_cmp rank)) ranks

-- the keys are these ranks, in whatever order
abbrev pub AreTaken : List RankParts → List RankParts → Type 0
AreTaken ranks keys = (rank : RankParts) → is_taken keys rank ≡ is_taken ranks rank
