-- Ranks of issues by their numbers, as rows keep them.
use Rattle.std.specs.Prelude.{ℕ, suc, ◌≡◌, ◌≢◌, ◌<◌, ◌≤◌, ◌⊎◌, List, [], ◌∷◌, All, AllPairs}
use Rattle.std.specs.List.Sorted.{IsPermutation}
use Rattle.rank_strings.specs.Rank.{RankParts}
use Rattle.board.specs.Order.{Pair}
use Rattle.rank_balancer.specs.declared.balance.Balance.{Balance}
use Rattle.rank_balancer.specs.declared.balance.Balance.TheVariants.{Idle, Moving}
use Rattle.rank_balancer.specs.Balance.{Agrees, next_bucket}
use Rattle.tracker_ranks.specs.Ranked.{OrderedIssues}

-- ranks beside the numbers of their issues, which count up from this one
abbrev pub numbered_from : ℕ → List RankParts → List Pair
numbered_from n [] = []
numbered_from n (rank ∷ ranks) = (rank, record { 0 = n }) ∷ numbered_from (suc n) ranks

-- no two ranks are the same, and all agree with the balance
pub record MayBeLoaded (ranks : List RankParts) (b : Balance) : Type 0 where
  pub differ : AllPairs (λ one other. one ≢ other) ranks
  pub agrees : Agrees (numbered_from 1 ranks) b

-- these are the issues from 1 on with these ranks, in some order, and the balance
pub record AreLoaded (ranks : List RankParts) (b : Balance) (loaded : OrderedIssues) : Type 0 where
  pub issues : IsPermutation (numbered_from 1 ranks) loaded.order
  pub balance : loaded.balance ≡ b

-- a rank of this bucket agrees with the balance
abbrev pub AllowsBucket : Balance → ℕ → Type 0
AllowsBucket (Idle own) bucket = bucket ≡ own
AllowsBucket (Moving from to) bucket = (bucket ≡ from) ⊎ (bucket ≡ to)

-- the buckets are 0, 1 and 2, and a moving balance goes to the next one
abbrev pub IsBalance : Balance → Type 0
IsBalance (Idle own) = own < 3
IsBalance (Moving from to) = (from < 3) × (to ≡ next_bucket from)

-- no issue has two of the pairs, and their numbers are at most this one
pub record AreApart (ps : List Pair) (most : ℕ) : Type 0 where
  pub once : AllPairs (λ p q. p.1.0 ≢ q.1.0) ps
  pub within : All (λ p. p.1.0 ≤ most) ps
