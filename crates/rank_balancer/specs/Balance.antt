-- The balance of an order: all ranks in one bucket, or on the way from one bucket to the next.
use Rattle.std.specs.Prelude.{ℕ, ◌≡◌, ◌<◌, ◌+◌, ◌==◌, ◌⊎◌, List, All, Option, Some, None, if◌then◌else◌}
use Rattle.rank_balancer.specs.declared.balance.Balance.{Balance}
use Rattle.rank_balancer.specs.declared.balance.Balance.TheVariants.{Idle, Moving}
use Rattle.board.specs.Order.{Pair}

-- the next bucket in the circle 0, 1, 2, 0
abbrev pub next_bucket : ℕ → ℕ
next_bucket bucket = if bucket == 2 then 0 else bucket + 1

-- every rank is in the bucket of an idle balance, and in one of the two of a moving one, which are neighbours in the circle
abbrev pub Agrees : List Pair → Balance → Type 0
Agrees ps (Idle bucket) = (bucket < 3) × All (λ p. p.0.bucket ≡ bucket) ps
Agrees ps (Moving from to) =
    (from < 3) × (to ≡ next_bucket from) × All (λ p. (p.0.bucket ≡ from) ⊎ (p.0.bucket ≡ to)) ps

-- a start is for an idle balance alone
abbrev pub after_start : Balance → Option Balance
after_start (Idle bucket) = Some (Moving bucket (next_bucket bucket))
after_start (Moving from to) = None

-- an idle bucket is one of the three
abbrev pub IsInCircle : Balance → Type 0
IsInCircle (Idle bucket) = bucket < 3
IsInCircle (Moving from to) = Unit {0}

-- the bucket that a balance leaves, and the one that it goes to; of an idle one both are its own
abbrev pub from_of : Balance → ℕ
from_of (Idle bucket) = bucket
from_of (Moving from to) = from

abbrev pub to_of : Balance → ℕ
to_of (Idle bucket) = bucket
to_of (Moving from to) = to

abbrev pub IsMoving : Balance → Type 0
IsMoving (Idle bucket) = ⊥
IsMoving (Moving from to) = Unit {0}
