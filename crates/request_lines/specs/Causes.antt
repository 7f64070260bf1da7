-- A fault of the outside is told only where the object's own count of faults rose.
use Rattle.std.specs.Prelude.{ℕ, ◌+◌, ◌-◌, ◌^◌, ◌≤◌, ◌==◌, min, List, Bool, IsTrue, Result, OnErr}
use Rattle.std.specs.List.{list_any}

-- the count is greater, or it stands at its last value
abbrev pub Rose : ℕ → ℕ → Type 0
Rose before now = min (before + 1) (2 ^ 64 - 1) ≤ now

-- the count never falls, and at a fault it rose
pub record HasCause {T E : Type 0} (before now : ℕ) (result : Result T E) : Type 0 where
  pub later : before ≤ now
  pub failed : OnErr result (Rose before now)

-- the number of the call after so many
abbrev pub next_call : ℕ → ℕ
next_call calls = min (calls + 1) (2 ^ 64 - 1)

-- the call of this number is one that fails
abbrev pub is_listed : List ℕ → ℕ → Bool
is_listed calls number = list_any (λ call. call == number) calls

abbrev pub FailsAt : List ℕ → ℕ → Type 0
FailsAt calls number = IsTrue (is_listed calls number)
