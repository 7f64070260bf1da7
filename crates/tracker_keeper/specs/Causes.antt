-- A fault of a keeper is told only where its own count of faults rose.
use Rattle.std.specs.Prelude.{◌≡◌, ◌+◌, ◌-◌, ◌^◌, ◌≤◌, ℕ, min, Result, Ok, Err, IfErr}
use Rattle.request_lines.specs.Causes.{Rose}
use Rattle.tracker_keeper.specs.declared.keeper.KeepFault.{KeepFault}
use Rattle.tracker_keeper.specs.declared.keeper.KeepFault.TheVariants.{Failed, Memory}

-- want of memory needs no cause
abbrev pub IsKeepCause : ℕ → ℕ → KeepFault → Type 0
IsKeepCause before now Failed = Rose before now
IsKeepCause before now Memory = Unit {0}

-- the count never falls, and at a fault it rose
pub record HasKeepCause {T : Type 0} (before now : ℕ) (result : Result T KeepFault) : Type 0 where
  pub later : before ≤ now
  pub failed : IfErr result (IsKeepCause before now)

-- a failure raises the count by one, up to its last value, and nothing else raises it
abbrev pub IsCounted : {X : Type 0} → ℕ → ℕ → Result X KeepFault → Type 0
IsCounted before now (Ok x) = now ≡ before
IsCounted before now (Err Memory) = now ≡ before
IsCounted before now (Err Failed) = now ≡ min (before + 1) (2 ^ 64 - 1)
