-- What passes its checks: what it speaks of is there, and it means what stands behind them.
use Rattle.std.proofs.Common.{◌≡◌, ◌≢◌, ◌<◌, ℕ, nat_lt, Option, Some, None, sym, refl, inl, inr, arith}
use Rattle.std.proofs.lemmas.Bool.{cases_Bool}
use Rattle.std.proofs.lemmas.Bool.Decides.{nat_tests}
use Rattle.std.proofs.lemmas.Option.{none-some}
use Rattle.tracker_calls.specs.declared.cause.Cause.{Cause}
use Rattle.tracker_machine.specs.Checks.{or_then, unless_known, only_if}
use Rattle.tracker_machine.specs.Meaning.{Meaning, unless}

-- what is looked for is there
pub known_there : {A : Type 0} (o : Option A) (r : Cause) (later : Option Cause) → or_then (unless_known o r) later ≡ None → o ≢ None
known_there None r later passed = absurd (none-some r (sym passed))
known_there (Some x) r later passed = λ none. none-some x (sym none)

-- both of two checks pass
pub first_passes : (first later : Option Cause) → or_then first later ≡ None → first ≡ None
first_passes None later passed = refl
first_passes (Some r) later passed = absurd (none-some r (sym passed))

pub later_passes : (first later : Option Cause) → or_then first later ≡ None → later ≡ None
later_passes None later passed = passed
later_passes (Some r) later passed = absurd (none-some r (sym passed))

-- there are fewer than so many
pub few_passes : (n most : ℕ) (r : Cause) → only_if (nat_lt n most) r ≡ None → n < most
few_passes n most r passed = elim (cases_Bool (nat_lt n most)) [
  | inl less ↦ grind (arith, nat_tests, less)
  | inr more ↦ absurd (none-some r (sym (rw more at passed)))
]

pub unrefused : (due : Option Cause) (meaning : Meaning) → due ≡ None → unless due meaning ≡ meaning
unrefused due meaning none = rw none refl
