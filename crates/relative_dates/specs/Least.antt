-- The least whole number that passes a test.
use Rattle.std.specs.Prelude.{ℕ, zero, suc, Bool, if◌then◌else◌, ℤ, pos, ◌+ℤ◌}

-- of the n whole numbers from `low` on, the least that passes, or the one after them where none does
unfoldable pub least_from : (ℤ → Bool) → ℕ → ℤ → ℤ
least_from passes zero low = low
least_from passes (suc n) low =
    if passes low then low else least_from passes n (low +ℤ pos 1)
