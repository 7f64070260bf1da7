-- What tests mean.
use Rattle.std.proofs.Common.{◌≡◌, ℕ, ◌<◌, ◌≤◌, Bool, true, false, sym, ◌∙◌, arith, refl}
use Rattle.std.specs.Prelude.{IsTrue, ◌↔◌, not}
use Rattle.std.specs.Ordering.{is_le, is_lt, nat_cmp}
use Rattle.std.proofs.lemmas.Bool.{false≢true}
use Rattle.std.proofs.lemmas.Bool.Decides.{nat_tests}

pub is_at_most : (a b : ℕ) (r : Bool) → r ≡ is_le (nat_cmp a b) → IsTrue r ↔ (a ≤ b)
is_at_most a b r is = (λ t. grind (arith, nat_tests), λ le. grind (arith, nat_tests))

pub is_below : (a b : ℕ) (r : Bool) → r ≡ is_lt (nat_cmp a b) → IsTrue r ↔ (a < b)
is_below a b r is = (λ t. grind (arith, nat_tests), λ le. grind (arith, nat_tests))

-- a test that fails
pub refused : {A : Type 0} (r : Bool) → r ≡ false → IsTrue r ↔ A → A → ⊥
refused r is says holds = false≢true (sym is ∙ says.1 holds)

pub at_least : (a b : ℕ) (r : Bool) → r ≡ is_lt (nat_cmp a b) → r ≡ false → b ≤ a
at_least a b r is fails = grind (arith, nat_tests)

pub from_not_false : (b : Bool) → not b ≡ false → b ≡ true
from_not_false true is = refl
from_not_false false is = sym is

pub from_not_true : (b : Bool) → not b ≡ true → b ≡ false
from_not_true true is = sym is
from_not_true false is = refl
