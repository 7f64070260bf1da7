-- What a test that comes out one way or the other tells.
use Rattle.std.proofs.Common.{◌≡◌, ◌↔◌, IsTrue, Bool, true, false, not, refl}
use Rattle.std.proofs.lemmas.Bool.{false≢true}

pub decided : {A : Type 0} (b : Bool) → (b ≡ true → A) → (b ≡ false → A → ⊥) → IsTrue b ↔ A
decided true so differs = (λ t. so refl, λ a. refl)
decided false so differs = (λ t. absurd (false≢true t), λ a. absurd (differs refl a))

pub decided_not : {A : Type 0} (b : Bool) → (b ≡ true → A → ⊥) → (b ≡ false → A) → IsTrue (not b) ↔ A
decided_not true differs so = (λ t. absurd (false≢true t), λ a. absurd (differs refl a))
decided_not false differs so = (λ t. so refl, λ a. refl)

-- a test that came out false tells nothing
pub ruled_out : {A : Type 0} → (A → ⊥) → IsTrue false ↔ A
ruled_out none = (λ t. absurd (false≢true t), λ a. absurd (none a))
