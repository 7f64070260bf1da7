-- Things by rising numbers.
use Rattle.std.proofs.Common.{◌⊎◌, ◌≡◌, ◌≢◌, ℕ, ◌+◌, ◌<◌, ◌≤◌, ◌==◌, Bool, true, false, Some, None, List, [], ◌∷◌, nat_lt, if◌then◌else◌, refl, ◌∙◌, inl, inr, arith}
use Rattle.std.proofs.lemmas.Bool.{cases_eq}
use Rattle.std.proofs.lemmas.Bool.Decides.{nat_tests}
use Rattle.std.proofs.lemmas.Option.{none-some}
use Rattle.rising_numbers.specs.ByNumber.{RiseFrom, by_number, put_by_number, without_number}

module _ {X : Type 0} (number : X → ℕ) where
  pub rise_less : (least low : ℕ) (xs : List X) → low ≤ least → RiseFrom number least xs → RiseFrom number low xs
  rise_less least low [] le rise = tt
  rise_less least low (x ∷ xs) le rise = (omega (arith, le, rise.0), rise.1)

  -- numbers that rise from a greater one on
  pub none_below : (least n : ℕ) (xs : List X) → RiseFrom number least xs → n < least → by_number number n xs ≡ None
  none_below least n [] rise lt = refl
  none_below least n (x ∷ xs) rise lt =
      let rest = none_below (number x + 1) n xs rise.1 (omega (arith, lt, rise.0)) in
      grind (arith, nat_tests, rise.0, lt, rest)

  -- what is found isn't less than the least
  pub above : (least n : ℕ) (x : X) (xs : List X) → RiseFrom number least xs → by_number number n xs ≡ Some x → least ≤ n
  above least n x [] rise is = absurd (none-some x is)
  above least n x (y ∷ ys) rise is = by (cases_eq (number y) n) (above (number y + 1) n x ys rise.1)
    where
      by : (number y ≡ n) ⊎ (number y ≢ n) → (by_number number n ys ≡ Some x → number y + 1 ≤ n) → least ≤ n
      by (inl e) rest = omega (arith, rise.0, e)
      by (inr ne) rest = let h = rest (grind (arith, nat_tests, ne, is)) in omega (arith, rise.0, h)

  pub by_put : (n : ℕ) (new : X) (xs : List X) → by_number number n (put_by_number number new xs) ≡ (if number new == n then Some new else by_number number n xs)
  by_put n new [] = refl
  by_put n new (x ∷ xs) = grind (arith, nat_tests, by_put n new xs)

  pub by_without : (least n m : ℕ) (xs : List X) → RiseFrom number least xs → by_number number m (without_number number n xs) ≡ (if n == m then None else by_number number m xs)
  by_without least n m [] rise = grind (arith, nat_tests)
  by_without least n m (x ∷ xs) rise =
      let rest = by_without (number x + 1) n m xs rise.1 in
      let none : m ≡ number x → by_number number m xs ≡ None = λ e. none_below (number x + 1) m xs rise.1 (omega (arith, e)) in
      grind (arith, nat_tests, rest, none)

  pub put_own : (new : X) (xs : List X) → by_number number (number new) (put_by_number number new xs) ≡ Some new
  put_own new xs = by_put (number new) new xs ∙ grind (arith, nat_tests)

  pub put_other : (n : ℕ) (new : X) (xs : List X) → number new ≢ n → by_number number n (put_by_number number new xs) ≡ by_number number n xs
  put_other n new xs other = by_put n new xs ∙ grind (arith, nat_tests, other)

  pub without_own : (least n : ℕ) (xs : List X) → RiseFrom number least xs → by_number number n (without_number number n xs) ≡ None
  without_own least n xs rise = by_without least n n xs rise ∙ grind (arith, nat_tests)

  pub without_other : (n m : ℕ) (xs : List X) → n ≢ m → by_number number m (without_number number n xs) ≡ by_number number m xs
  without_other n m [] other = refl
  without_other n m (x ∷ xs) other = let rest = without_other n m xs other in grind (arith, nat_tests, other, rest)

  pub rise_put : (least : ℕ) (new : X) (xs : List X) → least ≤ number new → RiseFrom number least xs → RiseFrom number least (put_by_number number new xs)
  rise_put least new [] le rise = (le, tt)
  rise_put least new (x ∷ xs) le rise = by (λ h. rise_put (number x + 1) new xs h rise.1) (nat_lt (number new) (number x)) (number x == number new) refl refl
    where
      by : (number x + 1 ≤ number new → RiseFrom number (number x + 1) (put_by_number number new xs)) → (a b : Bool) → nat_lt (number new) (number x) ≡ a → (number x == number new) ≡ b → RiseFrom number least (if a then new ∷ x ∷ xs else if b then new ∷ xs else x ∷ put_by_number number new xs)
      by rest true b is_a is_b = (le, (grind (arith, nat_tests, is_a), rise.1))
      by rest false true is_a is_b = (le, rise_less (number x + 1) (number new + 1) xs (grind (arith, nat_tests, is_b)) rise.1)
      by rest false false is_a is_b = (rise.0, rest (grind (arith, nat_tests, is_a, is_b)))

  pub rise_without : (least n : ℕ) (xs : List X) → RiseFrom number least xs → RiseFrom number least (without_number number n xs)
  rise_without least n [] rise = tt
  rise_without least n (x ∷ xs) rise = by (rise_without (number x + 1) n xs rise.1) (number x == n)
    where
      by : RiseFrom number (number x + 1) (without_number number n xs) → (b : Bool) → RiseFrom number least (if b then xs else x ∷ without_number number n xs)
      by rest true = rise_less (number x + 1) least xs (omega (arith, rise.0)) rise.1
      by rest false = (rise.0, rest)
