-- The least free number.
use Rattle.std.proofs.Common.{◌⊎◌, ◌≡◌, ◌≢◌, ℕ, ◌+◌, ◌<◌, ◌≤◌, Some, None, List, [], ◌∷◌, length, refl, sym, ◌∙◌, subst, inl, inr, arith}
use Rattle.std.proofs.lemmas.Bool.{cases_eq}
use Rattle.std.proofs.lemmas.Bool.Decides.{nat_tests}
use Rattle.std.proofs.lemmas.Option.{none-some}
use Rattle.rising_numbers.specs.ByNumber.{RiseFrom, by_number, free_from, IsLeastFree}
use Rattle.rising_numbers.proofs.ByNumber.{none_below}

module _ {X : Type 0} (number : X → ℕ) where
  pub free_above : (least : ℕ) (xs : List X) → least ≤ free_from number least xs
  free_above least [] = omega arith
  free_above least (x ∷ xs) = grind (arith, nat_tests, free_above (least + 1) xs)

  pub free_below : (least : ℕ) (xs : List X) → free_from number least xs ≤ least + length xs
  free_below least [] = omega arith
  free_below least (x ∷ xs) = grind (arith, nat_tests, free_below (least + 1) xs)

  -- none is missing from the first on, where none is behind it
  later : (x : X) (least most : ℕ) (xs : List X) (k : ℕ) → least ≤ k → k < most → number x ≡ least → by_number number k (x ∷ xs) ≡ None → ((j : ℕ) → least + 1 ≤ j → j < most → by_number number j xs ≢ None) → (number x ≡ k) ⊎ (number x ≢ k) → ⊥
  later x least most xs k from up is none taken (inl e) =
      let found : by_number number k (x ∷ xs) ≡ Some x = grind (arith, nat_tests, e) in
      none-some x (sym none ∙ found)
  later x least most xs k from up is none taken (inr ne) = taken k (omega (arith, from, is, ne)) up (grind (arith, nat_tests, ne, none))

  pub least_free : (least : ℕ) (xs : List X) → RiseFrom number least xs → IsLeastFree number xs least (free_from number least xs)
  least_free least [] rise = record { from_least = omega arith; free = refl; taken = λ k low high. absurd (omega (arith, low, high)) }
  least_free least (x ∷ xs) rise = by (cases_eq (number x) least) (λ (r : RiseFrom number (least + 1) xs). least_free (least + 1) xs r)
    where
      by : (number x ≡ least) ⊎ (number x ≢ least) → (RiseFrom number (least + 1) xs → IsLeastFree number xs (least + 1) (free_from number (least + 1) xs)) → IsLeastFree number (x ∷ xs) least (free_from number least (x ∷ xs))
      by (inl e) rest =
          let h = rest (subst (λ n. RiseFrom number (n + 1) xs) e rise.1) in
          let is : free_from number least (x ∷ xs) ≡ free_from number (least + 1) xs = grind (arith, nat_tests, e) in
          let low = h.from_least in
          let free : by_number number (free_from number (least + 1) xs) (x ∷ xs) ≡ None = grind (arith, nat_tests, e, h.free, low) in
          record {
            from_least = omega (arith, is, low);
            free = subst (λ n. by_number number n (x ∷ xs) ≡ None) (sym is) free;
            taken = λ k from up none. later x least (free_from number (least + 1) xs) xs k from (omega (arith, is, up)) e none h.taken (cases_eq (number x) k);
          }
      by (inr ne) rest =
          let none = none_below number (number x) least (x ∷ xs) (omega arith, rise.1) (omega (arith, ne, rise.0)) in
          let is : free_from number least (x ∷ xs) ≡ least = grind (arith, nat_tests, ne) in
          record {
            from_least = omega (arith, is);
            free = subst (λ n. by_number number n (x ∷ xs) ≡ None) (sym is) none;
            taken = λ k low high. absurd (omega (arith, is, low, high));
          }
