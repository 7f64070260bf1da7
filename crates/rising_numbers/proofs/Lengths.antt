-- How many things there are.
use Rattle.std.proofs.Common.{◌⊎◌, ◌≡◌, ◌≢◌, ℕ, ◌+◌, ◌<◌, ◌≤◌, Some, None, Option, List, [], ◌∷◌, length, refl, sym, ◌∙◌, ap, inl, inr, arith}
use Rattle.std.proofs.lemmas.Bool.{cases_eq}
use Rattle.std.proofs.lemmas.Bool.Decides.{nat_tests}
use Rattle.std.proofs.lemmas.List.{length-map}
use Rattle.std.proofs.lemmas.Option.{none-some}
use Rattle.rising_numbers.specs.ByNumber.{RiseFrom, by_number, put_by_number, without_number}
use Rattle.rising_numbers.proofs.Listed.{numbers_put_again}

module _ {X : Type 0} (number : X → ℕ) where
  pub length_put : (new : X) (xs : List X) → length xs ≤ length (put_by_number number new xs)
  length_put new [] = omega arith
  length_put new (x ∷ xs) = grind (arith, nat_tests, length_put new xs)

  pub length_without : (n : ℕ) (xs : List X) → length (without_number number n xs) ≤ length xs
  length_without n [] = omega arith
  length_without n (x ∷ xs) = grind (arith, nat_tests, length_without n xs)

  -- one comes where the number was free
  pub length_put_free : (new : X) (xs : List X) → by_number number (number new) xs ≡ None → length (put_by_number number new xs) ≡ length xs + 1
  length_put_free new [] free = refl
  length_put_free new (x ∷ xs) free = by (cases_eq (number x) (number new)) (length_put_free new xs)
    where
      by : (number x ≡ number new) ⊎ (number x ≢ number new) → (by_number number (number new) xs ≡ None → length (put_by_number number new xs) ≡ length xs + 1) → length (put_by_number number new (x ∷ xs)) ≡ length (x ∷ xs) + 1
      by (inl e) rest =
          let found : by_number number (number new) (x ∷ xs) ≡ Some x = grind (arith, nat_tests, e) in
          absurd (none-some x (sym free ∙ found))
      by (inr ne) rest =
          let missing : by_number number (number new) xs ≡ None = grind (arith, nat_tests, ne, free) in
          grind (arith, nat_tests, ne, rest missing)

  -- and else none
  pub length_put_taken : (least : ℕ) (new : X) (xs : List X) → RiseFrom number least xs → by_number number (number new) xs ≢ None → length (put_by_number number new xs) ≡ length xs
  length_put_taken least new xs rise taken = by (by_number number (number new) xs) refl
    where
      by : (o : Option X) → by_number number (number new) xs ≡ o → length (put_by_number number new xs) ≡ length xs
      by None is = absurd (taken is)
      by (Some x) is =
          let same = ap length (numbers_put_again number least new x xs rise is) in
          let a = length-map (put_by_number number new xs) number in
          let b = length-map xs number in
          omega (arith, same, a, b)

  -- one goes where it was there
  pub length_without_there : (n : ℕ) (xs : List X) → by_number number n xs ≢ None → length xs ≡ length (without_number number n xs) + 1
  length_without_there n [] there = absurd (there refl)
  length_without_there n (x ∷ xs) there = by (cases_eq (number x) n) (length_without_there n xs)
    where
      by : (number x ≡ n) ⊎ (number x ≢ n) → (by_number number n xs ≢ None → length xs ≡ length (without_number number n xs) + 1) → length (x ∷ xs) ≡ length (without_number number n (x ∷ xs)) + 1
      by (inl e) rest = grind (arith, nat_tests, e)
      by (inr ne) rest =
          let still : by_number number n xs ≢ None = λ none. there (grind (arith, nat_tests, ne, none)) in
          grind (arith, nat_tests, ne, rest still)

  -- and else all stay
  pub without_none : (n : ℕ) (xs : List X) → by_number number n xs ≡ None → without_number number n xs ≡ xs
  without_none n [] none = refl
  without_none n (x ∷ xs) none = by (cases_eq (number x) n) (without_none n xs)
    where
      by : (number x ≡ n) ⊎ (number x ≢ n) → (by_number number n xs ≡ None → without_number number n xs ≡ xs) → without_number number n (x ∷ xs) ≡ x ∷ xs
      by (inl e) rest =
          let found : by_number number n (x ∷ xs) ≡ Some x = grind (arith, nat_tests, e) in
          absurd (none-some x (sym none ∙ found))
      by (inr ne) rest =
          let missing : by_number number n xs ≡ None = grind (arith, nat_tests, ne, none) in
          grind (arith, nat_tests, ne, rest missing)

  length_put_new : (new : X) (xs : List X) → length (put_by_number number new xs) ≤ length xs + 1
  length_put_new new [] = omega arith
  length_put_new new (x ∷ xs) = let rest = length_put_new new xs in grind (arith, nat_tests, rest)

  -- where there may be one more if the number is new, there are not too many
  pub length_put_most : (most : ℕ) (new : X) (xs : List X) → RiseFrom number 1 xs → length xs ≤ most → (by_number number (number new) xs ≡ None → length xs < most) → length (put_by_number number new xs) ≤ most
  length_put_most most new xs rise few room = by (by_number number (number new) xs) refl
    where
      by : (o : Option X) → by_number number (number new) xs ≡ o → length (put_by_number number new xs) ≤ most
      by None is = let less = length_put_new new xs in omega (arith, less, room is)
      by (Some x) is =
          let same = ap length (numbers_put_again number 1 new x xs rise is) in
          let a = length-map (put_by_number number new xs) number in
          let b = length-map xs number in
          omega (arith, few, same, a, b)
