-- Things by rising numbers of which only those stay that pass a test.
use Rattle.std.proofs.Common.{◌⊎◌, ◌≡◌, ◌≢◌, ℕ, ◌+◌, ◌≤◌, Bool, true, false, Some, None, List, [], ◌∷◌, length, if◌then◌else◌, refl, sym, ◌∙◌, inl, inr, arith}
use Rattle.std.specs.List.{filter}
use Rattle.std.proofs.lemmas.Bool.{cases_eq}
use Rattle.std.proofs.lemmas.Bool.Decides.{nat_tests}
use Rattle.std.proofs.lemmas.Option.{none-some, same_Some}
use Rattle.rising_numbers.specs.ByNumber.{RiseFrom, by_number}
use Rattle.rising_numbers.proofs.ByNumber.{rise_less, none_below}

module _ {X : Type 0} (number : X → ℕ) (test : X → Bool) where
  pub rise_filter : (least : ℕ) (xs : List X) → RiseFrom number least xs → RiseFrom number least (filter test xs)
  rise_filter least [] rise = tt
  rise_filter least (x ∷ xs) rise = by (test x) (rise_filter (number x + 1) xs rise.1)
    where
      by : (b : Bool) → RiseFrom number (number x + 1) (filter test xs) → RiseFrom number least (if b then x ∷ filter test xs else filter test xs)
      by true rest = (rise.0, rest)
      by false rest = rise_less number (number x + 1) least (filter test xs) (omega (arith, rise.0)) rest

  -- what isn't there doesn't come
  pub none_filter : (n : ℕ) (xs : List X) → by_number number n xs ≡ None → by_number number n (filter test xs) ≡ None
  none_filter n [] none = refl
  none_filter n (x ∷ xs) none = by (cases_eq (number x) n) (test x) refl (none_filter n xs)
    where
      by : (number x ≡ n) ⊎ (number x ≢ n) → (b : Bool) → test x ≡ b → (by_number number n xs ≡ None → by_number number n (filter test xs) ≡ None) → by_number number n (filter test (x ∷ xs)) ≡ None
      by (inl e) b is rest =
          let found : by_number number n (x ∷ xs) ≡ Some x = grind (arith, nat_tests, e) in
          absurd (none-some x (sym none ∙ found))
      by (inr ne) b is rest =
          let still : by_number number n (filter test xs) ≡ None = rest (grind (arith, nat_tests, ne, none)) in
          grind (arith, nat_tests, ne, is, still)

  -- what passes is found as before, and what doesn't is gone
  pub by_filter : (least n : ℕ) (x : X) (xs : List X) → RiseFrom number least xs → by_number number n xs ≡ Some x → by_number number n (filter test xs) ≡ (if test x then Some x else None)
  by_filter least n x [] rise is = absurd (none-some x is)
  by_filter least n x (y ∷ ys) rise is = by (cases_eq (number y) n) (by_filter (number y + 1) n x ys rise.1)
    where
      by : (number y ≡ n) ⊎ (number y ≢ n) → (by_number number n ys ≡ Some x → by_number number n (filter test ys) ≡ (if test x then Some x else None)) → by_number number n (filter test (y ∷ ys)) ≡ (if test x then Some x else None)
      by (inl e) rest =
          let same : y ≡ x = same_Some y x (grind (arith, nat_tests, e, is)) in
          let behind = none_filter n ys (none_below number (number y + 1) n ys rise.1 (omega (arith, e))) in
          grind (arith, nat_tests, e, behind, same)
      by (inr ne) rest =
          let found : by_number number n ys ≡ Some x = grind (arith, nat_tests, ne, is) in
          grind (arith, nat_tests, ne, rest found)

  pub length_filter : (xs : List X) → length (filter test xs) ≤ length xs
  length_filter [] = omega arith
  length_filter (x ∷ xs) = by (test x) (length_filter xs)
    where
      by : (b : Bool) → length (filter test xs) ≤ length xs → length (if b then x ∷ filter test xs else filter test xs) ≤ length (x ∷ xs)
      by true rest = omega (arith, rest)
      by false rest = omega (arith, rest)
