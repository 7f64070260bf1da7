-- The numbers of things, as a list.
use Rattle.std.proofs.Common.{◌⊎◌, ◌≡◌, ◌≢◌, ℕ, zero, suc, ◌+◌, true, false, Some, None, List, [], ◌∷◌, map, nat_eq, slice_get, refl, sym, ◌∙◌, ap, inl, inr, arith}
use Rattle.std.specs.List.{list_any}
use Rattle.std.proofs.lemmas.Bool.{cases_eq}
use Rattle.std.proofs.lemmas.Bool.Decides.{nat_tests}
use Rattle.std.proofs.lemmas.Option.{none-some, same_Some}
use Rattle.rising_numbers.specs.ByNumber.{RiseFrom, by_number, put_by_number}
use Rattle.rising_numbers.proofs.ByNumber.{above}

module _ {X : Type 0} (number : X → ℕ) where
  pub is_listed : (n : ℕ) (x : X) (xs : List X) → by_number number n xs ≡ Some x → list_any (nat_eq n) (map number xs) ≡ true
  is_listed n x [] is = absurd (none-some x is)
  is_listed n x (y ∷ ys) is = by (is_listed n x ys) (cases_eq (number y) n)
    where
      by : (by_number number n ys ≡ Some x → list_any (nat_eq n) (map number ys) ≡ true) → (number y ≡ n) ⊎ (number y ≢ n) → list_any (nat_eq n) (map number (y ∷ ys)) ≡ true
      by rest (inl e) = grind (arith, nat_tests, e)
      by rest (inr ne) =
          let found : by_number number n ys ≡ Some x = grind (arith, nat_tests, ne, is) in
          grind (arith, nat_tests, rest found)

  pub is_unlisted : (n : ℕ) (xs : List X) → by_number number n xs ≡ None → list_any (nat_eq n) (map number xs) ≡ false
  is_unlisted n [] is = refl
  is_unlisted n (y ∷ ys) is = by (is_unlisted n ys) (cases_eq (number y) n)
    where
      by : (by_number number n ys ≡ None → list_any (nat_eq n) (map number ys) ≡ false) → (number y ≡ n) ⊎ (number y ≢ n) → list_any (nat_eq n) (map number (y ∷ ys)) ≡ false
      by rest (inl e) =
          let found : by_number number n (y ∷ ys) ≡ Some y = grind (arith, nat_tests, e) in
          absurd (none-some y (sym is ∙ found))
      by rest (inr ne) =
          let missing : by_number number n ys ≡ None = grind (arith, nat_tests, ne, is) in
          grind (arith, nat_tests, ne, rest missing)

  pub listed_at : (k : ℕ) (x : X) (xs : List X) → slice_get xs k ≡ Some x → list_any (nat_eq (number x)) (map number xs) ≡ true
  listed_at k x [] at = absurd (none-some x at)
  listed_at zero x (y ∷ ys) at = let same = ap number (same_Some y x at) in grind (arith, nat_tests, same)
  listed_at (suc k) x (y ∷ ys) at = let rest = listed_at k x ys at in grind (arith, nat_tests, rest)

  pub numbers_put_again : (least : ℕ) (new x : X) (xs : List X) → RiseFrom number least xs → by_number number (number new) xs ≡ Some x → map number (put_by_number number new xs) ≡ map number xs
  numbers_put_again least new x [] rise is = absurd (none-some x is)
  numbers_put_again least new x (y ∷ ys) rise is = by (cases_eq (number y) (number new)) (numbers_put_again (number y + 1) new x ys rise.1)
    where
      by : (number y ≡ number new) ⊎ (number y ≢ number new) → (by_number number (number new) ys ≡ Some x → map number (put_by_number number new ys) ≡ map number ys) → map number (put_by_number number new (y ∷ ys)) ≡ map number (y ∷ ys)
      by (inl e) rest = grind (arith, nat_tests, e)
      by (inr ne) rest =
          let found : by_number number (number new) ys ≡ Some x = grind (arith, nat_tests, ne, is) in
          let later = above number (number y + 1) (number new) x ys rise.1 found in
          grind (arith, nat_tests, ne, later, rest found)
