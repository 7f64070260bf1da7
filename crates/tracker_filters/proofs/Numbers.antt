-- The numbers of things, as the rows of cells have them.
use Rattle.std.proofs.Common.{◌⊎◌, ◌≡◌, ◌≢◌, ℕ, Some, None, List, [], ◌∷◌, map, refl, sym, ◌∙◌, inl, inr, arith}
use Rattle.std.proofs.lemmas.Bool.{cases_eq}
use Rattle.std.proofs.lemmas.Bool.Decides.{nat_tests}
use Rattle.std.proofs.lemmas.Option.{none-some}
use Rattle.rising_numbers.specs.ByNumber.{by_number, put_by_number, without_number}
use Rattle.filter_views.specs.Views.{with_filter, without_filter}

module _ {X : Type 0} (number : X → ℕ) where
  pub numbers_put_new : (new : X) (xs : List X) → by_number number (number new) xs ≡ None → map number (put_by_number number new xs) ≡ with_filter (number new) (map number xs)
  numbers_put_new new [] none = refl
  numbers_put_new new (x ∷ xs) none = by (cases_eq (number x) (number new)) (numbers_put_new new xs)
    where
      by : (number x ≡ number new) ⊎ (number x ≢ number new) → (by_number number (number new) xs ≡ None → map number (put_by_number number new xs) ≡ with_filter (number new) (map number xs)) → map number (put_by_number number new (x ∷ xs)) ≡ with_filter (number new) (map number (x ∷ xs))
      by (inl e) rest =
          let found : by_number number (number new) (x ∷ xs) ≡ Some x = grind (arith, nat_tests, e) in
          absurd (none-some x (sym none ∙ found))
      by (inr ne) rest =
          let missing : by_number number (number new) xs ≡ None = grind (arith, nat_tests, ne, none) in
          grind (arith, nat_tests, ne, rest missing)

  pub numbers_without : (n : ℕ) (xs : List X) → map number (without_number number n xs) ≡ without_filter n (map number xs)
  numbers_without n [] = refl
  numbers_without n (x ∷ xs) = grind (arith, nat_tests, numbers_without n xs)
