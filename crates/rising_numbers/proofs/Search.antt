-- What a search finds among things whose numbers rise.
use Rattle.std.proofs.Common.{◌⊎◌, ◌≡◌, ◌≢◌, ℕ, zero, suc, ◌<◌, ◌≤◌, List, [], ◌∷◌, length, get_or, map, slice_get, option_map, Result, Ok, Err, IfOk, IfErr, Some, None, refl, sym, ◌∙◌, ap, subst, inl, inr, arith}
use Rattle.std.specs.List.Sorted.{IsSearchInRange, IsBinarySearchResult, IsNonDecreasingBy}
use Rattle.std.specs.Ordering.{nat_cmp, ordering_index}
use Rattle.std.proofs.lemmas.Bool.{cases_lt}
use Rattle.std.proofs.lemmas.Bool.Decides.{nat_tests}
use Rattle.std.proofs.lemmas.Cmp.{ranked}
use Rattle.std.proofs.lemmas.Option.{none-some, same_Some, slice_get-map, slice_get_within, get_or_from_slice_get}
use Rattle.std.proofs.lemmas.List.{length-map}
use Rattle.rising_numbers.specs.ByNumber.{RiseFrom, by_number}
use Rattle.rising_numbers.specs.Places.{StandsAt, IsGapFor}
use Rattle.rising_numbers.proofs.Placed.{rising_at, by_place}

-- what stands at a place inside a list
get_there : {X : Type 0} (xs : List X) (k : ℕ) → k < length xs → (x : X) × (slice_get xs k ≡ Some x)
get_there [] k lt = absurd (omega (arith, lt))
get_there (x ∷ xs) zero lt = (x, refl)
get_there (x ∷ xs) (suc k) lt = get_there xs k (omega (arith, lt))

module _ {X : Type 0} (number : X → ℕ) (xs : List X) (least : ℕ) (rising : RiseFrom number least xs) (n : ℕ) where
  -- the comparisons with n rise along the list, as a binary search asks
  comparisons_rise : IsNonDecreasingBy (λ x. ordering_index (nat_cmp (number x) n)) xs
  comparisons_rise = λ i j d le within. by i j d within (cases_lt i j) le
    where
      by : (i j : ℕ) (d : X) → j < length xs → (i < j) ⊎ (j ≤ i) → i ≤ j → ordering_index (nat_cmp (number (get_or xs i d)) n) ≤ ordering_index (nat_cmp (number (get_or xs j d)) n)
      by i j d within (inl lt) le = let h = rising_at number least i j xs d rising lt within in grind (arith, nat_tests, h)
      by i j d within (inr ge) le =
          let same : i ≡ j = omega (arith, ge, le) in
          subst (λ k. ordering_index (nat_cmp (number (get_or xs i d)) n) ≤ ordering_index (nat_cmp (number (get_or xs k d)) n)) same (omega arith)

  pub found : (r : Result ℕ ℕ) → IsSearchInRange r (length xs) → IsBinarySearchResult (λ x. nat_cmp (number x) n) xs r → IfOk r (StandsAt number xs n)
  found (Ok i) within equal =
      let x = get_there xs i within in
      let here : get_or xs i x.0 ≡ x.0 = get_or_from_slice_get xs i x.0 x.0 x.1 in
      slice_get-map number xs i ∙ ap (λ o. option_map number o) x.1 ∙ ap Some (sym (ap number here) ∙ ranked _ n _ (sym (equal x.0)))
  found (Err i) within parted = tt

  pub absent : (r : Result ℕ ℕ) → IsSearchInRange r (length xs) → IsBinarySearchResult (λ x. nat_cmp (number x) n) xs r → IfErr r (IsGapFor number xs n)
  absent (Ok i) within equal = tt
  absent (Err i) within parted =
      let sides = parted comparisons_rise in
      record {
        within = within;
        smaller = λ j m lt at. let x = numbered j m at in let less : number (get_or xs j x.0) < n = ranked _ n _ (sym (sides.0 j x.0 (omega arith) lt)) in omega (arith, less, x.1);
        greater = λ j m le at. let x = numbered j m at in let more : n < number (get_or xs j x.0) = ranked _ n _ (sym (sides.1 j x.0 le x.2)) in omega (arith, more, x.1);
      }
    where
      -- whose number stands at a place
      numbered : (j m : ℕ) → slice_get (map number xs) j ≡ Some m → (x : X) × (number (get_or xs j x) ≡ m) × (j < length xs)
      numbered j m at =
          let within : j < length xs = subst (λ k. j < k) (length-map xs number) (slice_get_within (map number xs) j m at) in
          let x = get_there xs j within in
          let here : get_or xs j x.0 ≡ x.0 = get_or_from_slice_get xs j x.0 x.0 x.1 in
          (x.0, ap number here ∙ same_Some (number x.0) m (sym (slice_get-map number xs j ∙ ap (λ o. option_map number o) x.1) ∙ at), within)

module _ {X : Type 0} (number : X → ℕ) (xs : List X) (n place : ℕ) where
  pub stands_within : StandsAt number xs n place → place < length xs
  stands_within at = subst (λ k. place < k) (length-map xs number) (slice_get_within (map number xs) place n at)

  -- whatever stands there is found by its number
  pub stands_found : (least : ℕ) → RiseFrom number least xs → StandsAt number xs n place → by_number number n xs ≢ None
  stands_found least rising at none =
      let x = get_there xs place (stands_within at) in
      none-some x.0 (sym none ∙ by_place number least n place xs rising at ∙ x.1)
