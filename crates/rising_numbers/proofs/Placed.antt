-- Where things stand whose numbers rise.
use Rattle.std.proofs.Common.{◌⊎◌, ◌≡◌, ◌≢◌, ℕ, zero, suc, ◌+◌, ◌<◌, ◌≤◌, Some, None, List, [], ◌∷◌, length, get_or, set, slice_get, refl, sym, ◌∙◌, ap, inl, inr, arith}
use Rattle.std.specs.List.{insert, remove}
use Rattle.std.proofs.lemmas.Bool.{cases_eq}
use Rattle.std.proofs.lemmas.Bool.Decides.{nat_tests}
use Rattle.std.proofs.lemmas.Option.{none-some, same_Some, slice_get_within, get_or_from_slice_get}
use Rattle.rising_numbers.specs.ByNumber.{RiseFrom, by_number, put_by_number, without_number}
use Rattle.rising_numbers.specs.Places.{StandsAt, IsGapFor}

module _ {X : Type 0} (number : X → ℕ) where
  -- the number that stands at a place of rising ones is not less than the least
  stands_above : (least n place : ℕ) (xs : List X) → RiseFrom number least xs → StandsAt number xs n place → least ≤ n
  stands_above least n place [] rise at = absurd (none-some n at)
  stands_above least n zero (x ∷ xs) rise at = omega (arith, rise.0, same_Some (number x) n at)
  stands_above least n (suc k) (x ∷ xs) rise at = omega (arith, rise.0, stands_above (number x + 1) n k xs rise.1 at)

  pub by_place : (least n place : ℕ) (xs : List X) → RiseFrom number least xs → StandsAt number xs n place → by_number number n xs ≡ slice_get xs place
  by_place least n place [] rise at = refl
  by_place least n zero (x ∷ xs) rise at = grind (arith, nat_tests, same_Some (number x) n at)
  by_place least n (suc k) (x ∷ xs) rise at =
      let later = stands_above (number x + 1) n k xs rise.1 at in
      grind (arith, nat_tests, later, by_place (number x + 1) n k xs rise.1 at)

  pub put_at : (least place : ℕ) (new : X) (xs : List X) → RiseFrom number least xs → StandsAt number xs (number new) place → set xs place new ≡ put_by_number number new xs
  put_at least place new [] rise at = absurd (none-some (number new) at)
  put_at least zero new (x ∷ xs) rise at = grind (arith, nat_tests, same_Some (number x) (number new) at)
  put_at least (suc k) new (x ∷ xs) rise at =
      let later = stands_above (number x + 1) (number new) k xs rise.1 at in
      grind (arith, nat_tests, later, put_at (number x + 1) k new xs rise.1 at)

  pub taken_at : (least n place : ℕ) (xs : List X) → RiseFrom number least xs → StandsAt number xs n place → remove xs place ≡ without_number number n xs
  taken_at least n place [] rise at = absurd (none-some n at)
  taken_at least n zero (x ∷ xs) rise at = grind (arith, nat_tests, same_Some (number x) n at)
  taken_at least n (suc k) (x ∷ xs) rise at =
      let later = stands_above (number x + 1) n k xs rise.1 at in
      grind (arith, nat_tests, later, taken_at (number x + 1) n k xs rise.1 at)

  gap_tail : (x : X) (xs : List X) (n place : ℕ) → IsGapFor number (x ∷ xs) n (suc place) → IsGapFor number xs n place
  gap_tail x xs n place gap = record {
    within = omega (arith, gap.within);
    smaller = λ j m lt at. gap.smaller (suc j) m (omega (arith, lt)) at;
    greater = λ j m le at. gap.greater (suc j) m (omega (arith, le)) at;
  }

  gap_first : (x : X) (xs : List X) (n : ℕ) → IsGapFor number xs n 0 → by_number number n xs ≡ None
  gap_first x [] n gap = refl
  gap_first x (y ∷ ys) n gap =
      let h = gap.greater 0 (number y) (omega arith) refl in
      let rest = gap_first x ys n (record { within = omega arith; smaller = λ j m lt at. absurd (omega (arith, lt)); greater = λ j m le at. gap.greater (suc j) m (omega arith) at }) in
      grind (arith, nat_tests, h, rest)

  pub by_gap : (n place : ℕ) (xs : List X) → IsGapFor number xs n place → by_number number n xs ≡ None
  by_gap n place [] gap = refl
  by_gap n zero (x ∷ xs) gap = gap_first x (x ∷ xs) n gap
  by_gap n (suc k) (x ∷ xs) gap =
      let h = gap.smaller 0 (number x) (omega arith) refl in
      grind (arith, nat_tests, h, by_gap n k xs (gap_tail x xs n k gap))

  pub put_in_gap : (place : ℕ) (new : X) (xs : List X) → IsGapFor number xs (number new) place → insert xs place new ≡ put_by_number number new xs
  put_in_gap zero new [] gap = refl
  put_in_gap (suc k) new [] gap = absurd (omega (arith, gap.within))
  put_in_gap zero new (x ∷ xs) gap =
      let h = gap.greater 0 (number x) (omega arith) refl in
      grind (arith, nat_tests, h)
  put_in_gap (suc k) new (x ∷ xs) gap =
      let h = gap.smaller 0 (number x) (omega arith) refl in
      grind (arith, nat_tests, h, put_in_gap k new xs (gap_tail x xs (number new) k gap))

  -- numbers rise from place to place
  least_at : (least k : ℕ) (xs : List X) (d : X) → RiseFrom number least xs → k < length xs → least ≤ number (get_or xs k d)
  least_at least k [] d rise lt = absurd (omega (arith, lt))
  least_at least zero (x ∷ xs) d rise lt = rise.0
  least_at least (suc k) (x ∷ xs) d rise lt = omega (arith, rise.0, least_at (number x + 1) k xs d rise.1 (omega (arith, lt)))

  pub rising_at : (least j k : ℕ) (xs : List X) (d : X) → RiseFrom number least xs → j < k → k < length xs → number (get_or xs j d) < number (get_or xs k d)
  rising_at least j k [] d rise lt within = absurd (omega (arith, within))
  rising_at least zero zero (x ∷ xs) d rise lt within = absurd (omega (arith, lt))
  rising_at least zero (suc k) (x ∷ xs) d rise lt within = omega (arith, least_at (number x + 1) k xs d rise.1 (omega (arith, within)))
  rising_at least (suc j) zero (x ∷ xs) d rise lt within = absurd (omega (arith, lt))
  rising_at least (suc j) (suc k) (x ∷ xs) d rise lt within = rising_at (number x + 1) j k xs d rise.1 (omega (arith, lt)) (omega (arith, within))

  -- what is found stands somewhere
  pub found_at : (n : ℕ) (x : X) (xs : List X) → by_number number n xs ≡ Some x → (k : ℕ) × (slice_get xs k ≡ Some x) × (number x ≡ n)
  found_at n x [] is = absurd (none-some x is)
  found_at n x (y ∷ ys) is = by (found_at n x ys) (cases_eq (number y) n)
    where
      by : (by_number number n ys ≡ Some x → (k : ℕ) × (slice_get ys k ≡ Some x) × (number x ≡ n)) → (number y ≡ n) ⊎ (number y ≢ n) → (k : ℕ) × (slice_get (y ∷ ys) k ≡ Some x) × (number x ≡ n)
      by rest (inl e) =
          let same : Some y ≡ Some x = grind (arith, nat_tests, e, is) in
          (0, same, sym (ap number (same_Some y x same)) ∙ e)
      by rest (inr ne) =
          let h = rest (grind (arith, nat_tests, ne, is)) in
          (suc h.0, h.1, h.2)

  pub rising_between : (least j k : ℕ) (x y : X) (xs : List X) → RiseFrom number least xs → j < k → slice_get xs j ≡ Some x → slice_get xs k ≡ Some y → number x < number y
  rising_between least j k x y xs rise lt at_x at_y =
      let here = get_or_from_slice_get xs j x x at_x in
      let there = get_or_from_slice_get xs k y x at_y in
      let less = rising_at least j k xs x rise lt (slice_get_within xs k y at_y) in
      omega (arith, less, ap number here, ap number there)
