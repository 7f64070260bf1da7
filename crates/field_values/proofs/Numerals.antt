-- Digits and the numbers that they write.
use Rattle.std.proofs.Common.{◌≡◌, ℕ, ◌+◌, ◌-◌, ◌*◌, ◌^◌, ◌<◌, ◌≤◌, List, [], ◌∷◌, length, get_or, drop, true, arith, add-one, drop-cons, refl}
use Rattle.std.proofs.Math.Nat.{pow-succ'}
use Rattle.std.proofs.lemmas.List.Sums.{AllPass-from_list_all}
use Rattle.std.specs.List.{list_all}
use Rattle.field_values.specs.Digits.{is_digit, read_on}

-- a digit is 48 to 57
pub digit_at : (ds : List ℕ) → list_all is_digit ds ≡ true → (i : ℕ) → i < length ds → (48 ≤ get_or ds i 0) × (get_or ds i 0 ≤ 57)
digit_at ds digits i inside =
    let test : is_digit (get_or ds i 0) ≡ true = AllPass-from_list_all is_digit ds digits i 0 inside in
    grind (arith, test)

-- one digit more is less than the next power of ten
pub next_power : (value digit i : ℕ) → value < 10 ^ i → digit ≤ 9 → 10 * value + digit < 10 ^ (i + 1)
next_power value digit i small one = rw (add-one, pow-succ') (omega (arith, small, one))

-- one step of reading
pub read_next : (value : ℕ) (ds : List ℕ) (i : ℕ) → i < length ds → read_on value (drop i ds) ≡ read_on (10 * value + (get_or ds i 0 - 48)) (drop (i + 1) ds)
read_next value ds i inside = rw (add-one, drop-cons ds i 0 inside) refl

-- further digits make no number less
pub read_grows : (n : ℕ) (ds : List ℕ) → n ≤ read_on n ds
read_grows n [] = omega arith
read_grows n (d ∷ ds) = omega (arith, read_grows (10 * n + (d - 48)) ds)
