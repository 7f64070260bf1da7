-- The numbers that texts write are less than a thousand million on either side of zero.
use Rattle.std.proofs.Common.{◌≡◌, ℕ, ◌+◌, ◌-◌, ◌*◌, ◌^◌, ◌<◌, ◌≤◌, ◌==◌, List, [], ◌∷◌, length, take, drop, position, true, Option, Some, None, option_map, refl, ap, arith, inl, inr, ℤ, pos, neg_ℤ, slice_index, mul-le-mul_right, sym, ◌∙◌}
use Rattle.std.proofs.Math.Nat.{pow-succ', pow-le-pow_right}
use Rattle.std.proofs.lemmas.Nat.{pow-add}
use Rattle.std.specs.List.{list_all}
use Rattle.std.proofs.lemmas.Bool.{cases_Bool, and_parts}
use Rattle.std.proofs.lemmas.Int.{ints}
use Rattle.field_values.specs.Digits.{is_digit, read_on}
use Rattle.field_forms.specs.Numbers.{is_numeral, whole_of, fraction_of, sum_of, size_of, number_of, is_number}

-- digits after a number write less than its next
pub read_below : (n : ℕ) (digits : List ℕ) → list_all is_digit digits ≡ true → read_on n digits + 1 ≤ (n + 1) * 10 ^ length digits
read_below n [] formed = grind arith
read_below n (digit ∷ digits) formed =
    let parts = and_parts (is_digit digit) (list_all is_digit digits) formed in
    let one : digit - 48 ≤ 9 = grind (arith, parts.0) in
    let rest : read_on (10 * n + (digit - 48)) digits + 1 ≤ (10 * n + (digit - 48) + 1) * 10 ^ length digits = read_below (10 * n + (digit - 48)) digits parts.1 in
    let more : (10 * n + (digit - 48) + 1) * 10 ^ length digits ≤ (10 * (n + 1)) * 10 ^ length digits = mul-le-mul_right (10 ^ length digits) (omega arith) in
    omega (arith, ap (λ x. (n + 1) * x) (pow-succ' 10 (length digits)))

-- so many digits write less than that power of ten
below_power : (digits : List ℕ) (n : ℕ) → list_all is_digit digits ≡ true → length digits ≡ n → read_on 0 digits < 10 ^ n
below_power digits n formed long =
    let below : read_on 0 digits + 1 ≤ (0 + 1) * 10 ^ length digits = read_below 0 digits formed in
    rw (← long) (omega arith)

whole_small : (digits : List ℕ) (n : ℕ) → whole_of digits ≡ Some n → n ≤ 999_999_999_000
whole_small digits n e = elim (cases_Bool (is_numeral 9 digits)) [
  | inl formed ↦
      let parts = and_parts _ (list_all is_digit digits) formed in
      let long : length digits ≤ 9 = grind (arith, parts.0) in
      let small : read_on 0 digits < 10 ^ length digits = below_power digits (length digits) parts.1 refl in
      let most : 10 ^ length digits ≤ 10 ^ 9 = pow-le-pow_right (omega arith) long in
      let is : 1000 * read_on 0 digits ≡ n = grind (arith, formed, e) in
      omega (arith, small, most, is)
  | inr other ↦ absurd (grind (arith, other, e))
]

-- at most three digits after the point count less than a thousand
fraction_by : (digits : List ℕ) (count rest : ℕ) → length digits ≡ count → count + rest ≡ 3 → list_all is_digit digits ≡ true → read_on 0 digits * 10 ^ rest ≤ 999
fraction_by digits count rest long sum formed =
    let small : read_on 0 digits < 10 ^ count = below_power digits count formed long in
    let more : (read_on 0 digits + 1) * 10 ^ rest ≤ 10 ^ count * 10 ^ rest = mul-le-mul_right (10 ^ rest) (omega arith) in
    let all : 10 ^ count * 10 ^ rest ≡ 1000 = sym (pow-add 10 count rest) ∙ ap (λ n. 10 ^ n) sum in
    let one : 10 ^ 0 ≤ 10 ^ rest = pow-le-pow_right {n = 10} (omega arith) {i = 0} {j = rest} (omega arith) in
    let split : (read_on 0 digits + 1) * 10 ^ rest ≡ read_on 0 digits * 10 ^ rest + 10 ^ rest = omega arith in
    omega (arith, more, all, one, split)

fraction_small : (digits : List ℕ) (n : ℕ) → fraction_of digits ≡ Some n → n ≤ 999
fraction_small digits n e = elim (cases_Bool (is_numeral 3 digits)) [
  | inl formed ↦
      let parts = and_parts _ (list_all is_digit digits) formed in
      let long : length digits ≤ 3 = grind (arith, parts.0) in
      let small : read_on 0 digits * 10 ^ (3 - length digits) ≤ 999 = fraction_by digits (length digits) (3 - length digits) refl (omega arith) parts.1 in
      let is : read_on 0 digits * 10 ^ (3 - length digits) ≡ n = grind (arith, formed, e) in
      omega (arith, small, is)
  | inr other ↦ absurd (grind (arith, other, e))
]

sum_small : (whole fraction : Option ℕ) (n : ℕ) → ((w : ℕ) → whole ≡ Some w → w ≤ 999_999_999_000) → ((f : ℕ) → fraction ≡ Some f → f ≤ 999) → sum_of whole fraction ≡ Some n → n ≤ 999_999_999_999
sum_small (Some w) (Some f) n small part e =
    let one : w ≤ 999_999_999_000 = small w refl in
    let two : f ≤ 999 = part f refl in
    let sum : w + f ≡ n = cc in
    omega (arith, one, two, sum)
sum_small None fraction n small part e = absurd (cc)
sum_small (Some w) None n small part e = absurd (cc)

size_small : (text : List ℕ) (n : ℕ) → size_of text ≡ Some n → n ≤ 999_999_999_999
unfolding size_of
size_small text n e = by_point (position (λ b. b == 46) text) refl where
  by_point : (place : Option ℕ) → position (λ b. b == 46) text ≡ place → n ≤ 999_999_999_999
  by_point None p =
      let is : whole_of text ≡ Some n = grind (arith, p, e) in
      omega (arith, whole_small text n is)
  by_point (Some place) p =
      let is : sum_of (whole_of (take place text)) (fraction_of (drop 1 (drop place text))) ≡ Some n = grind (arith, p, e) in
      sum_small (whole_of (take place text)) (fraction_of (drop 1 (drop place text))) n (whole_small (take place text)) (fraction_small (drop 1 (drop place text))) is

-- a number that a text writes
pub written_number : (text : List ℕ) (z : ℤ) → number_of text ≡ Some z → is_number z ≡ true
unfolding number_of
written_number text z e = elim (cases_Bool (slice_index text 0 == 45)) [
  | inl minus ↦ by_size (size_of (drop 1 text)) refl (grind (arith, minus, e))
  | inr plus ↦ by_plain (size_of text) refl (grind (arith, plus, e))
] where
  by_size : (size : Option ℕ) → size_of (drop 1 text) ≡ size → option_map (λ n. neg_ℤ (pos n)) size ≡ Some z → is_number z ≡ true
  by_size None s is = absurd (cc)
  by_size (Some n) s is =
      let small : n ≤ 999_999_999_999 = size_small (drop 1 text) n s in
      let same : neg_ℤ (pos n) ≡ z = cc in
      grind (arith, ints, small, same)

  by_plain : (size : Option ℕ) → size_of text ≡ size → option_map pos size ≡ Some z → is_number z ≡ true
  by_plain None s is = absurd (cc)
  by_plain (Some n) s is =
      let small : n ≤ 999_999_999_999 = size_small text n s in
      let same : pos n ≡ z = cc in
      grind (arith, ints, small, same)
