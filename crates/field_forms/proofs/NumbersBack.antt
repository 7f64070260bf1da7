-- The shortest text of a number is read as that number.
use Rattle.std.proofs.Common.{◌≡◌, ℕ, suc, ◌+◌, ◌-◌, ◌*◌, ◌/◌, ◌%◌, ◌^◌, ◌<◌, ◌≤◌, ◌==◌, List, [], ◌∷◌, ◌++◌, length, position, true, false, Some, None, refl, ap, ◌∙◌, arith, inl, inr, ℤ, pos, negsuc, int_lt, decimal, slice_index}
use Rattle.std.specs.List.{list_all, position_or_len}
use Rattle.std.proofs.lemmas.Bool.{cases_Bool, and_parts}
use Rattle.std.proofs.lemmas.Grind.{common_steps}
use Rattle.std.proofs.lemmas.Int.{ints}
use Rattle.std.proofs.lemmas.List.{append-nil, length-append}
use Rattle.std.proofs.Math.Seq.{take-append_seam, drop-append_seam}
use Rattle.std.proofs.lemmas.Fmt.{decimal_by_steps, decimal_digit, length-decimal-le, decimal_nonempty}
use Rattle.field_values.specs.Digits.{is_digit, read_on}
use Rattle.field_forms.specs.Numbers.{is_numeral, whole_of, fraction_of, size_of, number_of, fraction_text, number_text, is_number}

-- one digit more at the end
read_last : (n digit : ℕ) (digits : List ℕ) → read_on n (digits ++ digit ∷ []) ≡ 10 * read_on n digits + (digit - 48)
read_last n digit [] = refl
read_last n digit (first ∷ digits) = read_last (10 * n + (first - 48)) digit digits

all_last : (digit : ℕ) (digits : List ℕ) → list_all is_digit digits ≡ true → is_digit digit ≡ true → list_all is_digit (digits ++ digit ∷ []) ≡ true
all_last digit [] all last = grind (arith, last)
all_last digit (first ∷ digits) all last =
    let parts = and_parts (is_digit first) (list_all is_digit digits) all in
    let rest : list_all is_digit (digits ++ digit ∷ []) ≡ true = all_last digit digits parts.1 last in
    grind (arith, parts.0, rest)

-- the digits of a number, which write it
record Writes (n : ℕ) (digits : List ℕ) : Type 0 where
  all : list_all is_digit digits ≡ true
  value : read_on 0 digits ≡ n

is_one_digit : (n : ℕ) → n < 10 → is_digit (48 + n) ≡ true
is_one_digit n small = grind (arith, small)

decimal_writes : (n : ℕ) → n < 2 ^ 64 → Writes n (decimal n)
decimal_writes = decimal_by_steps Writes
    (λ n small. record { all = grind (arith, is_one_digit n small); value = omega arith })
    (λ n digits more before. record {
      all = all_last (48 + n % 10) digits before.all (is_one_digit (n % 10) (omega arith));
      value = read_last 0 (48 + n % 10) digits ∙ omega (arith, before.value);
    })

-- no digit is a point
no_point : (digits : List ℕ) → list_all is_digit digits ≡ true → position_or_len (λ b. b == 46) digits ≡ length digits
no_point [] all = refl
no_point (digit ∷ digits) all =
    let parts = and_parts (is_digit digit) (list_all is_digit digits) all in
    let rest : position_or_len (λ b. b == 46) digits ≡ length digits = no_point digits parts.1 in
    let other : (digit == 46) ≡ false = grind (arith, parts.0) in
    grind (arith, common_steps, other, rest)

-- the first point after digits
point_at : (digits rest : List ℕ) → list_all is_digit digits ≡ true → position_or_len (λ b. b == 46) (digits ++ 46 ∷ rest) ≡ length digits
point_at [] rest all = refl
point_at (digit ∷ digits) rest all =
    let parts = and_parts (is_digit digit) (list_all is_digit digits) all in
    let later : position_or_len (λ b. b == 46) (digits ++ 46 ∷ rest) ≡ length digits = point_at digits rest parts.1 in
    let other : (digit == 46) ≡ false = grind (arith, parts.0) in
    grind (arith, common_steps, other, later)

-- at least one digit, and at most so many
numeral : (most : ℕ) (digits : List ℕ) → 0 < length digits → length digits ≤ most → list_all is_digit digits ≡ true → is_numeral most digits ≡ true
numeral most digits some few all = grind (arith, some, few, all)

whole_back : (n : ℕ) → n ≤ 999_999_999 → whole_of (decimal n) ≡ Some (1000 * n)
whole_back n small =
    let writes = decimal_writes n (omega arith) in
    let formed : is_numeral 9 (decimal n) ≡ true = numeral 9 (decimal n) (decimal_nonempty n (omega arith)) (length-decimal-le 9 n (omega arith) (omega arith) (omega arith)) writes.all in
    rw (formed, writes.value) refl

-- the digits after the point of so many thousandths
record Fraction (n : ℕ) : Type 0 where
  digits : List ℕ
  text : fraction_text n ≡ 46 ∷ digits
  value : fraction_of digits ≡ Some n

one_place : (n : ℕ) → n < 1000 → (n == 0) ≡ false → (n % 100 == 0) ≡ true → Fraction n
one_place n small some hundreds =
    let first : decimal (n / 100) ≡ (48 + n / 100) ∷ [] = decimal_digit (n / 100) (omega arith) in
    let whole : n % 100 ≡ 0 = grind (arith, hundreds) in
    let formed : is_numeral 3 ((48 + n / 100) ∷ []) ≡ true = numeral 3 ((48 + n / 100) ∷ []) (omega arith) (omega arith) (grind (arith, is_one_digit (n / 100) (omega arith))) in
    let sum : (10 * 0 + (48 + n / 100 - 48)) * 10 ^ 2 ≡ n = omega arith in
    record { digits = (48 + n / 100) ∷ []; text = rw (some, hundreds, first) refl; value = rw (formed, sum) refl }

two_places : (n : ℕ) → n < 1000 → (n == 0) ≡ false → (n % 100 == 0) ≡ false → (n % 10 == 0) ≡ true → Fraction n
two_places n small some no_hundreds tens =
    let first : decimal (n / 100) ≡ (48 + n / 100) ∷ [] = decimal_digit (n / 100) (omega arith) in
    let second : decimal (n / 10 % 10) ≡ (48 + n / 10 % 10) ∷ [] = decimal_digit (n / 10 % 10) (omega arith) in
    let whole : n % 10 ≡ 0 = grind (arith, tens) in
    let formed : is_numeral 3 ((48 + n / 100) ∷ (48 + n / 10 % 10) ∷ []) ≡ true = numeral 3 ((48 + n / 100) ∷ (48 + n / 10 % 10) ∷ []) (omega arith) (omega arith) (grind (arith, is_one_digit (n / 100) (omega arith), is_one_digit (n / 10 % 10) (omega arith))) in
    let sum : (10 * (10 * 0 + (48 + n / 100 - 48)) + (48 + n / 10 % 10 - 48)) * 10 ^ 1 ≡ n = omega arith in
    record { digits = (48 + n / 100) ∷ (48 + n / 10 % 10) ∷ []; text = rw (some, no_hundreds, tens, first, second) refl; value = rw (formed, sum) refl }

three_places : (n : ℕ) → n < 1000 → (n == 0) ≡ false → (n % 100 == 0) ≡ false → (n % 10 == 0) ≡ false → Fraction n
three_places n small some no_hundreds no_tens =
    let first : decimal (n / 100) ≡ (48 + n / 100) ∷ [] = decimal_digit (n / 100) (omega arith) in
    let second : decimal (n / 10 % 10) ≡ (48 + n / 10 % 10) ∷ [] = decimal_digit (n / 10 % 10) (omega arith) in
    let third : decimal (n % 10) ≡ (48 + n % 10) ∷ [] = decimal_digit (n % 10) (omega arith) in
    let formed : is_numeral 3 ((48 + n / 100) ∷ (48 + n / 10 % 10) ∷ (48 + n % 10) ∷ []) ≡ true = numeral 3 ((48 + n / 100) ∷ (48 + n / 10 % 10) ∷ (48 + n % 10) ∷ []) (omega arith) (omega arith) (grind (arith, is_one_digit (n / 100) (omega arith), is_one_digit (n / 10 % 10) (omega arith), is_one_digit (n % 10) (omega arith))) in
    let sum : (10 * (10 * (10 * 0 + (48 + n / 100 - 48)) + (48 + n / 10 % 10 - 48)) + (48 + n % 10 - 48)) * 10 ^ 0 ≡ n = omega arith in
    record { digits = (48 + n / 100) ∷ (48 + n / 10 % 10) ∷ (48 + n % 10) ∷ []; text = rw (some, no_hundreds, no_tens, first, second, third) refl; value = rw (formed, sum) refl }

fraction_back : (n : ℕ) → n < 1000 → (n == 0) ≡ false → Fraction n
fraction_back n small some = elim (cases_Bool (n % 100 == 0)) [
  | inl hundreds ↦ one_place n small some hundreds
  | inr no_hundreds ↦ elim (cases_Bool (n % 10 == 0)) [
    | inl tens ↦ two_places n small some no_hundreds tens
    | inr no_tens ↦ three_places n small some no_hundreds no_tens
  ]
]

-- a text of digits without a point
plain_back : (w : ℕ) → w ≤ 999_999_999 → size_of (decimal w) ≡ Some (1000 * w)
unfolding size_of
plain_back w small =
    let writes = decimal_writes w (omega arith) in
    let none : position (λ b. b == 46) (decimal w) ≡ None = grind (arith, common_steps, no_point (decimal w) writes.all) in
    rw none (whole_back w small)

-- a text of digits with a point among them
pointed_back : (w f : ℕ) (digits : List ℕ) → w ≤ 999_999_999 → fraction_of digits ≡ Some f → size_of (decimal w ++ 46 ∷ digits) ≡ Some (1000 * w + f)
unfolding size_of
pointed_back w f digits small part =
    let writes = decimal_writes w (omega arith) in
    let here : position (λ b. b == 46) (decimal w ++ 46 ∷ digits) ≡ Some (length (decimal w)) = grind (arith, common_steps, point_at (decimal w) digits writes.all, length-append (decimal w) (46 ∷ digits)) in
    rw (here, take-append_seam (decimal w) (46 ∷ digits), drop-append_seam (decimal w) (46 ∷ digits), whole_back w small, part) refl

size_back : (n : ℕ) → n ≤ 999_999_999_999 → size_of (decimal (n / 1000) ++ fraction_text (n % 1000)) ≡ Some n
size_back n small = elim (cases_Bool (n % 1000 == 0)) [
  | inl none ↦
      let whole : n % 1000 ≡ 0 = grind (arith, none) in
      let sum : 1000 * (n / 1000) ≡ n = omega arith in
      rw (whole, append-nil) (plain_back (n / 1000) (omega arith) ∙ ap (λ k. Some k) sum)
  | inr some ↦
      let fraction = fraction_back (n % 1000) (omega arith) some in
      let sum : 1000 * (n / 1000) + n % 1000 ≡ n = omega arith in
      rw fraction.text (pointed_back (n / 1000) (n % 1000) fraction.digits (omega arith) fraction.value ∙ ap (λ k. Some k) sum)
]

-- no number's digits begin with a minus
starts_with_digit : (n : ℕ) (rest : List ℕ) → n < 2 ^ 64 → (slice_index (decimal n ++ rest) 0 == 45) ≡ false
starts_with_digit n rest small =
    let writes = decimal_writes n small in
    by_digits (decimal n) writes.all (decimal_nonempty n small) where
      by_digits : (digits : List ℕ) → list_all is_digit digits ≡ true → 0 < length digits → (slice_index (digits ++ rest) 0 == 45) ≡ false
      by_digits [] all some = absurd (omega arith)
      by_digits (digit ∷ digits) all some =
          let parts = and_parts (is_digit digit) (list_all is_digit digits) all in
          grind (arith, parts.0)

-- the text of a number is read as it
pub number_back : (z : ℤ) → is_number z ≡ true → number_of (number_text z) ≡ Some z
unfolding number_of number_text
number_back (pos n) small =
    let few : n ≤ 999_999_999_999 = grind (arith, ints, small) in
    let first : (slice_index (decimal (n / 1000) ++ fraction_text (n % 1000)) 0 == 45) ≡ false = starts_with_digit (n / 1000) (fraction_text (n % 1000)) (omega arith) in
    let plus : int_lt (pos n) (pos 0) ≡ false = grind (arith, ints) in
    rw (plus, first, size_back n few) refl
number_back (negsuc n) small =
    let few : suc n ≤ 999_999_999_999 = grind (arith, ints, small) in
    rw (size_back (suc n) few) refl
