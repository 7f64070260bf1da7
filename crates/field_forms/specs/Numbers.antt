-- Numbers in thousandths and their texts: an optional minus, 1 to 9 digits, and optionally a point and 1 to 3 digits.
use Rattle.std.specs.Prelude.{ℕ, ◌+◌, ◌-◌, ◌*◌, ◌/◌, ◌%◌, ◌^◌, ◌==◌, Bool, ◌&&◌, List, [], ◌++◌, length, take, drop, position, Option, Some, None, option_map, if◌then◌else◌, ℤ, pos, neg_ℤ, unsigned_abs, int_lt, decimal, slice_index, codes, nat_le}
use Rattle.std.specs.List.{list_all}
use Rattle.std.specs.Option.{option_map_or}
use Rattle.field_values.specs.Digits.{is_digit, read_on}
use Rattle.field_forms.specs.Names.{is_from_to}

-- at least one digit, and at most so many
abbrev pub is_numeral : ℕ → List ℕ → Bool
is_numeral most digits = is_from_to 1 most (length digits) && list_all is_digit digits

-- digits before the point
abbrev pub whole_of : List ℕ → Option ℕ
whole_of digits = if is_numeral 9 digits then Some (1000 * read_on 0 digits) else None

-- digits after the point, as thousandths: the first counts hundreds of them
abbrev pub fraction_of : List ℕ → Option ℕ
fraction_of digits =
    if is_numeral 3 digits then Some (read_on 0 digits * 10 ^ (3 - length digits)) else None

-- the sum of two parts that are both there
abbrev pub sum_of : Option ℕ → Option ℕ → Option ℕ
sum_of (Some whole) (Some fraction) = Some (whole + fraction)
sum_of _ _ = None

-- digits with at most one point among them
unfoldable pub size_of : List ℕ → Option ℕ
size_of text =
    option_map_or (λ place. sum_of (whole_of (take place text))
    (fraction_of (drop 1 (drop place text)))) (position (λ b. b == 46) text) (whole_of text)

-- the number that a text writes, in thousandths
unfoldable pub number_of : List ℕ → Option ℤ
number_of text =
    if slice_index text 0 == 45 then option_map (λ n. neg_ℤ (pos n)) (size_of (drop 1 text))
    else option_map pos (size_of text)

-- thousandths after the point, without zeros at their end, and no point where there are none
abbrev pub fraction_text : ℕ → List ℕ
fraction_text n =
    if n == 0 then []
    else (if n % 100 == 0 then codes "." ++ decimal (n / 100)
    else (if n % 10 == 0 then codes "." ++ (decimal (n / 100) ++ decimal (n / 10 % 10))
    else codes "." ++ (decimal (n / 100) ++ (decimal (n / 10 % 10) ++ decimal (n % 10)))))

abbrev pub sign_of : ℤ → List ℕ
sign_of z = if int_lt z (pos 0) then codes "-" else []

-- the shortest text that writes the number
unfoldable pub number_text : ℤ → List ℕ
number_text z =
    sign_of z ++ (decimal (unsigned_abs z / 1000) ++ fraction_text (unsigned_abs z % 1000))

-- less than a thousand million on either side of zero
abbrev pub is_number : ℤ → Bool
is_number z = nat_le (unsigned_abs z) 999_999_999_999
