-- The text of a date is read as it, and a text that is read is that of its date.
use Rattle.std.proofs.Common.{IfSome, ◌≡◌, ℕ, ◌+◌, ◌-◌, ◌*◌, ◌/◌, ◌%◌, ◌<◌, ◌≤◌, ◌==◌, Bool, ◌&&◌, true, false, cond, List, [], ◌∷◌, length, slice_index, Option, Some, None, refl, sym, ap, ◌∙◌, arith, ℤ, pos}
use Rattle.std.proofs.lemmas.Bool.Decides.{nat_tests}
use Rattle.std.proofs.lemmas.Option.{cond_some}
use Rattle.std.specs.Int.{is_in_range}
use Rattle.jiff_core.specs.Calendar.{days_from_civil, days_in_month}
use Rattle.jiff_core.proofs.CalendarLemmas.{days_in_month_bounds}
use Rattle.civil_dates.specs.Days.{is_day, year_of, month_of, day_of_month}
use Rattle.civil_dates.specs.DateText.{text_of_date, date_text}
use Rattle.field_values.specs.Digits.{is_digit}
use Rattle.civil_dates.specs.Reading.{part_of, day_by, has_date_form, day_of}
use Rattle.civil_dates.proofs.Parts.{both_true, IsDateOf, date_is, date_in_range, parts_are}

digit_is : (n : ℕ) → n < 10 → is_digit (48 + n) ≡ true
digit_is n h = grind (arith, nat_tests)

number_read : (digits : Bool) (n r : ℕ) → digits ≡ true → r ≡ n → cond digits (Some r) None ≡ Some n
number_read digits n r h e = rw (h, e) refl

two_true : (a b : Bool) → a ≡ true → b ≡ true → (a && (b && true)) ≡ true
two_true a b h k = rw (h, k) refl

four_true : (a b c d : Bool) → a ≡ true → b ≡ true → c ≡ true → d ≡ true → (a && (b && (c && (d && true)))) ≡ true
four_true a b c d h k l m = rw (h, k, l, m) refl

year_read : (y m d : ℕ) → y < 10_000 → part_of 0 4 (text_of_date y m d) ≡ Some y
year_read y m d h =
    number_read _ y _ (four_true _ _ _ _ (digit_is (y / 100 / 10) (omega (arith, h))) (digit_is (y / 100 % 10) (omega arith)) (digit_is (y % 100 / 10) (omega arith)) (digit_is (y % 100 % 10) (omega arith))) (omega (arith, h))

month_read : (y m d : ℕ) → m < 100 → part_of 5 2 (text_of_date y m d) ≡ Some m
month_read y m d h =
    number_read _ m _ (two_true _ _ (digit_is (m / 10) (omega (arith, h))) (digit_is (m % 10) (omega arith))) (omega (arith, h))

day_read : (y m d : ℕ) → d < 100 → part_of 8 2 (text_of_date y m d) ≡ Some d
day_read y m d h =
    number_read _ d _ (two_true _ _ (digit_is (d / 10) (omega (arith, h))) (digit_is (d % 10) (omega arith))) (omega (arith, h))

range_passes : (low high n : ℕ) → low ≤ n → n ≤ high → is_in_range low high n ≡ true
range_passes low high n h k = grind (arith, nat_tests)

three_true : (a b c : Bool) → a ≡ true → b ≡ true → c ≡ true → (a && (b && c)) ≡ true
three_true a b c h k l = rw (h, k, l) refl

day_chosen : (a : Bool) (found day : ℤ) → a ≡ true → found ≡ day → cond a (Some found) None ≡ Some day
day_chosen a found day h e = rw (h, e) refl

day_from_parts : (day : ℤ) (y m d : ℕ) → IsDateOf day y m d → day_by (Some y) (Some m) (Some d) ≡ Some day
day_from_parts day y m d h =
    day_chosen _ (days_from_civil (pos y) m d) day (three_true _ _ _ (range_passes 1970 2099 y h.early h.late) (range_passes 1 12 m h.month.0 h.month.1) (range_passes 1 (days_in_month (pos y) m) d h.day_in.0 h.day_in.1)) h.is

-- the text of a date is read as its day
pub date_reads : (day : ℤ) (y m d : ℕ) → IsDateOf day y m d → day_of (text_of_date y m d) ≡ Some day
unfolding day_of
date_reads day y m d h =
    let text = text_of_date y m d in
    let year = year_read y m d (omega (arith, h.late)) in
    let month = month_read y m d (omega (arith, h.month.1)) in
    let last = day_read y m d (omega (arith, h.day_in.1, days_in_month_bounds (pos y) m)) in
    ap (λ (o : Option ℕ). day_by o (part_of 5 2 text) (part_of 8 2 text)) year
    ∙ ap (λ (o : Option ℕ). day_by (Some y) o (part_of 8 2 text)) month
    ∙ ap (λ (o : Option ℕ). day_by (Some y) (Some m) o) last
    ∙ day_from_parts day y m d h

-- each day is read back from its text
pub text_reads_back : (day : ℤ) → is_day day ≡ true → day_of (date_text day) ≡ Some day
unfolding date_text
text_reads_back day h = date_reads day (year_of day) (month_of day) (day_of_month day) (date_is day h)

-- a day that is found by a test, a part of it and all three
cond_found : (a : Bool) (o : Option ℤ) (day : ℤ) → cond a o None ≡ Some day → (a ≡ true) × (o ≡ Some day)
cond_found true o day h = (refl, h)
cond_found false o day h = absurd (cc)

record HasParts (p q r : Option ℕ) (day : ℤ) : Type 0 where
  y : ℕ
  m : ℕ
  d : ℕ
  year : p ≡ Some y
  month : q ≡ Some m
  last : r ≡ Some d
  date : IsDateOf day y m d

in_range : (low high n : ℕ) → is_in_range low high n ≡ true → (low ≤ n) × (n ≤ high)
in_range low high n h = grind (arith, nat_tests)

date_chosen : (day : ℤ) (y m d : ℕ) → day_by (Some y) (Some m) (Some d) ≡ Some day → IsDateOf day y m d
date_chosen day y m d h =
    let found = cond_some (is_in_range 1970 2099 y && (is_in_range 1 12 m && is_in_range 1 (days_in_month (pos y) m) d)) (days_from_civil (pos y) m d) day h in
    let tests = both_true _ _ found.0 in
    let later = both_true _ _ tests.1 in
    let years = in_range 1970 2099 y tests.0 in
    record { early = years.0; late = years.1; month = in_range 1 12 m later.0; day_in = in_range 1 (days_in_month (pos y) m) d later.1; is = found.1 }

parts_found : (p q r : Option ℕ) (day : ℤ) → day_by p q r ≡ Some day → HasParts p q r day
parts_found (Some y) (Some m) (Some d) day h =
    record { y = y; m = m; d = d; year = refl; month = refl; last = refl; date = date_chosen day y m d h }
parts_found (Some y) (Some m) None day h = absurd (cc)
parts_found (Some y) None r day h = absurd (cc)
parts_found None q r day h = absurd (cc)

-- what is read has ten bytes, with hyphens at two places
record HasForm (text : List ℕ) : Type 0 where
  ten : length text ≡ 10
  first : slice_index text 4 ≡ 45
  second : slice_index text 7 ≡ 45

same_number : (a b : ℕ) → (a == b) ≡ true → a ≡ b
same_number a b h = grind (arith, nat_tests)

form_found : (text : List ℕ) → has_date_form text ≡ true → HasForm text
form_found text h =
    let tests = both_true _ _ h in
    let hyphens = both_true _ _ tests.1 in
    record { ten = same_number _ _ tests.0; first = same_number _ _ hyphens.0; second = same_number _ _ hyphens.1 }

record IsRead (text : List ℕ) (day : ℤ) : Type 0 where
  form : HasForm text
  parts : HasParts (part_of 0 4 text) (part_of 5 2 text) (part_of 8 2 text) day

is_read : (text : List ℕ) (day : ℤ) → day_of text ≡ Some day → IsRead text day
unfolding day_of
is_read text day h =
    let found = cond_found (has_date_form text) (day_by (part_of 0 4 text) (part_of 5 2 text) (part_of 8 2 text)) day h in
    record { form = form_found text found.0; parts = parts_found _ _ _ day found.1 }

digit_bounds : (b : ℕ) → is_digit b ≡ true → (48 ≤ b) × (b ≤ 57)
digit_bounds b h = in_range 48 57 b h

two_written : (a b n : ℕ) → cond (is_digit a && (is_digit b && true)) (Some (10 * (10 * 0 + (a - 48)) + (b - 48))) None ≡ Some n → (a ≡ 48 + n / 10) × (b ≡ 48 + n % 10)
two_written a b n h =
    let found = cond_some _ _ n h in
    let tests = both_true _ _ found.0 in
    let first = digit_bounds a tests.0 in
    let second = digit_bounds b (both_true _ _ tests.1).0 in
    let is : 10 * (10 * 0 + (a - 48)) + (b - 48) ≡ n = found.1 in
    (omega (arith, first, second, is), omega (arith, first, second, is))

record HasDigits (a b c d n : ℕ) : Type 0 where
  thousands : a ≡ 48 + n / 100 / 10
  hundreds : b ≡ 48 + n / 100 % 10
  tens : c ≡ 48 + n % 100 / 10
  ones : d ≡ 48 + n % 100 % 10

four_written : (a b c d n : ℕ) → cond (is_digit a && (is_digit b && (is_digit c && (is_digit d && true)))) (Some (10 * (10 * (10 * (10 * 0 + (a - 48)) + (b - 48)) + (c - 48)) + (d - 48))) None ≡ Some n → HasDigits a b c d n
four_written a b c d n h =
    let found = cond_some _ _ n h in
    let tests = both_true _ _ found.0 in
    let later = both_true _ _ tests.1 in
    let last = both_true _ _ later.1 in
    let first = digit_bounds a tests.0 in
    let second = digit_bounds b later.0 in
    let third = digit_bounds c last.0 in
    let fourth = digit_bounds d (both_true _ _ last.1).0 in
    let is : 10 * (10 * (10 * (10 * 0 + (a - 48)) + (b - 48)) + (c - 48)) + (d - 48) ≡ n = found.1 in
    record {
      thousands = omega (arith, first, second, third, fourth, is);
      hundreds = omega (arith, first, second, third, fourth, is);
      tens = omega (arith, first, second, third, fourth, is);
      ones = omega (arith, first, second, third, fourth, is);
    }

ten_written : (a b c d e f g h i j : ℕ) (day : ℤ) → (read : IsRead (a ∷ b ∷ c ∷ d ∷ e ∷ f ∷ g ∷ h ∷ i ∷ j ∷ []) day) → (a ∷ b ∷ c ∷ d ∷ e ∷ f ∷ g ∷ h ∷ i ∷ j ∷ []) ≡ text_of_date read.parts.y read.parts.m read.parts.d
ten_written a b c d e f g h i j day read =
    let year = four_written a b c d read.parts.y read.parts.year in
    let month = two_written f g read.parts.m read.parts.month in
    let last = two_written i j read.parts.d read.parts.last in
    let first = read.form.first in
    let second = read.form.second in
    λ k. year.thousands k ∷ year.hundreds k ∷ year.tens k ∷ year.ones k ∷ first k ∷ month.0 k ∷ month.1 k ∷ second k ∷ last.0 k ∷ last.1 k ∷ []

text_written : (text : List ℕ) (day : ℤ) → (read : IsRead text day) → text ≡ text_of_date read.parts.y read.parts.m read.parts.d
text_written (a ∷ b ∷ c ∷ d ∷ e ∷ f ∷ g ∷ h ∷ i ∷ j ∷ []) day read = ten_written a b c d e f g h i j day read
text_written text day read = absurd (omega (arith, read.form.ten))

-- a text that is read as a day is the text of that day
pub read_is_text : (text : List ℕ) (day : ℤ) → day_of text ≡ Some day → (is_day day ≡ true) × (text ≡ date_text day)
unfolding date_text
read_is_text text day h =
    let read = is_read text day h in
    let within = date_in_range day read.parts.y read.parts.m read.parts.d read.parts.date in
    let same = parts_are day read.parts.y read.parts.m read.parts.d within read.parts.date in
    (within, text_written text day read ∙ (λ k. text_of_date (same.0 k) (same.1 k) (same.2 k)))

-- the text of a date's day is the date's text
pub date_has_text : (day : ℤ) (y m d : ℕ) → IsDateOf day y m d → date_text day ≡ text_of_date y m d
unfolding date_text
date_has_text day y m d h =
    let same = parts_are day y m d (date_in_range day y m d h) h in
    λ k. text_of_date (sym same.0 k) (sym same.1 k) (sym same.2 k)

-- what is read is a day of these years
pub read_within : (text : List ℕ) (found : Option ℤ) → found ≡ day_of text → IfSome found (λ day. is_day day ≡ true)
read_within text (Some day) h = (read_is_text text day (sym h)).0
read_within text None h = tt
