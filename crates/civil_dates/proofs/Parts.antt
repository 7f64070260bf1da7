-- The year, the month and the day of the month that are counted are those of the calendar.
use Rattle.std.proofs.Common.{◌≡◌, ℕ, suc, ◌+◌, ◌-◌, ◌<◌, ◌≤◌, Bool, ◌&&◌, true, false, inl, inr, refl, sym, ◌∙◌, arith, ℤ, pos, ◌-ℤ◌, unsigned_abs, int_le}
use Rattle.std.proofs.lemmas.Bool.{cases_order}
use Rattle.jiff_core.specs.declared.civil.date.Date.{Date}
use Rattle.jiff_core.specs.Calendar.{day_count, days_from_civil, days_in_month, days_in_year, IsCivilDate}
use Rattle.jiff_core.specs.Date.{epoch_day}
use Rattle.jiff_core.proofs.CalendarLemmas.{days_from_civil-day_count, day_count-epoch, day_count-day, day_count-next_year, day_count-later_year, day_count-day_of_year, day_count-next_month, day_count-last_of_year, days_of_months_mono, day_of_year_bound}
use Rattle.jiff_core.proofs.DateLemmas.{epoch_day_injective}
use Rattle.jiff_core.proofs.MarchLemmas.{day_count-early}
use Rattle.jiff_core.proofs.SignedLemmas.{signed_arith, one_part}
use Rattle.civil_dates.specs.Days.{is_day, has_begun, year_of, month_of, day_of_month}
use Rattle.civil_dates.proofs.Counting.{PassesUpTo, IsLast, count_is_last}
use borrow.Author.Differences.{up, down}

-- a first of a month has come by a day exactly where as many days lie before it at most
pub begun_by : (y m : ℕ) (day : ℤ) → has_begun y m day ≡ true → day_count (pos y) m 1 + down day ≤ up day + 4_371_953
begun_by y m day h = omega (arith, signed_arith, h, days_from_civil-day_count (pos y) m 1)

not_begun : (y m : ℕ) (day : ℤ) → has_begun y m day ≡ false → up day + 4_371_953 < day_count (pos y) m 1 + down day
not_begun y m day h = omega (arith, signed_arith, h, days_from_civil-day_count (pos y) m 1)

pub true_unless : (b : Bool) → ((b ≡ false) → ⊥) → b ≡ true
true_unless true h = refl
true_unless false h = absurd (h refl)

has_come : (y m : ℕ) (day : ℤ) → day_count (pos y) m 1 + down day ≤ up day + 4_371_953 → has_begun y m day ≡ true
has_come y m day h = true_unless (has_begun y m day) (λ fails. omega (arith, h, not_begun y m day fails))

pub both_true : (a b : Bool) → (a && b) ≡ true → (a ≡ true) × (b ≡ true)
both_true true b h = (refl, h)
both_true false b h = absurd (cc)

-- these days are 0 to 47,481
pub day_bounds : (day : ℤ) → is_day day ≡ true → (down day ≤ up day) × (up day ≤ down day + 47_481)
day_bounds day h =
    let ends = both_true (int_le (pos 0) day) (int_le day (pos 47_481)) h in
    (omega (arith, signed_arith, ends.0), omega (arith, signed_arith, ends.1))

day_count-2100 : day_count (pos 2100) 1 1 ≡ 4_419_435
day_count-2100 = day_count-early (pos 2100) 12099 1 1 refl (omega arith) (omega arith) (omega arith)

-- the day is one of the days of the year
pub record IsYearOf (day : ℤ) (y : ℕ) : Type 0 where
  pub low : 1970 ≤ y
  pub high : y ≤ 2099
  pub begun : day_count (pos y) 1 1 + down day ≤ up day + 4_371_953
  pub not_over : up day + 4_371_953 < day_count (pos y) 1 1 + days_in_year (pos y) + down day

years_pass : (day : ℤ) → PassesUpTo (λ n. has_begun (1970 + n) 1 day)
years_pass day i j below begun = elim (cases_order i j) [
  | inl same ↦ rw same begun
  | inr (inl lt) ↦ has_come (1970 + i) 1 day (omega (arith, begun_by (1970 + j) 1 day begun, day_count-later_year (pos (1970 + i)) (pos (1970 + j)) (omega (arith, signed_arith)) (omega (arith, signed_arith, lt))))
  | inr (inr gt) ↦ absurd (omega (arith, below, gt))
]

last_year : (day : ℤ) (k : ℕ) → is_day day ≡ true → IsLast (λ n. has_begun (1970 + n) 1 day) 129 k → IsYearOf day (1970 + k)
last_year day k h last = record {
  low = omega arith;
  high = omega (arith, last.within);
  begun = begun_by (1970 + k) 1 day last.passes;
  not_over = elim (cases_order k 129) [
    | inl same ↦ rw same (omega (arith, day_bounds day h, day_count-2100, day_count-next_year (pos 2099) (pos 2100) (omega (arith, signed_arith)) refl))
    | inr (inl lt) ↦ omega (arith, not_begun (1970 + suc k) 1 day (last.ends lt), day_count-next_year (pos (1970 + k)) (pos (1970 + suc k)) (omega (arith, signed_arith)) (omega (arith, signed_arith)))
    | inr (inr gt) ↦ absurd (omega (arith, last.within, gt))
  ];
}

-- the year that is counted
pub year_is : (day : ℤ) → is_day day ≡ true → IsYearOf day (year_of day)
unfolding year_of
year_is day h =
    let first : has_begun (1970 + 0) 1 day ≡ true = has_come 1970 1 day (omega (arith, day_bounds day h, day_count-epoch)) in
    last_year day _ h (count_is_last (λ n. has_begun (1970 + n) 1 day) (years_pass day) first 129)

-- the day is one of the days of the month
pub record IsMonthOf (day : ℤ) (y m : ℕ) : Type 0 where
  pub low : 1 ≤ m
  pub high : m ≤ 12
  pub begun : day_count (pos y) m 1 + down day ≤ up day + 4_371_953
  pub not_over : up day + 4_371_953 < day_count (pos y) m 1 + days_in_month (pos y) m + down day

months_in_order : (y m later : ℕ) → 1 ≤ m → m ≤ later → day_count (pos y) m 1 ≤ day_count (pos y) later 1
months_in_order y m later low h =
    omega (arith, day_count-day_of_year (pos y) m 1 (omega arith), day_count-day_of_year (pos y) later 1 (omega arith), days_of_months_mono (pos y) (m - 1) (later - 1) (omega arith))

months_pass : (day : ℤ) (y : ℕ) → PassesUpTo (λ n. has_begun y (1 + n) day)
months_pass day y i j below begun =
    has_come y (1 + i) day (omega (arith, begun_by y (1 + j) day begun, months_in_order y (1 + i) (1 + j) (omega arith) (omega (arith, below))))

december : (y : ℕ) → day_count (pos y) 12 1 + 31 ≡ day_count (pos y) 1 1 + days_in_year (pos y)
december y = omega (arith, day_count-last_of_year (pos y), day_count-day (pos y) 12 1 31 (omega arith) (omega arith))

last_month : (day : ℤ) (y k : ℕ) → IsYearOf day y → IsLast (λ n. has_begun y (1 + n) day) 11 k → IsMonthOf day y (1 + k)
last_month day y k year last = record {
  low = omega arith;
  high = omega (arith, last.within);
  begun = begun_by y (1 + k) day last.passes;
  not_over = elim (cases_order k 11) [
    | inl same ↦ rw same (omega (arith, year.not_over, december y))
    | inr (inl lt) ↦
        let next : 1 + k + 1 ≡ 1 + suc k = omega arith in
        omega (arith, not_begun y (1 + suc k) day (last.ends lt), rw next at (day_count-next_month (pos y) (1 + k) (omega arith)))
    | inr (inr gt) ↦ absurd (omega (arith, last.within, gt))
  ];
}

-- the month that is counted
pub month_is : (day : ℤ) → is_day day ≡ true → IsMonthOf day (year_of day) (month_of day)
unfolding month_of
month_is day h =
    let year = year_is day h in
    let first : has_begun (year_of day) (1 + 0) day ≡ true = has_come (year_of day) 1 day year.begun in
    last_month day (year_of day) _ year (count_is_last (λ n. has_begun (year_of day) (1 + n) day) (months_pass day (year_of day)) first 11)

-- the day has this year, month and day of the month
pub record IsDateOf (day : ℤ) (y m d : ℕ) : Type 0 where
  pub early : 1970 ≤ y
  pub late : y ≤ 2099
  pub month : (1 ≤ m) × (m ≤ 12)
  pub day_in : (1 ≤ d) × (d ≤ days_in_month (pos y) m)
  pub is : days_from_civil (pos y) m d ≡ day

day_from_first : (day : ℤ) (y m n : ℕ) → IsYearOf day y → IsMonthOf day y m → n ≡ unsigned_abs (day -ℤ days_from_civil (pos y) m 1) → IsDateOf day y m (1 + n)
day_from_first day y m n year month e =
    let first = days_from_civil-day_count (pos y) m 1 in
    let gap = one_part (day -ℤ days_from_civil (pos y) m 1) in
    let since : n + day_count (pos y) m 1 + down day ≡ up day + 4_371_953 = omega (arith, signed_arith, first, gap, month.begun, e) in
    record {
      early = year.low;
      late = year.high;
      month = (month.low, month.high);
      day_in = (omega arith, omega (arith, since, month.not_over));
      is = omega (arith, signed_arith, since, days_from_civil-day_count (pos y) m (1 + n), day_count-day (pos y) m 1 (1 + n) (omega arith) (omega arith));
    }

-- the date that is counted
pub date_is : (day : ℤ) → is_day day ≡ true → IsDateOf day (year_of day) (month_of day) (day_of_month day)
unfolding day_of_month
date_is day h = day_from_first day (year_of day) (month_of day) _ (year_is day h) (month_is day h) refl

-- a date of the calendar from its parts
abbrev pub date_from : (day : ℤ) (y m d : ℕ) → IsDateOf day y m d → Date
date_from day y m d h = record { year = pos y; month = m; day = d; year_in = (omega (arith, signed_arith), omega (arith, signed_arith, h.late)); month_in = h.month; day_in = h.day_in }

-- the date of a day has the parts that are counted
pub date_has_parts : (date : Date) (day : ℤ) → is_day day ≡ true → epoch_day date ≡ day → (date.year ≡ pos (year_of day)) × (date.month ≡ month_of day) × (date.day ≡ day_of_month day)
date_has_parts date day h e =
    let counted = date_is day h in
    epoch_day_injective date (date_from day (year_of day) (month_of day) (day_of_month day) counted) (e ∙ sym counted.is)

pub parts_are : (day : ℤ) (y m d : ℕ) → is_day day ≡ true → IsDateOf day y m d → (y ≡ year_of day) × (m ≡ month_of day) × (d ≡ day_of_month day)
parts_are day y m d h of =
    let parts = date_has_parts (date_from day y m d of) day h of.is in
    (omega (arith, signed_arith, parts.0), parts.1, parts.2)

years_in_order : (y later : ℕ) → y ≤ later → day_count (pos y) 1 1 ≤ day_count (pos later) 1 1
years_in_order y later h = elim (cases_order y later) [
  | inl same ↦ rw same (omega arith)
  | inr (inl lt) ↦ omega (arith, day_count-later_year (pos y) (pos later) (omega (arith, signed_arith)) (omega (arith, signed_arith, lt)))
  | inr (inr gt) ↦ absurd (omega (arith, h, gt))
]

is_day_from_bounds : (day : ℤ) → (down day ≤ up day) × (up day ≤ down day + 47_481) → is_day day ≡ true
is_day_from_bounds day h =
    let low : int_le (pos 0) day ≡ true = true_unless _ (λ fails. omega (arith, signed_arith, fails, h)) in
    let high : int_le day (pos 47_481) ≡ true = true_unless _ (λ fails. omega (arith, signed_arith, fails, h)) in
    rw (low, high) refl

-- a date of these years is one of these days
pub date_in_range : (day : ℤ) (y m d : ℕ) → IsDateOf day y m d → is_day day ≡ true
date_in_range day y m d h =
    let calendar : IsCivilDate (pos y) m d = ((omega (arith, signed_arith), omega (arith, signed_arith, h.late)), h.month, h.day_in) in
    let place = day_count-day_of_year (pos y) m d h.day_in.0 in
    let within = day_of_year_bound (pos y) m d calendar in
    let low = years_in_order 1970 y h.early in
    let high = day_count-later_year (pos y) (pos 2100) (omega (arith, signed_arith)) (omega (arith, signed_arith, h.late)) in
    let count = days_from_civil-day_count (pos y) m d in
    is_day_from_bounds day (rw (← h.is) (omega (arith, place, low, count, day_count-epoch, h.day_in), omega (arith, place, within, high, count, day_count-2100)))
