-- The month that holds a day, and how moving by months goes with the order of days.
use Rattle.std.proofs.Common.{◌≡◌, ℕ, zero, suc, ◌*◌, ◌≤◌, refl, arith, true, ℤ, pos, neg_ℤ, ◌+ℤ◌, ◌-ℤ◌, ◌*ℤ◌, ◌<ℤ◌, ◌≤ℤ◌}
use Rattle.std.specs.Prelude.{int_lt}
use Rattle.std.specs.Int.{int_div_euclid}
use Rattle.std.proofs.lemmas.Int.{ints, clamps, by_lt_z}
use Rattle.jiff_core.specs.Calendar.{IsBetween, IsWithin, day_count, days_from_civil}
use Rattle.jiff_core.proofs.SignedLemmas.{signed_arith}
use Rattle.jiff_core.proofs.CalendarLemmas.{days_in_month_bounds, days_from_civil-day_count, day_count-end, weekday_number-parts}
use Rattle.jiff_core.proofs.MarchLemmas.{day_count-early}
use Rattle.relative_dates.specs.Civil.{month_start, month_of, month_begin, year_begin, months_later, week_begin}
use Rattle.relative_dates.proofs.FirstLemmas.{Found, least_from-found}
use Rattle.relative_dates.proofs.CivilLemmas.{IsMonth, year_no, month_no, month_start-civil, month_start-lt, month_start-le, month_start-next}

-- days from 548 years before 1970 to 821 years after it
abbrev pub IsNear : ℤ → Type 0
IsNear day = IsBetween (neg_ℤ (pos 200_000)) (pos 300_000) day

-- the month of a day holds it
pub record Holds (day month : ℤ) : Type 0 where
  pub begun : month_start month ≤ℤ day
  pub not_over : day <ℤ month_start (month +ℤ pos 1)
  pub from : pos 0 ≤ℤ month
  pub to : month ≤ℤ pos 36_000

last_passes : (day : ℤ) → IsNear day → int_lt day (month_start ((pos 0 +ℤ pos 119_999) +ℤ pos 1)) ≡ true
last_passes day near =
    let end = month_start-civil (pos 120_000) (pos 10_000) 1 refl (omega arith) (omega arith) in
    let value : days_from_civil (pos 10_000) 1 1 ≡ pos 2_932_897 = omega (arith, signed_arith, days_from_civil-day_count (pos 10_000) 1 1, day_count-end) in
    let before : day <ℤ month_start (pos 120_000) = rw (end, value) (omega (arith, signed_arith)) in
    grind (arith, ints)

first_month : month_start (pos 0) ≡ neg_ℤ (pos 719_528)
first_month =
    let is = month_start-civil (pos 0) (pos 0) 1 refl (omega arith) (omega arith) in
    let count : day_count (pos 0) 1 1 ≡ 3_652_425 = day_count-early (pos 0) 9999 1 1 refl (omega arith) (omega arith) (omega arith) in
    rw is (omega (arith, signed_arith, days_from_civil-day_count (pos 0) 1 1))

late_month : month_start (pos 36_000) ≡ pos 376_200
late_month =
    let is = month_start-civil (pos 36_000) (pos 3000) 1 refl (omega arith) (omega arith) in
    let count : day_count (pos 3000) 1 1 ≡ 4_748_153 = day_count-early (pos 3000) 12999 1 1 refl (omega arith) (omega arith) (omega arith) in
    rw is (omega (arith, signed_arith, days_from_civil-day_count (pos 3000) 1 1))

holds_found : (day month : ℤ) → IsNear day → Found (λ m. int_lt day (month_start (m +ℤ pos 1))) 119_999 (pos 0) month → Holds day month
holds_found day month near found =
    let begun : month_start month ≤ℤ day =
    by_lt_z (pos 0) month
    (λ later.
    let same : (month -ℤ pos 1) +ℤ pos 1 ≡ month = omega (arith, signed_arith) in
    let over = rw same at (found.before (month -ℤ pos 1) (omega (arith, signed_arith)) (omega (arith, signed_arith))) in
    omega (arith, signed_arith))
    (λ first.
    let zero : month ≡ pos 0 = omega (arith, signed_arith, found.at_least) in
    rw (zero, first_month) (omega (arith, signed_arith))) in
    let passing = found.passing in
    record {
      begun = begun;
      not_over = omega (arith, signed_arith);
      from = found.at_least;
      to = by_lt_z (pos 36_000) month
          (λ late. let after = month_start-lt (pos 36_000) month (omega (arith, signed_arith), omega (arith, signed_arith)) late in
          let value = late_month in absurd (omega (arith, signed_arith)))
          (λ up_to. up_to);
    }

pub holds : (day : ℤ) → IsNear day → Holds day (month_of day)
unfolding month_of
holds day near = holds_found day _ near (least_from-found (λ month. int_lt day (month_start (month +ℤ pos 1))) 119_999 (pos 0) (last_passes day near))

pub is_month : (n : ℤ) → pos 0 ≤ℤ n → n ≤ℤ pos 36_000 → IsMonth n
is_month n low high = (omega (arith, signed_arith), omega (arith, signed_arith))

-- of two days the later has no earlier month
pub month_of-le : (a b : ℤ) → a ≤ℤ b → IsNear a → IsNear b → month_of a ≤ℤ month_of b
month_of-le a b le near_a near_b =
    let of_a = holds a near_a in
    let of_b = holds b near_b in
    by_lt_z (month_of b) (month_of a)
    (λ less.
    let before = month_start-le (month_of b +ℤ pos 1) (month_of a) (omega (arith, signed_arith, of_b.from, of_b.to)) (omega (arith, signed_arith)) in
    absurd (omega (arith, signed_arith, of_a.begun, of_b.not_over)))
    (λ order. order)

pub month_begin-le : (a b : ℤ) → a ≤ℤ b → IsNear a → IsNear b → month_begin a ≤ℤ month_begin b
month_begin-le a b le near_a near_b =
    let of_a = holds a near_a in
    month_start-le (month_of a) (month_of b) (is_month (month_of a) of_a.from of_a.to) (month_of-le a b le near_a near_b)

pub year_begin-le : (a b : ℤ) → a ≤ℤ b → IsNear a → IsNear b → year_begin a ≤ℤ year_begin b
year_begin-le a b le near_a near_b =
    let of_a = holds a near_a in
    let order = month_of-le a b le near_a near_b in
    month_start-le (int_div_euclid (month_of a) (pos 12) *ℤ pos 12) (int_div_euclid (month_of b) (pos 12) *ℤ pos 12) (omega (arith, signed_arith, of_a.from, of_a.to)) (omega (arith, signed_arith))

pub week_begin-le : (first_day : ℕ) (a b : ℤ) → first_day ≤ 7 → a ≤ℤ b → week_begin first_day a ≤ℤ week_begin first_day b
unfolding week_begin
week_begin-le first_day a b day_in le = omega (arith, signed_arith, weekday_number-parts a, weekday_number-parts b)

-- moving by months keeps the order of days
pub months_later-le : (a b k : ℤ) → a ≤ℤ b → IsNear a → IsNear b → IsWithin 48_000 k → months_later a k ≤ℤ months_later b k
unfolding months_later
months_later-le a b k le near_a near_b within =
    let of_a = holds a near_a in
    let of_b = holds b near_b in
    let order = month_of-le a b le near_a near_b in
    by_lt_z (month_of a) (month_of b)
    (λ less.
    let between = month_start-le ((month_of a +ℤ k) +ℤ pos 1) (month_of b +ℤ k) (omega (arith, signed_arith, of_a.from, of_a.to)) (omega (arith, signed_arith)) in
    let long = month_start-lt (month_of b +ℤ k) ((month_of b +ℤ k) +ℤ pos 1) (omega (arith, signed_arith, of_b.from, of_b.to)) (omega (arith, signed_arith)) in
    omega (arith, signed_arith, clamps, of_b.begun))
    (λ more.
    let same : month_of a ≡ month_of b = omega (arith, signed_arith) in
    rw same (omega (arith, signed_arith, clamps)))

-- a month has at most 31 days
pub month_start_reach : (n : ℤ) (j : ℕ) → pos 0 ≤ℤ n → (n +ℤ pos j) ≤ℤ pos 40_000 → month_start (n +ℤ pos j) ≤ℤ (month_start n +ℤ pos (31 * j))
month_start_reach n zero low high =
    let same : n +ℤ pos 0 ≡ n = omega (arith, signed_arith) in
    rw same (omega (arith, signed_arith))
month_start_reach n (suc j) low high =
    let same : n +ℤ pos (suc j) ≡ (n +ℤ pos j) +ℤ pos 1 = omega (arith, signed_arith) in
    let rest = month_start_reach n j low (omega (arith, signed_arith)) in
    let next = month_start-next (n +ℤ pos j) (omega (arith, signed_arith)) in
    let long = days_in_month_bounds (year_no (n +ℤ pos j)) (month_no (n +ℤ pos j)) in
    rw same (omega (arith, signed_arith))

-- a year or a month later is not far
pub months_later_near : (day : ℤ) (k : ℕ) → IsNear day → k ≤ 12 → IsBetween (day -ℤ pos 40) (day +ℤ pos 500) (months_later day (pos k))
unfolding months_later
months_later_near day k near few =
    let of = holds day near in
    let m = month_of day in
    let back = month_start-le m (m +ℤ pos k) (is_month m of.from of.to) (omega (arith, signed_arith)) in
    let month = month_start-next m (is_month m of.from of.to) in
    let long = days_in_month_bounds (year_no m) (month_no m) in
    let after = month_start-lt (m +ℤ pos k) ((m +ℤ pos k) +ℤ pos 1) (omega (arith, signed_arith, of.from, of.to)) (omega (arith, signed_arith)) in
    let reach = month_start_reach m k of.from (omega (arith, signed_arith, of.to)) in
    (omega (arith, signed_arith, clamps, of.begun, of.not_over), omega (arith, signed_arith, clamps, of.begun))
