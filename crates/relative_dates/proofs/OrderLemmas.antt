-- The second of a term never falls as the moment rises.
use Rattle.std.proofs.Common.{◌≡◌, ℕ, ◌≤◌, arith, not, true, ℤ, pos, neg_ℤ, ◌+ℤ◌, ◌-ℤ◌, ◌*ℤ◌, ◌≤ℤ◌, unsigned_abs}
use Rattle.std.specs.Prelude.{int_lt}
use Rattle.std.specs.Int.{int_div_euclid}
use Rattle.std.specs.Ordering.{int_cmp}
use Rattle.std.proofs.lemmas.Int.{ints, by_lt_z}
use Rattle.jiff_core.specs.Calendar.{IsBetween, IsWithin}
use Rattle.jiff_core.proofs.SignedLemmas.{signed_arith, one_part}
use Rattle.jiff_core.proofs.CalendarLemmas.{days_in_month_bounds}
use Rattle.relative_dates.specs.Years.{last_second}
use Rattle.relative_dates.specs.declared.term.Period.{Period}
use Rattle.relative_dates.specs.declared.term.Period.TheVariants.{Day, Week, Month, Year}
use Rattle.relative_dates.specs.declared.term.Edge.{Edge}
use Rattle.relative_dates.specs.declared.term.Edge.TheVariants.{Start, End}
use Rattle.relative_dates.specs.declared.term.Boundary.{Boundary}
use Rattle.relative_dates.specs.declared.term.Term.{Term}
use Rattle.relative_dates.specs.declared.term.Term.TheVariants.{Now, Literal, FromNow, PeriodEdge}
use Rattle.relative_dates.specs.Calendar.{Zone, LocalCalendar, local_second, local_day, first_at, IsFirstAt, IsZone, IsCalendar}
use Rattle.relative_dates.specs.Civil.{month_of, month_begin, year_begin, week_begin}
use Rattle.relative_dates.specs.Term.{period_begin, one_later, edge_day, before_edge, boundary_day, boundary_second, second, IsTerm}
use Rattle.relative_dates.proofs.OffsetLemmas.{minutes_from_in}
use Rattle.relative_dates.proofs.FirstLemmas.{Found, least_from-found}
use Rattle.relative_dates.proofs.CivilLemmas.{year_no, month_no, month_start-next, month_start-le}
use Rattle.relative_dates.proofs.MonthLemmas.{IsNear, holds, is_month, month_begin-le, year_begin-le, week_begin-le, months_later-le, months_later_near, month_start_reach}

first_found : (zone : Zone) (x at : ℤ) → IsZone zone → Found (λ e. not (int_lt (local_second zone e) x)) 100_801 (x -ℤ pos 50_400) at → IsFirstAt zone x at
first_found zone x at is found =
    let passing = found.passing in
    record {
      come = grind (arith, ints);
      before = λ e less.
          by_lt_z e (x -ℤ pos 50_400)
          (λ long_before. let offset = minutes_from_in zone.first_offset zone.steps e is.first_in is.steps_in in omega (arith, signed_arith))
          (λ near. let not_yet = found.before e near less in grind (arith, ints));
    }

last_passes : (zone : Zone) (x : ℤ) → IsZone zone → not (int_lt (local_second zone ((x -ℤ pos 50_400) +ℤ pos 100_801)) x) ≡ true
last_passes zone x is =
    let offset = minutes_from_in zone.first_offset zone.steps ((x -ℤ pos 50_400) +ℤ pos 100_801) is.first_in is.steps_in in
    let come : x ≤ℤ local_second zone ((x -ℤ pos 50_400) +ℤ pos 100_801) = omega (arith, signed_arith) in
    grind (arith, ints)

-- each local second has its first moment
pub first_at-first : (zone : Zone) (x : ℤ) → IsZone zone → IsFirstAt zone x (first_at zone x)
unfolding first_at
first_at-first zone x is =
    first_found zone x _ is (least_from-found (λ e. not (int_lt (local_second zone e) x)) 100_801 (x -ℤ pos 50_400) (last_passes zone x is))

-- a later local second is not come to before an earlier one
pub first_at-le : (zone : Zone) (x y : ℤ) → IsZone zone → x ≤ℤ y → first_at zone x ≤ℤ first_at zone y
first_at-le zone x y is le =
    let of_x = first_at-first zone x is in
    let of_y = first_at-first zone y is in
    by_lt_z (first_at zone y) (first_at zone x)
    (λ less. let early = of_x.before (first_at zone y) less in let come = of_y.come in absurd (omega (arith, signed_arith)))
    (λ order. order)

-- the days on which boundaries are reckoned
abbrev pub IsPresent : ℤ → Type 0
IsPresent day = IsBetween (neg_ℤ (pos 100_000)) (pos 100_000) day

period_begin_near : (first_day : ℕ) (p : Period) (day : ℤ) → first_day ≤ 7 → IsPresent day → IsBetween (day -ℤ pos 400) day (period_begin first_day p day)
unfolding week_begin
period_begin_near first_day Day day day_in present = (omega (arith, signed_arith), omega (arith, signed_arith))
period_begin_near first_day Week day day_in present = (omega (arith, signed_arith), omega (arith, signed_arith))
period_begin_near first_day Month day day_in present = month_near day present
  where
    month_near : (day : ℤ) → IsPresent day → IsBetween (day -ℤ pos 400) day (month_begin day)
    month_near day present =
        let of = holds day (omega (arith, signed_arith), omega (arith, signed_arith)) in
        let next = month_start-next (month_of day) (is_month (month_of day) of.from of.to) in
        let long = days_in_month_bounds (year_no (month_of day)) (month_no (month_of day)) in
        (omega (arith, signed_arith, of.not_over), of.begun)
period_begin_near first_day Year day day_in present = year_near day present
  where
    year_near : (day : ℤ) → IsPresent day → IsBetween (day -ℤ pos 400) day (year_begin day)
    year_near day present =
        let of = holds day (omega (arith, signed_arith), omega (arith, signed_arith)) in
        let m = month_of day in
        let january = int_div_euclid m (pos 12) *ℤ pos 12 in
        let back : january ≤ℤ m = omega (arith, signed_arith) in
        let next = month_start-next m (is_month m of.from of.to) in
        let long = days_in_month_bounds (year_no m) (month_no m) in
        let order = month_start-le january m (omega (arith, signed_arith, of.from, of.to)) back in
        let since : january +ℤ pos (unsigned_abs (m -ℤ january)) ≡ m = omega (arith, signed_arith, one_part (m -ℤ january)) in
        let few : unsigned_abs (m -ℤ january) ≤ 11 = omega (arith, signed_arith, one_part (m -ℤ january)) in
        let reach = rw since at (month_start_reach january (unsigned_abs (m -ℤ january)) (omega (arith, signed_arith, of.from)) (omega (arith, signed_arith, of.to))) in
        (omega (arith, signed_arith, of.not_over), omega (arith, signed_arith, of.begun))

period_begin-le : (first_day : ℕ) (p : Period) (a b : ℤ) → first_day ≤ 7 → a ≤ℤ b → IsPresent a → IsPresent b → period_begin first_day p a ≤ℤ period_begin first_day p b
period_begin-le first_day Day a b day_in le near_a near_b = le
period_begin-le first_day Week a b day_in le near_a near_b = week_begin-le first_day a b day_in le
period_begin-le first_day Month a b day_in le near_a near_b = month_begin-le a b le (omega (arith, signed_arith), omega (arith, signed_arith)) (omega (arith, signed_arith), omega (arith, signed_arith))
period_begin-le first_day Year a b day_in le near_a near_b = year_begin-le a b le (omega (arith, signed_arith), omega (arith, signed_arith)) (omega (arith, signed_arith), omega (arith, signed_arith))

one_later-le : (p : Period) (a b : ℤ) → a ≤ℤ b → IsNear a → IsNear b → one_later p a ≤ℤ one_later p b
one_later-le Day a b le near_a near_b = omega (arith, signed_arith)
one_later-le Week a b le near_a near_b = omega (arith, signed_arith)
one_later-le Month a b le near_a near_b = months_later-le a b (pos 1) le near_a near_b (omega (arith, signed_arith), omega (arith, signed_arith))
one_later-le Year a b le near_a near_b = months_later-le a b (pos 12) le near_a near_b (omega (arith, signed_arith), omega (arith, signed_arith))

one_later_near : (p : Period) (a : ℤ) → IsNear a → IsBetween (a -ℤ pos 40) (a +ℤ pos 500) (one_later p a)
one_later_near Day a near = (omega (arith, signed_arith), omega (arith, signed_arith))
one_later_near Week a near = (omega (arith, signed_arith), omega (arith, signed_arith))
one_later_near Month a near = months_later_near a 1 near (omega arith)
one_later_near Year a near = months_later_near a 12 near (omega arith)

edge_day_near : (first_day : ℕ) (e : Edge) (p : Period) (day : ℤ) → first_day ≤ 7 → IsPresent day → IsNear (edge_day first_day e p day)
edge_day_near first_day Start p day day_in present =
    let begin = period_begin_near first_day p day day_in present in (omega (arith, signed_arith), omega (arith, signed_arith))
edge_day_near first_day End p day day_in present =
    let begin = period_begin_near first_day p day day_in present in
    let later = one_later_near p (period_begin first_day p day) (omega (arith, signed_arith), omega (arith, signed_arith)) in
    (omega (arith, signed_arith), omega (arith, signed_arith))

edge_day-le : (first_day : ℕ) (e : Edge) (p : Period) (a b : ℤ) → first_day ≤ 7 → a ≤ℤ b → IsPresent a → IsPresent b → edge_day first_day e p a ≤ℤ edge_day first_day e p b
edge_day-le first_day Start p a b day_in le near_a near_b = period_begin-le first_day p a b day_in le near_a near_b
edge_day-le first_day End p a b day_in le near_a near_b =
    let of_a = period_begin_near first_day p a day_in near_a in
    let of_b = period_begin_near first_day p b day_in near_b in
    one_later-le p (period_begin first_day p a) (period_begin first_day p b) (period_begin-le first_day p a b day_in le near_a near_b)
    (omega (arith, signed_arith), omega (arith, signed_arith)) (omega (arith, signed_arith), omega (arith, signed_arith))

-- of two local days the later has no earlier boundary
pub boundary_second-le : (calendar : LocalCalendar) (boundary : Boundary) (a b : ℤ) → IsCalendar calendar → IsWithin 48_000 boundary.shift.months → a ≤ℤ b → IsPresent a → IsPresent b → boundary_second calendar boundary a ≤ℤ boundary_second calendar boundary b
unfolding boundary_second
boundary_second-le calendar boundary a b is months le near_a near_b =
    let day_in = is.sunday_or_earlier in
    let edges = edge_day-le calendar.first_day boundary.edge boundary.period a b day_in le near_a near_b in
    let of_a = edge_day_near calendar.first_day boundary.edge boundary.period a day_in near_a in
    let of_b = edge_day_near calendar.first_day boundary.edge boundary.period b day_in near_b in
    let later = months_later-le (edge_day calendar.first_day boundary.edge boundary.period a) (edge_day calendar.first_day boundary.edge boundary.period b) boundary.shift.months edges of_a of_b months in
    let first = first_at-le calendar.zone (boundary_day calendar.first_day boundary a *ℤ pos 86_400) (boundary_day calendar.first_day boundary b *ℤ pos 86_400) is.zone (omega (arith, signed_arith)) in
    moved _ _ (pos 60 *ℤ boundary.shift.minutes) (before_edge boundary.edge) first
  where
    moved : (x y m e : ℤ) → x ≤ℤ y → ((x +ℤ m) -ℤ e) ≤ℤ ((y +ℤ m) -ℤ e)
    moved x y m e le = omega (arith, signed_arith)

-- the local day of a moment of the calendar
present_day : (zone : Zone) (at : ℕ) → IsZone zone → at ≤ last_second → IsPresent (local_day zone (pos at))
present_day zone at is in' =
    let offset = minutes_from_in zone.first_offset zone.steps (pos at) is.first_in is.steps_in in
    (omega (arith, signed_arith), omega (arith, signed_arith))

pub second-le : (calendar : LocalCalendar) (term : Term) (at later : ℕ) → IsCalendar calendar → IsTerm term → at ≤ later → later ≤ last_second → second calendar term (pos at) ≤ℤ second calendar term (pos later)
second-le calendar Now at later is bounded le in' = omega (arith, signed_arith)
second-le calendar (Literal local) at later is bounded le in' = omega (arith, signed_arith)
second-le calendar (FromNow minutes) at later is bounded le in' = omega (arith, signed_arith)
second-le calendar (PeriodEdge b) at later is bounded le in' =
    boundary_second-le calendar b (local_day calendar.zone (pos at)) (local_day calendar.zone (pos later)) is bounded
    (is.zone.days_go_on (pos at) (pos later) (omega (arith, signed_arith)))
    (present_day calendar.zone at is.zone (omega arith)) (present_day calendar.zone later is.zone in')

-- what compares alike at both ends compares alike between them
pub between_alike : (a b c m : ℤ) → a ≤ℤ b → b ≤ℤ c → int_cmp c m ≡ int_cmp a m → int_cmp b m ≡ int_cmp a m
between_alike a b c m low high same = grind (arith, ints)
