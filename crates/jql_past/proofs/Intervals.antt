-- Windows as one interval.
use Rattle.std.proofs.Common.{◌≡◌, ℕ, zero, suc, ◌+◌, ◌-◌, ◌<◌, ◌≤◌, Bool, true, false, ◌&&◌, ◌||◌, List, [], ◌∷◌, arith, refl, sym, ap, ◌∙◌, ℤ, pos, ◌+ℤ◌}
use Rattle.std.specs.Prelude.{int_lt, int_le}
use Rattle.std.specs.Int.{int_max, int_min}
use Rattle.std.proofs.lemmas.Int.{ints}
use Rattle.field_values.specs.Years.{last_second}
use Rattle.relative_dates.specs.Calendar.{IsZone, local_day, midnight}
use Rattle.change_history.specs.Span.{SpanOf}
use Rattle.jql_bound.specs.declared.past.PastPredicate.{PastPredicate}
use Rattle.jql_meaning.specs.Surroundings.{Surroundings}
use Rattle.jql_meaning.specs.Comparison.{second_now}
use Rattle.jql_meaning.specs.Windows.{is_within, is_in_windows}
use Rattle.jql_meaning.specs.Moments.{some_from, some_moment, after_last}
use Rattle.jql_meaning.proofs.PastMeetings.{windows_bounds}
use Rattle.jql_past.specs.declared.windows.Interval.{Interval}
use Rattle.jql_past.specs.Interval.{IsOfWindows, all_moments, starting, ending, narrowed, interval_of, has_moment, has_second, meets}

-- ---- bounds that meet

max_le : (a b m : ℤ) → int_le (int_max a b) m ≡ (int_le a m && int_le b m)
max_le a b m = grind (arith, ints)

lt_min : (a b m : ℤ) → int_lt m (int_min a b) ≡ (int_lt m a && int_lt m b)
lt_min a b m = grind (arith, ints)

behind : (a m : ℤ) → int_le (a +ℤ pos 1) m ≡ int_lt a m
behind a m = grind (arith, ints)

not_behind : (a m : ℤ) → int_lt m (a +ℤ pos 1) ≡ int_le m a
not_behind a m = grind (arith, ints)

low_last : (a b c : Bool) → ((a && b) && c) ≡ ((a && c) && b)
low_last true true true = refl
low_last true true false = refl
low_last true false true = refl
low_last true false false = refl
low_last false b c = refl

and_right : (a b c : Bool) → (a && (b && c)) ≡ ((a && b) && c)
and_right true b c = refl
and_right false b c = refl

and_true : (a : Bool) → (a && true) ≡ a
and_true true = refl
and_true false = refl

from_first : (i : Interval) (second : ℤ) (m : ℕ) → has_moment (starting i second) m ≡ (has_moment i m && int_le second (pos m))
from_first i second m = rw (max_le i.first second (pos m)) (low_last (int_le i.first (pos m)) (int_le second (pos m)) (int_lt (pos m) i.end))

before_end : (i : Interval) (second : ℤ) (m : ℕ) → has_moment (ending i second) m ≡ (has_moment i m && int_lt (pos m) second)
before_end i second m = rw (lt_min i.end second (pos m)) (and_right (int_le i.first (pos m)) (int_lt (pos m) i.end) (int_lt (pos m) second))

-- ---- one window, and several

window_of_one : (s : Surroundings) (now : ℕ) (i : Interval) (predicate : PastPredicate) (m : ℕ) → IsZone s.calendar.zone → has_moment (narrowed s now i predicate) m ≡ (has_moment i m && is_within s now predicate m)
window_of_one s now i (PastPredicate.After date) m is =
    from_first i (second_now s now date +ℤ pos 1) m ∙ ap (λ b. has_moment i m && b) (behind (second_now s now date) (pos m))
window_of_one s now i (PastPredicate.Before date) m is = before_end i (second_now s now date) m
window_of_one s now i (PastPredicate.On date) m is =
    let day = local_day s.calendar.zone (second_now s now date) in
    let first = midnight s.calendar.zone day in
    let next = midnight s.calendar.zone (day +ℤ pos 1) in
    let within : is_within s now (PastPredicate.On date) m ≡ (int_le first (pos m) && int_lt (pos m) next) =
    sym (and_true (is_within s now (PastPredicate.On date) m)) ∙ windows_bounds s now m (PastPredicate.On date ∷ []) is
    ∙ ap (λ b. int_le first (pos m) && b) (and_true (int_lt (pos m) next)) in
    before_end (starting i first) next m
    ∙ ap (λ b. b && int_lt (pos m) next) (from_first i first m)
    ∙ sym (and_right (has_moment i m) (int_le first (pos m)) (int_lt (pos m) next))
    ∙ ap (λ b. has_moment i m && b) (sym within)
window_of_one s now i (PastPredicate.During from to) m is =
    before_end (starting i (second_now s now from)) (second_now s now to +ℤ pos 1) m
    ∙ (λ k. from_first i (second_now s now from) m k && not_behind (second_now s now to) (pos m) k)
    ∙ sym (and_right (has_moment i m) (int_le (second_now s now from) (pos m)) (int_le (pos m) (second_now s now to)))
window_of_one s now i (PastPredicate.By users) m is = sym (and_true (has_moment i m))

window_of_all : (s : Surroundings) (now : ℕ) (i : Interval) (predicates : List PastPredicate) (m : ℕ) → IsZone s.calendar.zone → has_moment (interval_of s now i predicates) m ≡ (has_moment i m && is_in_windows s now predicates m)
window_of_all s now i [] m is = sym (and_true (has_moment i m))
window_of_all s now i (predicate ∷ predicates) m is =
    window_of_all s now (narrowed s now i predicate) predicates m is
    ∙ ap (λ b. b && is_in_windows s now predicates m) (window_of_one s now i predicate m is)
    ∙ sym (and_right (has_moment i m) (is_within s now predicate m) (is_in_windows s now predicates m))

among_all : (m : ℕ) → m ≤ last_second → has_moment all_moments m ≡ true
among_all m less = grind (arith, ints)

-- a moment lies in the interval of the windows exactly where it lies in each window
pub interval_is : (s : Surroundings) (now : ℕ) (predicates : List PastPredicate) → IsZone s.calendar.zone → IsOfWindows s now predicates (interval_of s now all_moments predicates)
interval_is s now predicates is m less =
    window_of_all s now all_moments predicates m is ∙ ap (λ b. b && is_in_windows s now predicates m) (among_all m less)

-- ---- a span that meets an interval

one_more : (low high : ℤ) (n first : ℕ) → ((int_le low (pos first) && int_lt (pos first) high) || int_lt (int_max low (pos (first + 1))) (int_min high (pos ((first + 1) + n)))) ≡ int_lt (int_max low (pos first)) (int_min high (pos (first + suc n)))
one_more low high n first = grind (arith, ints)

none_left : (low high : ℤ) (first : ℕ) → false ≡ int_lt (int_max low (pos first)) (int_min high (pos (first + 0)))
none_left low high first = grind (arith, ints)

some_from-interval : (i : Interval) (n first : ℕ) → some_from (λ m. has_moment i m) n first ≡ has_second i (pos first) (pos (first + n))
unfolding some_from
some_from-interval i zero first = none_left i.first i.end first
some_from-interval i (suc n) first =
    ap (λ b. has_moment i first || b) (some_from-interval i n (first + 1)) ∙ one_more i.first i.end n first

some_from-same : (f g : ℕ → Bool) (n first : ℕ) → ((m : ℕ) → m < first + n → f m ≡ g m) → some_from f n first ≡ some_from g n first
unfolding some_from
some_from-same f g zero first same = refl
some_from-same f g (suc n) first same = λ k. same first (omega arith) k || some_from-same f g n (first + 1) (λ m less. same m (omega arith)) k

-- up to the moment after the last one of a span, where that is behind
up_to : (low high : ℤ) (first after : ℕ) → int_lt (int_max low (pos first)) (int_min high (pos after)) ≡ int_lt (int_max low (pos first)) (int_min high (pos (first + (after - first))))
up_to low high first after = grind (arith, ints)

-- the interval of the windows has a moment of the span exactly where one of the span's moments lies in each window
pub meets_is : (s : Surroundings) (now : ℕ) (predicates : List PastPredicate) (i : Interval) (span : SpanOf) → IsOfWindows s now predicates i → span.begin ≤ last_second → after_last span.end now ≤ last_second + 1 →
    meets i span.begin span.end now ≡ some_moment (λ m. is_in_windows s now predicates m) span now
meets_is s now predicates i span is begins ends =
    let after = after_last span.end now in
    let first = span.begin + 1 in
    let later : has_second i (pos first) (pos after) ≡ some_from (λ m. is_in_windows s now predicates m) (after - first) first =
    up_to i.first i.end first after
    ∙ sym (some_from-interval i (after - first) first)
    ∙ some_from-same (λ m. has_moment i m) (λ m. is_in_windows s now predicates m) (after - first) first (λ m less. is m (omega arith)) in
    λ k. is span.begin begins k || later k
