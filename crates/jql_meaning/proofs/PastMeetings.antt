-- A comparison with the past comes to another truth only at critical moments.
use Rattle.std.proofs.Common.{◌≡◌, ◌≢◌, ◌⊎◌, ℕ, zero, suc, ◌+◌, ◌-◌, ◌<◌, ◌≤◌, Bool, true, false, ◌&&◌, cond, List, [], ◌∷◌, length, arith, inl, inr, refl, sym, ◌∙◌, ap, subst, map, Option, Some, None, ℤ, pos, ◌+ℤ◌, ◌-ℤ◌, ◌*ℤ◌, ◌<ℤ◌, ◌≤ℤ◌, lit<}
use Rattle.std.specs.Prelude.{int_lt, int_le, slice_index_or}
use Rattle.std.specs.List.{list_all, flat_map, Contains}
use Rattle.std.specs.Ordering.{int_cmp, int_eq}
use Rattle.std.specs.declared.cmp.Ordering.TheVariants.{Less, Equal, Greater}
use Rattle.std.proofs.lemmas.Bool.{cases_Bool, cases_lt, cases_eq, false≢true, true≢false}
use Rattle.std.proofs.lemmas.Int.{ints, by_lt_z}
use Rattle.std.proofs.lemmas.List.Elements.{All-contains, Contains-append_left, Contains-append_right, Contains-append_cases}
use Rattle.std.proofs.lemmas.List.Folds.{list_all-append}
use Rattle.std.proofs.lemmas.List.Sums.{AllPass-from_list_all}
use Rattle.jiff_core.proofs.SignedLemmas.{signed_arith, int_div_euclid-parts}
use Rattle.change_history.specs.History.{History}
use Rattle.change_history.specs.Span.{SpanOf}
use Rattle.relative_dates.specs.declared.term.Term.{Term}
use Rattle.relative_dates.specs.Calendar.{Zone, IsZone, IsFirstAt, local_second, local_day, midnight}
use Rattle.relative_dates.proofs.OrderLemmas.{first_at-first}
use Rattle.jql_bound.specs.declared.past.PastPredicate.{PastPredicate}
use Rattle.jql_meaning.specs.Surroundings.{Surroundings}
use Rattle.jql_meaning.specs.Comparison.{second_now}
use Rattle.jql_meaning.specs.Windows.{is_within, is_in_windows}
use Rattle.jql_meaning.specs.Moments.{HasMoment, after_last}
use Rattle.jql_meaning.specs.Edges.{Edge, date, day, day_after, present_moment, edge_at, goes_on, window_edges}
use Rattle.jql_meaning.specs.Marks.{IsMark}
use Rattle.jql_meaning.specs.Critical.{MeetsMark, MeetsEdge, Leaps}

-- ---- comparisons of whole numbers

lt_yes : (a b : ℤ) → int_lt a b ≡ true → a <ℤ b
lt_yes a b h = grind (arith, ints)

lt_no : (a b : ℤ) → int_lt a b ≡ false → b ≤ℤ a
lt_no a b h = grind (arith, ints)

le_yes : (a b : ℤ) → int_le a b ≡ true → a ≤ℤ b
le_yes a b h = grind (arith, ints)

le_no : (a b : ℤ) → int_le a b ≡ false → b <ℤ a
le_no a b h = grind (arith, ints)

yes_lt : (a b : ℤ) → a <ℤ b → int_lt a b ≡ true
yes_lt a b h = grind (arith, ints)

no_lt : (a b : ℤ) → b ≤ℤ a → int_lt a b ≡ false
no_lt a b h = grind (arith, ints)

yes_le : (a b : ℤ) → a ≤ℤ b → int_le a b ≡ true
yes_le a b h = grind (arith, ints)

no_le : (a b : ℤ) → b <ℤ a → int_le a b ≡ false
no_le a b h = grind (arith, ints)

int_eq-below : (a b : ℤ) → a <ℤ b → int_eq a b ≡ false
int_eq-below a b h = rw (yes_lt a b h) refl

int_eq-above : (a b : ℤ) → b <ℤ a → int_eq a b ≡ false
int_eq-above a b h = rw (no_lt a b (omega (arith, signed_arith))) (rw (yes_lt b a h) refl)

int_eq-same : (a b : ℤ) → a ≡ b → int_eq a b ≡ true
int_eq-same a b h = rw (no_lt a b (omega (arith, signed_arith))) (rw (no_lt b a (omega (arith, signed_arith))) refl)

less_or : (p : Bool) → Less ≡ cond p Greater Equal → ⊥
less_or true h = cc
less_or false h = cc

or_greater : (p : Bool) → cond p Less Equal ≡ Greater → ⊥
or_greater true h = cc
or_greater false h = cc

-- one is below, and the other isn't
parted_below : (x y z w : ℤ) → x <ℤ z → w ≤ℤ y → int_cmp x z ≡ int_cmp y w → ⊥
parted_below x y z w less more same =
    let below = yes_lt x z less in
    let not_below = no_lt y w more in
    less_or (int_lt w y) (rw not_below at (rw below at same))

-- one isn't above, and the other is
parted_above : (x y z w : ℤ) → x ≤ℤ z → w <ℤ y → int_cmp x z ≡ int_cmp y w → ⊥
parted_above x y z w more less same =
    let not_above = no_lt z x more in
    let above = yes_lt w y less in
    let not_below = no_lt y w (omega (arith, signed_arith)) in
    or_greater (int_lt x z) (rw above at (rw not_below at (rw not_above at same)))

-- ---- windows as bounds

-- a moment lies behind an edge, not before it, before it, or not behind it
pub data Bound : Type 0 where
  behind : Edge → Bound
  not_before : Edge → Bound
  before : Edge → Bound
  not_behind : Edge → Bound

abbrev pub edge_of : Bound → Edge
edge_of (behind e) = e
edge_of (not_before e) = e
edge_of (before e) = e
edge_of (not_behind e) = e

abbrev pub is_kept : Surroundings → ℕ → ℕ → Bound → Bool
is_kept s t m (behind e) = int_lt (edge_at s e t) (pos m)
is_kept s t m (not_before e) = int_le (edge_at s e t) (pos m)
is_kept s t m (before e) = int_lt (pos m) (edge_at s e t)
is_kept s t m (not_behind e) = int_le (pos m) (edge_at s e t)

abbrev pub IsKept : Surroundings → ℕ → ℕ → Bound → Type 0
IsKept s t m (behind e) = edge_at s e t <ℤ pos m
IsKept s t m (not_before e) = edge_at s e t ≤ℤ pos m
IsKept s t m (before e) = pos m <ℤ edge_at s e t
IsKept s t m (not_behind e) = pos m ≤ℤ edge_at s e t

abbrev pub IsBroken : Surroundings → ℕ → ℕ → Bound → Type 0
IsBroken s t m (behind e) = pos m ≤ℤ edge_at s e t
IsBroken s t m (not_before e) = pos m <ℤ edge_at s e t
IsBroken s t m (before e) = edge_at s e t ≤ℤ pos m
IsBroken s t m (not_behind e) = edge_at s e t <ℤ pos m

kept : (s : Surroundings) (t m : ℕ) (b : Bound) → is_kept s t m b ≡ true → IsKept s t m b
kept s t m (behind e) h = lt_yes (edge_at s e t) (pos m) h
kept s t m (not_before e) h = le_yes (edge_at s e t) (pos m) h
kept s t m (before e) h = lt_yes (pos m) (edge_at s e t) h
kept s t m (not_behind e) h = le_yes (pos m) (edge_at s e t) h

broken : (s : Surroundings) (t m : ℕ) (b : Bound) → is_kept s t m b ≡ false → IsBroken s t m b
broken s t m (behind e) h = lt_no (edge_at s e t) (pos m) h
broken s t m (not_before e) h = le_no (edge_at s e t) (pos m) h
broken s t m (before e) h = lt_no (pos m) (edge_at s e t) h
broken s t m (not_behind e) h = le_no (pos m) (edge_at s e t) h

abbrev pub bounds_of : PastPredicate → List Bound
bounds_of (PastPredicate.After d) = behind (date d) ∷ []
bounds_of (PastPredicate.Before d) = before (date d) ∷ []
bounds_of (PastPredicate.On d) = not_before (day d) ∷ before (day_after d) ∷ []
bounds_of (PastPredicate.During a b) = not_before (date a) ∷ not_behind (date b) ∷ []
bounds_of (PastPredicate.By users) = []

and_true : (b : Bool) → b ≡ (b && true)
and_true true = refl
and_true false = refl

-- a moment is on a day from the day's midnight to the next one
day_bounds : (zone : Zone) (m d : ℤ) → IsZone zone → (first : IsFirstAt zone (d *ℤ pos 86_400) (midnight zone d)) → (next : IsFirstAt zone ((d +ℤ pos 1) *ℤ pos 86_400) (midnight zone (d +ℤ pos 1))) → int_eq (local_day zone m) d ≡ (int_le (midnight zone d) m && (int_lt m (midnight zone (d +ℤ pos 1)) && true))
day_bounds zone m d is first next =
    let parts = int_div_euclid-parts (local_second zone m) 86_400 (lit< tt) in
    by_lt_z m (midnight zone d)
    (λ less.
    let early = first.before m less in
    rw (no_le (midnight zone d) m less) (int_eq-below (local_day zone m) d (omega (arith, signed_arith, parts))))
    (λ more.
    let from_first = int_div_euclid-parts (local_second zone (midnight zone d)) 86_400 (lit< tt) in
    let come = first.come in
    let order = is.days_go_on (midnight zone d) m more in
    by_lt_z m (midnight zone (d +ℤ pos 1))
    (λ less.
    let early = next.before m less in
    rw (yes_le (midnight zone d) m more) (rw (yes_lt m (midnight zone (d +ℤ pos 1)) less) (int_eq-same (local_day zone m) d (omega (arith, signed_arith, parts, from_first)))))
    (λ past.
    let from_next = int_div_euclid-parts (local_second zone (midnight zone (d +ℤ pos 1))) 86_400 (lit< tt) in
    let next_come = next.come in
    let next_order = is.days_go_on (midnight zone (d +ℤ pos 1)) m past in
    rw (yes_le (midnight zone d) m more) (rw (no_lt m (midnight zone (d +ℤ pos 1)) past) (int_eq-above (local_day zone m) d (omega (arith, signed_arith, parts, from_next))))))

within_bounds : (s : Surroundings) (t m : ℕ) (predicate : PastPredicate) → IsZone s.calendar.zone → is_within s t predicate m ≡ list_all (is_kept s t m) (bounds_of predicate)
within_bounds s t m (PastPredicate.After d) is = and_true (int_lt (second_now s t d) (pos m))
within_bounds s t m (PastPredicate.Before d) is = and_true (int_lt (pos m) (second_now s t d))
within_bounds s t m (PastPredicate.On d) is =
    let on = local_day s.calendar.zone (second_now s t d) in
    day_bounds s.calendar.zone (pos m) on is (first_at-first s.calendar.zone (on *ℤ pos 86_400) is) (first_at-first s.calendar.zone ((on +ℤ pos 1) *ℤ pos 86_400) is)
within_bounds s t m (PastPredicate.During a b) is = λ i. int_le (second_now s t a) (pos m) && and_true (int_le (pos m) (second_now s t b)) i
within_bounds s t m (PastPredicate.By users) is = refl

pub windows_bounds : (s : Surroundings) (t m : ℕ) (predicates : List PastPredicate) → IsZone s.calendar.zone → is_in_windows s t predicates m ≡ list_all (is_kept s t m) (flat_map bounds_of predicates)
windows_bounds s t m [] is = refl
windows_bounds s t m (predicate ∷ predicates) is =
    (λ i. within_bounds s t m predicate is i && windows_bounds s t m predicates is i)
    ∙ sym (list_all-append (is_kept s t m) (bounds_of predicate) (flat_map bounds_of predicates))

contains_edge : (bounds : List Bound) (b : Bound) (k : ℕ) → k < length bounds → slice_index_or bounds k b ≡ b → Contains (map edge_of bounds) (edge_of b)
contains_edge [] b k less is = absurd (omega arith)
contains_edge (x ∷ xs) b zero less is = (0, omega arith, ap edge_of is)
contains_edge (x ∷ xs) b (suc k) less is = Contains-append_right (edge_of x ∷ []) (map edge_of xs) (edge_of b) (contains_edge xs b k (omega arith) is)

own_edge : (predicate : PastPredicate) (b : Bound) → Contains (bounds_of predicate) b → Contains (window_edges predicate) (edge_of b)
own_edge (PastPredicate.After d) b c = contains_edge (bounds_of (PastPredicate.After d)) b c.0 c.1 c.2
own_edge (PastPredicate.Before d) b c = contains_edge (bounds_of (PastPredicate.Before d)) b c.0 c.1 c.2
own_edge (PastPredicate.On d) b c = contains_edge (bounds_of (PastPredicate.On d)) b c.0 c.1 c.2
own_edge (PastPredicate.During from to) b c = contains_edge (bounds_of (PastPredicate.During from to)) b c.0 c.1 c.2
own_edge (PastPredicate.By users) b c = contains_edge [] b c.0 c.1 c.2

-- the edge of a bound is one of the windows'
pub bound_edge : (predicates : List PastPredicate) (b : Bound) → Contains (flat_map bounds_of predicates) b → Contains (flat_map window_edges predicates) (edge_of b)
bound_edge [] b c = absurd (omega (arith, c.1))
bound_edge (predicate ∷ predicates) b c =
    elim (Contains-append_cases (bounds_of predicate) (flat_map bounds_of predicates) b c) [
      | inl here ↦ Contains-append_left (window_edges predicate) (flat_map window_edges predicates) (edge_of b) (own_edge predicate b here)
      | inr later ↦ Contains-append_right (window_edges predicate) (flat_map window_edges predicates) (edge_of b) (bound_edge predicates b later)
    ]

find_broken : (f : Bound → Bool) (bounds : List Bound) → list_all f bounds ≡ false → (b : Bound) × Contains bounds b × (f b ≡ false)
find_broken f [] h = absurd (true≢false h)
find_broken f (b ∷ bounds) h =
    elim (cases_Bool (f b)) [
      | inl holding ↦ let rest = find_broken f bounds (rw holding at h) in (rest.0, Contains-append_right (b ∷ []) bounds rest.0 rest.1, rest.2)
      | inr failing ↦ (b, (0, omega arith, refl), failing)
    ]

all_kept : (f : Bound → Bool) (bounds : List Bound) → list_all f bounds ≡ true → (b : Bound) → Contains bounds b → f b ≡ true
all_kept f bounds h b c = All-contains (λ b. f b ≡ true) bounds b (AllPass-from_list_all f bounds h) c

-- ---- a second later

module _ (s : Surroundings) (h : History) (edges : List Edge) (t : ℕ) (later : 0 < t) where
  abbrev pub Meets : Type 0
  Meets = MeetsMark s h edges t ⊎ (MeetsEdge s edges t ⊎ Leaps s edges t)

  abbrev Rises : Edge → Type 0
  Rises e = edge_at s e t ≡ edge_at s e (t - 1) +ℤ pos 1

  abbrev Stands : Edge → Type 0
  Stands e = edge_at s e t ≡ edge_at s e (t - 1)

  rises : (e : Edge) → goes_on e ≡ true → Rises e
  rises (date Term.Now) on = omega (arith, signed_arith)
  rises (date (Term.Literal local)) on = absurd (false≢true on)
  rises (date (Term.FromNow minutes)) on = omega (arith, signed_arith)
  rises (date (Term.PeriodEdge boundary)) on = absurd (false≢true on)
  rises (day d) on = absurd (false≢true on)
  rises (day_after d) on = absurd (false≢true on)
  rises present_moment on = omega (arith, signed_arith)

  data Motion (e : Edge) : Type 0 where
    rising : Rises e → Motion e
    standing : Stands e → Motion e
    leaping : Leaps s edges t → Motion e

  motion : (e : Edge) → Contains edges e → Motion e
  motion e is =
      elim (cases_Bool (goes_on e)) [
        | inl on ↦ rising (rises e on)
        | inr off ↦
            by_lt_z (edge_at s e (t - 1)) (edge_at s e t)
            (λ less. leaping (record { edge = e; is_edge = is; stands = off; differs = λ same. omega (arith, signed_arith) }))
            (λ more. by_lt_z (edge_at s e t) (edge_at s e (t - 1))
            (λ less. leaping (record { edge = e; is_edge = is; stands = off; differs = λ same. omega (arith, signed_arith) }))
            (λ also. standing (omega (arith, signed_arith))))
      ]

  -- an edge that goes on is near a mark
  pub near_mark : (e : Edge) (mark : ℤ) → Contains edges e → Rises e → IsMark s h mark → (edge_at s e (t - 1) -ℤ pos 1) ≤ℤ mark → mark ≤ℤ (edge_at s e (t - 1) +ℤ pos 2) → Meets
  near_mark e mark is rise of low high =
      by_lt_z (edge_at s e (t - 1)) mark
      (λ less. inl (record {
        edge = e;
        mark = mark;
        apart = (edge_at s e (t - 1) +ℤ pos 1) -ℤ mark;
        is_edge = is;
        is_mark = of;
        near = (omega (arith, signed_arith), omega (arith, signed_arith));
        differs = λ same. parted_below (edge_at s e (t - 1)) (edge_at s e t) _ _ (omega (arith, signed_arith)) (omega (arith, signed_arith)) same;
      }))
      (λ more. inl (record {
        edge = e;
        mark = mark;
        apart = edge_at s e (t - 1) -ℤ mark;
        is_edge = is;
        is_mark = of;
        near = (omega (arith, signed_arith), omega (arith, signed_arith));
        differs = λ same. parted_above (edge_at s e (t - 1)) (edge_at s e t) _ _ (omega (arith, signed_arith)) (omega (arith, signed_arith)) same;
      }))

  -- an edge that goes on is near one that stands
  pub near_edge : (e f : Edge) → Contains edges e → Contains edges f → Rises e → Stands f → (edge_at s e (t - 1) -ℤ pos 2) ≤ℤ edge_at s f (t - 1) → edge_at s f (t - 1) ≤ℤ (edge_at s e (t - 1) +ℤ pos 3) → Meets
  near_edge e f is other rise stand low high =
      by_lt_z (edge_at s e (t - 1)) (edge_at s f (t - 1))
      (λ less. inr (inl (record {
        edge = e;
        other = f;
        apart = (edge_at s e (t - 1) +ℤ pos 1) -ℤ edge_at s f (t - 1);
        is_edge = is;
        is_other = other;
        near = (omega (arith, signed_arith), omega (arith, signed_arith));
        differs = λ same. parted_below (edge_at s e (t - 1)) (edge_at s e t) _ _ (omega (arith, signed_arith)) (omega (arith, signed_arith)) same;
      })))
      (λ more. inr (inl (record {
        edge = e;
        other = f;
        apart = edge_at s e (t - 1) -ℤ edge_at s f (t - 1);
        is_edge = is;
        is_other = other;
        near = (omega (arith, signed_arith), omega (arith, signed_arith));
        differs = λ same. parted_above (edge_at s e (t - 1)) (edge_at s e t) _ _ (omega (arith, signed_arith)) (omega (arith, signed_arith)) same;
      })))

  -- an edge that goes on stands at the moment or a second before it
  record Near (m : ℕ) : Type 0 where
    edge : Edge
    is_edge : Contains edges edge
    rise : Rises edge
    low : (pos m -ℤ pos 1) ≤ℤ edge_at s edge (t - 1)
    high : edge_at s edge (t - 1) ≤ℤ pos m

  lost : (m : ℕ) (b : Bound) → Contains edges (edge_of b) → IsKept s (t - 1) m b → IsBroken s t m b → Meets ⊎ Near m
  lost m (behind e) is k n = elim (motion e is) [ rising r ↦ inr (record { edge = e; is_edge = is; rise = r; low = omega (arith, signed_arith); high = omega (arith, signed_arith) }) | standing r ↦ absurd (omega (arith, signed_arith)) | leaping l ↦ inl (inr (inr l)) ]
  lost m (not_before e) is k n = elim (motion e is) [ rising r ↦ inr (record { edge = e; is_edge = is; rise = r; low = omega (arith, signed_arith); high = omega (arith, signed_arith) }) | standing r ↦ absurd (omega (arith, signed_arith)) | leaping l ↦ inl (inr (inr l)) ]
  lost m (before e) is k n = elim (motion e is) [ rising r ↦ absurd (omega (arith, signed_arith)) | standing r ↦ absurd (omega (arith, signed_arith)) | leaping l ↦ inl (inr (inr l)) ]
  lost m (not_behind e) is k n = elim (motion e is) [ rising r ↦ absurd (omega (arith, signed_arith)) | standing r ↦ absurd (omega (arith, signed_arith)) | leaping l ↦ inl (inr (inr l)) ]

  gained : (m : ℕ) (b : Bound) → Contains edges (edge_of b) → IsBroken s (t - 1) m b → IsKept s t m b → Meets ⊎ Near m
  gained m (behind e) is n k = elim (motion e is) [ rising r ↦ absurd (omega (arith, signed_arith)) | standing r ↦ absurd (omega (arith, signed_arith)) | leaping l ↦ inl (inr (inr l)) ]
  gained m (not_before e) is n k = elim (motion e is) [ rising r ↦ absurd (omega (arith, signed_arith)) | standing r ↦ absurd (omega (arith, signed_arith)) | leaping l ↦ inl (inr (inr l)) ]
  gained m (before e) is n k = elim (motion e is) [ rising r ↦ inr (record { edge = e; is_edge = is; rise = r; low = omega (arith, signed_arith); high = omega (arith, signed_arith) }) | standing r ↦ absurd (omega (arith, signed_arith)) | leaping l ↦ inl (inr (inr l)) ]
  gained m (not_behind e) is n k = elim (motion e is) [ rising r ↦ inr (record { edge = e; is_edge = is; rise = r; low = omega (arith, signed_arith); high = omega (arith, signed_arith) }) | standing r ↦ absurd (omega (arith, signed_arith)) | leaping l ↦ inl (inr (inr l)) ]

  -- the next moment would do a second later, but for an edge that stands in between
  next_too : (m : ℕ) → Near m → (b : Bound) → Contains edges (edge_of b) → IsKept s (t - 1) m b → IsBroken s t (m + 1) b → Meets
  next_too m n (behind e) is k x = let low = n.low in let high = n.high in elim (motion e is) [ rising r ↦ absurd (omega (arith, signed_arith)) | standing r ↦ absurd (omega (arith, signed_arith)) | leaping l ↦ inr (inr l) ]
  next_too m n (not_before e) is k x = let low = n.low in let high = n.high in elim (motion e is) [ rising r ↦ absurd (omega (arith, signed_arith)) | standing r ↦ absurd (omega (arith, signed_arith)) | leaping l ↦ inr (inr l) ]
  next_too m n (before e) is k x = let low = n.low in let high = n.high in elim (motion e is) [ rising r ↦ absurd (omega (arith, signed_arith)) | standing r ↦ near_edge n.edge e n.is_edge is n.rise r (omega (arith, signed_arith)) (omega (arith, signed_arith)) | leaping l ↦ inr (inr l) ]
  next_too m n (not_behind e) is k x = let low = n.low in let high = n.high in elim (motion e is) [ rising r ↦ absurd (omega (arith, signed_arith)) | standing r ↦ near_edge n.edge e n.is_edge is n.rise r (omega (arith, signed_arith)) (omega (arith, signed_arith)) | leaping l ↦ inr (inr l) ]

  -- the moment before would have done a second ago, but for an edge that stands in between
  one_before_too : (m : ℕ) → 0 < m → Near m → (b : Bound) → Contains edges (edge_of b) → IsBroken s (t - 1) (m - 1) b → IsKept s t m b → Meets
  one_before_too m some n (behind e) is x k = let low = n.low in let high = n.high in elim (motion e is) [ rising r ↦ absurd (omega (arith, signed_arith)) | standing r ↦ near_edge n.edge e n.is_edge is n.rise r (omega (arith, signed_arith)) (omega (arith, signed_arith)) | leaping l ↦ inr (inr l) ]
  one_before_too m some n (not_before e) is x k = let low = n.low in let high = n.high in elim (motion e is) [ rising r ↦ absurd (omega (arith, signed_arith)) | standing r ↦ near_edge n.edge e n.is_edge is n.rise r (omega (arith, signed_arith)) (omega (arith, signed_arith)) | leaping l ↦ inr (inr l) ]
  one_before_too m some n (before e) is x k = let low = n.low in let high = n.high in elim (motion e is) [ rising r ↦ absurd (omega (arith, signed_arith)) | standing r ↦ absurd (omega (arith, signed_arith)) | leaping l ↦ inr (inr l) ]
  one_before_too m some n (not_behind e) is x k = let low = n.low in let high = n.high in elim (motion e is) [ rising r ↦ absurd (omega (arith, signed_arith)) | standing r ↦ absurd (omega (arith, signed_arith)) | leaping l ↦ inr (inr l) ]

  -- the last moment of a span isn't before what it was
  last_later : (end : Option ℕ) → after_last end (t - 1) ≤ after_last end t
  last_later (Some end) = omega arith
  last_later None = omega arith

  next_inside : (end : Option ℕ) (m : ℕ) → ((e : ℕ) → end ≡ Some e → IsMark s h (pos e)) → m < after_last end (t - 1) → (m + 1 < after_last end t) ⊎ IsMark s h (pos (m + 1))
  next_inside None m mark less = inl (omega arith)
  next_inside (Some end) m mark less =
      elim (cases_lt (m + 1) end) [
        | inl before_end ↦ inl before_end
        | inr at_end ↦ let is : end ≡ m + 1 = omega arith in inr (subst (λ (e : ℕ). IsMark s h (pos e)) is (mark end refl))
      ]

  still_inside : (end : Option ℕ) (m : ℕ) → m < after_last end t → (m < after_last end (t - 1)) ⊎ ((m ≡ t) × (t - 1 < after_last end (t - 1)))
  still_inside (Some end) m less = inl less
  still_inside None m less =
      elim (cases_lt m t) [
        | inl before_now ↦ inl (omega arith)
        | inr is_now ↦ inr (omega arith, omega arith)
      ]

  module _ (bounds : List Bound) (inside : (b : Bound) → Contains bounds b → Contains edges (edge_of b)) (has_present : Contains edges present_moment) (span : SpanOf) (begins : IsMark s h (pos span.begin)) (ends : (e : ℕ) → span.end ≡ Some e → IsMark s h (pos e)) where
    -- the moment met all bounds a second before, and now none of the span's does
    pub forward : (m : ℕ) → HasMoment span (t - 1) m → list_all (is_kept s (t - 1) m) bounds ≡ true → ((m' : ℕ) → HasMoment span t m' → list_all (is_kept s t m') bounds ≡ false) → Meets
    forward m has ok none =
        let still : HasMoment span t m = elim has [ inl first ↦ inl first | inr within ↦ inr (within.0, omega (arith, within.1, last_later span.end)) ] in
        let one = find_broken (is_kept s t m) bounds (none m still) in
        elim (lost m one.0 (inside one.0 one.1) (kept s (t - 1) m one.0 (all_kept (is_kept s (t - 1) m) bounds ok one.0 one.1)) (broken s t m one.0 one.2)) [
          | inl meets ↦ meets
          | inr near ↦ elim has [
            | inl first ↦ near_mark near.edge (pos span.begin) near.is_edge near.rise begins (let low = near.low in let high = near.high in omega (arith, signed_arith)) (let low = near.low in let high = near.high in omega (arith, signed_arith))
            | inr within ↦ elim (next_inside span.end m ends within.1) [
              | inl next ↦
                  let two = find_broken (is_kept s t (m + 1)) bounds (none (m + 1) (inr (omega (arith, within.0), next))) in
                  next_too m near two.0 (inside two.0 two.1) (kept s (t - 1) m two.0 (all_kept (is_kept s (t - 1) m) bounds ok two.0 two.1)) (broken s t (m + 1) two.0 two.2)
              | inr mark ↦ near_mark near.edge (pos (m + 1)) near.is_edge near.rise mark (let low = near.low in let high = near.high in omega (arith, signed_arith)) (let low = near.low in let high = near.high in omega (arith, signed_arith))
            ]
          ]
        ]

    -- of a moment behind the span's first one, the one before met not all bounds a second before
    step_back : (m : ℕ) → span.begin < m → m - 1 < after_last span.end (t - 1) → Near m → list_all (is_kept s t m) bounds ≡ true → ((m' : ℕ) → HasMoment span (t - 1) m' → list_all (is_kept s (t - 1) m') bounds ≡ false) → Meets
    step_back m behind_begin within near ok none =
        let has : HasMoment span (t - 1) (m - 1) = elim (cases_eq (m - 1) span.begin) [ inl first ↦ inl first | inr other ↦ inr (omega arith, within) ] in
        let two = find_broken (is_kept s (t - 1) (m - 1)) bounds (none (m - 1) has) in
        one_before_too m (omega arith) near two.0 (inside two.0 two.1) (broken s (t - 1) (m - 1) two.0 two.2) (kept s t m two.0 (all_kept (is_kept s t m) bounds ok two.0 two.1))

    -- the moment meets all bounds now, and a second before none of the span's did
    pub backward : (m : ℕ) → HasMoment span t m → list_all (is_kept s t m) bounds ≡ true → ((m' : ℕ) → HasMoment span (t - 1) m' → list_all (is_kept s (t - 1) m') bounds ≡ false) → Meets
    backward m has ok none =
        let turn : HasMoment span (t - 1) m → Meets = λ had.
        let one = find_broken (is_kept s (t - 1) m) bounds (none m had) in
        elim (gained m one.0 (inside one.0 one.1) (broken s (t - 1) m one.0 one.2) (kept s t m one.0 (all_kept (is_kept s t m) bounds ok one.0 one.1))) [
          | inl meets ↦ meets
          | inr near ↦ elim had [
            | inl first ↦ near_mark near.edge (pos span.begin) near.is_edge near.rise begins (let low = near.low in let high = near.high in omega (arith, signed_arith)) (let low = near.low in let high = near.high in omega (arith, signed_arith))
            | inr within ↦ step_back m within.0 (omega (arith, within.1)) near ok none
          ]
        ] in
        elim has [
          | inl first ↦ turn (inl first)
          | inr within ↦ elim (still_inside span.end m within.1) [
            | inl before_last ↦ turn (inr (within.0, before_last))
            | inr at_last ↦
                step_back m within.0 (omega (arith, at_last.0, at_last.1))
                (record { edge = present_moment; is_edge = has_present; rise = rises present_moment refl; low = omega (arith, signed_arith, at_last.0); high = omega (arith, signed_arith, at_last.0) })
                ok none
          ]
        ]

  -- one moment meets all bounds at one of the two moments alone, and is a mark
  module _ (bounds : List Bound) (inside : (b : Bound) → Contains bounds b → Contains edges (edge_of b)) (m : ℕ) (mark : IsMark s h (pos m)) where
    by_near : Meets ⊎ Near m → Meets
    by_near found =
        elim found [
          | inl meets ↦ meets
          | inr near ↦ near_mark near.edge (pos m) near.is_edge near.rise mark (let low = near.low in let high = near.high in omega (arith, signed_arith)) (let low = near.low in let high = near.high in omega (arith, signed_arith))
        ]

    pub at_a_mark : list_all (is_kept s (t - 1) m) bounds ≢ list_all (is_kept s t m) bounds → Meets
    at_a_mark n =
        elim (cases_Bool (list_all (is_kept s (t - 1) m) bounds)) [
          | inl holding ↦ elim (cases_Bool (list_all (is_kept s t m) bounds)) [
            | inl also ↦ absurd (n (holding ∙ sym also))
            | inr failing ↦ let one = find_broken (is_kept s t m) bounds failing in by_near (lost m one.0 (inside one.0 one.1) (kept s (t - 1) m one.0 (all_kept (is_kept s (t - 1) m) bounds holding one.0 one.1)) (broken s t m one.0 one.2))
          ]
          | inr failing ↦ elim (cases_Bool (list_all (is_kept s t m) bounds)) [
            | inl holding ↦ let one = find_broken (is_kept s (t - 1) m) bounds failing in by_near (gained m one.0 (inside one.0 one.1) (broken s (t - 1) m one.0 one.2) (kept s t m one.0 (all_kept (is_kept s t m) bounds holding one.0 one.1)))
            | inr also ↦ absurd (n (failing ∙ sym also))
          ]
        ]
