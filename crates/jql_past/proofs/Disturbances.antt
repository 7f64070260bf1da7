-- When an edge that stands comes to another second, or another one near it.
use Rattle.std.proofs.Common.{◌≡◌, ◌≢◌, ◌⊎◌, ℕ, ◌≤◌, false, List, [], ◌∷◌, arith, inl, inr, refl, ap, subst, Option, ℤ, pos, ◌+ℤ◌, ◌*ℤ◌, ◌<ℤ◌, ◌≤ℤ◌, lit<}
use Rattle.std.specs.Ordering.{int_cmp}
use Rattle.std.proofs.lemmas.Int.{ints, by_lt_z}
use Rattle.jiff_core.proofs.SignedLemmas.{signed_arith, int_div_euclid-parts}
use Rattle.field_values.specs.Years.{last_second}
use Rattle.relative_dates.specs.declared.term.Term.{Term}
use Rattle.relative_dates.specs.Term.{moves}
use Rattle.relative_dates.specs.Calendar.{Zone, IsZone, local_second, local_day, midnight}
use Rattle.relative_dates.specs.Change.{compared}
use Rattle.relative_dates.proofs.OrderLemmas.{first_at-first, first_at-le}
use Rattle.jql_bound.specs.declared.past.PastPredicate.{PastPredicate}
use Rattle.jql_meaning.specs.Surroundings.{Surroundings}
use Rattle.jql_meaning.specs.Comparison.{second_now}
use Rattle.jql_meaning.specs.Edges.{date, day, day_after, edge_at}
use Rattle.jql_present.specs.Steady.{earlier}
use Rattle.jql_past.specs.Next.{IsNext, ToOne}
use Rattle.jql_past.specs.Near.{OneIsNear, IsDisturbed}
use Rattle.jql_past.proofs.Nexts.{next_of_same, next_of_both}

-- ---- a date

same_second : (x y : ℤ) → int_cmp x y ≡ int_cmp y y → x ≡ y
same_second x y same = grind (arith, ints)

-- its next change from where it stands
date_disturbed : (s : Surroundings) (predicates : List PastPredicate) (at : ℕ) (d : Term) (one other : Option ℕ) → moves d ≡ false → IsNext (λ t. compared s.calendar d (second_now s at d) t ≢ compared s.calendar d (second_now s at d) at) at one → IsNext (OneIsNear predicates (second_now s at d) (pos 2)) at other → IsNext (IsDisturbed s predicates at (date d)) at (earlier one other)
date_disturbed s predicates at d one other stands f g =
    next_of_same (λ t. (compared s.calendar d (second_now s at d) t ≢ compared s.calendar d (second_now s at d) at) ⊎ OneIsNear predicates (second_now s at d) (pos 2) t) (IsDisturbed s predicates at (date d)) at (earlier one other)
    (λ t low high e. (stands, elim e [ inl differs ↦ inl (λ same. differs (ap (λ x. int_cmp x (second_now s at d)) same)) | inr near ↦ inr near ]))
    (λ t low high e. elim e.1 [ inl moved ↦ inl (λ same. moved (same_second (second_now s t d) (second_now s at d) same)) | inr near ↦ inr near ])
    (next_of_both _ _ at one other f g)

-- the same, where the second is computed
pub date_disturbed_at : (s : Surroundings) (predicates : List PastPredicate) (at : ℕ) (d : Term) (second : ℤ) (one other : Option ℕ) → moves d ≡ false → second ≡ second_now s at d → IsNext (λ t. compared s.calendar d second t ≢ compared s.calendar d second at) at one → IsNext (OneIsNear predicates second (pos 2)) at other → IsNext (IsDisturbed s predicates at (date d)) at (earlier one other)
date_disturbed_at s predicates at d second one other stands is f g =
    date_disturbed s predicates at d one other stands
    (subst (λ m. IsNext (λ t. compared s.calendar d m t ≢ compared s.calendar d m at) at one) is f)
    (subst (λ m. IsNext (OneIsNear predicates m (pos 2)) at other) is g)

-- ---- a local day

module _ (zone : Zone) (is : IsZone zone) where
  begun : (x : ℤ) → midnight zone (local_day zone x) ≤ℤ x
  begun x =
      let first = first_at-first zone (local_day zone x *ℤ pos 86_400) is in
      let parts = int_div_euclid-parts (local_second zone x) 86_400 (lit< tt) in
      by_lt_z x (midnight zone (local_day zone x))
      (λ less. let early = first.before x less in absurd (omega (arith, signed_arith, parts)))
      (λ more. more)

  day_from : (x k : ℤ) → midnight zone k ≤ℤ x → k ≤ℤ local_day zone x
  day_from x k more =
      let first = first_at-first zone (k *ℤ pos 86_400) is in
      let come = first.come in
      let parts = int_div_euclid-parts (local_second zone (midnight zone k)) 86_400 (lit< tt) in
      let order = is.days_go_on (midnight zone k) x more in
      omega (arith, signed_arith, parts)

  day_before : (x k : ℤ) → x <ℤ midnight zone k → local_day zone x <ℤ k
  day_before x k less =
      let first = first_at-first zone (k *ℤ pos 86_400) is in
      let early = first.before x less in
      let parts = int_div_euclid-parts (local_second zone x) 86_400 (lit< tt) in
      omega (arith, signed_arith, parts)

  ahead_of_it : (x : ℤ) → x <ℤ midnight zone (local_day zone x +ℤ pos 1)
  ahead_of_it x =
      by_lt_z x (midnight zone (local_day zone x +ℤ pos 1))
      (λ less. less)
      (λ more. let on = day_from x (local_day zone x +ℤ pos 1) more in absurd (omega (arith, signed_arith)))

  -- a later second has passed the end of the day, or is on it
  passed : (x y : ℤ) → int_cmp y (midnight zone (local_day zone x +ℤ pos 1)) ≢ int_cmp x (midnight zone (local_day zone x +ℤ pos 1)) → midnight zone (local_day zone x +ℤ pos 1) ≤ℤ y
  passed x y differs =
      let less = ahead_of_it x in
      by_lt_z y (midnight zone (local_day zone x +ℤ pos 1))
      (λ also. absurd (differs (both_less y x (midnight zone (local_day zone x +ℤ pos 1)) also less)))
      (λ more. more)
    where
      both_less : (y x m : ℤ) → y <ℤ m → x <ℤ m → int_cmp y m ≡ int_cmp x m
      both_less y x m one other = grind (arith, ints)

  stayed : (x y : ℤ) → x ≤ℤ y → int_cmp y (midnight zone (local_day zone x +ℤ pos 1)) ≡ int_cmp x (midnight zone (local_day zone x +ℤ pos 1)) → local_day zone y ≡ local_day zone x
  stayed x y order same =
      let less = ahead_of_it x in
      let before_end : y <ℤ midnight zone (local_day zone x +ℤ pos 1) = also_less y x (midnight zone (local_day zone x +ℤ pos 1)) less same in
      let high = day_before y (local_day zone x +ℤ pos 1) before_end in
      let low = is.days_go_on x y order in
      omega (arith, signed_arith)
    where
      also_less : (y x m : ℤ) → x <ℤ m → int_cmp y m ≡ int_cmp x m → y <ℤ m
      also_less y x m less same = grind (arith, ints)

  begin_moves : (x y : ℤ) → midnight zone (local_day zone x +ℤ pos 1) ≤ℤ y → midnight zone (local_day zone y) ≢ midnight zone (local_day zone x)
  begin_moves x y more same =
      let later = day_from y (local_day zone x +ℤ pos 1) more in
      let order = first_at-le zone ((local_day zone x +ℤ pos 1) *ℤ pos 86_400) (local_day zone y *ℤ pos 86_400) is (omega (arith, signed_arith)) in
      let first = begun x in
      let next = ahead_of_it x in
      absurd (omega (arith, signed_arith))

  end_moves : (x y : ℤ) → midnight zone (local_day zone x +ℤ pos 1) ≤ℤ y → midnight zone (local_day zone y +ℤ pos 1) ≢ midnight zone (local_day zone x +ℤ pos 1)
  end_moves x y more same = let next = ahead_of_it y in absurd (omega (arith, signed_arith))

-- both ends of a date's day stand until it comes to the day's end
day_disturbed : (s : Surroundings) (predicates : List PastPredicate) (at : ℕ) (d : Term) (a b c : Option ℕ) → IsZone s.calendar.zone → ((t : ℕ) → at ≤ t → t ≤ last_second → second_now s at d ≤ℤ second_now s t d) → IsNext (λ t. compared s.calendar d (edge_at s (day_after d) at) t ≢ compared s.calendar d (edge_at s (day_after d) at) at) at a → IsNext (OneIsNear predicates (edge_at s (day d) at) (pos 2)) at b → IsNext (OneIsNear predicates (edge_at s (day_after d) at) (pos 2)) at c → IsNext (ToOne (IsDisturbed s predicates at) (day d ∷ day_after d ∷ [])) at (earlier a (earlier b c))
day_disturbed s predicates at d a b c is rises f g h =
    let zone = s.calendar.zone in
    let x = second_now s at d in
    next_of_same
    (λ t. (compared s.calendar d (edge_at s (day_after d) at) t ≢ compared s.calendar d (edge_at s (day_after d) at) at) ⊎ (OneIsNear predicates (edge_at s (day d) at) (pos 2) t ⊎ OneIsNear predicates (edge_at s (day_after d) at) (pos 2) t))
    (ToOne (IsDisturbed s predicates at) (day d ∷ day_after d ∷ [])) at (earlier a (earlier b c))
    (λ t low high e. elim e [
      | inl differs ↦ inl (refl, inl (begin_moves zone is x (second_now s t d) (passed zone is x (second_now s t d) differs)))
      | inr near ↦ elim near [ inl n ↦ inl (refl, inr n) | inr n ↦ inr (inl (refl, inr n)) ]
    ])
    (λ t low high e. elim e [
      | inl begin ↦ elim begin.1 [
        | inl moved ↦ inl (λ same. moved (ap (midnight zone) (stayed zone is x (second_now s t d) (rises t (omega arith) high) same)))
        | inr n ↦ inr (inl n)
      ]
      | inr rest ↦ elim rest [
        | inl end ↦ elim end.1 [
          | inl moved ↦ inl (λ same. moved (ap (λ z. midnight zone (z +ℤ pos 1)) (stayed zone is x (second_now s t d) (rises t (omega arith) high) same)))
          | inr n ↦ inr (inr n)
        ]
        | inr none ↦ absurd none
      ]
    ])
    (next_of_both _ _ at a (earlier b c) f (next_of_both _ _ at b c g h))

-- the same, where the two ends are computed
pub day_disturbed_at : (s : Surroundings) (predicates : List PastPredicate) (at : ℕ) (d : Term) (begin end : ℤ) (a b c : Option ℕ) → IsZone s.calendar.zone → ((t : ℕ) → at ≤ t → t ≤ last_second → second_now s at d ≤ℤ second_now s t d) → begin ≡ edge_at s (day d) at → end ≡ edge_at s (day_after d) at → IsNext (λ t. compared s.calendar d end t ≢ compared s.calendar d end at) at a → IsNext (OneIsNear predicates begin (pos 2)) at b → IsNext (OneIsNear predicates end (pos 2)) at c → IsNext (ToOne (IsDisturbed s predicates at) (day d ∷ day_after d ∷ [])) at (earlier a (earlier b c))
day_disturbed_at s predicates at d begin end a b c is rises first last f g h =
    day_disturbed s predicates at d a b c is rises
    (subst (λ m. IsNext (λ t. compared s.calendar d m t ≢ compared s.calendar d m at) at a) last f)
    (subst (λ m. IsNext (OneIsNear predicates m (pos 2)) at b) first g)
    (subst (λ m. IsNext (OneIsNear predicates m (pos 2)) at c) last h)
