-- One event more behind others.
use Rattle.std.proofs.Common.{◌≡◌, ◌≤◌, ◌+◌, ◌⊎◌, ℕ, List, [], ◌∷◌, ◌++◌, inl, inr, refl, ap₂, sym, subst, arith}
use Rattle.tracker_server.specs.declared.event.Event.{Event}
use Rattle.tracker_rounds.specs.Trail.{looks_in, others_in, IsNeverAhead}

nothing_more : (n : ℕ) → n ≡ 0 + n
nothing_more n = omega arith

pub looks_more : (events : List Event) (e : Event) → looks_in (events ++ e ∷ []) ≡ looks_in events + looks_in (e ∷ [])
looks_more [] e = nothing_more (looks_in (e ∷ []))
looks_more (x ∷ events) e = let rest = looks_more events e in omega (arith, rest)

pub others_more : (events : List Event) (e : Event) → others_in (events ++ e ∷ []) ≡ others_in events + others_in (e ∷ [])
others_more [] e = nothing_more (others_in (e ∷ []))
others_more (x ∷ events) e = let rest = others_more events e in omega (arith, rest)

-- a front of a list with one item more is a front of the list, or the whole
fronts : (front back events : List Event) (e : Event) → events ++ e ∷ [] ≡ front ++ back
    → (front ≡ events ++ e ∷ []) ⊎ ((rest : List Event) × (events ≡ front ++ rest))
fronts [] back events e is = inr (events, refl)
fronts (x ∷ front) back [] e is = inl (one front back is)
  where
    one : (front back : List Event) → e ∷ [] ≡ x ∷ front ++ back → x ∷ front ≡ e ∷ []
    one [] back is = cc is
    one (y ∷ front) back is = cc is
fronts (x ∷ front) back (y ∷ events) e is =
    let same : y ≡ x = cc is in
    let rest : events ++ e ∷ [] ≡ front ++ back = cc is in
    next (fronts front back events e rest) same
  where
    next : (front ≡ events ++ e ∷ []) ⊎ ((rest : List Event) × (events ≡ front ++ rest)) → y ≡ x
        → (x ∷ front ≡ y ∷ events ++ e ∷ []) ⊎ ((rest : List Event) × (y ∷ events ≡ x ∷ front ++ rest))
    next (inl whole) same = inl (ap₂ (λ z l. z ∷ l) (sym same) whole)
    next (inr (rest, is)) same = inr (rest, ap₂ (λ z l. z ∷ l) same is)

pub never_ahead_more : (events : List Event) (e : Event) → IsNeverAhead events → looks_in (events ++ e ∷ []) ≤ others_in (events ++ e ∷ []) → IsNeverAhead (events ++ e ∷ [])
never_ahead_more events e never last = λ front back is. choose front (fronts front back events e is)
  where
    choose : (front : List Event) → (front ≡ events ++ e ∷ []) ⊎ ((rest : List Event) × (events ≡ front ++ rest)) → looks_in front ≤ others_in front
    choose front (inl whole) = subst (λ l. looks_in l ≤ others_in l) (sym whole) last
    choose front (inr (rest, is)) = never front rest is

pub never_ahead_none : IsNeverAhead []
never_ahead_none = λ front back is. none front back is
  where
    none : (front back : List Event) → [] ≡ front ++ back → looks_in front ≤ others_in front
    none [] back is = omega arith
    none (x ∷ front) back is = cc is
