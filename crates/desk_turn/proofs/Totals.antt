-- Sums over all views, and lists read by place.
use Rattle.std.proofs.Common.{◌≡◌, ℕ, zero, suc, ◌+◌, ◌≤◌, ◌<◌, List, [], ◌∷◌, ◌++◌, ◌⊎◌, length, set, inl, inr, refl, sym, ap, arith}
use mathlib.Core.Option.{some, some-injective, some-ne-none}
use lib.ListN.{get_elem?}
use Rattle.desk_turn.specs.History.{total}

module _ {X : Type 0} (f : X → ℕ) where
  pub total_set : (xs : List X) (i : ℕ) (x y : X) → get_elem? xs i ≡ some x → total f (set xs i y) + f x ≡ total f xs + f y
  total_set [] i x y e = absurd (some-ne-none x (sym e))
  total_set (z ∷ zs) zero x y e = let h : f z ≡ f x = ap f (some-injective z x e) in omega (arith, h)
  total_set (z ∷ zs) (suc i) x y e = let h = total_set zs i x y e in omega (arith, h)

  pub total_snoc : (xs : List X) (x : X) → total f (xs ++ x ∷ []) ≡ total f xs + f x
  total_snoc [] x = omega arith
  total_snoc (z ∷ zs) x = let h = total_snoc zs x in omega (arith, h)

  -- one of them is no more than all
  pub total_one : (xs : List X) (i : ℕ) (x : X) → get_elem? xs i ≡ some x → f x ≤ total f xs
  total_one [] i x e = absurd (some-ne-none x (sym e))
  total_one (z ∷ zs) zero x e = let h : f z ≡ f x = ap f (some-injective z x e) in omega (arith, h)
  total_one (z ∷ zs) (suc i) x e = let h = total_one zs i x e in omega (arith, h)

module _ {X : Type 0} where
  -- the last of a longer list, or one of the list before
  pub at_longer_by_one : (xs : List X) (a b : X) (j : ℕ) → get_elem? (xs ++ a ∷ []) j ≡ some b → (get_elem? xs j ≡ some b) ⊎ ((j ≡ length xs) × (a ≡ b))
  at_longer_by_one [] a b zero e = inr (refl, some-injective a b e)
  at_longer_by_one [] a b (suc j) e = absurd (some-ne-none b (sym e))
  at_longer_by_one (x ∷ xs) a b zero e = inl e
  at_longer_by_one (x ∷ xs) a b (suc j) e = elim (at_longer_by_one xs a b j e) [
    | inl here ↦ inl here
    | inr last ↦ inr (ap suc last.0, last.1)
  ]

  pub at_below : (xs : List X) (j : ℕ) (x : X) → get_elem? xs j ≡ some x → j < length xs
  at_below [] j x e = absurd (some-ne-none x (sym e))
  at_below (z ∷ zs) zero x e = omega arith
  at_below (z ∷ zs) (suc j) x e = let h = at_below zs j x e in omega (arith, h)

  -- where all of f is at one place, and g is 0 wherever f is, all of g is there too
  pub total_there : (f g : X → ℕ) → (xs : List X) → ((i : ℕ) (x : X) → get_elem? xs i ≡ some x → f x ≡ 0 → g x ≡ 0) → total f xs ≡ 0 → total g xs ≡ 0
  total_there f g [] none e = refl
  total_there f g (z ∷ zs) none e =
      let here = none 0 z refl (omega (arith, e)) in
      let later = total_there f g zs (λ i x at. none (suc i) x at) (omega (arith, e)) in
      omega (arith, here, later)

  pub total_whole : (f g : X → ℕ) → (xs : List X) → ((i : ℕ) (x : X) → get_elem? xs i ≡ some x → f x ≡ 0 → g x ≡ 0) → (i : ℕ) (x : X) → get_elem? xs i ≡ some x → total f xs ≡ f x → total g xs ≡ g x
  total_whole f g [] none i x at e = absurd (some-ne-none x (sym at))
  total_whole f g (z ∷ zs) none zero x at e =
      let same : f z ≡ f x = ap f (some-injective z x at) in
      let too : g z ≡ g x = ap g (some-injective z x at) in
      let later = total_there f g zs (λ i x at. none (suc i) x at) (omega (arith, e, same)) in
      omega (arith, too, later)
  total_whole f g (z ∷ zs) none (suc i) x at e =
      let some_of = total_one f zs i x at in
      let here = none 0 z refl (omega (arith, e, some_of)) in
      let later = total_whole f g zs (λ i x at. none (suc i) x at) i x at (omega (arith, e, some_of)) in
      omega (arith, here, later)
