-- A step of an entry up or down the heap.
use Rattle.std.proofs.Common.{◌⊎◌, ◌≡◌, ◌≢◌, ℕ, zero, suc, ◌+◌, ◌*◌, ◌<◌, ◌≤◌, Bool, true, false, List, length, get_or, refl, sym, ◌∙◌, ap, subst, inl, inr, arith}
use Rattle.std.specs.List.{SwappedAt}
use Rattle.std.proofs.lemmas.Bool.{cases_eq}
use Rattle.std.proofs.lemmas.List.{get_or_default}
use Rattle.filter_views.specs.declared.due.Due.{Due}
use Rattle.filter_views.specs.Due.{is_before, due_at, no_due}
use Rattle.filter_views.specs.Heap.{parent, NotBefore, IsFirstOfTwo, IsHeap, IsHeapBut, IsLow, IsHigh, PassesParent, PassesChild}
use Rattle.filter_views.proofs.Order.{is_before_order}

-- the order, at places of two lists
pub before_not_after : (x y : Due) → is_before x y ≡ true → is_before y x ≡ false
before_not_after = is_before_order.one_way

pub not_before_chain : (x y z : Due) → is_before x y ≡ false → is_before y z ≡ false → is_before x z ≡ false
not_before_chain = is_before_order.chain

pub not_before_self : (x : Due) → is_before x x ≡ false
not_before_self x = by (is_before x x) refl
  where
    by : (b : Bool) → is_before x x ≡ b → is_before x x ≡ false
    by true e = before_not_after x x e
    by false e = e

-- entries that were read and compared
pub compared : (ds : List Due) (j k : ℕ) (x y : Due) (r b : Bool) → j < length ds → k < length ds → x ≡ get_or ds j x → y ≡ get_or ds k y → r ≡ is_before x y → r ≡ b → is_before (due_at ds j) (due_at ds k) ≡ b
compared ds j k x y r b j_in k_in is_x is_y answer is_b =
    ap (λ z. is_before z (due_at ds k)) (get_or_default ds j no_due x j_in ∙ sym is_x) ∙ ap (λ z. is_before x z) (get_or_default ds k no_due y k_in ∙ sym is_y) ∙ sym answer ∙ is_b

-- entries read in another list
moved : (ds es : List Due) (j k m n : ℕ) → due_at es j ≡ due_at ds m → due_at es k ≡ due_at ds n → NotBefore ds m n → NotBefore es j k
moved ds es j k m n a b h = ap (λ x. is_before x (due_at es k)) a ∙ ap (λ y. is_before (due_at ds m) y) b ∙ h

module _ (ds es : List Due) (at p : ℕ) (low : at < length ds) (but : IsHeapBut ds at) (passes : PassesParent ds at p) (swapped : SwappedAt ds es at p) (size : length es ≡ length ds) where
  up_at : due_at es at ≡ due_at ds p
  up_at = swapped.0 no_due

  up_p : due_at es p ≡ due_at ds at
  up_p = swapped.1 no_due

  up_other : (k : ℕ) → k ≢ at → k ≢ p → due_at es k ≡ due_at ds k
  up_other k a b = swapped.2 k no_due a b

  -- the parent may be out of order then, and nothing else
  pub risen : IsHeapBut es p
  risen = record { far = far; gap = gap }
    where
      far : (k : ℕ) → 0 < k → k < length es → k ≢ p → parent k ≢ p → NotBefore es k (parent k)
      far k pos lt not_p not_under = by (cases_eq (parent k) at)
        where
          other : k ≢ at
          other e = not_under (ap parent e ∙ sym passes.is_parent)

          by : (parent k ≡ at) ⊎ (parent k ≢ at) → NotBefore es k (parent k)
          by (inl e) = moved ds es k (parent k) k p (up_other k other not_p) (ap (due_at es) e ∙ up_at) (subst (λ q. NotBefore ds k q) (sym passes.is_parent) (but.gap k pos (omega arith) e passes.not_first))
          by (inr e) = moved ds es k (parent k) k (parent k) (up_other k other not_p) (up_other (parent k) e not_under) (but.far k pos (omega arith) other e)

      gap : (k : ℕ) → 0 < k → k < length es → parent k ≡ p → 0 < p → NotBefore es k (parent p)
      gap k pos lt under first = by (cases_eq k at)
        where
          less : p < at
          less = omega (arith, passes.is_parent, passes.not_first)

          higher : parent p < p
          higher = omega arith

          top : due_at es (parent p) ≡ due_at ds (parent p)
          top = up_other (parent p) (λ e. absurd (omega (arith, less, higher, e))) (λ e. absurd (omega (arith, higher, e)))

          edge : NotBefore ds p (parent p)
          edge = but.far p first (omega (arith, less, low)) (λ e. absurd (omega (arith, less, e))) (λ e. absurd (omega (arith, less, higher, e)))

          by : (k ≡ at) ⊎ (k ≢ at) → NotBefore es k (parent p)
          by (inl e) = moved ds es k (parent p) p (parent p) (ap (due_at es) e ∙ up_at) top edge
          by (inr e) =
              let own : NotBefore ds k p = subst (λ q. NotBefore ds k q) under (but.far k pos (omega arith) e (λ z. absurd (omega (arith, less, z, under)))) in
              moved ds es k (parent p) k (parent p) (up_other k e (λ z. absurd (omega (arith, z, under, first)))) top (not_before_chain _ _ _ own edge)

module _ (ds es : List Due) (at c : ℕ) (but : IsHeapBut ds at) (low : IsLow ds at) (passes : PassesChild ds at c) (swapped : SwappedAt ds es at c) (size : length es ≡ length ds) where
  down_at : due_at es at ≡ due_at ds c
  down_at = swapped.0 no_due

  down_c : due_at es c ≡ due_at ds at
  down_c = swapped.1 no_due

  down_other : (k : ℕ) → k ≢ at → k ≢ c → due_at es k ≡ due_at ds k
  down_other k a b = swapped.2 k no_due a b

  below : at < c
  below = omega (arith, passes.is_child, passes.not_first)

  -- the child may be out of order then, and nothing else
  pub sunk : IsHeapBut es c
  sunk = record { far = far; gap = gap }
    where
      far : (k : ℕ) → 0 < k → k < length es → k ≢ c → parent k ≢ c → NotBefore es k (parent k)
      far k pos lt not_c not_under = by (cases_eq k at) (cases_eq (parent k) at)
        where
          by : (k ≡ at) ⊎ (k ≢ at) → (parent k ≡ at) ⊎ (parent k ≢ at) → NotBefore es k (parent k)
          by (inl e) m =
              let up : parent k < k = omega arith in
              moved ds es k (parent k) c (parent at) (ap (due_at es) e ∙ down_at) (down_other (parent k) (λ z. absurd (omega (arith, z, up, e))) not_under ∙ ap (λ j. due_at ds (parent j)) e) (but.gap c passes.not_first passes.in_range passes.is_child (omega (arith, e, pos)))
          by (inr e) (inl m) = moved ds es k (parent k) k c (down_other k e not_c) (ap (due_at es) m ∙ down_at) (passes.least k pos (omega arith) m)
          by (inr e) (inr m) = moved ds es k (parent k) k (parent k) (down_other k e not_c) (down_other (parent k) m not_under) (but.far k pos (omega arith) e m)

      gap : (k : ℕ) → 0 < k → k < length es → parent k ≡ c → 0 < c → NotBefore es k (parent c)
      gap k pos lt under first =
          let more : c < k = omega (arith, under, first, pos) in
          let b : at < c = below in
          let own : NotBefore ds k c = subst (λ q. NotBefore ds k q) under (but.far k pos (omega arith) (λ e. absurd (omega (arith, e, more, b))) (λ e. absurd (omega (arith, e, under, b)))) in
          moved ds es k (parent c) k c (down_other k (λ e. absurd (omega (arith, e, more, b))) (λ e. absurd (omega (arith, e, more)))) (ap (due_at es) passes.is_child ∙ down_at) own

  pub sunk_low : IsLow es c
  sunk_low first = moved ds es c (parent c) at c down_c (ap (due_at es) passes.is_child ∙ down_at) (before_not_after _ _ passes.before)

-- where it isn't out of order, all is in order
pub in_order : (ds : List Due) (at : ℕ) → IsHeapBut ds at → IsLow ds at → IsHigh ds at → IsHeap ds
in_order ds at but low high k pos lt = by (cases_eq k at) (cases_eq (parent k) at)
  where
    by : (k ≡ at) ⊎ (k ≢ at) → (parent k ≡ at) ⊎ (parent k ≢ at) → NotBefore ds k (parent k)
    by (inl e) m = subst (λ j. NotBefore ds j (parent j)) (sym e) (low (omega (arith, e, pos)))
    by (inr e) (inl m) = subst (λ j. NotBefore ds k j) (sym m) (high k pos lt m)
    by (inr e) (inr m) = but.far k pos lt e m

-- the first of a heap doesn't come after any other
pub first_is_least : (ds : List Due) → IsHeap ds → (n k : ℕ) → k ≤ n → k < length ds → NotBefore ds k 0
first_is_least ds heap zero k le lt = let z : k ≡ 0 = omega arith in subst (λ j. NotBefore ds j 0) (sym z) (not_before_self _)
first_is_least ds heap (suc n) k le lt = by (first_is_least ds heap n) (cases_eq k 0)
  where
    by : ((j : ℕ) → j ≤ n → j < length ds → NotBefore ds j 0) → (k ≡ 0) ⊎ (k ≢ 0) → NotBefore ds k 0
    by less (inl z) = subst (λ j. NotBefore ds j 0) (sym z) (not_before_self _)
    by less (inr e) =
        let pos : 0 < k = omega (arith, e) in
        not_before_chain _ _ _ (heap k pos lt) (less (parent k) (omega (arith, le, pos)) (omega (arith, lt, pos)))

-- a heap whose entry at a place is written over is one but for that entry
pub written : (ds es : List Due) (at : ℕ) → IsHeap ds → at < length ds → length es ≤ length ds → ((k : ℕ) → k ≢ at → k < length es → due_at es k ≡ due_at ds k) → IsHeapBut es at
written ds es at heap lt size same = record {
  far = λ k pos l e m. moved ds es k (parent k) k (parent k) (same k e l) (same (parent k) m (omega (arith, l, pos))) (heap k pos (omega (arith, l, size)));
  gap = λ k pos l under first.
      let up : parent at < at = omega arith in
      let more : at < k = omega (arith, under, first) in
      let own : NotBefore ds k at = subst (λ q. NotBefore ds k q) under (heap k pos (omega (arith, l, size))) in
      moved ds es k (parent at) k (parent at) (same k (λ e. absurd (omega (arith, e, more))) l) (same (parent at) (λ e. absurd (omega (arith, e, up))) (omega (arith, up, more, l)))
      (not_before_chain _ _ _ own (heap at first lt));
}

-- so is a heap with one more entry at its end
pub grown : (ds es : List Due) → IsHeap ds → length es ≡ length ds + 1 → ((k : ℕ) → k < length ds → due_at es k ≡ due_at ds k) → IsHeapBut es (length ds)
grown ds es heap size same = record {
  far = λ k pos l e m. let i : k < length ds = omega (arith, l, size, e) in moved ds es k (parent k) k (parent k) (same k i) (same (parent k) (omega (arith, i, pos))) (heap k pos i);
  gap = λ k pos l under first. absurd (omega (arith, under, l, size, first));
}

-- a front of a heap is a heap
pub front_is_heap : (ds es : List Due) → IsHeap ds → length es ≤ length ds → ((k : ℕ) → k < length es → due_at es k ≡ due_at ds k) → IsHeap es
front_is_heap ds es heap size same k pos l = moved ds es k (parent k) k (parent k) (same k l) (same (parent k) (omega (arith, l, pos))) (heap k pos (omega (arith, l, size)))

module _ (ds : List Due) (at c : ℕ) (first : IsFirstOfTwo ds (2 * at + 1) c) where
  -- no child comes before the first of the two
  pub least_child : (k : ℕ) → 0 < k → k < length ds → parent k ≡ at → NotBefore ds k c
  least_child k pos lt under = by (cases_eq k (2 * at + 1))
    where
      by : (k ≡ 2 * at + 1) ⊎ (k ≢ 2 * at + 1) → NotBefore ds k c
      by (inl e) = subst (λ j. NotBefore ds j c) (sym e) first.not_left
      by (inr e) =
          let right : k ≡ 2 * at + 1 + 1 = omega (arith, under, pos, e) in
          subst (λ j. NotBefore ds j c) (sym right) (first.not_right (omega (arith, lt, right)))

  pub passes_child : is_before (due_at ds c) (due_at ds at) ≡ true → PassesChild ds at c
  passes_child before = record {
    in_range = first.in_range;
    not_first = omega (arith, first.not_less);
    is_child = omega (arith, first.not_less, first.not_more);
    before = before;
    least = least_child;
  }

  pub is_high : is_before (due_at ds c) (due_at ds at) ≡ false → IsHigh ds at
  is_high not_before k pos lt under = not_before_chain _ _ _ (least_child k pos lt under) not_before
