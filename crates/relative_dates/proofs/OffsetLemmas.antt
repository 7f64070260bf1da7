-- What a table of offsets says of a moment, by the steps that have come.
use Rattle.std.proofs.Common.{◌≡◌, ℕ, zero, suc, ◌+◌, ◌-◌, ◌<◌, ◌≤◌, List, [], ◌∷◌, ◌++◌, length, take, drop, get_or, refl, arith, ℤ, pos, ◌+ℤ◌, ◌*ℤ◌, ◌≤ℤ◌, ◌<ℤ◌, ◌∙◌, ap, sym, true, false}
use Rattle.std.proofs.Common.{not, length-drop, get_or-drop, inl, inr, lit<}
use Rattle.std.proofs.Math.Nat.{eq-or-lt_of_le}
use Rattle.std.specs.Prelude.{int_lt, AllPairs, All}
use Rattle.std.specs.Int.{int_div_euclid}
use Rattle.std.specs.List.Sorted.{IsPartitionedBy}
use Rattle.jiff_core.proofs.SignedLemmas.{int_div_euclid-parts}
use Rattle.std.specs.List.{AllWithin}
use Rattle.std.proofs.lemmas.Int.{ints, by_lt_z}
use Rattle.jiff_core.proofs.SignedLemmas.{signed_arith}
use Rattle.relative_dates.specs.declared.calendar.OffsetStep.{OffsetStep}
use Rattle.relative_dates.specs.Calendar.{minutes_from, IsOffset, IsStep, IsZone}

-- a step that has not come leaves the present minutes
pub minutes_from-before : (m : ℤ) (x : OffsetStep) (xs : List OffsetStep) (at : ℤ) → at <ℤ x.from → minutes_from m (x ∷ xs) at ≡ m
unfolding minutes_from
minutes_from-before m x xs at h =
    let e : int_lt at x.from ≡ true = grind (arith, ints) in rw e refl

-- one that has come puts its own in their place
pub minutes_from-come : (m : ℤ) (x : OffsetStep) (xs : List OffsetStep) (at : ℤ) → x.from ≤ℤ at → minutes_from m (x ∷ xs) at ≡ minutes_from x.minutes xs at
unfolding minutes_from
minutes_from-come m x xs at h =
    let e : int_lt at x.from ≡ false = grind (arith, ints) in rw e refl

-- the minutes of the last step of a list
pub last_minutes : ℤ → List OffsetStep → ℤ
last_minutes m [] = m
last_minutes m (x ∷ xs) = last_minutes x.minutes xs

pub last_minutes-get_or : (m : ℤ) (xs : List OffsetStep) (n : ℕ) (d : OffsetStep) → n < length xs → last_minutes m (take (suc n) xs) ≡ (get_or xs n d).minutes
unfolding last_minutes
last_minutes-get_or m [] n d h = absurd (omega arith)
last_minutes-get_or m (x ∷ []) zero d h = refl
last_minutes-get_or m (x ∷ y ∷ ys) zero d h = refl
last_minutes-get_or m (x ∷ xs) (suc n) d h = last_minutes-get_or x.minutes xs n d (omega arith)

-- the steps that have come may be passed over
pub minutes_from-drop : (m : ℤ) (xs : List OffsetStep) (n : ℕ) (at : ℤ) → n ≤ length xs → AllWithin (λ step. step.from ≤ℤ at) xs 0 n → minutes_from m xs at ≡ minutes_from (last_minutes m (take n xs)) (drop n xs) at
unfolding last_minutes
minutes_from-drop m xs zero at h come = refl
minutes_from-drop m [] (suc n) at h come = refl
minutes_from-drop m (x ∷ xs) (suc n) at h come =
    minutes_from-come m x xs at (come 0 x (omega arith) (omega arith))
    ∙ minutes_from-drop x.minutes xs n at (omega arith) (λ k d l r. come (suc k) d (omega arith) (omega arith))

-- and where no other has come, the last of them holds
pub minutes_from-none : (m : ℤ) (xs : List OffsetStep) (at : ℤ) → AllWithin (λ step. at <ℤ step.from) xs 0 (length xs) → minutes_from m xs at ≡ m
unfolding minutes_from
minutes_from-none m [] at to_come = refl
minutes_from-none m (x ∷ xs) at to_come = minutes_from-before m x xs at (to_come 0 x (omega arith) (omega arith))

-- no rising step that has come stands behind one that has not
pub partitioned : (xs : List OffsetStep) (at : ℤ) → AllPairs (λ step later. step.from <ℤ later.from) xs → IsPartitionedBy (λ step. not (int_lt at step.from)) xs
partitioned xs at rising i j d le lt e =
    let later : (get_or xs j d).from ≤ℤ at = grind (arith, ints) in
    let order : (get_or xs i d).from ≤ℤ (get_or xs j d).from =
    elim (eq-or-lt_of_le le) [ inl same ↦ rw same (omega (arith, ints)) | inr less ↦ omega (arith, ints, rising i j d less lt) ] in
    let come : (get_or xs i d).from ≤ℤ at = omega (arith, ints) in
    grind (arith, ints)

-- the test that has_come makes, as an order
pub has_come : (at from : ℤ) → not (int_lt at from) ≡ true → from ≤ℤ at
has_come at from e = grind (arith, ints)

pub has_not_come : (at from : ℤ) → not (int_lt at from) ≡ false → at <ℤ from
has_not_come at from e = grind (arith, ints)

-- the minutes in force, by how many steps have come
pub minutes_from-count : (m : ℤ) (xs : List OffsetStep) (at : ℤ) (n : ℕ) → n ≤ length xs → AllWithin (λ step. step.from ≤ℤ at) xs 0 n → AllWithin (λ step. at <ℤ step.from) xs n (length xs) → minutes_from m xs at ≡ last_minutes m (take n xs)
minutes_from-count m xs at n in' come to_come =
    minutes_from-drop m xs n at in' come
    ∙ minutes_from-none (last_minutes m (take n xs)) (drop n xs) at (λ k d l h.
    let long : length (drop n xs) ≡ length xs - n = length-drop n xs in
    rw (get_or-drop n xs k d) (to_come (n + k) d (omega arith) (omega arith)))

-- the local day rises with the moment while the minutes stay
pub same_minutes : (m at later : ℤ) → at ≤ℤ later → int_div_euclid (at +ℤ (pos 60 *ℤ m)) (pos 86_400) ≤ℤ int_div_euclid (later +ℤ (pos 60 *ℤ m)) (pos 86_400)
same_minutes m at later h =
    omega (arith, signed_arith, int_div_euclid-parts (at +ℤ (pos 60 *ℤ m)) 86_400 (lit< tt), int_div_euclid-parts (later +ℤ (pos 60 *ℤ m)) 86_400 (lit< tt))

pub one_offset : (m : ℤ) → IsOffset m → IsZone (record { first_offset = m; steps = [] })
unfolding minutes_from
one_offset m h = record {
  first_in = h;
  steps_in = λ k d l. absurd (omega arith);
  rising = λ i j d l r. absurd (omega arith);
  few = omega arith;
  days_go_on = λ at later le. same_minutes m at later le;
}

-- no step has come
pub last_minutes-none : (m : ℤ) (xs : List OffsetStep) (n : ℕ) → n ≡ 0 → last_minutes m (take n xs) ≡ m
unfolding last_minutes
last_minutes-none m xs n h = rw h refl

-- the last of n steps
pub last_minutes-some : (m : ℤ) (xs : List OffsetStep) (n : ℕ) (d : OffsetStep) → (n ≡ 0 → ⊥) → n ≤ length xs → last_minutes m (take n xs) ≡ (get_or xs (n - 1) d).minutes
last_minutes-some m xs zero d h in' = absurd (h refl)
last_minutes-some m xs (suc n) d h in' = last_minutes-get_or m xs n d (omega arith) ∙ ap (λ k. (get_or xs k d).minutes) (omega arith)

-- the minutes in force are an offset
pub minutes_from_in : (m : ℤ) (xs : List OffsetStep) (at : ℤ) → IsOffset m → All IsStep xs → IsOffset (minutes_from m xs at)
unfolding minutes_from
minutes_from_in m [] at first each = first
minutes_from_in m (x ∷ xs) at first each =
    by_lt_z at x.from
    (λ before. rw (minutes_from-before m x xs at before) first)
    (λ come. rw (minutes_from-come m x xs at come) (minutes_from_in x.minutes xs at (each 0 x (omega arith)).1 (λ k d h. each (suc k) d (omega arith))))

-- a step at the end holds once it and all before it have come
pub minutes_from-append_come : (m : ℤ) (xs : List OffsetStep) (y : OffsetStep) (at : ℤ) → AllWithin (λ step. step.from ≤ℤ at) xs 0 (length xs) → y.from ≤ℤ at → minutes_from m (xs ++ y ∷ []) at ≡ y.minutes
unfolding minutes_from
minutes_from-append_come m [] y at each come = minutes_from-come m y [] at come
minutes_from-append_come m (x ∷ xs) y at each come =
    minutes_from-come m x (xs ++ y ∷ []) at (each 0 x (omega arith) (omega arith))
    ∙ minutes_from-append_come x.minutes xs y at (λ k d l h. each (suc k) d (omega arith) (omega arith)) come

-- and changes nothing before
pub minutes_from-append_before : (m : ℤ) (xs : List OffsetStep) (y : OffsetStep) (at : ℤ) → at <ℤ y.from → minutes_from m (xs ++ y ∷ []) at ≡ minutes_from m xs at
unfolding minutes_from
minutes_from-append_before m [] y at before = minutes_from-before m y [] at before
minutes_from-append_before m (x ∷ xs) y at before =
    by_lt_z at x.from
    (λ early. minutes_from-before m x (xs ++ y ∷ []) at early ∙ sym (minutes_from-before m x xs at early))
    (λ come. minutes_from-come m x (xs ++ y ∷ []) at come ∙ minutes_from-append_before x.minutes xs y at before ∙ sym (minutes_from-come m x xs at come))
