-- What a further step needs, and what it keeps.
use Rattle.std.proofs.Common.{◌≡◌, ℕ, ◌+◌, ◌-◌, ◌<◌, ◌≤◌, List, [], ◌∷◌, ◌++◌, length, get_or, refl, arith, ℤ, pos, ◌+ℤ◌, ◌-ℤ◌, ◌*ℤ◌, ◌≤ℤ◌, ◌<ℤ◌, ◌∙◌, ap, sym, true, false, inl, inr, Option, Some, None, length-append}
use Rattle.std.specs.Prelude.{int_lt, AllPairs}
use Rattle.std.specs.List.{list_all}
use Rattle.std.specs.Int.{int_div_euclid}
use Rattle.std.proofs.lemmas.Int.{ints, by_lt_z}
use Rattle.std.proofs.lemmas.Bool.{cases_Bool, ne_eqb}
use Rattle.std.proofs.lemmas.List.{get_or_default}
use Rattle.std.proofs.lemmas.List.Sums.{AllPass-from_list_all, list_all-from_AllPass}
use Rattle.std.proofs.lemmas.List.Elements.{All-push}
use Rattle.std.proofs.lemmas.List.Quantifiers.{all_pairs_push}
use Rattle.std.proofs.Math.Nat.{eq-or-lt_of_le}
use Rattle.jiff_core.proofs.SignedLemmas.{signed_arith}
use Rattle.relative_dates.specs.declared.calendar.OffsetStep.{OffsetStep}
use Rattle.relative_dates.specs.declared.calendar.StepFault.{StepFault}
use Rattle.relative_dates.specs.declared.calendar.StepFault.TheVariants.{NotLater, DayGoesBack, Full, Memory}
use Rattle.relative_dates.specs.Calendar.{Zone, local_day, zone_with, goes_back, step_fault, IsRefusal, IsZone, IsStep}
use Rattle.relative_dates.proofs.OffsetLemmas.{minutes_from-append_come, minutes_from-append_before, same_minutes}

-- every earlier step comes before the moment
pub all_before : (xs : List OffsetStep) (from : ℤ) → list_all (λ step. int_lt step.from from) xs ≡ true → (k : ℕ) (d : OffsetStep) → k < length xs → (get_or xs k d).from <ℤ from
all_before xs from e k d h =
    let test = AllPass-from_list_all (λ (step : OffsetStep). int_lt step.from from) xs e k d h in
    omega (arith, signed_arith)

before_last : (xs : List OffsetStep) (from : ℤ) (d : OffsetStep) → (get_or xs (length xs - 1) d).from <ℤ from → AllPairs (λ step later. step.from <ℤ later.from) xs → (k : ℕ) (d₂ : OffsetStep) → k < length xs → int_lt (get_or xs k d₂).from from ≡ true
before_last xs from d less rising k d₂ h =
    let at_most : k ≤ length xs - 1 = omega arith in
    let same : get_or xs k d₂ ≡ get_or xs k d = get_or_default xs k d₂ d h in
    let early : (get_or xs k d).from <ℤ from =
    elim (eq-or-lt_of_le at_most) [ inl last ↦ rw last less | inr earlier ↦ omega (arith, signed_arith, rising k (length xs - 1) d earlier (omega arith)) ] in
    rw same (grind (arith, ints))

-- of rising steps the last tells for all
pub last_tells : (xs : List OffsetStep) (from : ℤ) (d : OffsetStep) → AllPairs (λ step later. step.from <ℤ later.from) xs → (length xs ≡ 0 → ⊥) → int_lt (get_or xs (length xs - 1) d).from from ≡ list_all (λ step. int_lt step.from from) xs
last_tells xs from d rising some =
    by_lt_z (get_or xs (length xs - 1) d).from from
    (λ less.
    let e : int_lt (get_or xs (length xs - 1) d).from from ≡ true = grind (arith, ints) in
    e ∙ sym (list_all-from_AllPass (λ (step : OffsetStep). int_lt step.from from) xs (before_last xs from d less rising)))
    (λ more.
    let e : int_lt (get_or xs (length xs - 1) d).from from ≡ false = grind (arith, ints) in
    elim (cases_Bool (list_all (λ (step : OffsetStep). int_lt step.from from) xs)) [
      | inl each ↦ absurd (let l = all_before xs from each (length xs - 1) d (omega arith) in omega (arith, signed_arith))
      | inr some_not ↦ e ∙ sym some_not
    ])

-- no earlier step, so every step is before
pub none_before : (xs : List OffsetStep) (from : ℤ) → length xs ≡ 0 → true ≡ list_all (λ step. int_lt step.from from) xs
none_before [] from e = refl
none_before (x ∷ xs) from e = absurd (omega arith)

-- after all earlier steps, the local day of the new one is by its own minutes
pub goes_back-is : (zone : Zone) (step : OffsetStep) → list_all (λ earlier. int_lt earlier.from step.from) zone.steps ≡ true → goes_back zone step ≡ int_lt (int_div_euclid (step.from +ℤ (pos 60 *ℤ step.minutes)) (pos 86_400)) (local_day zone (step.from -ℤ pos 1))
goes_back-is zone step e =
    ap (λ m. int_lt (int_div_euclid (step.from +ℤ (pos 60 *ℤ m)) (pos 86_400)) (local_day zone (step.from -ℤ pos 1)))
    (minutes_from-append_come zone.first_offset zone.steps step step.from (λ k d l h. let b = all_before zone.steps step.from e k d h in omega (arith, signed_arith)) (omega (arith, signed_arith)))

pub fault_not_later : (zone : Zone) (step : OffsetStep) → list_all (λ earlier. int_lt earlier.from step.from) zone.steps ≡ false → step_fault zone step ≡ Some NotLater
unfolding step_fault
fault_not_later zone step e = rw e refl

pub fault_goes_back : (zone : Zone) (step : OffsetStep) → list_all (λ earlier. int_lt earlier.from step.from) zone.steps ≡ true → goes_back zone step ≡ true → step_fault zone step ≡ Some DayGoesBack
unfolding step_fault
fault_goes_back zone step e back = rw e (rw back refl)

pub fault_full : (zone : Zone) (step : OffsetStep) → list_all (λ earlier. int_lt earlier.from step.from) zone.steps ≡ true → goes_back zone step ≡ false → length zone.steps ≡ 400 → step_fault zone step ≡ Some Full
unfolding step_fault
fault_full zone step e back full = rw e (rw back (rw full refl))

pub fault_none : (zone : Zone) (step : OffsetStep) → list_all (λ earlier. int_lt earlier.from step.from) zone.steps ≡ true → goes_back zone step ≡ false → (length zone.steps ≡ 400 → ⊥) → step_fault zone step ≡ None
unfolding step_fault
fault_none zone step e back room = rw e (rw back (rw (ne_eqb (length zone.steps) 400 room) refl))

later_from_none : (zone : Zone) (step : OffsetStep) → step_fault zone step ≡ None → list_all (λ earlier. int_lt earlier.from step.from) zone.steps ≡ true
later_from_none zone step fine =
    elim (cases_Bool (list_all (λ (earlier : OffsetStep). int_lt earlier.from step.from) zone.steps)) [
      | inl later ↦ later
      | inr early ↦ absurd (let at = fault_not_later zone step early in cc)
    ]

on_from_none : (zone : Zone) (step : OffsetStep) → step_fault zone step ≡ None → goes_back zone step ≡ false
on_from_none zone step fine =
    elim (cases_Bool (goes_back zone step)) [
      | inl back ↦ absurd (let at = fault_goes_back zone step (later_from_none zone step fine) back in cc)
      | inr on ↦ on
    ]

room_from_none : (zone : Zone) (step : OffsetStep) → step_fault zone step ≡ None → length zone.steps ≡ 400 → ⊥
room_from_none zone step fine full =
    let at = fault_full zone step (later_from_none zone step fine) (on_from_none zone step fine) full in cc

-- the local day under the new step, and before it
day_with_come : (zone : Zone) (step : OffsetStep) (at : ℤ) → list_all (λ earlier. int_lt earlier.from step.from) zone.steps ≡ true → step.from ≤ℤ at → local_day (zone_with zone step) at ≡ int_div_euclid (at +ℤ (pos 60 *ℤ step.minutes)) (pos 86_400)
day_with_come zone step at later come =
    ap (λ m. int_div_euclid (at +ℤ (pos 60 *ℤ m)) (pos 86_400))
    (minutes_from-append_come zone.first_offset zone.steps step at (λ k d l h. let b = all_before zone.steps step.from later k d h in omega (arith, signed_arith)) come)

day_with_before : (zone : Zone) (step : OffsetStep) (at : ℤ) → at <ℤ step.from → local_day (zone_with zone step) at ≡ local_day zone at
day_with_before zone step at before =
    ap (λ m. int_div_euclid (at +ℤ (pos 60 *ℤ m)) (pos 86_400)) (minutes_from-append_before zone.first_offset zone.steps step at before)

days_go_on : (zone : Zone) (step : OffsetStep) → IsZone zone → list_all (λ earlier. int_lt earlier.from step.from) zone.steps ≡ true → goes_back zone step ≡ false → (at after : ℤ) → at ≤ℤ after → local_day (zone_with zone step) at ≤ℤ local_day (zone_with zone step) after
days_go_on zone step is later on at after le =
    by_lt_z after step.from
    (λ both_before. rw (day_with_before zone step at (omega (arith, signed_arith)), day_with_before zone step after both_before) (is.days_go_on at after le))
    (λ after_come. by_lt_z at step.from
    (λ at_before.
    let old = is.days_go_on at (step.from -ℤ pos 1) (omega (arith, signed_arith)) in
    let seam : local_day zone (step.from -ℤ pos 1) ≤ℤ local_day (zone_with zone step) step.from = not_back _ _ on in
    let new = same_minutes step.minutes step.from after after_come in
    rw (day_with_before zone step at at_before, day_with_come zone step after later after_come) (join _ _ _ _ old (rw (day_with_come zone step step.from later (omega (arith, signed_arith))) at seam) new))
    (λ at_come. rw (day_with_come zone step at later at_come, day_with_come zone step after later after_come) (same_minutes step.minutes at after le)))
  where
    not_back : (a b : ℤ) → int_lt a b ≡ false → b ≤ℤ a
    not_back a b e = omega (arith, signed_arith)

    join : (a b c d : ℤ) → a ≤ℤ b → b ≤ℤ c → c ≤ℤ d → a ≤ℤ d
    join a b c d h k l = omega (arith, signed_arith)

-- a step that nothing refuses leaves the steps as a zone has them
pub IsZone-with : (zone : Zone) (step : OffsetStep) → IsZone zone → IsStep step → step_fault zone step ≡ None → IsZone (zone_with zone step)
IsZone-with zone step is step_in fine =
    let later = later_from_none zone step fine in
    let on = on_from_none zone step fine in
    let room = room_from_none zone step fine in
    let long : length (zone.steps ++ step ∷ []) ≡ length zone.steps + 1 = length-append zone.steps (step ∷ []) in
    record {
      first_in = is.first_in;
      steps_in = All-push IsStep zone.steps step is.steps_in step_in;
      rising = all_pairs_push (λ (a b : OffsetStep). a.from <ℤ b.from) zone.steps step is.rising (all_before zone.steps step.from later);
      few = let few = is.few in omega arith;
      days_go_on = λ at after le. days_go_on zone step is later on at after le;
    }

-- where nothing refuses a step, only want of memory can
pub IsRefusal-memory : (fault : Option StepFault) → fault ≡ None → IsRefusal fault Memory
IsRefusal-memory fault none = rw none refl
