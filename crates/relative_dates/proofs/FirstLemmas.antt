-- The first moment of a local second, found step by step.
use Rattle.std.proofs.Common.{◌≡◌, ℕ, zero, suc, ◌+◌, ◌-◌, ◌≤◌, List, [], ◌∷◌, length, drop, get_or, refl, arith, ℤ, pos, ◌+ℤ◌, ◌-ℤ◌, ◌*ℤ◌, ◌≤ℤ◌, ◌<ℤ◌, ◌∙◌, ap, sym, not, Bool, true, false, length-drop, get_or-drop, inl, inr}
use Rattle.std.specs.Prelude.{int_lt, All, AllPairs}
use Rattle.std.specs.List.{AllWithin}
use Rattle.std.specs.Int.{int_max}
use Rattle.std.proofs.lemmas.Int.{ints, clamps, by_lt_z}
use Rattle.std.proofs.lemmas.Bool.{cases_Bool}
use Rattle.jiff_core.specs.Calendar.{IsBetween}
use Rattle.jiff_core.proofs.SignedLemmas.{signed_arith}
use Rattle.relative_dates.specs.declared.calendar.OffsetStep.{OffsetStep}
use Rattle.relative_dates.specs.Calendar.{Zone, minutes_from, local_second, first_at, IsFirstAt, IsZone, IsOffset, IsStep}
use Rattle.relative_dates.specs.Least.{least_from}
use Rattle.relative_dates.proofs.OffsetLemmas.{minutes_from-before, minutes_from-come, minutes_from_in, minutes_from-drop, minutes_from-count}

-- no moment before the present step has come to the second, and from it on it and the steps ahead say the offset
pub record StandsAt (first : ℤ) (steps : List OffsetStep) (second : ℤ) (present : OffsetStep) (ahead : List OffsetStep) : Type 0 where
  pub rest : (at : ℤ) → present.from ≤ℤ at → minutes_from first steps at ≡ minutes_from present.minutes ahead at
  pub before : (at : ℤ) → at <ℤ present.from → (at +ℤ (pos 60 *ℤ minutes_from first steps at)) <ℤ second
  pub order : AllWithin (λ step. present.from ≤ℤ step.from) ahead 0 (length ahead)
  pub rising : AllPairs (λ step later. step.from <ℤ later.from) ahead

-- where the minutes stay up to the moment, the first moment is found
first_is : (first : ℤ) (steps : List OffsetStep) (second start minutes at : ℤ) → at ≡ int_max start (second -ℤ (pos 60 *ℤ minutes)) → ((e : ℤ) → e <ℤ start → (e +ℤ (pos 60 *ℤ minutes_from first steps e)) <ℤ second) → ((e : ℤ) → start ≤ℤ e → e ≤ℤ at → minutes_from first steps e ≡ minutes) → IsFirstAt (record { first_offset = first; steps = steps }) second at
first_is first steps second start minutes at is before stay = record {
  come = rw (stay at (omega (arith, signed_arith, clamps)) (omega (arith, signed_arith))) (omega (arith, signed_arith, clamps));
  before = λ e early.
      by_lt_z e start
      (λ less. before e less)
      (λ at_start. rw (stay e at_start (omega (arith, signed_arith))) (omega (arith, signed_arith, clamps)));
}

pub first_within : (first : ℤ) (steps : List OffsetStep) (second : ℤ) (present : OffsetStep) (at : ℤ) (step : OffsetStep) (ahead : List OffsetStep) → StandsAt first steps second present (step ∷ ahead) → at ≡ int_max present.from (second -ℤ (pos 60 *ℤ present.minutes)) → at <ℤ step.from → IsFirstAt (record { first_offset = first; steps = steps }) second at
first_within first steps second present at step ahead s is less =
    first_is first steps second present.from present.minutes at is s.before (λ e low high. s.rest e low ∙ minutes_from-before present.minutes step ahead e (omega (arith, signed_arith)))

pub first_last : (first : ℤ) (steps : List OffsetStep) (second : ℤ) (present : OffsetStep) (at : ℤ) → StandsAt first steps second present [] → at ≡ int_max present.from (second -ℤ (pos 60 *ℤ present.minutes)) → IsFirstAt (record { first_offset = first; steps = steps }) second at
unfolding minutes_from
first_last first steps second present at s is =
    first_is first steps second present.from present.minutes at is s.before (λ e low high. s.rest e low)

-- the second is not reached before the step comes, so it goes on from there
pub goes_on : (first : ℤ) (steps : List OffsetStep) (second : ℤ) (present : OffsetStep) (at : ℤ) (step : OffsetStep) (ahead : List OffsetStep) → StandsAt first steps second present (step ∷ ahead) → at ≡ int_max present.from (second -ℤ (pos 60 *ℤ present.minutes)) → step.from ≤ℤ at → StandsAt first steps second step ahead
goes_on first steps second present at step ahead s is come =
    let here : present.from ≤ℤ step.from = s.order 0 step (omega arith) (omega arith) in
    record {
      rest = λ e low. s.rest e (omega (arith, signed_arith)) ∙ minutes_from-come present.minutes step ahead e low;
      before = λ e early.
          by_lt_z e present.from
          (λ less. s.before e less)
          (λ at_start. rw (s.rest e at_start ∙ minutes_from-before present.minutes step ahead e early) (omega (arith, signed_arith, clamps)));
      order = λ k d low high. let next : step.from <ℤ (get_or ahead k d).from = s.rising 0 (suc k) d (omega arith) (omega arith) in omega (arith, signed_arith);
      rising = λ i j d less high. s.rising (suc i) (suc j) d (omega arith) (omega arith);
    }

-- far enough back no offset brings the local clock to the second
pub starts : (first : ℤ) (steps : List OffsetStep) (second start : ℤ) (n : ℕ) (minutes : ℤ) (ahead : List OffsetStep) → start ≡ second -ℤ pos 50_400 → minutes ≡ minutes_from first steps start → ahead ≡ drop n steps → IsOffset first → All IsStep steps → AllPairs (λ step later. step.from <ℤ later.from) steps → n ≤ length steps → AllWithin (λ step. step.from ≤ℤ start) steps 0 n → AllWithin (λ step. start <ℤ step.from) steps n (length steps) → StandsAt first steps second (record { from = start; minutes = minutes }) ahead
starts first steps second start n minutes ahead is minutes_is ahead_is first_in steps_in rising within come to_come = rw (minutes_is, ahead_is) (record {
  rest = λ at low.
      minutes_from-drop first steps n at within (λ k d l h. let c : (get_or steps k d).from ≤ℤ start = come k d l h in omega (arith, signed_arith))
      ∙ ap (λ m. minutes_from m (drop n steps) at) (sym (minutes_from-count first steps start n within come to_come));
  before = λ at early. let in' = minutes_from_in first steps at first_in steps_in in omega (arith, signed_arith);
  order = λ k d low high.
      let long : length (drop n steps) ≡ length steps - n = length-drop n steps in
      rw (get_or-drop n steps k d) (let t : start <ℤ (get_or steps (n + k) d).from = to_come (n + k) d (omega arith) (omega arith) in omega (arith, signed_arith));
  rising = λ i j d less high.
      let long : length (drop n steps) ≡ length steps - n = length-drop n steps in
      rw (get_or-drop n steps i d) (rw (get_or-drop n steps j d) (rising (n + i) (n + j) d (omega arith) (omega arith)));
})

-- a search comes to the number that passes, where none before it does
pub least_from-is : (passes : ℤ → Bool) (n : ℕ) (low at : ℤ) → low ≤ℤ at → at ≤ℤ (low +ℤ pos n) → passes at ≡ true → ((e : ℤ) → low ≤ℤ e → e <ℤ at → passes e ≡ false) → least_from passes n low ≡ at
unfolding least_from
least_from-is passes zero low at h k found before = omega (arith, signed_arith)
least_from-is passes (suc n) low at h k found before =
    by_lt_z low at
    (λ less. rw (before low (omega (arith, signed_arith)) less) (least_from-is passes n (low +ℤ pos 1) at (omega (arith, signed_arith)) (omega (arith, signed_arith)) found (λ e l r. before e (omega (arith, signed_arith)) r)))
    (λ more. let same : low ≡ at = omega (arith, signed_arith) in rw same (rw found refl))

-- no offset is above 840 minutes, so the first moment isn't far from the local second
pub first_near : (zone : Zone) (second at : ℤ) → IsZone zone → IsFirstAt zone second at → IsBetween (second -ℤ pos 50_400) (second +ℤ pos 50_400) at
first_near zone second at is first =
    let here = minutes_from_in zone.first_offset zone.steps at is.first_in is.steps_in in
    let come = first.come in (
      omega (arith, signed_arith),
      by_lt_z (second +ℤ pos 50_400) at
          (λ late. let there = minutes_from_in zone.first_offset zone.steps (second +ℤ pos 50_400) is.first_in is.steps_in in
          let early = first.before (second +ℤ pos 50_400) late in absurd (omega (arith, signed_arith)))
          (λ near. near),
    )

-- the first moment is the one that the search finds
pub first_at-is : (zone : Zone) (second at : ℤ) → IsZone zone → IsFirstAt zone second at → first_at zone second ≡ at
unfolding first_at
first_at-is zone second at is first =
    let near = first_near zone second at is first in
    let come = first.come in
    least_from-is (λ e. not (int_lt (local_second zone e) second)) 100_801 (second -ℤ pos 50_400) at
    near.0
    (omega (arith, signed_arith))
    (grind (arith, ints))
    (λ e low less. let early = first.before e less in grind (arith, ints))

-- what a search has found, where the last of its numbers passes
pub record Found (passes : ℤ → Bool) (n : ℕ) (low found : ℤ) : Type 0 where
  pub passing : passes found ≡ true
  pub before : (e : ℤ) → low ≤ℤ e → e <ℤ found → passes e ≡ false
  pub at_least : low ≤ℤ found
  pub at_most : found ≤ℤ (low +ℤ pos n)

pub least_from-found : (passes : ℤ → Bool) (n : ℕ) (low : ℤ) → passes (low +ℤ pos n) ≡ true → Found passes n low (least_from passes n low)
unfolding least_from
least_from-found passes zero low last =
    let same : low +ℤ pos 0 ≡ low = omega (arith, signed_arith) in
    record { passing = rw same at last; before = λ e l r. absurd (omega (arith, signed_arith)); at_least = omega (arith, signed_arith); at_most = omega (arith, signed_arith) }
least_from-found passes (suc n) low last =
    elim (cases_Bool (passes low)) [
      | inl here ↦ rw here (record { passing = here; before = λ e l r. absurd (omega (arith, signed_arith)); at_least = omega (arith, signed_arith); at_most = omega (arith, signed_arith) })
      | inr not_here ↦
          let same : low +ℤ pos (suc n) ≡ (low +ℤ pos 1) +ℤ pos n = omega (arith, signed_arith) in
          let rest = least_from-found passes n (low +ℤ pos 1) (rw same at last) in
          rw not_here (record {
            passing = rest.passing;
            before = λ e l r. by_lt_z low e (λ later. rest.before e (omega (arith, signed_arith)) r) (λ now. let eq : e ≡ low = omega (arith, signed_arith) in rw eq not_here);
            at_least = omega (arith, signed_arith, rest.at_least);
            at_most = omega (arith, signed_arith, rest.at_most);
          })
    ]
