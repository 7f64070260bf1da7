-- One sprint that differs.
use Rattle.std.proofs.Common.{◌≡◌, ◌≢◌, ℕ, zero, suc, ◌+◌, ◌-◌, ◌<◌, ◌==◌, List, [], ◌∷◌, ◌++◌, length, None, if◌then◌else◌, inl, inr, arith, refl, ap, ◌∙◌}
use Rattle.std.specs.Prelude.{slice_get, slice_set}
use Rattle.std.proofs.lemmas.Bool.{cases_lt}
use Rattle.field_values.specs.declared.numbers.SprintNo.{SprintNo}
use Rattle.field_values.specs.declared.value.Value.{Value}
use Rattle.change_history.specs.History.{History}
use Rattle.jql_bound.specs.declared.context.Phase.{Phase}
use Rattle.jql_meaning.specs.Surroundings.{Surroundings, numbered}
use Rattle.jql_meaning.specs.Sprints.{DifferInOtherSprints, DifferInOneSprint, IsNotIn}

set_elsewhere : (phases : List Phase) (j k : ℕ) (phase : Phase) → k ≢ j → slice_get phases k ≡ slice_get (slice_set phases j phase) k
set_elsewhere [] j k phase other = refl
set_elsewhere (p ∷ phases) zero zero phase other = absurd (other refl)
set_elsewhere (p ∷ phases) zero (suc k) phase other = refl
set_elsewhere (p ∷ phases) (suc j) zero phase other = refl
set_elsewhere (p ∷ phases) (suc j) (suc k) phase other = set_elsewhere phases j k phase (λ e. other (ap suc e))

set_others : (phases : List Phase) (n m : ℕ) (phase : Phase) → 0 < n → m ≢ n → numbered phases m ≡ numbered (slice_set phases (n - 1) phase) m
set_others phases n m phase there other =
    elim (cases_lt 0 m) [
      | inl some ↦ λ i. if m == 0 then None else set_elsewhere phases (n - 1) (m - 1) phase (λ e. other (omega (arith, e, there, some))) i
      | inr none ↦ let zero_is : m ≡ 0 = omega (arith, none) in rw zero_is refl
    ]

added_elsewhere : (phases : List Phase) (k : ℕ) (phase : Phase) → k ≢ length phases → slice_get phases k ≡ slice_get (phases ++ phase ∷ []) k
added_elsewhere [] zero phase other = absurd (other refl)
added_elsewhere [] (suc k) phase other = refl
added_elsewhere (p ∷ phases) zero phase other = refl
added_elsewhere (p ∷ phases) (suc k) phase other = added_elsewhere phases k phase (λ e. other (ap suc e))

added_others : (phases : List Phase) (m : ℕ) (phase : Phase) → m ≢ length phases + 1 → numbered phases m ≡ numbered (phases ++ phase ∷ []) m
added_others phases m phase other =
    elim (cases_lt 0 m) [
      | inl some ↦ λ i. if m == 0 then None else added_elsewhere phases (m - 1) phase (λ e. other (omega (arith, e, some))) i
      | inr none ↦ let zero_is : m ≡ 0 = omega (arith, none) in rw zero_is refl
    ]

-- sprints of one number are one
same_sprint : (one other : SprintNo) → one ≢ other → one.0 ≢ other.0
same_sprint one other differ same = differ (ap (λ (n : ℕ). let no : SprintNo = record { 0 = n } in no) same)

pub phase_is_set : (s : Surroundings) (sprint : SprintNo) (phase : Phase) → 0 < sprint.0 → DifferInOneSprint s (record s { sprints = slice_set s.sprints (sprint.0 - 1) phase }) sprint
phase_is_set s sprint phase there = record {
  members = refl;
  calendar = refl;
  others = λ no other. set_others s.sprints sprint.0 no.0 phase there (same_sprint no sprint other);
}

pub sprint_is_added : (s : Surroundings) (phase : Phase) → DifferInOneSprint s (record s { sprints = s.sprints ++ phase ∷ [] }) (record { 0 = length s.sprints + 1 })
sprint_is_added s phase = record {
  members = refl;
  calendar = refl;
  others = λ no other. added_others s.sprints no.0 phase (same_sprint no (record { 0 = length s.sprints + 1 }) other);
}

pub others_stand : (one other : Surroundings) (h : History) (sprint : SprintNo) → DifferInOneSprint one other sprint → IsNotIn h sprint → DifferInOtherSprints one other h
others_stand one other h sprint d absent = record {
  members = d.members;
  calendar = d.calendar;
  own = λ field no is. d.others no (λ same. absent field (is ∙ ap Value.Sprint same));
}
