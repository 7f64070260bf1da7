-- The phases of sprints, one after the other.
use Rattle.std.proofs.Common.{◌≡◌, ◌==◌, ℕ, ◌+◌, ◌-◌, Bool, true, false, List, [], ◌∷◌, ◌++◌, map, take, Option, Some, None, option_map, slice_get, if◌then◌else◌, refl, sym, ◌∙◌, ap, arith}
use Rattle.std.proofs.lemmas.List.{map-append, take_more}
use Rattle.std.proofs.lemmas.Option.{none-some, same_Some, slice_get_within, get_or_from_slice_get}
use Rattle.jql_bound.specs.declared.context.Phase.{Phase}
use Rattle.sprints.specs.declared.sprint.Sprint.{Sprint}
use Rattle.sprints.specs.declared.state.SprintState.{SprintState}
use Rattle.sprints.specs.Sprint.{state_of}
use Rattle.tracker_machine.specs.SprintRules.{phase_of}

abbrev pub phases_in : List Sprint → List Phase
phases_in sprints = map (λ s. phase_of s.state) sprints

one_phase_more : (sprints : List Sprint) (place : ℕ) (state : SprintState) → state_of sprints (place + 1) ≡ Some state
    → phases_in (take place sprints) ++ phase_of state ∷ [] ≡ phases_in (take (place + 1) sprints)
one_phase_more sprints place state is = by (place + 1 == 0) refl is
  where
    there : (o : Option Sprint) → slice_get sprints place ≡ o → option_map (λ s. s.state) o ≡ Some state
        → phases_in (take place sprints) ++ phase_of state ∷ [] ≡ phases_in (take (place + 1) sprints)
    there None at is = absurd (none-some state is)
    there (Some s) at is =
        let more : take (place + 1) sprints ≡ take place sprints ++ s ∷ [] =
        take_more sprints place s (slice_get_within sprints place s at) ∙ ap (λ (x : Sprint). take place sprints ++ x ∷ []) (get_or_from_slice_get sprints place s s at) in
        ap (λ (x : SprintState). phases_in (take place sprints) ++ phase_of x ∷ []) (sym (same_Some s.state state is))
        ∙ sym (ap phases_in more ∙ map-append (λ (x : Sprint). phase_of x.state) (take place sprints) (s ∷ []))

    by : (b : Bool) → (place + 1 == 0) ≡ b → option_map (λ s. s.state) (if b then None else slice_get sprints (place + 1 - 1)) ≡ Some state
        → phases_in (take place sprints) ++ phase_of state ∷ [] ≡ phases_in (take (place + 1) sprints)
    by true own is = absurd (none-some state is)
    by false own is =
        let here : place + 1 - 1 ≡ place = omega arith in
        there (slice_get sprints place) refl (ap (λ k. option_map (λ (s : Sprint). s.state) (slice_get sprints k)) (sym here) ∙ is)

-- so it does as it is put behind those before it
pub one_phase_pushed : (sprints : List Sprint) (place : ℕ) (state : SprintState) (before pushed : List Phase) (phase : Phase) → state_of sprints (place + 1) ≡ Some state
    → before ≡ phases_in (take place sprints) → phase ≡ phase_of state → pushed ≡ before ++ phase ∷ [] → pushed ≡ phases_in (take (place + 1) sprints)
one_phase_pushed sprints place state before pushed phase is are here put =
    put ∙ ap (λ (ps : List Phase). ps ++ phase ∷ []) are ∙ ap (λ (p : Phase). phases_in (take place sprints) ++ p ∷ []) here ∙ one_phase_more sprints place state is
