-- The states of sprints, as one is made and as one changes its state.
use Rattle.std.proofs.Common.{◌≡◌, ◌≢◌, ℕ, zero, suc, ◌-◌, ◌==◌, Bool, true, false, List, [], ◌∷◌, ◌++◌, Option, Some, None, IfSome, option_map, unwrap_or, length, slice_get, slice_set, if◌then◌else◌, refl, ◌∙◌, ap, arith}
use Rattle.std.proofs.lemmas.Bool.{eqb-false}
use Rattle.std.proofs.lemmas.List.{length-set}
use Rattle.std.proofs.lemmas.Option.{none-some}
use Rattle.sprints.specs.declared.sprint.Sprint.{Sprint}
use Rattle.sprints.specs.declared.state.SprintState.{SprintState}
use Rattle.sprints.specs.declared.state.SprintState.TheVariants.{Future}
use Rattle.sprints.specs.Sprint.{future, state_of}
use Rattle.sprints.specs.Change.{IsInState}
use Rattle.burndown.specs.Told.{GoesTo}
use Rattle.tracker_work.specs.Seen.{state_in}

-- the state of what stands at a place, if anything does
abbrev state_found : Option Sprint → SprintState
state_found found = unwrap_or (option_map (λ s. s.state) found) Future

-- ---- a new sprint

new_found : (sprints : List Sprint) (name : List ℕ) (k : ℕ) → state_found (slice_get (sprints ++ future name ∷ []) k) ≡ state_found (slice_get sprints k)
new_found [] name zero = refl
new_found [] name (suc k) = refl
new_found (x ∷ xs) name zero = refl
new_found (x ∷ xs) name (suc k) = new_found xs name k

-- a new sprint is future, as one that isn't there is
pub states_of_more : (sprints : List Sprint) (name : List ℕ) (s : ℕ) → state_in (sprints ++ future name ∷ []) s ≡ state_in sprints s
states_of_more sprints name s = by (s == 0) where
  by : (none : Bool) → state_found (if none then None else slice_get (sprints ++ future name ∷ []) (s - 1)) ≡ state_found (if none then None else slice_get sprints (s - 1))
  by true = refl
  by false = new_found sprints name (s - 1)

-- no sprint is there
pub states_of_none : (s : ℕ) → state_in [] s ≡ Future
states_of_none s = by (s == 0) where
  by : (none : Bool) → state_found (if none then None else slice_get [] (s - 1)) ≡ Future
  by true = refl
  by false = refl

-- ---- another state

set_found : (sprints : List Sprint) (k : ℕ) (x y : Sprint) → slice_get sprints k ≡ Some x → slice_get (slice_set sprints k y) k ≡ Some y
set_found [] k x y there = absurd (none-some x there)
set_found (z ∷ zs) zero x y there = refl
set_found (z ∷ zs) (suc k) x y there = set_found zs k x y there

set_other : (sprints : List Sprint) (k : ℕ) (y : Sprint) (j : ℕ) → j ≢ k → slice_get (slice_set sprints k y) j ≡ slice_get sprints j
set_other [] k y j ne = refl
set_other (z ∷ zs) zero y zero ne = absurd (ne refl)
set_other (z ∷ zs) zero y (suc j) ne = refl
set_other (z ∷ zs) (suc k) y zero ne = refl
set_other (z ∷ zs) (suc k) y (suc j) ne = set_other zs k y j (λ e. ne (ap suc e))

module _ (old new : List Sprint) (s : ℕ) (next : SprintState) where
  abbrev in_next_state : Sprint → Sprint
  in_next_state x = record x { state = next }

  -- a sprint that was found, and is in the next state
  record IsPut : Type 0 where
    sprint : Sprint
    numbered : (s == 0) ≡ false
    there : slice_get old (s - 1) ≡ Some sprint
    put : new ≡ slice_set old (s - 1) (in_next_state sprint)

  by_number : (kept : SprintState) (none : Bool) → (s == 0) ≡ none → (found : Option Sprint) → slice_get old (s - 1) ≡ found →
      option_map (λ (x : Sprint). x.state) (if none then None else found) ≡ Some kept →
      IfSome (if none then None else found) (λ x. new ≡ slice_set old (s - 1) (in_next_state x)) → IsPut
  by_number kept true first found there was is = absurd (none-some kept was)
  by_number kept false later None there was is = absurd (none-some kept was)
  by_number kept false later (Some x) there was is = record { sprint = x; numbered = later; there = there; put = is }

  is_put : (kept : SprintState) → state_of old s ≡ Some kept → IsInState old new s next → IsPut
  is_put kept was is = by_number kept (s == 0) refl (slice_get old (s - 1)) refl was is

  goes : IsPut → GoesTo (state_in old) (state_in new) s next
  goes found = record { this = this; others = λ q ne. others q ne (q == 0) refl }
    where
      y : Sprint
      y = in_next_state found.sprint

      this : state_in new s ≡ next
      this =
          ap (λ (none : Bool). state_found (if none then None else slice_get new (s - 1))) found.numbered
          ∙ ap (λ xs. state_found (slice_get xs (s - 1))) found.put
          ∙ ap state_found (set_found old (s - 1) found.sprint y found.there)

      others : (q : ℕ) → q ≢ s → (none : Bool) → (q == 0) ≡ none → state_found (if none then None else slice_get new (q - 1)) ≡ state_found (if none then None else slice_get old (q - 1))
      others q ne true first = refl
      others q ne false later =
          let apart : q - 1 ≢ s - 1 = λ e. ne (omega (arith, e, eqb-false q 0 later, eqb-false s 0 found.numbered)) in
          ap (λ xs. state_found (slice_get xs (q - 1))) found.put ∙ ap state_found (set_other old (s - 1) y (q - 1) apart)

  module _ (kept : SprintState) (was : state_of old s ≡ Some kept) (is : IsInState old new s next) where
    -- a sprint of this state that goes to the next one changes no other's state
    pub goes_to : GoesTo (state_in old) (state_in new) s next
    goes_to = goes (is_put kept was is)

    -- and there are as many sprints as before
    pub as_many : length new ≡ length old
    as_many =
        let found = is_put kept was is in
        ap length found.put ∙ length-set old (s - 1) (in_next_state found.sprint)
