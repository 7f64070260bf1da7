-- What the answer to a new sprint says, and from which state a sprint came to its next one.
use Rattle.std.proofs.Common.{inl, inr, ◌≡◌, ℕ, zero, suc, ◌-◌, ◌<◌, ◌≤◌, ◌==◌, Bool, true, false, List, [], ◌∷◌, length, Option, Some, None, IfSome, Result, Ok, Err, IsOk, IfErr, OnErr, ◌↔◌, option_map, unwrap_or, slice_get, if◌then◌else◌, refl, sym, ◌∙◌, ap, arith}
use Rattle.std.specs.Prelude.{slice_set}
use Rattle.std.specs.Option.{option_map_or}
use Rattle.std.proofs.lemmas.Bool.{eqb-true, false≢true}
use Rattle.std.proofs.lemmas.Option.{none-some, same_Some}
use Rattle.field_values.specs.declared.numbers.SprintNo.{SprintNo}
use Rattle.tracker_limits.specs.Limits.{most_sprints}
use Rattle.sprints.specs.declared.sprint.Sprint.{Sprint}
use Rattle.sprints.specs.declared.state.SprintState.{SprintState}
use Rattle.sprints.specs.declared.state.SprintState.TheVariants.{Future, Active, Closed}
use Rattle.sprints.specs.declared.state.SprintFault.{SprintFault}
use Rattle.sprints.specs.declared.state.SprintFault.TheVariants.{Full, Memory}
use Rattle.sprints.specs.State.{IsNextState}
use Rattle.sprints.specs.Change.{IsInState}
use Rattle.sprints.specs.Sprint.{IsThere, sprint_of, state_of}
use Rattle.tracker_work.specs.Seen.{Seen, state_in, with_state}

-- a new sprint for which there is room is refused only where there are 1,000
pub only_full : (n : ℕ) (result : Result SprintNo SprintFault) (P : Type 0) → n ≤ most_sprints → (result ≡ Err Full) ↔ (n ≡ most_sprints) → (n < most_sprints → IsOk result) →
    OnErr result P → IfErr result (λ fault. (fault ≡ Full) × P)
only_full n (Ok sprint) P most full room refused = tt
only_full n (Err Full) P most full room refused = (refl, refused)
only_full n (Err Memory) P most full room refused =
    let few : n < most_sprints = omega (arith, most, λ (all : n ≡ most_sprints). not_full (full.1 all)) in
    absurd (false≢true (room few))
  where
    not_full : ◌≡◌ {A = Result SprintNo SprintFault} (Err Memory) (Err Full) → ⊥
    not_full e = cc

got : (sprints : List Sprint) (k : ℕ) → k < length sprints → (x : Sprint) × (slice_get sprints k ≡ Some x)
got [] k within = absurd (omega (arith, within))
got (x ∷ xs) zero within = (x, refl)
got (x ∷ xs) (suc k) within = got xs k (omega (arith, within))

-- a sprint that is there has a state
state_there : (sprints : List Sprint) (s : ℕ) → IsThere sprints s → (kept : SprintState) × (state_of sprints s ≡ Some kept)
state_there sprints s there = by (s == 0) refl
  where
    by : (none : Bool) → (s == 0) ≡ none → (kept : SprintState) × (option_map (λ (x : Sprint). x.state) (if none then None else slice_get sprints (s - 1)) ≡ Some kept)
    by true zeroth = absurd (omega (arith, eqb-true s 0 zeroth, there.0))
    by false later =
        let found = got sprints (s - 1) (omega (arith, there.0, there.1)) in
        (found.0.state, ap (option_map (λ (x : Sprint). x.state)) found.1)

-- and the one that is kept of it
pub state_kept : (sprints : List Sprint) (s : ℕ) → IsThere sprints s → state_of sprints s ≡ Some (state_in sprints s)
state_kept sprints s there =
    let found = state_there sprints s there in
    found.1 ∙ ap (λ o. Some (unwrap_or o Future)) (sym found.1)

-- and with it in another one, the others as they are
pub stated : (seen : Seen) (new : List Sprint) (s : ℕ) (state : SprintState) → IsThere seen.sprints s → IsInState seen.sprints new s state → record seen { sprints = new } ≡ with_state seen s state
stated seen new s state there is = by (sprint_of seen.sprints s) (state_there seen.sprints s there).1 is
  where
    by : (o : Option Sprint) → option_map (λ (x : Sprint). x.state) o ≡ Some (state_there seen.sprints s there).0
        → IfSome o (λ x. new ≡ slice_set seen.sprints (s - 1) (record x { state = state }))
        → record seen { sprints = new } ≡ option_map_or (λ x. record seen { sprints = slice_set seen.sprints (s - 1) (record x { state = state }) }) o seen
    by None found is = absurd (none-some (state_there seen.sprints s there).0 found)
    by (Some x) found is = ap (λ (ss : List Sprint). record seen { sprints = ss }) is

-- ---- the next state

abbrev number_of : SprintState → ℕ
number_of Future = 0
number_of (Active at change) = change
number_of (Closed start_at start_change at change) = change

abbrev start_of : SprintState → SprintState
start_of (Closed start_at start_change at change) = Active start_at start_change
start_of state = state

-- one that is active has started now, and was future
pub starts : (at change moment number : ℕ) (kept : SprintState) → IsNextState at change kept (Active moment number) → (kept ≡ Future) × (change ≡ number)
starts at change moment number Future (inl is) = (refl, ap number_of (same_Some (Active at change) (Active moment number) is))
starts at change moment number Future (inr is) = absurd (none-some (Active moment number) is)
starts at change moment number (Active start other) (inl is) = absurd (none-some (Active moment number) is)
starts at change moment number (Active start other) (inr is) = absurd (cc)
starts at change moment number (Closed start_at start_number end other) (inl is) = absurd (none-some (Active moment number) is)
starts at change moment number (Closed start_at start_number end other) (inr is) = absurd (none-some (Active moment number) is)

-- one that is closed is so from now on, and had started as it still tells
pub closes : (at change start_at start_change moment number : ℕ) (kept : SprintState) → IsNextState at change kept (Closed start_at start_change moment number) →
    (kept ≡ Active start_at start_change) × (change ≡ number)
closes at change start_at start_change moment number Future (inl is) = absurd (cc)
closes at change start_at start_change moment number Future (inr is) = absurd (cc)
closes at change start_at start_change moment number (Active start other) (inl is) = absurd (cc)
closes at change start_at start_change moment number (Active start other) (inr is) =
    let same = same_Some (Closed start other at change) (Closed start_at start_change moment number) is in
    (ap start_of same, ap number_of same)
closes at change start_at start_change moment number (Closed start begun end other) (inl is) = absurd (cc)
closes at change start_at start_change moment number (Closed start begun end other) (inr is) = absurd (cc)
