-- Lists of sprints that are as far: their states, one by one, and with one state changed.
use Rattle.std.proofs.Common.{◌≡◌, ℕ, zero, suc, ◌+◌, ◌-◌, ◌==◌, Bool, true, false, List, [], ◌∷◌, ◌++◌, length, slice_get, Option, Some, None, option_map, refl, sym, ◌∙◌, ap, ap₂}
use Rattle.std.specs.Prelude.{slice_set, if◌then◌else◌}
use Rattle.std.specs.Option.{option_map_or}
use Rattle.std.proofs.lemmas.List.{map-append, length-map}
use Rattle.std.proofs.lemmas.Option.{slice_get-map}
use Rattle.jql_bound.specs.declared.context.Phase.{Phase}
use Rattle.jql_bound.specs.declared.context.Phase.TheVariants as phase
use Rattle.sprints.specs.declared.sprint.Sprint.{Sprint}
use Rattle.sprints.specs.declared.state.SprintState.{SprintState}
use Rattle.sprints.specs.declared.state.SprintState.TheVariants.{Future, Active, Closed}
use Rattle.sprints.specs.Sprint.{sprint_of, state_of}
use Rattle.tracker_calls.specs.declared.listed.ToldSprint.{ToldSprint}
use Rattle.tracker_calls.specs.declared.reply.SprintPhase.{SprintPhase}
use Rattle.tracker_calls.specs.declared.reply.SprintPhase.TheVariants as told
use Rattle.tracker_machine.specs.Overviews.{sprints_from}
use Rattle.tracker_machine.specs.SprintRules.{phase_of, in_state, with_future}
use Rattle.tracker_machine.specs.Sprints.{told_phase}
use Rattle.tracker_sight.specs.Sight.{phases, sprint_names}

-- ---- one state

pub as_many : (ss ts : List Sprint) → phases ss ≡ phases ts → length ss ≡ length ts
as_many ss ts same = sym (length-map ss (λ (s : Sprint). phase_of s.state)) ∙ ap length same ∙ length-map ts (λ (s : Sprint). phase_of s.state)

phase_there : (o : Option Sprint) → option_map phase_of (option_map (λ (s : Sprint). s.state) o) ≡ option_map (λ (s : Sprint). phase_of s.state) o
phase_there None = refl
phase_there (Some s) = refl

phase_at : (ss : List Sprint) (n : ℕ) → option_map phase_of (state_of ss n) ≡ (if n == 0 then None else slice_get (phases ss) (n - 1))
phase_at ss n = phase_there (sprint_of ss n) ∙ by (n == 0)
  where
    by : (b : Bool) → option_map (λ (s : Sprint). phase_of s.state) (if b then None else slice_get ss (n - 1)) ≡ (if b then None else slice_get (phases ss) (n - 1))
    by true = refl
    by false = sym (slice_get-map (λ (s : Sprint). phase_of s.state) ss (n - 1))

pub as_far : (ss ts : List Sprint) (n : ℕ) → phases ss ≡ phases ts → option_map phase_of (state_of ss n) ≡ option_map phase_of (state_of ts n)
as_far ss ts n same = phase_at ss n ∙ ap (λ (ps : List Phase). if n == 0 then None else slice_get ps (n - 1)) same ∙ sym (phase_at ts n)

-- ---- what is told of all of them

-- how far a sprint is, as it is told
told_as : Phase → SprintPhase
told_as phase.Future = told.Future
told_as phase.Active = told.Active
told_as phase.Closed = told.Closed

told_as_far : (s : SprintState) → told_phase s ≡ told_as (phase_of s)
unfolding told_as
told_as_far Future = refl
told_as_far (Active at change) = refl
told_as_far (Closed start_at start_change at change) = refl

-- sprints that are as far and are called so, from this number on
told_from : ℕ → List Phase → List (List ℕ) → List ToldSprint
told_from n [] names = []
told_from n (p ∷ ps) [] = []
told_from n (p ∷ ps) (name ∷ names) = (record { name = name; sprint = record { 0 = n }; state = told_as p }) ∷ told_from (n + 1) ps names

told_is : (n : ℕ) (ss : List Sprint) → sprints_from n ss ≡ told_from n (phases ss) (sprint_names ss)
unfolding told_from
told_is n [] = refl
told_is n (s ∷ ss) =
    ap₂ (λ (p : SprintPhase) (more : List ToldSprint). (record { name = s.name; sprint = record { 0 = n }; state = p }) ∷ more) (told_as_far s.state) (told_is (n + 1) ss)

pub told_alike : (n : ℕ) (ss ts : List Sprint) → phases ss ≡ phases ts → sprint_names ss ≡ sprint_names ts → sprints_from n ss ≡ sprints_from n ts
told_alike n ss ts far names = told_is n ss ∙ ap₂ (told_from n) far names ∙ sym (told_is n ts)

-- ---- one more

pub more_phases : (ss ts : List Sprint) (name : List ℕ) → phases ss ≡ phases ts → phases (with_future ss name) ≡ phases (with_future ts name)
more_phases ss ts name same =
    map-append (λ (s : Sprint). phase_of s.state) ss _ ∙ ap (λ (ps : List Phase). ps ++ phases (with_future [] name)) same ∙ sym (map-append (λ (s : Sprint). phase_of s.state) ts _)

pub more_names : (ss ts : List Sprint) (name : List ℕ) → sprint_names ss ≡ sprint_names ts → sprint_names (with_future ss name) ≡ sprint_names (with_future ts name)
more_names ss ts name same =
    map-append (λ (s : Sprint). s.name) ss _ ∙ ap (λ (ns : List (List ℕ)). ns ++ name ∷ []) same ∙ sym (map-append (λ (s : Sprint). s.name) ts _)

-- ---- another state

abbrev state_set : List Sprint → ℕ → SprintState → List Sprint
state_set ss k state = option_map_or (λ s. slice_set ss k (record s { state = state })) (slice_get ss k) ss

phases_set : (ss : List Sprint) (k : ℕ) (state : SprintState) → phases (state_set ss k state) ≡ slice_set (phases ss) k (phase_of state)
phases_set [] k state = refl
phases_set (s ∷ ss) zero state = refl
phases_set (s ∷ ss) (suc k) state = by (slice_get ss k) (phases_set ss k state)
  where
    by : (o : Option Sprint) → phases (option_map_or (λ z. slice_set ss k (record z { state = state })) o ss) ≡ slice_set (phases ss) k (phase_of state)
        → phases (option_map_or (λ z. slice_set (s ∷ ss) (suc k) (record z { state = state })) o (s ∷ ss)) ≡ slice_set (phases (s ∷ ss)) (suc k) (phase_of state)
    by None same = ap (λ (ps : List Phase). phase_of s.state ∷ ps) same
    by (Some z) same = ap (λ (ps : List Phase). phase_of s.state ∷ ps) same

names_set : (ss : List Sprint) (k : ℕ) (state : SprintState) → sprint_names (state_set ss k state) ≡ sprint_names ss
names_set [] k state = refl
names_set (s ∷ ss) zero state = refl
names_set (s ∷ ss) (suc k) state = by (slice_get ss k) (names_set ss k state)
  where
    by : (o : Option Sprint) → sprint_names (option_map_or (λ z. slice_set ss k (record z { state = state })) o ss) ≡ sprint_names ss
        → sprint_names (option_map_or (λ z. slice_set (s ∷ ss) (suc k) (record z { state = state })) o (s ∷ ss)) ≡ sprint_names (s ∷ ss)
    by None same = refl
    by (Some z) same = ap (λ (ns : List (List ℕ)). s.name ∷ ns) same

abbrev in_state_by : Bool → List Sprint → ℕ → SprintState → List Sprint
in_state_by b ss n state =
    option_map_or (λ x. slice_set ss (n - 1) (record x { state = state })) (if b then None else slice_get ss (n - 1)) ss

pub phases_in_state : (ss ts : List Sprint) (n : ℕ) (one other : SprintState) → phases ss ≡ phases ts → phase_of one ≡ phase_of other → phases (in_state ss n one) ≡ phases (in_state ts n other)
phases_in_state ss ts n one other same far = by (n == 0)
  where
    by : (b : Bool) → phases (in_state_by b ss n one) ≡ phases (in_state_by b ts n other)
    by true = same
    by false =
        phases_set ss (n - 1) one ∙ ap₂ (λ (ps : List Phase) (p : Phase). slice_set ps (n - 1) p) same far ∙ sym (phases_set ts (n - 1) other)

pub names_in_state : (ss : List Sprint) (n : ℕ) (state : SprintState) → sprint_names (in_state ss n state) ≡ sprint_names ss
names_in_state ss n state = by (n == 0)
  where
    by : (b : Bool) → sprint_names (in_state_by b ss n state) ≡ sprint_names ss
    by true = refl
    by false = names_set ss (n - 1) state
