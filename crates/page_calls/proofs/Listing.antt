-- Sprints by their numbers, and parts of lists.
use Rattle.std.proofs.Common.{◌≡◌, ℕ, zero, suc, ◌+◌, ◌-◌, ◌<◌, ◌≤◌, ◌==◌, Bool, true, false, List, [], ◌∷◌, ◌++◌, length, take, drop, get_or, slice_get, Option, Some, None, option_map, arith, refl, ap, ap₂, ◌∙◌}
use Rattle.std.specs.Prelude.{if◌then◌else◌}
use Rattle.std.proofs.lemmas.Bool.{true≢false}
use Rattle.std.proofs.lemmas.List.{take_more, get_or-drop, length-drop}
use Rattle.std.proofs.lemmas.Option.{none-some, same_Some, slice_get_within, get_or_from_slice_get}
use Rattle.sprints.specs.declared.sprint.Sprint.{Sprint}
use Rattle.sprints.specs.declared.state.SprintState.{SprintState}
use Rattle.sprints.specs.Sprint.{state_of, name_of}
use Rattle.tracker_machine.specs.Sprints.{told_phase}
use Rattle.tracker_machine.specs.Overviews.{told_sprint, sprints_from}

pub length_of_sprints : (n : ℕ) (ss : List Sprint) → length (sprints_from n ss) ≡ length ss
length_of_sprints n [] = refl
length_of_sprints n (s ∷ ss) = ap suc (length_of_sprints (n + 1) ss)

-- behind so many stands the sprint of the number that comes next
pub sprint_behind : (n : ℕ) (ss : List Sprint) (k : ℕ) → slice_get (sprints_from n ss) k ≡ option_map (told_sprint (n + k)) (slice_get ss k)
sprint_behind n [] k = refl
sprint_behind n (s ∷ ss) zero = ap (λ (at : ℕ). Some (told_sprint at s)) (omega arith)
sprint_behind n (s ∷ ss) (suc k) = sprint_behind (n + 1) ss k ∙ ap (λ (at : ℕ). option_map (told_sprint at) (slice_get ss k)) (omega arith)

-- behind the one before stands the number itself
next_of : (n : ℕ) → (n == 0) ≡ false → 1 + (n - 1) ≡ n
next_of zero at = absurd (true≢false at)
next_of (suc k) at = omega arith

-- the sprint of a number that has this name and this state is told so
pub told_by_number : (ss : List Sprint) (n : ℕ) (name : List ℕ) (state : SprintState) → name_of ss n ≡ Some name → state_of ss n ≡ Some state
    → slice_get (sprints_from 1 ss) (n - 1) ≡ Some (record { name = name; sprint = record { 0 = n }; state = told_phase state })
told_by_number ss n name state called is = by (n == 0) refl called is
  where
    there : (o : Option Sprint) → option_map (λ (s : Sprint). s.name) o ≡ Some name → option_map (λ (s : Sprint). s.state) o ≡ Some state
        → option_map (told_sprint n) o ≡ Some (record { name = name; sprint = record { 0 = n }; state = told_phase state })
    there None called is = absurd (none-some state is)
    there (Some s) called is =
        ap₂ (λ (x : List ℕ) (t : SprintState). Some (told_sprint n (record { name = x; state = t }))) (same_Some s.name name called) (same_Some s.state state is)

    by : (b : Bool) → (n == 0) ≡ b → option_map (λ (s : Sprint). s.name) (if b then None else slice_get ss (n - 1)) ≡ Some name
        → option_map (λ (s : Sprint). s.state) (if b then None else slice_get ss (n - 1)) ≡ Some state
        → slice_get (sprints_from 1 ss) (n - 1) ≡ Some (record { name = name; sprint = record { 0 = n }; state = told_phase state })
    by true at called is = absurd (none-some state is)
    by false at called is =
        sprint_behind 1 ss (n - 1) ∙ ap (λ (k : ℕ). option_map (told_sprint k) (slice_get ss (n - 1))) (next_of n at) ∙ there (slice_get ss (n - 1)) called is

-- a part that begins behind so many, with one element more
pub one_more : {X : Type 0} (xs : List X) (from place : ℕ) (x : X) → from ≤ place → slice_get xs place ≡ Some x
    → take (place + 1 - from) (drop from xs) ≡ take (place - from) (drop from xs) ++ x ∷ []
one_more {X = X} xs from place x behind is =
    let within : place < length xs = slice_get_within xs place x is in
    let next : place + 1 - from ≡ (place - from) + 1 = omega (arith, behind) in
    let back : from + (place - from) ≡ place = omega (arith, behind) in
    ap (λ (n : ℕ). take n (drop from xs)) next
    ∙ take_more (drop from xs) (place - from) x (omega (arith, behind, within, length-drop from xs))
    ∙ ap (λ (y : X). take (place - from) (drop from xs) ++ y ∷ []) (get_or-drop from xs (place - from) x ∙ ap (λ (n : ℕ). get_or xs n x) back ∙ get_or_from_slice_get xs place x x is)
