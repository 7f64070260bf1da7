-- A sprint that is read, brought to its state.
use Rattle.std.proofs.Common.{◌≡◌, ℕ, ◌+◌, ◌-◌, ◌==◌, false, List, [], ◌∷◌, ◌++◌, zero, suc, length, slice_get, set, Some, None, IfSome, refl, ◌∙◌, ap, subst, arith}
use Rattle.std.specs.Prelude.{if◌then◌else◌, slice_set}
use Rattle.std.proofs.lemmas.Bool.Decides.{nat_tests}
use Rattle.sprints.specs.declared.sprint.Sprint.{Sprint}
use Rattle.sprints.specs.declared.state.SprintState.{SprintState}
use Rattle.sprints.specs.Sprint.{sprint_of}
use Rattle.sprints.specs.Change.{IsInState}

abbrev with_state : Sprint → SprintState → Sprint
with_state sprint state = record sprint { state = state }

get_last : (xs : List Sprint) (x : Sprint) → slice_get (xs ++ x ∷ []) (length xs) ≡ Some x
get_last [] x = refl
get_last (y ∷ ys) x = get_last ys x

set_last : (xs : List Sprint) (x y : Sprint) → set (xs ++ x ∷ []) (length xs) y ≡ xs ++ y ∷ []
set_last [] x y = refl
set_last (z ∷ zs) x y = ap (λ (ss : List Sprint). z ∷ ss) (set_last zs x y)

-- the last one in another state
pub last_turned : (front new : List Sprint) (sprint : Sprint) (n : ℕ) (state : SprintState) → n ≡ length front + 1 → IsInState (front ++ sprint ∷ []) new n state
    → new ≡ front ++ with_state sprint state ∷ []
last_turned front new sprint n state next is =
    let some : (n == 0) ≡ false = grind (arith, nat_tests, next) in
    let place : n - 1 ≡ length front = omega (arith, next) in
    let there : sprint_of (front ++ sprint ∷ []) n ≡ Some sprint =
    ap (λ b. if b then None else slice_get (front ++ sprint ∷ []) (n - 1)) some ∙ ap (slice_get (front ++ sprint ∷ [])) place ∙ get_last front sprint in
    let put : new ≡ set (front ++ sprint ∷ []) (n - 1) (with_state sprint state) =
    subst (λ o. IfSome o (λ x. new ≡ slice_set (front ++ sprint ∷ []) (n - 1) (record x { state = state }))) there is in
    put ∙ ap (λ k. set (front ++ sprint ∷ []) k (with_state sprint state)) place ∙ set_last front sprint (with_state sprint state)
