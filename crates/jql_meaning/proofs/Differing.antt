-- Where a condition comes to another truth, one of its comparisons does.
use Rattle.std.proofs.Common.{◌≡◌, ◌≢◌, ◌⊎◌, ℕ, Bool, true, false, ◌||◌, ◌&&◌, inl, inr, refl}
use Rattle.std.proofs.lemmas.Bool.{false≢true, true≢false}
use Rattle.change_history.specs.History.{History}
use Rattle.jql_bound.specs.Condition.{Condition, now, past, all_of, any_of, Conditions, no_conditions, condition}
use Rattle.jql_meaning.specs.Surroundings.{Surroundings}
use Rattle.jql_meaning.specs.Truth.{holds, all_hold, some_holds}
use Rattle.jql_meaning.specs.Changes.{OneDiffers, OneOfThemDiffers}

pub same_or_not : (a b : Bool) → (a ≡ b) ⊎ (a ≢ b)
same_or_not true true = inl refl
same_or_not true false = inr true≢false
same_or_not false true = inr false≢true
same_or_not false false = inl refl

mutual
  unfolding holds OneDiffers

  pub one_differs : (s : Surroundings) (h : History) (u t : ℕ) (c : Condition) → holds s h u c ≢ holds s h t c → OneDiffers s h u t c
  one_differs s h u t (now leaf) n = n
  one_differs s h u t (past leaf) n = n
  one_differs s h u t (all_of cs) n = one_of_all s h u t cs n
  one_differs s h u t (any_of cs) n = one_of_some s h u t cs n

  one_of_all : (s : Surroundings) (h : History) (u t : ℕ) (cs : Conditions) → all_hold s h u cs ≢ all_hold s h t cs → OneOfThemDiffers s h u t cs
  one_of_all s h u t no_conditions n = absurd (n refl)
  one_of_all s h u t (condition c cs) n =
      elim (same_or_not (holds s h u c) (holds s h t c)) [
        | inl same ↦ inr (one_of_all s h u t cs (λ e. n (λ i. same i && e i)))
        | inr differs ↦ inl (one_differs s h u t c differs)
      ]

  one_of_some : (s : Surroundings) (h : History) (u t : ℕ) (cs : Conditions) → some_holds s h u cs ≢ some_holds s h t cs → OneOfThemDiffers s h u t cs
  one_of_some s h u t no_conditions n = absurd (n refl)
  one_of_some s h u t (condition c cs) n =
      elim (same_or_not (holds s h u c) (holds s h t c)) [
        | inl same ↦ inr (one_of_some s h u t cs (λ e. n (λ i. same i || e i)))
        | inr differs ↦ inl (one_differs s h u t c differs)
      ]
