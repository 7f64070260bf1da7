-- The least of some numbers.
use Rattle.std.proofs.Common.{◌≡◌, ◌⊎◌, ℕ, suc, min, ◌≤◌, List, [], ◌∷◌, Some, None, sym, arith, inl, inr}
use Rattle.std.specs.List.{AllByRecursion, Contains}
use Rattle.std.proofs.lemmas.Bool.{cases_lt}
use Rattle.std.proofs.lemmas.List.Elements.{All-from_recursion}
use Rattle.field_forms.specs.Known.{Names}
use Rattle.change_history.specs.declared.change.Change.{Change}
use Rattle.workflow.specs.Inputs.{least_with, refused_numbers, refused_input}
use Rattle.workflow.specs.Laws.{IsLeastOf}

-- n is the least of these and l
record IsLeastWith (l : ℕ) (ns : List ℕ) (n : ℕ) : Type 0 where
  known : n ≤ l
  others : AllByRecursion (λ m. n ≤ m) ns
  one : (n ≡ l) ⊎ Contains ns n

is_there : (m : ℕ) (ms : List ℕ) (n : ℕ) → Contains ms n → Contains (m ∷ ms) n
is_there m ms n has = (suc has.0, omega (arith, has.1), has.2)

first_there : (m : ℕ) (ms : List ℕ) (n : ℕ) → m ≡ n → Contains (m ∷ ms) n
first_there m ms n is = (0, omega arith, is)

one_of : (l m : ℕ) (ms : List ℕ) (n : ℕ) → (n ≡ min l m) ⊎ Contains ms n → (n ≡ l) ⊎ Contains (m ∷ ms) n
one_of l m ms n (inl is) = elim (cases_lt m l) [ inl less ↦ inr (first_there m ms n (omega arith)) | inr more ↦ inl (omega arith) ]
one_of l m ms n (inr has) = inr (is_there m ms n has)

least_is : (ns : List ℕ) (l n : ℕ) → least_with (Some l) ns ≡ Some n → IsLeastWith l ns n
least_is [] l n is = let same : l ≡ n = cc in record { known = omega arith; others = tt; one = inl (sym same) }
least_is (m ∷ ms) l n is =
    let rest = least_is ms (min l m) n is in
    record { known = omega (arith, rest.known); others = (omega (arith, rest.known), rest.others); one = one_of l m ms n rest.one }

least_of_is : (ns : List ℕ) (n : ℕ) → least_with None ns ≡ Some n → IsLeastOf ns n
least_of_is [] n is = absurd (cc is)
least_of_is (m ∷ ms) n is =
    let all = least_is ms m n is in
    record {
      one = elim all.one [ inl same ↦ first_there m ms n (sym same) | inr has ↦ is_there m ms n has ];
      least = All-from_recursion (λ k. n ≤ k) (m ∷ ms) (all.known, all.others);
    }

pub refused_is_least : (names : Names) (inputs : List Change) (n : ℕ) → refused_input names inputs ≡ Some n → IsLeastOf (refused_numbers names inputs) n
unfolding refused_input
refused_is_least names inputs n is = least_of_is (refused_numbers names inputs) n is
