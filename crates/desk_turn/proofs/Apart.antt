-- Lists under numbers that differ: where they have all entries together, no other number has one.
use Rattle.std.proofs.Common.{◌≡◌, ◌≢◌, ◌==◌, ℕ, zero, suc, ◌+◌, ◌≤◌, ◌<◌, Bool, true, false, List, [], ◌∷◌, length, refl, sym, ap, ◌∙◌, arith, eq-eqb, ne_eqb, if◌then◌else◌, All, AllPairs}
use mathlib.Core.Logic.{dite}
use native.Mathlib.Decide.{ℕ_discrete}
use Rattle.std.proofs.lemmas.List.{nil_from_length}
use Rattle.std.proofs.lemmas.List.Kept.{AllPairs-cons}
use Rattle.desk_turn.specs.declared.entry.Entry.{Entry}
use Rattle.desk_turn.specs.History.{total, StartsWith, calls_by, IsAccountedFor}
use Rattle.desk_turn.specs.Rule.{one_if}

module _ {X : Type 0} where
  all_cons : (P : X → Type 0) (x : X) (xs : List X) → P x → All P xs → All P (x ∷ xs)
  all_cons P x xs first later zero d lt = first
  all_cons P x xs first later (suc i) d lt = later i d (omega (arith, lt))

  all_later : (P : X → Type 0) (x : X) (xs : List X) → All P (x ∷ xs) → All P xs
  all_later P x xs all i d lt = all (suc i) d (omega (arith, lt))

  pairs_first : (R : X → X → Type 0) (x : X) (xs : List X) → AllPairs R (x ∷ xs) → All (R x) xs
  pairs_first R x xs all i d lt = all 0 (suc i) d (omega arith) (omega (arith, lt))

  pairs_later : (R : X → X → Type 0) (x : X) (xs : List X) → AllPairs R (x ∷ xs) → AllPairs R xs
  pairs_later R x xs all i j d below lt = all (suc i) (suc j) d (omega (arith, below)) (omega (arith, lt))

  total_plus : (f g : X → ℕ) (xs : List X) → total (λ x. f x + g x) xs ≡ total f xs + total g xs
  total_plus f g [] = refl
  total_plus f g (x ∷ xs) = let later = total_plus f g xs in omega (arith, later)

  total_same : (f g : X → ℕ) (xs : List X) → All (λ x. f x ≡ g x) xs → total f xs ≡ total g xs
  total_same f g [] all = refl
  total_same f g (x ∷ xs) all =
      let here : f x ≡ g x = all 0 x (omega arith) in
      let later = total_same f g xs (all_later (λ x. f x ≡ g x) x xs all) in
      omega (arith, here, later)

  length_if : (b : Bool) (x : X) (xs : List X) → length (if b then x ∷ xs else xs) ≡ one_if b + length xs
  length_if true x xs = omega arith
  length_if false x xs = omega arith

-- the numbers of the two differ
abbrev Differ : {X : Type 0} → ℕ × X → ℕ × X → Type 0
Differ j k = j.0 ≢ k.0

module _ {A T : Type 0} where
  none_is : (n : ℕ) (js : List (ℕ × List (Entry A T))) → All (λ j. n ≢ j.0) js → total (λ j. one_if (n == j.0)) js ≡ 0
  none_is n [] all = refl
  none_is n (j ∷ js) all =
      let here : one_if (n == j.0) ≡ 0 = ap one_if (ne_eqb n j.0 (all 0 j (omega arith))) in
      let later = none_is n js (all_later (λ j. n ≢ j.0) j js all) in
      omega (arith, here, later)

  -- at most one of them is n
  one_is : (n : ℕ) (js : List (ℕ × List (Entry A T))) → AllPairs Differ js → total (λ j. one_if (n == j.0)) js ≤ 1
  one_is n [] apart = omega arith
  one_is n (j ∷ js) apart = dite (ℕ_discrete n j.0)
      (λ same.
      let here : one_if (n == j.0) ≡ 1 = ap one_if (eq-eqb n j.0 same) in
      let none = none_is n js (λ i d lt e. pairs_first Differ j js apart i d lt (sym same ∙ e)) in
      omega (arith, here, none))
      (λ other.
      let here : one_if (n == j.0) ≡ 0 = ap one_if (ne_eqb n j.0 other) in
      let later = one_is n js (pairs_later Differ j js apart) in
      omega (arith, here, later))

  nothing : (js : List (ℕ × List (Entry A T))) → total (λ j. length (calls_by {A = A} {T = T} j.0 [])) js ≡ 0
  nothing [] = refl
  nothing (j ∷ js) = let later = nothing js in omega (arith, later)

  -- the calls of different numbers are no more than all
  within : (history : List (Entry A T)) (js : List (ℕ × List (Entry A T))) → AllPairs Differ js → total (λ j. length (calls_by j.0 history)) js ≤ length history
  within [] js apart = let none = nothing js in omega (arith, none)
  within (e ∷ es) js apart =
      let split : total (λ j. length (calls_by j.0 (e ∷ es))) js ≡ total (λ j. one_if (e.by == j.0) + length (calls_by j.0 es)) js =
      total_same (λ j. length (calls_by j.0 (e ∷ es))) (λ j. one_if (e.by == j.0) + length (calls_by j.0 es)) js (λ i d lt. length_if _ e _) in
      let plus = total_plus (λ (j : ℕ × List (Entry A T)). one_if (e.by == j.0)) (λ (j : ℕ × List (Entry A T)). length (calls_by j.0 es)) js in
      let one = one_is e.by js apart in
      let later = within es js apart in
      omega (arith, split, plus, one, later)

  strangers : (history own : List (Entry A T)) (lists : List (ℕ × List (Entry A T))) → calls_by 0 history ≡ own → All (λ j. (0 < j.0) × (calls_by j.0 history ≡ j.1)) lists → AllPairs Differ lists
      → length history ≡ length own + total (λ j. length j.1) lists → (by : ℕ) → 0 < by → All (λ j. by ≢ j.0) lists → calls_by by history ≡ []
  strangers history own lists first joined apart count by above other =
      let zero_apart : All (Differ (0, own)) lists = λ i d lt same. let it = joined i d lt in omega (arith, it.0, same) in
      let by_apart : All (Differ (by, [])) ((0, own) ∷ lists) = all_cons (Differ (by, [])) (0, own) lists (λ same. omega (arith, above, same)) other in
      let all = within history ((by, []) ∷ (0, own) ∷ lists) (AllPairs-cons Differ (by, []) ((0, own) ∷ lists) by_apart (AllPairs-cons Differ (0, own) lists zero_apart apart)) in
      let same = total_same (λ (j : ℕ × List (Entry A T)). length (calls_by j.0 history)) (λ (j : ℕ × List (Entry A T)). length j.1) lists (λ i d lt. ap length (joined i d lt).1) in
      let mine = ap length first in
      nil_from_length (calls_by by history) (omega (arith, all, same, mine, count))

  pub accounted : (history seen own : List (Entry A T)) (lists : List (ℕ × List (Entry A T))) → StartsWith history seen → calls_by 0 history ≡ own → All (λ j. (0 < j.0) × (calls_by j.0 history ≡ j.1)) lists → AllPairs Differ lists
      → length history ≡ length own + total (λ j. length j.1) lists → IsAccountedFor history seen own lists
  accounted history seen own lists begins first joined apart count = record {
    begins = begins;
    first = first;
    joined = joined;
    apart = apart;
    count = count;
    strangers = strangers history own lists first joined apart count;
  }
