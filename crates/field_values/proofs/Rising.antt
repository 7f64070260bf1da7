-- Members that rise, and what a search among them finds.
use Rattle.std.proofs.Common.{◌≡◌, ℕ, zero, suc, ◌<◌, ◌≤◌, ◌==◌, List, [], ◌∷◌, length, get_or, Bool, true, false, nat_lt, Result, Ok, Err, sym, ap, inl, inr, arith, refl}
use Rattle.std.specs.List.{list_any, All}
use Rattle.std.specs.List.Sorted.{IsSearchInRange, IsBinarySearchResult, IsNonDecreasingBy}
use Rattle.std.specs.Ordering.{nat_cmp, ordering_index}
use Rattle.std.specs.Result.{is_ok}
use Rattle.std.proofs.lemmas.Bool.{cases_Bool, and_parts}
use Rattle.std.proofs.lemmas.Bool.Decides.{nat_tests}
use Rattle.std.proofs.lemmas.Cmp.{ranked}
use Rattle.std.proofs.lemmas.List.Kept.{AllPairs-cons}
use Rattle.std.proofs.lemmas.List.Folds.{list_any_none}
use Rattle.std.proofs.lemmas.List.Sorted.{IsNonDecreasingBy-from_default}
use Rattle.field_values.specs.declared.numbers.UserNo.{UserNo}
use Rattle.field_values.specs.GroupMembers.{is_user_list, AreRising, is_member}

-- the first is before all later ones
first_before : (user next : UserNo) (users : List UserNo) → user.0 < next.0 → AreRising (next ∷ users) → All (λ other. user.0 < other.0) (next ∷ users)
first_before user next users less rising zero d inside = less
first_before user next users less rising (suc k) d inside =
    let later : next.0 < (get_or (next ∷ users) (suc k) d).0 = rising 0 (suc k) d (omega arith) inside in
    omega arith

pub users_rise : (count : ℕ) (users : List UserNo) → is_user_list count users ≡ true → AreRising users
users_rise count [] h = λ i j d lt inside. absurd (omega arith)
users_rise count (user ∷ []) h = λ i j d lt inside. absurd (omega arith)
users_rise count (user ∷ next ∷ users) h =
    let parts = and_parts (nat_lt user.0 next.0) (is_user_list count (next ∷ users)) h in
    let rest : AreRising (next ∷ users) = users_rise count (next ∷ users) parts.1 in
    AllPairs-cons (λ one other. one.0 < other.0) user (next ∷ users) (first_before user next users (grind (arith, parts)) rest) rest

-- where none passes, the one at a place doesn't
pub each_fails : {X : Type 0} (p : X → Bool) (xs : List X) → list_any p xs ≡ false → (k : ℕ) (d : X) → k < length xs → p (get_or xs k d) ≡ false
each_fails p [] none k d inside = absurd (omega arith)
each_fails p (x ∷ xs) none zero d inside = elim (cases_Bool (p x)) [ inl passes ↦ absurd (grind (arith, passes, none)) | inr other ↦ other ]
each_fails p (x ∷ xs) none (suc k) d inside = elim (cases_Bool (p x)) [ inl passes ↦ absurd (grind (arith, passes, none)) | inr other ↦ each_fails p xs (grind (arith, other, none)) k d (omega arith) ]

module _ (users : List UserNo) (rising : AreRising users) (user : ℕ) where
  -- the comparisons with a user rise along the list, as a binary search asks
  comparisons_rise : IsNonDecreasingBy (λ (u : UserNo). ordering_index (nat_cmp u.0 user)) users
  comparisons_rise = IsNonDecreasingBy-from_default (λ (u : UserNo). ordering_index (nat_cmp u.0 user)) users (record { 0 = 0 }) (λ i j le inside.
      let d : UserNo = record { 0 = 0 } in
      let numbers_rise : (get_or users i d).0 ≤ (get_or users j d).0 = grind (arith, rising i j d, λ (same : i ≡ j). ap (λ k. (get_or users k d).0) same) in
      grind (arith, nat_tests))

  pub found_is : (r : Result ℕ ℕ) → IsSearchInRange r (length users) → IsBinarySearchResult (λ (u : UserNo). nat_cmp u.0 user) users r → is_ok r ≡ is_member users user
  found_is (Ok i) inside equal = by_test (list_any (λ u. u.0 == user) users) refl where
    by_test : (test : Bool) → list_any (λ u. u.0 == user) users ≡ test → true ≡ test
    by_test true e = refl
    by_test false e =
        let d : UserNo = record { 0 = 0 } in
        let other : ((get_or users i d).0 == user) ≡ false = each_fails (λ (u : UserNo). u.0 == user) users e i d inside in
        let here : nat_cmp ((get_or users i d).0) user ≡ _ = equal d in
        absurd (grind (arith, nat_tests, other, ranked _ user _ (sym here)))
  found_is (Err i) inside parted = sym (list_any_none (λ (u : UserNo). u.0 == user) users (λ k d within. elim (cases_Bool (nat_lt k i)) [
    | inl before ↦
        let less = ranked ((get_or users k d).0) user _ (sym ((parted comparisons_rise).0 k d (omega arith) (grind (arith, before)))) in
        grind (arith, nat_tests, less)
    | inr after ↦
        let greater = ranked ((get_or users k d).0) user _ (sym ((parted comparisons_rise).1 k d (grind (arith, after)) within)) in
        grind (arith, nat_tests, greater)
  ]))
