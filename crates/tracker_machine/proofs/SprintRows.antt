-- The parts of sprints, as one comes and as one comes to another state.
use Rattle.std.proofs.Common.{◌≡◌, ◌≢◌, ℕ, zero, suc, ◌+◌, ◌-◌, ◌<◌, ◌==◌, Bool, true, false, List, [], ◌∷◌, ◌++◌, length, slice_get, set, Option, Some, None, option_map, refl, sym, ap, ◌∙◌, subst, arith, inl, inr, ◌⊎◌, ne_eqb, eq-eqb}
use Rattle.std.specs.Prelude.{if◌then◌else◌}
use Rattle.std.proofs.lemmas.Bool.{cases_eq}
use Rattle.field_values.specs.declared.numbers.SprintNo.{SprintNo}
use Rattle.sprints.specs.declared.sprint.Sprint.{Sprint}
use Rattle.sprints.specs.Sprint.{IsThere, sprint_of}
use Rattle.tracker_keeper.specs.declared.part.Part.{Part}
use Rattle.tracker_machine.specs.Kept.{sprint_part, sprint_numbered}

-- ---- lists by place

-- one more stands last
last_there : {A : Type 0} (xs : List A) (y : A) → slice_get (xs ++ y ∷ []) (length xs) ≡ Some y
last_there [] y = refl
last_there (x ∷ xs) y = last_there xs y

-- and all others as before
others_before : {A : Type 0} (xs : List A) (y : A) (k : ℕ) → k ≢ length xs → slice_get (xs ++ y ∷ []) k ≡ slice_get xs k
others_before [] y zero other = absurd (other refl)
others_before [] y (suc k) other = refl
others_before (x ∷ xs) y zero other = refl
others_before (x ∷ xs) y (suc k) other = others_before xs y k (λ is. other (ap suc is))

-- what is put at a place stands there
put_there : {A : Type 0} (xs : List A) (k : ℕ) (y : A) → k < length xs → slice_get (set xs k y) k ≡ Some y
put_there [] k y in' = absurd (omega (arith, in'))
put_there (x ∷ xs) zero y in' = refl
put_there (x ∷ xs) (suc k) y in' = put_there xs k y (omega (arith, in'))

others_stay : {A : Type 0} (xs : List A) (k : ℕ) (y : A) (j : ℕ) → j ≢ k → slice_get (set xs k y) j ≡ slice_get xs j
others_stay [] k y j other = refl
others_stay (x ∷ xs) zero y zero other = absurd (other refl)
others_stay (x ∷ xs) zero y (suc j) other = refl
others_stay (x ∷ xs) (suc k) y zero other = refl
others_stay (x ∷ xs) (suc k) y (suc j) other = others_stay xs k y j (λ is. other (ap suc is))

-- ---- sprints by number

-- the number of a place is one more
pub sprint_at : (sprints : List Sprint) (n k : ℕ) → n ≡ k + 1 → sprint_of sprints n ≡ slice_get sprints k
sprint_at sprints n k is = rw (ne_eqb n 0 (λ none. omega (arith, none, is))) (ap (slice_get sprints) (omega (arith, is)))

-- the sprints of a number are the same where those at its place are
same_at : (sprints others : List Sprint) (n : ℕ) → ((k : ℕ) → n ≡ k + 1 → slice_get others k ≡ slice_get sprints k) → sprint_of others n ≡ sprint_of sprints n
same_at sprints others zero same = refl
same_at sprints others (suc k) same =
    sprint_at others (suc k) k (omega arith) ∙ (same k (omega arith) ∙ sym (sprint_at sprints (suc k) k (omega arith)))

pub last_sprint : (sprints : List Sprint) (s : Sprint) → sprint_of (sprints ++ s ∷ []) (length sprints + 1) ≡ Some s
last_sprint sprints s = sprint_at (sprints ++ s ∷ []) (length sprints + 1) (length sprints) refl ∙ last_there sprints s

pub sprints_before : (sprints : List Sprint) (s : Sprint) (n : ℕ) → n ≢ length sprints + 1 → sprint_of (sprints ++ s ∷ []) n ≡ sprint_of sprints n
sprints_before sprints s n other =
    same_at sprints (sprints ++ s ∷ []) n (λ k is. others_before sprints s k (λ last. other (omega (arith, is, last))))

pub sprint_put : (sprints : List Sprint) (n : ℕ) (s : Sprint) → IsThere sprints n → sprint_of (set sprints (n - 1) s) n ≡ Some s
sprint_put sprints n s there =
    sprint_at (set sprints (n - 1) s) n (n - 1) (omega (arith, there.0)) ∙ put_there sprints (n - 1) s (omega (arith, there.0, there.1))

pub sprints_stay : (sprints : List Sprint) (n : ℕ) (s : Sprint) (other : ℕ) → IsThere sprints n → other ≢ n → sprint_of (set sprints (n - 1) s) other ≡ sprint_of sprints other
sprints_stay sprints n s other there apart =
    same_at sprints (set sprints (n - 1) s) other (λ k is. others_stay sprints (n - 1) s k (λ same. apart (omega (arith, is, same, there.0))))

-- ---- their parts

abbrev part_of_sprint : ℕ → Option Sprint → Option Part
part_of_sprint n o = option_map (sprint_part (record { 0 = n })) o

-- a sprint that is made has its part, and all others have theirs
pub sprint_added : (sprints : List Sprint) (s : Sprint) (n : ℕ)
    → sprint_numbered (sprints ++ s ∷ []) n ≡ (if length sprints + 1 == n then Some (sprint_part (record { 0 = length sprints + 1 }) s) else sprint_numbered sprints n)
sprint_added sprints s n = by (cases_eq (length sprints + 1) n)
  where
    by : (length sprints + 1 ≡ n) ⊎ (length sprints + 1 ≡ n → ⊥)
        → sprint_numbered (sprints ++ s ∷ []) n ≡ (if length sprints + 1 == n then Some (sprint_part (record { 0 = length sprints + 1 }) s) else sprint_numbered sprints n)
    by (inl same) =
        rw (eq-eqb (length sprints + 1) n same)
        (subst (λ k. sprint_numbered (sprints ++ s ∷ []) k ≡ Some (sprint_part (record { 0 = length sprints + 1 }) s)) same
        (ap (part_of_sprint (length sprints + 1)) (last_sprint sprints s)))
    by (inr differ) =
        rw (ne_eqb (length sprints + 1) n differ) (ap (part_of_sprint n) (sprints_before sprints s n (λ is. differ (sym is))))

-- so has one that another takes the place of
pub sprint_changed : (sprints : List Sprint) (sprint : SprintNo) (s : Sprint) (n : ℕ) → IsThere sprints sprint.0
    → sprint_numbered (set sprints (sprint.0 - 1) s) n ≡ (if sprint.0 == n then Some (sprint_part sprint s) else sprint_numbered sprints n)
sprint_changed sprints sprint s n there = by (cases_eq sprint.0 n)
  where
    by : (sprint.0 ≡ n) ⊎ (sprint.0 ≡ n → ⊥)
        → sprint_numbered (set sprints (sprint.0 - 1) s) n ≡ (if sprint.0 == n then Some (sprint_part sprint s) else sprint_numbered sprints n)
    by (inl same) =
        rw (eq-eqb sprint.0 n same)
        (subst (λ k. sprint_numbered (set sprints (sprint.0 - 1) s) k ≡ Some (sprint_part sprint s)) same
        (ap (part_of_sprint sprint.0) (sprint_put sprints sprint.0 s there)))
    by (inr differ) =
        rw (ne_eqb sprint.0 n differ) (ap (part_of_sprint n) (sprints_stay sprints sprint.0 s n there (λ is. differ (sym is))))

-- a new tracker has none
pub no_sprint_numbered : (n : ℕ) → sprint_numbered [] n ≡ None
no_sprint_numbered n = by (n == 0)
  where
    by : (b : Bool) → part_of_sprint n (if b then None else None) ≡ None
    by true = refl
    by false = refl
