-- Counting the numbers that pass a test which no number passes after one that fails it.
use Rattle.std.proofs.Common.{◌≡◌, ℕ, zero, suc, ◌+◌, ◌<◌, ◌≤◌, Bool, true, false, cond, inl, inr, refl, arith}
use Rattle.std.proofs.lemmas.Bool.{cases_order}
use Rattle.civil_dates.specs.Days.{count_up_to}

-- what passes has only numbers below it that pass
abbrev pub PassesUpTo : (ℕ → Bool) → Type 0
PassesUpTo test = (i j : ℕ) → i ≤ j → test j ≡ true → test i ≡ true

-- of the numbers up to n, k is the last that passes
pub record IsLast (test : ℕ → Bool) (n k : ℕ) : Type 0 where
  pub within : k ≤ n
  pub passes : test k ≡ true
  pub ends : k < n → test (suc k) ≡ false

count_all : (test : ℕ → Bool) → PassesUpTo test → (n : ℕ) → test n ≡ true → count_up_to n test ≡ n
unfolding count_up_to
count_all test falls zero passes = refl
count_all test falls (suc n) passes =
    let before = count_all test falls n (falls n (suc n) (omega arith) passes) in rw passes (omega (arith, before))

one_more : (test : ℕ → Bool) → PassesUpTo test → (n k : ℕ) → (test n ≡ true → k ≡ n) → IsLast test n k → (b : Bool) → test (suc n) ≡ b → IsLast test (suc n) (k + cond b 1 0)
one_more test falls n k all last true passes =
    let before : k ≡ n = all (falls n (suc n) (omega arith) passes) in
    let is : k + 1 ≡ suc n = omega (arith, before) in
    rw is (record { within = omega arith; passes = passes; ends = λ below. absurd (omega (arith, below)) })
one_more test falls n k all last false fails =
    let is : k + 0 ≡ k = omega arith in
    rw is (record { within = omega (arith, last.within); passes = last.passes; ends = λ below. ends_later below })
  where
    ends_later : k < suc n → test (suc k) ≡ false
    ends_later below = elim (cases_order k n) [
      | inl same ↦ rw same fails
      | inr (inl lt) ↦ last.ends lt
      | inr (inr gt) ↦ absurd (omega (arith, below, gt))
    ]

-- where 0 passes too, the count is the last number that passes
pub count_is_last : (test : ℕ → Bool) → PassesUpTo test → test 0 ≡ true → (n : ℕ) → IsLast test n (count_up_to n test)
unfolding count_up_to
count_is_last test falls first zero =
    record { within = omega arith; passes = first; ends = λ below. absurd (omega (arith, below)) }
count_is_last test falls first (suc n) =
    one_more test falls n (count_up_to n test) (count_all test falls n) (count_is_last test falls first n) (test (suc n)) refl
