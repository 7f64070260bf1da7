-- How many ranks a bucket has, from where it begins and where it ends.
use Rattle.std.proofs.Common.{◌≡◌, ◌≢◌, ℕ, zero, suc, ◌+◌, ◌<◌, ◌≤◌, ◌==◌, true, false, List, [], ◌∷◌, ◌⊎◌, length, inl, inr, ◌∙◌, ap, arith, if◌then◌else◌}
use Rattle.std.proofs.lemmas.Bool.{cases_lt}
use Rattle.std.proofs.lemmas.Bool.Decides.{nat_tests}
use Rattle.board.specs.Order.{Pair}
use Rattle.rank_balancer.specs.Border.{bucket_at, IsBorder}
use Rattle.rank_balancer.specs.Step.{left_in}
use Rattle.rank_balancer.proofs.Steps.{left_in-cons}

counted : (p : Pair) (ps : List Pair) (bucket : ℕ) → p.0.bucket ≡ bucket → left_in bucket (p ∷ ps) ≡ 1 + left_in bucket ps
counted p ps bucket is = let test : (p.0.bucket == bucket) ≡ true = grind (arith, nat_tests) in left_in-cons bucket p ps ∙ ap (λ b. (if b then 1 else 0) + left_in bucket ps) test

not_counted : (p : Pair) (ps : List Pair) (bucket : ℕ) → p.0.bucket ≢ bucket → left_in bucket (p ∷ ps) ≡ left_in bucket ps
not_counted p ps bucket other =
    let test : (p.0.bucket == bucket) ≡ false = grind (arith, nat_tests) in
    let none = left_in-cons bucket p ps ∙ ap (λ b. (if b then 1 else 0) + left_in bucket ps) test in
    omega (arith, none)

-- the pairs from one place up to another, and no others, are in the bucket
record IsRun (ps : List Pair) (bucket low high : ℕ) : Type 0 where
  in_order : low ≤ high
  in_range : high ≤ length ps
  before : (k : ℕ) → k < low → bucket_at ps k ≢ bucket
  inside : (k : ℕ) → low ≤ k → k < high → bucket_at ps k ≡ bucket
  behind : (k : ℕ) → high ≤ k → k < length ps → bucket_at ps k ≢ bucket

left_in-run : (ps : List Pair) (bucket low high : ℕ) → IsRun ps bucket low high → left_in bucket ps + low ≡ high
left_in-run [] bucket low high run = let a = run.in_order in let b = run.in_range in omega arith
left_in-run (p ∷ ps) bucket zero zero run =
    let others = left_in-run ps bucket 0 0 (record {
      in_order = omega arith;
      in_range = omega arith;
      before = λ k lt. absurd (omega arith);
      inside = λ k ge lt. absurd (omega arith);
      behind = λ k ge lt. run.behind (suc k) (omega arith) (omega arith);
    }) in
    let here = not_counted p ps bucket (run.behind 0 (omega arith) (omega arith)) in
    omega (arith, here, others)
left_in-run (p ∷ ps) bucket zero (suc high) run =
    let n = run.in_range in
    let others = left_in-run ps bucket 0 high (record {
      in_order = omega arith;
      in_range = omega (arith, n);
      before = λ k lt. absurd (omega arith);
      inside = λ k ge lt. run.inside (suc k) (omega arith) (omega arith);
      behind = λ k ge lt. run.behind (suc k) (omega arith) (omega arith);
    }) in
    let here = counted p ps bucket (run.inside 0 (omega arith) (omega arith)) in
    omega (arith, here, others)
left_in-run (p ∷ ps) bucket (suc low) zero run = let le = run.in_order in absurd (omega (arith, le))
left_in-run (p ∷ ps) bucket (suc low) (suc high) run =
    let n = run.in_range in
    let le = run.in_order in
    let others = left_in-run ps bucket low high (record {
      in_order = omega (arith, le);
      in_range = omega (arith, n);
      before = λ k lt. run.before (suc k) (omega arith);
      inside = λ k ge lt. run.inside (suc k) (omega arith) (omega arith);
      behind = λ k ge lt. run.behind (suc k) (omega arith) (omega arith);
    }) in
    let here = not_counted p ps bucket (run.before 0 (omega arith)) in
    omega (arith, here, others)

module _ (ps : List Pair) (bucket high : ℕ) (top : IsBorder ps bucket high) where
  pub left_from_first : bucket ≡ 0 → left_in bucket ps ≡ high
  left_from_first is =
      let n = top.in_range in
      let all = left_in-run ps bucket 0 high (record {
        in_order = omega arith;
        in_range = n;
        before = λ k lt. absurd (omega arith);
        inside = λ k ge lt. let up = top.up_to k lt in omega (arith, up, is);
        behind = λ k ge lt same. let more = top.beyond k ge lt in omega (arith, more, same);
      }) in
      omega (arith, all)

  pub left_between : (below low : ℕ) → below + 1 ≡ bucket → IsBorder ps below low → left_in bucket ps + low ≡ high
  left_between below low is bottom =
      let n = top.in_range in
      left_in-run ps bucket low high (record {
        in_order = by (cases_lt high low);
        in_range = n;
        before = λ k lt same. let up = bottom.up_to k lt in omega (arith, up, same, is);
        inside = λ k ge lt. let up = top.up_to k lt in let more = bottom.beyond k ge (omega (arith, n)) in omega (arith, up, more, is);
        behind = λ k ge lt same. let more = top.beyond k ge lt in omega (arith, more, same);
      })
    where
      by : (high < low) ⊎ (low ≤ high) → low ≤ high
      by (inr le) = le
      by (inl lt) =
          let m = bottom.in_range in
          let up = bottom.up_to high lt in
          let more = top.beyond high (omega arith) (omega (arith, m)) in
          absurd (omega (arith, up, more, is))
