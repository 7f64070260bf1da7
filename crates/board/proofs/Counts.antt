-- Counts of ranks by length.
use Rattle.std.proofs.Common.{◌≡◌, ℕ, suc, Bool, Some, ◌+◌, ◌<◌, ◌≤◌, ◌==◌, true, false, if◌then◌else◌, List, [], ◌∷◌, ◌⊎◌, length, take, replicate, ◌++◌, ◌-◌, refl, sym, ◌∙◌, ap, subst, inl, inr, arith}
use Rattle.std.proofs.lemmas.Bool.{cases_lt, cases_Bool}
use Rattle.std.proofs.lemmas.Bool.Decides.{nat_tests}
use Rattle.std.proofs.lemmas.List.{length-replicate, get_or-append_right, get_or_append_left, take_all, get_or-replicate, get_or_past}
use Rattle.std.proofs.lemmas.List.Sums.{sum_by-cons}
use Rattle.std.specs.Prelude.{slice_index}
use Rattle.rank_strings.specs.Text.{rank_text}
use Rattle.std.specs.Ordering.{is_lt}
use Rattle.field_values.specs.declared.numbers.IssueNo.{IssueNo}
use Rattle.rank_strings.specs.Rank.{RankParts, rank_cmp}
use Rattle.board.specs.Order.{Pair, longest_in, rank_in, without, put_in}
use Rattle.board.specs.Table.{nothing}
use Rattle.board.specs.Lengths.{times_long, times_one, AreCountsOf, AreCountedFor, IsLongest}
use Rattle.board.proofs.Moves.{AreOnce, AreOnce-tail}
use Rattle.board.proofs.Given.{without-absent}

-- what is counted is no longer than the longest
counted_is_short : (ps : List Pair) (n : ℕ) → 0 < times_long ps n → n ≤ longest_in ps
counted_is_short [] n some = absurd (omega arith)
counted_is_short (p ∷ ps) n some = by (cases_Bool (length (rank_text p.0) == n)) (counted_is_short ps n)
  where
    by : ((length (rank_text p.0) == n) ≡ true) ⊎ ((length (rank_text p.0) == n) ≡ false) → (0 < times_long ps n → n ≤ longest_in ps) → n ≤ longest_in (p ∷ ps)
    by (inl is) rest = grind (arith, nat_tests)
    by (inr is) rest = let fewer = rw is at some in let le = rest (omega arith) in omega arith

times_long-cons : (p : Pair) (ps : List Pair) (n : ℕ) → times_long (p ∷ ps) n ≡ (if length (rank_text p.0) == n then 1 else 0) + times_long ps n
times_long-cons p ps n = sum_by-cons (λ q. if length (rank_text q.0) == n then 1 else 0) p ps

times_long-same : (p : Pair) (ps : List Pair) (n : ℕ) → (length (rank_text p.0) == n) ≡ true → times_long (p ∷ ps) n ≡ 1 + times_long ps n
times_long-same p ps n is = times_long-cons p ps n ∙ ap (λ b. (if b then 1 else 0) + times_long ps n) is

-- the longest is counted
longest_is_counted : (ps : List Pair) → 0 < longest_in ps → 0 < times_long ps (longest_in ps)
longest_is_counted [] some = absurd (omega arith)
longest_is_counted (p ∷ ps) some = by (cases_lt (length (rank_text p.0)) (longest_in ps)) (longest_is_counted ps)
  where
    by : (length (rank_text p.0) < longest_in ps) ⊎ (longest_in ps ≤ length (rank_text p.0)) → (0 < longest_in ps → 0 < times_long ps (longest_in ps)) → 0 < times_long (p ∷ ps) (longest_in (p ∷ ps))
    by (inl lt) rest =
        let is : longest_in (p ∷ ps) ≡ longest_in ps = omega arith in
        let more = rest (omega arith) in
        let counted = times_long-cons p ps (longest_in ps) in
        subst (λ n. 0 < times_long (p ∷ ps) n) (sym is) (omega (arith, more, counted))
    by (inr le) rest =
        let is : longest_in (p ∷ ps) ≡ length (rank_text p.0) = omega arith in
        let itself : (length (rank_text p.0) == length (rank_text p.0)) ≡ true = grind (arith, nat_tests) in
        let counted = times_long-same p ps (length (rank_text p.0)) itself in
        subst (λ n. 0 < times_long (p ∷ ps) n) (sym is) (omega (arith, counted))

pub longest_in-counts : (ps : List Pair) (counts : List ℕ) (bytes : ℕ) → AreCountsOf ps counts → IsLongest counts bytes → bytes ≡ longest_in ps
longest_in-counts ps counts bytes are is = by (cases_lt (longest_in ps) bytes) (cases_lt bytes (longest_in ps))
  where
    by : (longest_in ps < bytes) ⊎ (bytes ≤ longest_in ps) → (bytes < longest_in ps) ⊎ (longest_in ps ≤ bytes) → bytes ≡ longest_in ps
    by (inl more) b = let some = is.counted (omega arith) in let le = counted_is_short ps bytes (rw (sym (are bytes)) some) in absurd (omega arith)
    by (inr le) (inl less) = let none = is.greatest (longest_in ps) less in let some = longest_is_counted ps (omega arith) in absurd (omega (arith, are (longest_in ps)))
    by (inr le) (inr more) = omega arith

-- a list filled up with zeros has the same numbers
pub slice_index-filled : (xs : List ℕ) (n k : ℕ) → length xs < n → slice_index (take n xs ++ replicate (n - length xs) 0) k ≡ slice_index xs k
slice_index-filled xs n k lt = rw (take_all n xs (omega arith)) (by (cases_lt k (length xs)) (cases_lt (k - length xs) (n - length xs)))
  where
    by : (k < length xs) ⊎ (length xs ≤ k) → (k - length xs < n - length xs) ⊎ (n - length xs ≤ k - length xs) → slice_index (xs ++ replicate (n - length xs) 0) k ≡ slice_index xs k
    by (inl h) b = get_or_append_left xs (replicate (n - length xs) 0) 0 k h
    by (inr h) (inl b) = get_or-append_right xs (replicate (n - length xs) 0) (length xs) k 0 refl h ∙ get_or-replicate (n - length xs) (k - length xs) 0 0 b ∙ sym (get_or_past xs k 0 h)
    by (inr h) (inr b) = get_or-append_right xs (replicate (n - length xs) 0) (length xs) k 0 refl h ∙ past (n - length xs) (k - length xs) b ∙ sym (get_or_past xs k 0 h)
      where
        past : (m j : ℕ) → m ≤ j → slice_index (replicate m 0) j ≡ 0
        past m j le = let zeros : List ℕ = replicate m 0 in let n : length zeros ≡ m = length-replicate m 0 in get_or_past zeros j 0 (omega arith)

-- the pairs but the issue's, and its own
pub times_long-without : (ps : List Pair) (issue n : ℕ) → AreOnce ps → times_long ps n ≡ times_one (rank_in ps issue) n + times_long (without issue ps) n
times_long-without [] issue n once = refl
times_long-without (p ∷ ps) issue n once = by (p.1.0 == issue) refl (times_long-without ps issue n (AreOnce-tail p ps once))
  where
    by : (b : Bool) → (p.1.0 == issue) ≡ b → times_long ps n ≡ times_one (rank_in ps issue) n + times_long (without issue ps) n
        → times_long (p ∷ ps) n ≡ times_one (rank_in (p ∷ ps) issue) n + times_long (without issue (p ∷ ps)) n
    by true is rest =
        let left = without-absent ps issue (λ k lt same. once 0 (suc k) nothing (omega arith) (omega arith) (grind (arith, nat_tests))) in
        rw (is, left) (times_long-cons p ps n)
    by false is rest =
        let all = times_long-cons p ps n in
        let left = times_long-cons p (without issue ps) n in
        rw is (omega (arith, all, left, rest))

-- a pair that is put in
pub times_long-put : (x : Pair) (ps : List Pair) (n : ℕ) → times_long (put_in x ps) n ≡ times_one (Some x.0) n + times_long ps n
times_long-put x [] n = times_long-cons x [] n
times_long-put x (p ∷ ps) n = by (is_lt (rank_cmp x.0 p.0)) refl (times_long-put x ps n)
  where
    by : (b : Bool) → is_lt (rank_cmp x.0 p.0) ≡ b → times_long (put_in x ps) n ≡ times_one (Some x.0) n + times_long ps n → times_long (put_in x (p ∷ ps)) n ≡ times_one (Some x.0) n + times_long (p ∷ ps) n
    by true is rest = rw is (times_long-cons x (p ∷ ps) n)
    by false is rest =
        let all = times_long-cons p ps n in
        let more = times_long-cons p (put_in x ps) n in
        rw is (omega (arith, all, more, rest))

-- the counts after a rank is counted in place of the one that the issue had
pub counted_after : (ps : List Pair) (issue : IssueNo) (rank : RankParts) (old new : List ℕ) → AreOnce ps → AreCountsOf ps old → AreCountedFor old new (rank_in ps issue.0) (length (rank_text rank)) → AreCountsOf (put_in (rank, issue) (without issue.0 ps)) new
counted_after ps issue rank old new once counted after n =
    let a = after n in
    let c = counted n in
    let w = times_long-without ps issue.0 n once in
    let p = times_long-put (rank, issue) (without issue.0 ps) n in
    omega (arith, a, c, w, p)

-- a rank that stands in the order is counted
pub one_counted : (ps : List Pair) (issue : ℕ) (counts : List ℕ) (rank : RankParts) → AreOnce ps → AreCountsOf ps counts → rank_in ps issue ≡ Some rank → 0 < slice_index counts (length (rank_text rank))
one_counted ps issue counts rank once counted has =
    let c = counted (length (rank_text rank)) in
    let w = times_long-without ps issue (length (rank_text rank)) once in
    let itself : (length (rank_text rank) == length (rank_text rank)) ≡ true = grind (arith, nat_tests) in
    let one : times_one (rank_in ps issue) (length (rank_text rank)) ≡ 1 = ap (λ o. times_one o (length (rank_text rank))) has ∙ ap (λ b. if b then 1 else 0) itself in
    omega (arith, c, w, one)

-- no more are counted than stand there
pub times_long-le : (ps : List Pair) (n : ℕ) → times_long ps n ≤ length ps
times_long-le [] n = omega arith
times_long-le (p ∷ ps) n = by (length (rank_text p.0) == n) refl (times_long-le ps n)
  where
    by : (b : Bool) → (length (rank_text p.0) == n) ≡ b → times_long ps n ≤ length ps → times_long (p ∷ ps) n ≤ length (p ∷ ps)
    by true is rest = let all = times_long-cons p ps n ∙ ap (λ b. (if b then 1 else 0) + times_long ps n) is in omega (arith, all, rest)
    by false is rest = let all = times_long-cons p ps n ∙ ap (λ b. (if b then 1 else 0) + times_long ps n) is in omega (arith, all, rest)
