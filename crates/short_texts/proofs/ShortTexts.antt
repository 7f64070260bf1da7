-- The order of texts of which one is used up: that of their lengths.
use Rattle.std.proofs.Common.{◌≡◌, ℕ, zero, suc, ◌<◌, List, [], ◌∷◌, drop, length, min, Ordering, Less, Equal, Greater, nat_cmp, arith, refl}
use Rattle.std.specs.Cmp.{nat_cmp_is}
use Rattle.std.specs.Cmp.Lexicographic.{slice_cmp}
use Rattle.std.specs.Ordering.{MatchOrdering}

one_more : (o : Ordering) (m n : ℕ) → MatchOrdering o (m < n) (m ≡ n) (n < m) → MatchOrdering o (suc m < suc n) (suc m ≡ suc n) (suc n < suc m)
one_more Less m n h = omega arith
one_more Equal m n h = omega arith
one_more Greater m n h = omega arith

left : (xs ys : List ℕ) (i : ℕ) → i ≡ min (length xs) (length ys)
    → MatchOrdering (slice_cmp nat_cmp (drop i xs) (drop i ys)) (length xs < length ys) (length xs ≡ length ys) (length ys < length xs)
left [] [] zero e = refl
left [] (y ∷ ys) zero e = omega arith
left (x ∷ xs) [] zero e = omega arith
left (x ∷ xs) (y ∷ ys) zero e = absurd (omega arith)
left [] [] (suc i) e = absurd (omega arith)
left [] (y ∷ ys) (suc i) e = absurd (omega arith)
left (x ∷ xs) [] (suc i) e = absurd (omega arith)
left (x ∷ xs) (y ∷ ys) (suc i) e = one_more (slice_cmp nat_cmp (drop i xs) (drop i ys)) (length xs) (length ys) (left xs ys i (omega arith))

pub used_up : (xs ys : List ℕ) (i : ℕ) → i ≡ min (length xs) (length ys) → slice_cmp nat_cmp (drop i xs) (drop i ys) ≡ nat_cmp (length xs) (length ys)
used_up xs ys i e = nat_cmp_is (length xs) (length ys) (slice_cmp nat_cmp (drop i xs) (drop i ys)) (left xs ys i e)
