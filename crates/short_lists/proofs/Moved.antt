-- What is put among the first things, where those behind it were moved up.
use Rattle.std.proofs.Common.{◌≡◌, ℕ, zero, suc, ◌+◌, ◌-◌, ◌<◌, ◌≤◌, List, ◌++◌, ◌∷◌, [], length, take, drop, set, insert, arith, refl, sym, ap, ◌∙◌, length-drop}
use Rattle.std.proofs.Math.Seq.{paste, take-set-lt}
use Rattle.std.proofs.lemmas.List.{drop-take}
use Rattle.std.proofs.lemmas.List.Edits.{take-paste}

last_set : {X : Type 0} (xs : List X) (at : ℕ) (x : X) (rest : List X) → at < length xs → set (take (suc at) xs ++ rest) at x ≡ take at xs ++ x ∷ rest
last_set [] at x rest within = absurd (omega arith)
last_set (y ∷ ys) zero x rest within = refl
last_set (y ∷ ys) (suc at) x rest within = ap (λ (l : List _). y ∷ l) (last_set ys at x rest (omega arith))

take_twice : {X : Type 0} (xs : List X) (n at : ℕ) → at ≤ n → take at xs ≡ take at (take n xs)
take_twice xs n zero within = refl
take_twice xs zero (suc at) within = absurd (omega arith)
take_twice [] (suc n) (suc at) within = refl
take_twice (x ∷ xs) (suc n) (suc at) within = ap (λ (l : List _). x ∷ l) (take_twice xs n at (omega arith))

between : {X : Type 0} (xs : List X) (filled at : ℕ) → at ≤ filled → take (filled - at) (drop at xs) ≡ drop at (take filled xs)
between xs filled at within =
    let count : at + (filled - at) ≡ filled = omega arith in
    sym (drop-take at (filled - at) xs) ∙ ap (λ (k : ℕ). drop at (take k xs)) count

-- among the first so many, before those that were moved up
pub put_moved : {X : Type 0} (xs : List X) (filled at : ℕ) (x : X) → at ≤ filled → filled < length xs
    → take (filled + 1) (set (paste xs (at + 1) (drop at xs) (filled - at)) at x) ≡ insert (take filled xs) at x
put_moved xs filled at x within room =
    let n = filled - at in
    let count : filled + 1 ≡ (at + 1) + n = omega arith in
    let next : at + 1 ≡ suc at = omega arith in
    take-set-lt (filled + 1) (paste xs (at + 1) (drop at xs) n) at x (omega arith)
    ∙ ap (λ (k : ℕ). set (take k (paste xs (at + 1) (drop at xs) n)) at x) count
    ∙ ap (λ (l : List _). set l at x) (take-paste xs (at + 1) (drop at xs) n (omega arith) (omega (arith, length-drop at xs)))
    ∙ ap (λ (k : ℕ). set (take k xs ++ take n (drop at xs)) at x) next
    ∙ last_set xs at x (take n (drop at xs)) (omega arith)
    ∙ ap (λ (l : List _). take at xs ++ x ∷ l) (between xs filled at within)
    ∙ ap (λ (l : List _). l ++ x ∷ drop at (take filled xs)) (take_twice xs filled at within)
