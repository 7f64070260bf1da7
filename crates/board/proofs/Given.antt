-- A rank given to an issue: its own pair gets it, or a new pair behind all others.
use Rattle.std.proofs.Common.{◌≡◌, ◌≢◌, ℕ, zero, suc, ◌<◌, ◌≤◌, List, [], ◌∷◌, ◌⊎◌, length, Some, None, refl, sym, ◌∙◌, ap, inl, inr, arith}
use Rattle.std.specs.Prelude.{remove}
use Rattle.std.proofs.lemmas.Bool.Decides.{nat_tests}
use Rattle.std.proofs.lemmas.Bool.{cases_lt}
use Rattle.board.specs.Order.{Pair, places_before, place_in, without}
use Rattle.board.specs.Table.{nothing, number_at}
use Rattle.board.proofs.Moves.{AreOnce, AreOnce-tail, place_in-at, number_at-places_before}

-- no pair of the issue: nothing is left out
pub without-absent : (ps : List Pair) (issue : ℕ) → ((k : ℕ) → k < length ps → number_at ps k ≢ issue) → without issue ps ≡ ps
without-absent [] issue absent = refl
without-absent (p ∷ ps) issue absent =
    let rest = without-absent ps issue (λ k lt. absent (suc k) (omega arith)) in
    let other = absent 0 (omega arith) in
    grind (arith, nat_tests)

pub places_before-absent : (ps : List Pair) (issue : ℕ) → ((k : ℕ) → k < length ps → number_at ps k ≢ issue) → places_before ps issue ≡ length ps
places_before-absent [] issue absent = refl
places_before-absent (p ∷ ps) issue absent =
    let rest = places_before-absent ps issue (λ k lt. absent (suc k) (omega arith)) in
    let other = absent 0 (omega arith) in
    grind (arith, nat_tests)

-- what is left is the list with the issue's pair removed
pub without-at : (ps : List Pair) (k : ℕ) → AreOnce ps → k < length ps → without (number_at ps k) ps ≡ remove ps k
without-at [] k once lt = absurd (omega arith)
without-at (p ∷ ps) zero once lt =
    let rest = without-absent ps p.1.0 (λ k in_range same. once 0 (suc k) nothing (omega arith) (omega arith) (sym same)) in
    grind (arith, nat_tests)
without-at (p ∷ ps) (suc k) once lt =
    let other : p.1.0 ≢ number_at ps k = once 0 (suc k) nothing (omega arith) lt in
    let rest = without-at ps k (AreOnce-tail p ps once) (omega arith) in
    grind (arith, nat_tests)

pub absent_from_none : (ps : List Pair) (issue : ℕ) → AreOnce ps → place_in ps issue ≡ None → (k : ℕ) → k < length ps → number_at ps k ≢ issue
absent_from_none ps issue once none k lt same = let here = place_in-at ps k issue once lt same in cc

pub found_from_some : (ps : List Pair) (issue place : ℕ) → place_in ps issue ≡ Some place → (place < length ps) × (places_before ps issue ≡ place)
found_from_some ps issue place some = by (cases_lt (places_before ps issue) (length ps))
  where
    by : (places_before ps issue < length ps) ⊎ (length ps ≤ places_before ps issue) → (place < length ps) × (places_before ps issue ≡ place)
    by (inl lt) =
        let is : place_in ps issue ≡ Some (places_before ps issue) = grind (arith, nat_tests) in
        let same : places_before ps issue ≡ place = cc in
        (omega arith, same)
    by (inr le) = let is : place_in ps issue ≡ None = grind (arith, nat_tests) in absurd (cc)

pub number_at_found : (ps : List Pair) (issue place : ℕ) → place_in ps issue ≡ Some place → number_at ps place ≡ issue
number_at_found ps issue place some =
    let found = found_from_some ps issue place some in
    sym (ap (number_at ps) found.1) ∙ number_at-places_before ps issue (omega arith)
