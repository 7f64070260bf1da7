-- What a table of places knows, and a pair moved within the list.
use Rattle.std.proofs.Common.{◌≡◌, ◌≢◌, ℕ, zero, suc, ◌<◌, ◌≤◌, ◌==◌, true, false, Bool, List, [], ◌∷◌, length, Some, None, ◌⊎◌, refl, sym, ◌∙◌, ap, inl, inr, arith}
use Rattle.std.specs.Prelude.{AllPairs}
use Rattle.std.proofs.lemmas.Bool.Decides.{nat_tests}
use Rattle.std.proofs.lemmas.Bool.{cases_lt}
use Rattle.board.specs.Order.{Pair, places_before, place_in}
use Rattle.board.specs.Table.{nothing, number_at}

-- each issue stands once
abbrev pub AreOnce : List Pair → Type 0
AreOnce ps = AllPairs (λ p q. p.1.0 ≢ q.1.0) ps

pub AreOnce-tail : (p : Pair) (ps : List Pair) → AreOnce (p ∷ ps) → AreOnce ps
AreOnce-tail p ps once = λ i j d lt in_range. once (suc i) (suc j) d (omega arith) (omega arith)

-- an issue at a place has that place
pub places_before-number_at : (ps : List Pair) (k : ℕ) → AreOnce ps → k < length ps → places_before ps (number_at ps k) ≡ k
places_before-number_at [] k once lt = absurd (omega arith)
places_before-number_at (p ∷ ps) zero once lt = grind (arith, nat_tests)
places_before-number_at (p ∷ ps) (suc k) once lt =
    let differ : p.1.0 ≢ number_at ps k = once 0 (suc k) nothing (omega arith) lt in
    let rest = places_before-number_at ps k (AreOnce-tail p ps once) (omega arith) in
    grind (arith, nat_tests)

-- where an issue stands is its number
pub number_at-places_before : (ps : List Pair) (issue : ℕ) → places_before ps issue < length ps → number_at ps (places_before ps issue) ≡ issue
number_at-places_before [] issue lt = absurd (omega arith)
number_at-places_before (p ∷ ps) issue lt = by (p.1.0 == issue) refl (number_at-places_before ps issue)
  where
    by : (b : Bool) → (p.1.0 == issue) ≡ b → (places_before ps issue < length ps → number_at ps (places_before ps issue) ≡ issue) → number_at (p ∷ ps) (places_before (p ∷ ps) issue) ≡ issue
    by true is rest = rw is (grind (arith, nat_tests))
    by false is rest = let shorter = rw is at lt in rw is (rest (omega arith))

pub place_in-at : (ps : List Pair) (k issue : ℕ) → AreOnce ps → k < length ps → number_at ps k ≡ issue → place_in ps issue ≡ Some k
place_in-at ps k issue once lt is =
    let here : places_before ps issue ≡ k = sym (ap (places_before ps) is) ∙ places_before-number_at ps k once lt in
    grind (arith, nat_tests)

pub place_in-none : (ps : List Pair) (issue : ℕ) → ((k : ℕ) → k < length ps → number_at ps k ≢ issue) → place_in ps issue ≡ None
place_in-none ps issue differ = by (cases_lt (places_before ps issue) (length ps))
  where
    by : (places_before ps issue < length ps) ⊎ (length ps ≤ places_before ps issue) → place_in ps issue ≡ None
    by (inl lt) = absurd (differ (places_before ps issue) lt (number_at-places_before ps issue lt))
    by (inr le) = grind (arith, nat_tests)
