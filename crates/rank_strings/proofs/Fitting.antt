-- Lists of further digits between two others: how long they are at least, and which last digits they have.
use Rattle.std.proofs.Common.{◌≡◌, ℕ, zero, suc, ◌+◌, ◌<◌, ◌≤◌, ◌⊎◌, inl, inr, List, [], ◌∷◌, ◌++◌, length, get_or, drop, refl, sym, ap, ◌∙◌, add-one, lit<, arith}
use Rattle.std.proofs.lemmas.Bool.Decides.{nat_tests}
use Rattle.std.proofs.lemmas.Cmp.{ranked, by_ranked}
use Rattle.std.proofs.lemmas.List.Elements.{All-head, All-tail, All-cons, All-nil, All-drop}
use Rattle.std.specs.declared.cmp.Ordering.TheVariants.{Less}
use Rattle.std.specs.Ordering.{nat_cmp, ordering_then}
use Rattle.std.specs.Cmp.Lexicographic.{slice_cmp}
use Rattle.rank_strings.specs.Rank.{AreDigits, last_or}
use Rattle.rank_strings.specs.Gap.{lowest_at, highest_at, padded, HasNoGapBefore}
use Rattle.rank_strings.proofs.Order.{nat_cmp-less, nat_cmp-same}

-- an empty list of digits at the high end bounds nothing
abbrev pub IsBelowEnd : List ℕ → List ℕ → Type 0
IsBelowEnd [] ds = Unit {0}
IsBelowEnd (b ∷ bs) ds = slice_cmp nat_cmp ds (b ∷ bs) ≡ Less

-- further digits of a rank that lies between two with these further digits
pub record FitsBetween (low high ds : List ℕ) : Type 0 where
  pub digits : AreDigits ds
  pub no_last_zero : 0 < last_or 1 ds
  pub above : slice_cmp nat_cmp low ds ≡ Less
  pub below : IsBelowEnd high ds

-- the ends themselves
pub record AreEnds (low high : List ℕ) : Type 0 where
  pub low_digits : AreDigits low
  pub high_digits : AreDigits high
  pub no_last_zero : 0 < last_or 1 high
  pub apart : IsBelowEnd high low

less-head : (a x : ℕ) (ds xs : List ℕ) → a < x → slice_cmp nat_cmp (a ∷ ds) (x ∷ xs) ≡ Less
less-head a x ds xs h = ap (λ o. ordering_then o (slice_cmp nat_cmp ds xs)) (nat_cmp-less a x h)

less-tail : (a x : ℕ) (ds xs : List ℕ) → a ≡ x → slice_cmp nat_cmp ds xs ≡ Less → slice_cmp nat_cmp (a ∷ ds) (x ∷ xs) ≡ Less
less-tail a x ds xs e h =
    ap (λ n. ordering_then (nat_cmp a n) (slice_cmp nat_cmp ds xs)) (sym e)
    ∙ ap (λ o. ordering_then o (slice_cmp nat_cmp ds xs)) (nat_cmp-same a) ∙ h

less-cases : (a x : ℕ) (ds xs : List ℕ) → slice_cmp nat_cmp (a ∷ ds) (x ∷ xs) ≡ Less →
    (a < x) ⊎ ((a ≡ x) × (slice_cmp nat_cmp ds xs ≡ Less))
less-cases a x ds xs h =
    by_ranked (a < x) (a ≡ x) (x < a) (nat_cmp a x) (ranked a x (nat_cmp a x) refl)
    (λ is less. inl less)
    (λ is same. inr (same, rw is at h))
    (λ is more. absurd (let h' = rw is at h in cc))

-- nothing is below no digits
pub not_less-nil : (ds : List ℕ) → slice_cmp nat_cmp ds [] ≡ Less → ⊥
not_less-nil [] h = cc
not_less-nil (a ∷ ds) h = cc

-- what fits has a first digit
first_digit : (low high xs : List ℕ) → FitsBetween low high xs → (x : ℕ) × (rest : List ℕ) × (xs ≡ x ∷ rest)
first_digit low high [] h = absurd (not_less-nil low h.above)
first_digit low high (x ∷ xs) h = (x, xs, refl)

-- the first digit of what fits is at least the low end's
first-at_least : (low high : List ℕ) (x : ℕ) (xs : List ℕ) → FitsBetween low high (x ∷ xs) → get_or low 0 0 ≤ x
first-at_least [] high x xs h = omega arith
first-at_least (a ∷ low) high x xs h =
    elim (less-cases a x low xs h.above) [ inl less ↦ omega arith | inr same ↦ omega (arith, same.0) ]

highest-inner : (b c : ℕ) (high : List ℕ) → highest_at (b ∷ c ∷ high) 0 ≡ b
highest-inner b c high = grind (arith, nat_tests)

-- and at most the highest that fits there
first-at_most : (low high : List ℕ) (x : ℕ) (xs : List ℕ) → FitsBetween low high (x ∷ xs) → x ≤ highest_at high 0
first-at_most low [] x xs h =
    let digit : x < 36 = All-head (λ d. d < 36) x xs h.digits in
    omega arith
first-at_most low (b ∷ []) x xs h =
    elim (less-cases x b xs [] h.below) [ inl less ↦ omega arith | inr same ↦ absurd (not_less-nil xs same.1) ]
first-at_most low (b ∷ c ∷ high) x xs h =
    let inner = highest-inner b c high in
    elim (less-cases x b xs (c ∷ high) h.below) [ inl less ↦ omega (arith, inner) | inr same ↦ omega (arith, inner, same.0) ]

pub shifted_lowest : (low : List ℕ) (k : ℕ) → lowest_at (drop 1 low) k ≡ lowest_at low (suc k)
shifted_lowest [] k = refl
shifted_lowest (a ∷ low) k = refl

pub shifted_highest : (high : List ℕ) (k : ℕ) → highest_at (drop 1 high) k ≡ highest_at high (suc k)
shifted_highest [] k = grind (arith, nat_tests)
shifted_highest (b ∷ high) k = grind (arith, nat_tests)

-- where no digit fits before a depth, none does one digit further on
shifted_none : (low high : List ℕ) (depth : ℕ) → HasNoGapBefore low high (suc depth) →
    HasNoGapBefore (drop 1 low) (drop 1 high) depth
shifted_none low high depth h k l =
    let here : highest_at high (suc k) < lowest_at low (suc k) = h (suc k) (omega arith) in
    rw (shifted_lowest low k, shifted_highest high k) here

-- where no digit fits, the first digit of what fits is the low end's, or 0
first_forced : (low high : List ℕ) → highest_at high 0 < lowest_at low 0 → (x : ℕ) (xs : List ℕ) →
    FitsBetween low high (x ∷ xs) → x ≡ get_or low 0 0
first_forced low high none x xs h =
    let least = first-at_least low high x xs h in
    let most = first-at_most low high x xs h in
    omega arith

-- and what stands behind it fits between what stands behind the first digits of the ends
rest-above : (low high : List ℕ) → (x : ℕ) (xs : List ℕ) → x ≡ get_or low 0 0 → FitsBetween low high (x ∷ xs) →
    slice_cmp nat_cmp (drop 1 low) xs ≡ Less
rest-above [] high x [] e h = absurd (let last : 0 < x = h.no_last_zero in omega arith)
rest-above [] high x (y ∷ ys) e h = refl
rest-above (a ∷ low) high x xs e h =
    elim (less-cases a x low xs h.above) [ inl less ↦ absurd (omega (arith, e)) | inr same ↦ same.1 ]

rest-last : (low xs : List ℕ) (x : ℕ) → slice_cmp nat_cmp low xs ≡ Less → 0 < last_or 1 (x ∷ xs) → 0 < last_or 1 xs
rest-last low [] x h last = absurd (not_less-nil low h)
rest-last low (y ∷ ys) x h last = last

rest-below : (low high : List ℕ) → highest_at high 0 < lowest_at low 0 → (x : ℕ) (xs : List ℕ) → x ≡ get_or low 0 0 →
    FitsBetween low high (x ∷ xs) → IsBelowEnd (drop 1 high) xs
rest-below low [] none x xs e h = tt
rest-below low (b ∷ []) none x xs e h = tt
rest-below low (b ∷ c ∷ high) none x xs e h =
    let inner = highest-inner b c high in
    elim (less-cases x b xs (c ∷ high) h.below) [ inl less ↦ absurd (omega (arith, inner, none, e)) | inr same ↦ same.1 ]

rest_fits : (low high : List ℕ) → highest_at high 0 < lowest_at low 0 → (x : ℕ) (xs : List ℕ) →
    FitsBetween low high (x ∷ xs) → FitsBetween (drop 1 low) (drop 1 high) xs
rest_fits low high none x xs h =
    let forced = first_forced low high none x xs h in
    let above = rest-above low high x xs forced h in
    record {
      digits = All-tail (λ d. d < 36) x xs h.digits;
      no_last_zero = rest-last (drop 1 low) xs x above h.no_last_zero;
      above = above;
      below = rest-below low high none x xs forced h;
    }

-- what fits is longer than the depth before which no digit fits
pub length-fitting : (depth : ℕ) (low high : List ℕ) → HasNoGapBefore low high depth → (xs : List ℕ) →
    FitsBetween low high xs → depth < length xs
length-fitting depth low high none [] h = absurd (not_less-nil low h.above)
length-fitting zero low high none (x ∷ xs) h = omega arith
length-fitting (suc depth) low high none (x ∷ xs) h =
    let rest = length-fitting depth (drop 1 low) (drop 1 high) (shifted_none low high depth none) xs
    (rest_fits low high (none 0 (omega arith)) x xs h) in
    omega arith

-- what fits just behind that depth
pub record IsLastOf (low high : List ℕ) (depth : ℕ) (xs : List ℕ) : Type 0 where
  pub lowest : lowest_at low depth ≤ last_or 0 xs
  pub highest : last_or 0 xs ≤ highest_at high depth
  pub padded_last : xs ≡ padded depth low ++ last_or 0 xs ∷ []

last-at_least : (low high : List ℕ) (x : ℕ) → FitsBetween low high (x ∷ []) → lowest_at low 0 ≤ x
last-at_least [] high x h = let last : 0 < x = h.no_last_zero in omega arith
last-at_least (a ∷ low) high x h =
    elim (less-cases a x low [] h.above) [ inl less ↦ omega arith | inr same ↦ absurd (not_less-nil low same.1) ]

pub last-fitting : (depth : ℕ) (low high : List ℕ) → HasNoGapBefore low high depth → (xs : List ℕ) →
    FitsBetween low high xs → length xs ≡ suc depth → IsLastOf low high depth xs
last-fitting depth low high none [] h e = absurd (omega arith)
last-fitting zero low high none (x ∷ []) h e =
    record { lowest = last-at_least low high x h; highest = first-at_most low high x [] h; padded_last = refl }
last-fitting zero low high none (x ∷ y ∷ ys) h e = absurd (omega arith)
last-fitting (suc depth) low high none (x ∷ []) h e = absurd (omega arith)
last-fitting (suc depth) low high none (x ∷ y ∷ ys) h e =
    let forced : x ≡ get_or low 0 0 = first_forced low high (none 0 (omega arith)) x (y ∷ ys) h in
    let rest = last-fitting depth (drop 1 low) (drop 1 high) (shifted_none low high depth none) (y ∷ ys)
    (rest_fits low high (none 0 (omega arith)) x (y ∷ ys) h) (omega arith) in
    record {
      lowest = rw (← shifted_lowest low depth) rest.lowest;
      highest = rw (← shifted_highest high depth) rest.highest;
      padded_last = let tail = rest.padded_last in cc;
    }

-- a digit that fits at once
single-below : (low high : List ℕ) → AreEnds low high → (x : ℕ) → 0 < x → x ≤ highest_at high 0 → IsBelowEnd high (x ∷ [])
single-below low [] h x one most = tt
single-below low (b ∷ []) h x one most = less-head x b [] [] (omega arith)
single-below low (b ∷ c ∷ high) h x one most =
    let inner = highest-inner b c high in
    by_ranked (x < b) (x ≡ b) (b < x) (nat_cmp x b) (ranked x b (nat_cmp x b) refl)
    (λ is less. less-head x b [] (c ∷ high) less)
    (λ is same. less-tail x b [] (c ∷ high) same refl)
    (λ is more. absurd (omega (arith, inner)))

single-above : (low : List ℕ) (x : ℕ) → lowest_at low 0 ≤ x → slice_cmp nat_cmp low (x ∷ []) ≡ Less
single-above [] x least = refl
single-above (a ∷ low) x least = less-head a x low [] (omega arith)

highest-digit : (high : List ℕ) → AreDigits high → highest_at high 0 < 36
highest-digit [] h = lit< tt
highest-digit (b ∷ []) h = let digit : b < 36 = All-head (λ d. d < 36) b [] h in omega arith
highest-digit (b ∷ c ∷ high) h =
    let digit : b < 36 = All-head (λ d. d < 36) b (c ∷ high) h in
    omega (arith, highest-inner b c high)

single_fits : (low high : List ℕ) → AreEnds low high → (x : ℕ) → lowest_at low 0 ≤ x → x ≤ highest_at high 0 →
    FitsBetween low high (x ∷ [])
single_fits low high h x least most =
    let digit : x < 36 = omega (arith, highest-digit high h.high_digits) in
    let one : 0 < x = omega arith in
    record {
      digits = All-cons (λ d. d < 36) x [] digit (All-nil (λ d. d < 36));
      no_last_zero = one;
      above = single-above low x least;
      below = single-below low high h x one most;
    }

-- where no digit fits at once, what stands behind the first digits are ends again
rest-apart : (low high : List ℕ) → highest_at high 0 < lowest_at low 0 → AreEnds low high → IsBelowEnd (drop 1 high) (drop 1 low)
rest-apart low [] none h = tt
rest-apart low (b ∷ []) none h = tt
rest-apart [] (b ∷ c ∷ high) none h = refl
rest-apart (a ∷ low) (b ∷ c ∷ high) none h =
    let inner = highest-inner b c high in
    elim (less-cases a b low (c ∷ high) h.apart) [ inl less ↦ absurd (omega (arith, inner, none)) | inr same ↦ same.1 ]

rest-high_last : (high : List ℕ) → 0 < last_or 1 high → 0 < last_or 1 (drop 1 high)
rest-high_last [] h = h
rest-high_last (b ∷ []) h = lit< tt
rest-high_last (b ∷ c ∷ high) h = h

rest_ends : (low high : List ℕ) → highest_at high 0 < lowest_at low 0 → AreEnds low high → AreEnds (drop 1 low) (drop 1 high)
rest_ends low high none h = record {
  low_digits = All-drop (λ d. d < 36) 1 low h.low_digits;
  high_digits = All-drop (λ d. d < 36) 1 high h.high_digits;
  no_last_zero = rest-high_last high h.no_last_zero;
  apart = rest-apart low high none h;
}

-- and what fits there fits here behind the low end's first digit, or 0
prefixed-above : (low xs : List ℕ) → slice_cmp nat_cmp (drop 1 low) xs ≡ Less → slice_cmp nat_cmp low (get_or low 0 0 ∷ xs) ≡ Less
prefixed-above [] xs h = refl
prefixed-above (a ∷ low) xs h = less-tail a a low xs refl h

prefixed-below : (low high : List ℕ) → highest_at high 0 < lowest_at low 0 → AreEnds low high → (xs : List ℕ) →
    IsBelowEnd (drop 1 high) xs → IsBelowEnd high (get_or low 0 0 ∷ xs)
prefixed-below low [] none h xs below = tt
prefixed-below [] (b ∷ []) none h xs below = let last : 0 < b = h.no_last_zero in less-head 0 b xs [] last
prefixed-below [] (b ∷ c ∷ high) none h xs below =
    let zero' : 0 ≡ b = omega (arith, highest-inner b c high, none) in
    less-tail 0 b xs (c ∷ high) zero' below
prefixed-below (a ∷ low) (b ∷ []) none h xs below =
    elim (less-cases a b low [] h.apart) [ inl less ↦ less-head a b xs [] less | inr same ↦ absurd (not_less-nil low same.1) ]
prefixed-below (a ∷ low) (b ∷ c ∷ high) none h xs below =
    elim (less-cases a b low (c ∷ high) h.apart)
    [ inl less ↦ less-head a b xs (c ∷ high) less | inr same ↦ less-tail a b xs (c ∷ high) same.0 below ]

first-digit : (low : List ℕ) → AreDigits low → get_or low 0 0 < 36
first-digit [] h = lit< tt
first-digit (a ∷ low) h = All-head (λ d. d < 36) a low h

prefixed-last : (low xs : List ℕ) (x : ℕ) → slice_cmp nat_cmp low xs ≡ Less → 0 < last_or 1 xs → 0 < last_or 1 (x ∷ xs)
prefixed-last low [] x h last = absurd (not_less-nil low h)
prefixed-last low (y ∷ ys) x h last = last

prefixed_fits : (low high : List ℕ) → highest_at high 0 < lowest_at low 0 → AreEnds low high → (xs : List ℕ) →
    FitsBetween (drop 1 low) (drop 1 high) xs → FitsBetween low high (get_or low 0 0 ∷ xs)
prefixed_fits low high none h xs fits = record {
  digits = All-cons (λ d. d < 36) (get_or low 0 0) xs (first-digit low h.low_digits) fits.digits;
  no_last_zero = prefixed-last (drop 1 low) xs (get_or low 0 0) fits.above fits.no_last_zero;
  above = prefixed-above low xs fits.above;
  below = prefixed-below low high none h xs fits.below;
}

-- each digit that fits at the first depth where one does stands behind the low end's digits
pub padded_fits : (depth : ℕ) (low high : List ℕ) → AreEnds low high → HasNoGapBefore low high depth → (x : ℕ) →
    lowest_at low depth ≤ x → x ≤ highest_at high depth → FitsBetween low high (padded depth low ++ x ∷ [])
padded_fits zero low high h none x least most = single_fits low high h x least most
padded_fits (suc depth) low high h none x least most =
    let here : highest_at high 0 < lowest_at low 0 = none 0 (omega arith) in
    prefixed_fits low high here h (padded depth (drop 1 low) ++ x ∷ [])
    (padded_fits depth (drop 1 low) (drop 1 high) (rest_ends low high here h) (shifted_none low high depth none) x
    (rw (shifted_lowest low depth) least) (rw (shifted_highest high depth) most))

pub length-padded : (n : ℕ) (low : List ℕ) → length (padded n low) ≡ n
length-padded zero low = refl
length-padded (suc n) low = ap suc (length-padded n (drop 1 low))

pub last_or-push : (none : ℕ) (xs : List ℕ) (x : ℕ) → last_or none (xs ++ x ∷ []) ≡ x
last_or-push none [] x = refl
last_or-push none (y ∷ ys) x = last_or-push y ys x

pub padded-more : (n : ℕ) (low : List ℕ) → padded (n + 1) low ≡ padded n low ++ get_or low n 0 ∷ []
padded-more n low = rw add-one (go n low)
  where
    go : (n : ℕ) (low : List ℕ) → padded (suc n) low ≡ padded n low ++ get_or low n 0 ∷ []
    go zero low = refl
    go (suc n) [] = ap (λ xs. 0 ∷ xs) (go n [])
    go (suc n) (a ∷ low) = ap (λ xs. a ∷ xs) (go n low)

pub ruleset gap_lemmas = padded-more
