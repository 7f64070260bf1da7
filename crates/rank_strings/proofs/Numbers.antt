-- Digits read as a number in base 36 are ordered as they are from the left.
use Rattle.std.proofs.Common.{◌≡◌, ℕ, ◌+◌, ◌*◌, ◌<◌, ◌≤◌, List, [], ◌∷◌, length, replicate, refl, sym, ap, ◌∙◌, lit<, arith}
use Rattle.std.proofs.lemmas.Cmp.{ranked, by_ranked}
use Rattle.std.proofs.lemmas.List.Elements.{All-head, All-tail, All-replicate}
use Rattle.std.specs.Ordering.{nat_cmp}
use Rattle.std.specs.FinMap.{nat_cmp-IsAntisymmetric, slice_cmp-IsAntisymmetric}
use Rattle.std.specs.Cmp.Lexicographic.{slice_cmp}
use Rattle.rank_strings.specs.Rank.{AreDigits}
use Rattle.rank_strings.specs.Chosen.{number_after, number, greatest_number}
use Rattle.rank_strings.proofs.Order.{nat_cmp-less, nat_cmp-greater, nat_cmp-same}

pub number_after-less : (m n : ℕ) (f g : List ℕ) → m < n → AreDigits f → length f ≡ length g →
    number_after m f < number_after n g
number_after-less m n [] [] l h e = l
number_after-less m n [] (b ∷ g) l h e = absurd (omega arith)
number_after-less m n (a ∷ f) [] l h e = absurd (omega arith)
number_after-less m n (a ∷ f) (b ∷ g) l h e =
    let P : ℕ → Type 0 = λ d. d < 36 in
    let head : a < 36 = All-head P a f h in
    number_after-less (36 * m + a) (36 * n + b) f g (omega arith) (All-tail P a f h) (omega arith)

pub slice_cmp-number_after : (n : ℕ) (f g : List ℕ) → AreDigits f → AreDigits g → length f ≡ length g →
    slice_cmp nat_cmp f g ≡ nat_cmp (number_after n f) (number_after n g)
slice_cmp-number_after n [] [] h k e = sym (nat_cmp-same n)
slice_cmp-number_after n [] (b ∷ g) h k e = absurd (omega arith)
slice_cmp-number_after n (a ∷ f) [] h k e = absurd (omega arith)
slice_cmp-number_after n (a ∷ f) (b ∷ g) h k e =
    let P : ℕ → Type 0 = λ d. d < 36 in
    let lengths : length f ≡ length g = omega arith in
    let below : a < 36 = All-head P a f h in
    let below' : b < 36 = All-head P b g k in
    by_ranked (a < b) (a ≡ b) (b < a) (nat_cmp a b) (ranked a b (nat_cmp a b) refl)
    (λ is less. rw is (sym (nat_cmp-less (number_after (36 * n + a) f) (number_after (36 * n + b) g)
    (number_after-less (36 * n + a) (36 * n + b) f g (omega arith) (All-tail P a f h) lengths))))
    (λ is same. let tails = slice_cmp-number_after (36 * n + a) f g (All-tail P a f h) (All-tail P b g k) lengths in
    rw is (cc))
    (λ is more. rw is (sym (nat_cmp-greater (number_after (36 * n + a) f) (number_after (36 * n + b) g)
    (number_after-less (36 * n + b) (36 * n + a) g f (omega arith) (All-tail P b g k) (sym lengths)))))

-- equally many digits with one number are the same digits
pub number-injective : (f g : List ℕ) → AreDigits f → AreDigits g → length f ≡ length g → number f ≡ number g → f ≡ g
number-injective f g h k e same =
    slice_cmp-IsAntisymmetric nat_cmp-IsAntisymmetric f g
    (slice_cmp-number_after 0 f g h k e ∙ ap (λ n. nat_cmp (number f) n) (sym same) ∙ nat_cmp-same (number f))

-- six digits are at most `zzzzzz`
pub number-at_most : (f : List ℕ) → AreDigits f → length f ≡ 6 → number f ≤ greatest_number
number-at_most f h e =
    let less : number_after 0 f < number_after 1 (replicate 6 0) = number_after-less 0 1 f (replicate 6 0) (omega arith) h e in
    omega arith

pub zeros_are_digits : AreDigits (replicate 6 0)
zeros_are_digits = All-replicate (λ d. d < 36) 6 0 (lit< tt)

-- six digits with the number 0 are zeros
pub number-zero : (f : List ℕ) → AreDigits f → length f ≡ 6 → number f ≡ 0 → f ≡ replicate 6 0
number-zero f h e is = number-injective f (replicate 6 0) h zeros_are_digits e is
