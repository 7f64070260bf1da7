-- The order of lists of digits from the left, of ranks and of their texts.
use Rattle.std.proofs.Common.{◌≡◌, ℕ, ◌+◌, ◌<◌, List, [], ◌∷◌, ◌++◌, length, map, refl, sym, ap, ◌∙◌, arith}
use Rattle.std.proofs.lemmas.Bool.Decides.{nat_tests}
use Rattle.std.proofs.lemmas.List.{length-map}
use Rattle.std.proofs.lemmas.List.Elements.{All-head, All-tail}
use Rattle.std.specs.declared.cmp.Ordering.{Ordering}
use Rattle.std.specs.declared.cmp.Ordering.TheVariants.{Less, Equal, Greater}
use Rattle.std.specs.Ordering.{nat_cmp, ordering_then}
use Rattle.std.specs.Cmp.Lexicographic.{slice_cmp}
use Rattle.rank_strings.specs.Rank.{RankParts, IsRank, AreDigits, rank_cmp}
use Rattle.rank_strings.specs.Text.{digit_code, rank_text}

pub nat_cmp-less : (x y : ℕ) → x < y → nat_cmp x y ≡ Less
nat_cmp-less x y h = grind (arith, nat_tests)

pub nat_cmp-greater : (x y : ℕ) → y < x → nat_cmp x y ≡ Greater
nat_cmp-greater x y h = grind (arith, nat_tests)

pub nat_cmp-same : (x : ℕ) → nat_cmp x x ≡ Equal
nat_cmp-same x = grind (arith, nat_tests)

pub then_assoc : (o p q : Ordering) → ordering_then o (ordering_then p q) ≡ ordering_then (ordering_then o p) q
then_assoc Less p q = refl
then_assoc Equal p q = refl
then_assoc Greater p q = refl

-- of lists that begin with equally many digits, the beginnings are compared first
pub slice_cmp-append : (f g x y : List ℕ) → length f ≡ length g →
    slice_cmp nat_cmp (f ++ x) (g ++ y) ≡ ordering_then (slice_cmp nat_cmp f g) (slice_cmp nat_cmp x y)
slice_cmp-append [] [] x y e = refl
slice_cmp-append [] (b ∷ g) x y e = absurd (omega arith)
slice_cmp-append (a ∷ f) [] x y e = absurd (omega arith)
slice_cmp-append (a ∷ f) (b ∷ g) x y e =
    let h : length f ≡ length g = omega arith in
    ap (ordering_then (nat_cmp a b)) (slice_cmp-append f g x y h)
    ∙ then_assoc (nat_cmp a b) (slice_cmp nat_cmp f g) (slice_cmp nat_cmp x y)

-- digits are ordered as the bytes that they are written as
nat_cmp-digit_code : (d e : ℕ) → d < 36 → e < 36 → nat_cmp (digit_code d) (digit_code e) ≡ nat_cmp d e
nat_cmp-digit_code d e h k = grind (arith, nat_tests)

pub slice_cmp-digit_code : (f g : List ℕ) → AreDigits f → AreDigits g →
    slice_cmp nat_cmp (map digit_code f) (map digit_code g) ≡ slice_cmp nat_cmp f g
slice_cmp-digit_code [] [] h k = refl
slice_cmp-digit_code [] (b ∷ g) h k = refl
slice_cmp-digit_code (a ∷ f) [] h k = refl
slice_cmp-digit_code (a ∷ f) (b ∷ g) h k =
    let P : ℕ → Type 0 = λ d. d < 36 in
    let head : nat_cmp (digit_code a) (digit_code b) ≡ nat_cmp a b =
    nat_cmp-digit_code a b (All-head P a f h) (All-head P b g k) in
    let tail : slice_cmp nat_cmp (map digit_code f) (map digit_code g) ≡ slice_cmp nat_cmp f g =
    slice_cmp-digit_code f g (All-tail P a f h) (All-tail P b g k) in
    cc

nat_cmp-add : (n x y : ℕ) → nat_cmp (n + x) (n + y) ≡ nat_cmp x y
nat_cmp-add n x y = grind (arith, nat_tests)

-- ranks compare as their texts
pub slice_cmp-rank_text : (a b : RankParts) → IsRank a → IsRank b →
    slice_cmp nat_cmp (rank_text a) (rank_text b) ≡ rank_cmp a b
slice_cmp-rank_text a b h k =
    let fronts : length (map digit_code a.front) ≡ length (map digit_code b.front) =
    length-map a.front digit_code ∙ h.front_length ∙ sym k.front_length ∙ sym (length-map b.front digit_code) in
    let texts = slice_cmp-append (map digit_code a.front) (map digit_code b.front)
    (58 ∷ map digit_code a.further) (58 ∷ map digit_code b.further) fronts in
    let parts = slice_cmp-append a.front b.front a.further b.further (h.front_length ∙ sym k.front_length) in
    let front = slice_cmp-digit_code a.front b.front h.front_digits k.front_digits in
    let further = slice_cmp-digit_code a.further b.further h.further_digits k.further_digits in
    let bucket = nat_cmp-add 48 a.bucket b.bucket in
    cc

-- buckets are compared first, then the digits in front, then the further ones
pub rank_cmp-parts : (a b : RankParts) → IsRank a → IsRank b →
    ordering_then (ordering_then (nat_cmp a.bucket b.bucket) (slice_cmp nat_cmp a.front b.front)) (slice_cmp nat_cmp a.further b.further)
    ≡ rank_cmp a b
rank_cmp-parts a b h k =
    sym (then_assoc (nat_cmp a.bucket b.bucket) (slice_cmp nat_cmp a.front b.front) (slice_cmp nat_cmp a.further b.further))
    ∙ sym (ap (ordering_then (nat_cmp a.bucket b.bucket))
    (slice_cmp-append a.front b.front a.further b.further (h.front_length ∙ sym k.front_length)))
