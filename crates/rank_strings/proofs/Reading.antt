-- A text is the text of one rank at most, and its parts are those of the rank.
use Rattle.std.proofs.Common.{◌≡◌, ℕ, ◌+◌, List, ◌∷◌, ◌++◌, length, map, take, drop, Option, Some, None, Bool, IsTrue, refl, sym, ap, ◌∙◌, subst, arith}
use Rattle.std.proofs.lemmas.Cmp.{tied_itself, nat_list_cmp_total}
use Rattle.std.proofs.lemmas.List.{length-map, take_at, drop_at}
use Rattle.std.specs.FinMap.{nat_cmp-IsAntisymmetric, slice_cmp-IsAntisymmetric}
use Rattle.std.specs.declared.cmp.Ordering.{Ordering}
use Rattle.std.specs.declared.cmp.Ordering.TheVariants.{Less, Equal, Greater}
use Rattle.std.specs.Ordering.{nat_cmp, eq_by_cmp, is_eq}
use Rattle.std.specs.Cmp.Lexicographic.{slice_cmp}
use Rattle.std.specs.Option.{MatchOption}
use Rattle.rank_strings.specs.Rank.{RankParts, IsRank, AreDigits, rank_cmp}
use Rattle.rank_strings.specs.Total.{rank_cmp-total}
use Rattle.rank_strings.specs.Text.{digit_code, rank_text, IsTextOf}
use Rattle.rank_strings.proofs.Order.{slice_cmp-digit_code, slice_cmp-rank_text}

-- lists that agree, and whose fronts have one length, agree in both halves
same_halves : (f g x y : List ℕ) → length f ≡ length g → f ++ x ≡ g ++ y → (f ≡ g) × (x ≡ y)
same_halves f g x y e h = (
  sym (take_at f x (length f) refl) ∙ ap (take (length f)) h ∙ take_at g y (length f) (sym e),
  sym (drop_at f x (length f) refl) ∙ ap (drop (length f)) h ∙ drop_at g y (length f) (sym e),
)

-- digits that are written alike are the same
pub digits_from_written : (f g : List ℕ) → AreDigits f → AreDigits g → map digit_code f ≡ map digit_code g → f ≡ g
digits_from_written f g h k e =
    slice_cmp-IsAntisymmetric nat_cmp-IsAntisymmetric f g
    (sym (slice_cmp-digit_code f g h k)
    ∙ ap (λ (t : List ℕ). slice_cmp nat_cmp (map digit_code f) t) (sym e)
    ∙ tied_itself nat_list_cmp_total (map digit_code f))

-- the parts of a text
pub record HasParts (r : RankParts) (b : ℕ) (f x : List ℕ) : Type 0 where
  pub bucket : 48 + r.bucket ≡ b
  pub front : map digit_code r.front ≡ f
  pub further : map digit_code r.further ≡ x

pub parts_of_text : (bytes : List ℕ) (b : ℕ) (f x : List ℕ) → bytes ≡ b ∷ 124 ∷ (f ++ 58 ∷ x) → length f ≡ 6 →
    (r : RankParts) → IsTextOf bytes r → HasParts r b f x
parts_of_text bytes b f x is six r h =
    let whole : (48 + r.bucket) ∷ 124 ∷ (map digit_code r.front ++ 58 ∷ map digit_code r.further) ≡ b ∷ 124 ∷ (f ++ 58 ∷ x) = h.written ∙ is in
    let tails : map digit_code r.front ++ 58 ∷ map digit_code r.further ≡ f ++ 58 ∷ x = cc in
    let fronts : length (map digit_code r.front) ≡ length f = length-map r.front digit_code ∙ h.is_rank.front_length ∙ sym six in
    let halves = same_halves (map digit_code r.front) f (58 ∷ map digit_code r.further) (58 ∷ x) fronts tails in
    let last : 58 ∷ map digit_code r.further ≡ 58 ∷ x = halves.1 in
    record { bucket = cc; front = halves.0; further = cc }

-- the rank of a text has the digits that were read
pub rank_from_text : (r parts : RankParts) → AreDigits parts.front → AreDigits parts.further → length parts.front ≡ 6 →
    IsTextOf (rank_text parts) r → r ≡ parts
rank_from_text r parts front further six h =
    let p = parts_of_text (rank_text parts) (48 + parts.bucket) (map digit_code parts.front) (map digit_code parts.further) refl
    (length-map parts.front digit_code ∙ six) r h in
    let bucket : r.bucket ≡ parts.bucket = omega (arith, p.bucket) in
    let fronts : r.front ≡ parts.front = digits_from_written r.front parts.front h.is_rank.front_digits front p.front in
    let furthers : r.further ≡ parts.further = digits_from_written r.further parts.further h.is_rank.further_digits further p.further in
    λ i. record { bucket = bucket i; front = fronts i; further = furthers i }

-- what `read` found, from what the digits that were read are
pub read_from_parts : (bytes : List ℕ) (parts : RankParts) (found : Option RankParts) →
    AreDigits parts.front → AreDigits parts.further → length parts.front ≡ 6 → rank_text parts ≡ bytes →
    MatchOption found (¬ IsRank parts) (λ r. IsRank r × (r ≡ parts)) →
    MatchOption found ((r : RankParts) → ¬ IsTextOf bytes r) (λ r. IsTextOf bytes r)
read_from_parts bytes parts None front further six is refused = λ r h.
    refused (subst IsRank
    (rank_from_text r parts front further six (record { is_rank = h.is_rank; written = h.written ∙ sym is })) h.is_rank)
read_from_parts bytes parts (Some r) front further six is found =
    record { is_rank = found.0; written = ap rank_text found.1 ∙ is }

-- ranks of one text are the same
pub same_from_text : (a b : RankParts) → IsRank a → IsRank b → rank_text a ≡ rank_text b → a ≡ b
same_from_text a b h k e = rank_from_text a b k.front_digits k.further_digits k.front_length (record { is_rank = h; written = e })

-- ranks that compare equal are the same
pub same_from_equal : (a b : RankParts) → IsRank a → IsRank b → rank_cmp a b ≡ Equal → a ≡ b
same_from_equal a b h k e =
    same_from_text a b h k
    (slice_cmp-IsAntisymmetric nat_cmp-IsAntisymmetric (rank_text a) (rank_text b) (slice_cmp-rank_text a b h k ∙ e))

-- comparing decides whether two ranks are the same
pub same_decided : (a b : RankParts) → IsRank a → IsRank b → (r : Bool) → r ≡ eq_by_cmp rank_cmp a b →
    (IsTrue r → a ≡ b) × (a ≡ b → IsTrue r)
same_decided a b h k r is = (
  (λ yes. same_from_equal a b h k (equal_from_is_eq (rank_cmp a b) (sym is ∙ yes))),
  (λ same. is ∙ ap is_eq (ap (rank_cmp a) (sym same) ∙ tied_itself rank_cmp-total a)),
)
  where
    equal_from_is_eq : (o : Ordering) → IsTrue (is_eq o) → o ≡ Equal
    equal_from_is_eq Less e = cc
    equal_from_is_eq Equal e = refl
    equal_from_is_eq Greater e = cc
