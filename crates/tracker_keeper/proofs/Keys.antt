-- Keys of places, which compare by kind and then number.
use Rattle.std.proofs.Common.{◌≡◌, ℕ, ◌<◌, ◌==◌, ◌&&◌, ◌⊎◌, Bool, true, cond, List, Option, refl, sym, ◌∙◌, inl, inr, Ordering, Less, Equal, Greater, nat_cmp, is_eq, if◌then◌else◌, arith, ap, ap₂, eq-eqb, ne_eqb}
use Rattle.std.specs.Ordering.{ordering_then, MatchOrdering}
use Rattle.std.specs.BTreeMap.{get}
use Rattle.std.proofs.lemmas.Cmp.{ranked}
use Rattle.tracker_keeper.specs.Places.{Places, IsSet}

abbrev pub Key : Type 0
Key = ℕ × ℕ

abbrev pub cmp : Key → Key → Ordering
cmp x y = ordering_then (nat_cmp x.0 y.0) (nat_cmp x.1 y.1)

less_by : (r s : Ordering) (a b c d : ℕ) → MatchOrdering r (a < b) (a ≡ b) (b < a) → MatchOrdering s (c < d) (c ≡ d) (d < c) → ordering_then r s ≡ Less → (a < b) ⊎ ((a ≡ b) × (c < d))
less_by Less s a b c d h k e = inl h
less_by Equal Less a b c d h k e = inr (h, k)
less_by Equal Equal a b c d h k e = absurd (cc)
less_by Equal Greater a b c d h k e = absurd (cc)
less_by Greater s a b c d h k e = absurd (cc)

pub below_from_less : (x y : Key) → cmp x y ≡ Less → (x.0 < y.0) ⊎ ((x.0 ≡ y.0) × (x.1 < y.1))
below_from_less x y e = less_by (nat_cmp x.0 y.0) (nat_cmp x.1 y.1) x.0 y.0 x.1 y.1 (ranked x.0 y.0 (nat_cmp x.0 y.0) refl) (ranked x.1 y.1 (nat_cmp x.1 y.1) refl) e

test_by : (r s : Ordering) (a b c d : ℕ) → MatchOrdering r (a < b) (a ≡ b) (b < a) → MatchOrdering s (c < d) (c ≡ d) (d < c) → is_eq (ordering_then r s) ≡ ((a == b) && (c == d))
test_by Less s a b c d h k = sym (ap (λ t. t && (c == d)) (ne_eqb a b (λ e. absurd (omega (arith, h, e)))))
test_by Equal Less a b c d h k = sym (ap₂ (λ t u. t && u) (eq-eqb a b h) (ne_eqb c d (λ e. absurd (omega (arith, k, e)))))
test_by Equal Equal a b c d h k = sym (ap₂ (λ t u. t && u) (eq-eqb a b h) (eq-eqb c d k))
test_by Equal Greater a b c d h k = sym (ap₂ (λ t u. t && u) (eq-eqb a b h) (ne_eqb c d (λ e. absurd (omega (arith, k, e)))))
test_by Greater s a b c d h k = sym (ap (λ t. t && (c == d)) (ne_eqb a b (λ e. absurd (omega (arith, h, e)))))

pub same_test : (x y : Key) → is_eq (cmp x y) ≡ ((x.0 == y.0) && (x.1 == y.1))
same_test x y = test_by (nat_cmp x.0 y.0) (nat_cmp x.1 y.1) x.0 y.0 x.1 y.1 (ranked x.0 y.0 (nat_cmp x.0 y.0) refl) (ranked x.1 y.1 (nat_cmp x.1 y.1) refl)

equal_by : (r s : Ordering) (a b c d : ℕ) → MatchOrdering r (a < b) (a ≡ b) (b < a) → MatchOrdering s (c < d) (c ≡ d) (d < c) → is_eq (ordering_then r s) ≡ true → (a ≡ b) × (c ≡ d)
equal_by Less s a b c d h k e = absurd (cc)
equal_by Equal Less a b c d h k e = absurd (cc)
equal_by Equal Equal a b c d h k e = (h, k)
equal_by Equal Greater a b c d h k e = absurd (cc)
equal_by Greater s a b c d h k e = absurd (cc)

pub same_key : (x y : Key) → is_eq (cmp x y) ≡ true → y ≡ x
same_key x y e =
    let h = equal_by (nat_cmp x.0 y.0) (nat_cmp x.1 y.1) x.0 y.0 x.1 y.1 (ranked x.0 y.0 (nat_cmp x.0 y.0) refl) (ranked x.1 y.1 (nat_cmp x.1 y.1) refl) e in
    λ i. (sym h.0 i, sym h.1 i)

-- the one test in place of the other
pub set_by : {X : Type 0} (a b : X) (c d : Bool) → c ≡ d → cond c a b ≡ (if d then a else b)
set_by a b c d e = ap (λ t. cond t a b) e

-- what a map says of a key that is written
pub set_at : (kind number : ℕ) (place : Option (Option (List ℕ))) (old new : Places)
    → ((q : Key) → get cmp new q ≡ cond (is_eq (cmp (kind, number) q)) place (get cmp old q)) → IsSet kind number place old new
set_at kind number place old new h k n =
    h (k, n) ∙ set_by place (get cmp old (k, n)) (is_eq (cmp (kind, number) (k, n))) ((kind == k) && (number == n)) (same_test (kind, number) (k, n))
