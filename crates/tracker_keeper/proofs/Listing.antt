-- The list of the places' rows.
use Rattle.std.proofs.Common.{◌≡◌, ℕ, ◌==◌, ◌&&◌, Bool, true, false, cond, List, [], ◌∷◌, Option, Some, None, if◌then◌else◌, refl, sym, ap, ◌∙◌, subst, Ordering, Less, is_eq, All, AllPairs, arith}
use Rattle.std.specs.Option.{option_flatten}
use Rattle.std.specs.Map.{lookup, keys_of}
use Rattle.std.specs.BTreeMap.{is_at, IsOrdered}
use Rattle.std.specs.List.{AllByRecursion}
use Rattle.std.specs.List.Sorted.{IsStrictlySortedBy}
use Rattle.std.proofs.lemmas.List.Elements.{All-cons}
use Rattle.std.proofs.lemmas.List.Kept.{AllPairs-cons}
use Rattle.tracker_keeper.specs.declared.row.Row.{Row}
use Rattle.tracker_keeper.specs.Rows.{found, IsBelow, IsListing}
use Rattle.tracker_keeper.specs.Places.{Places, content, listed, with_listed}
use Rattle.tracker_keeper.proofs.Keys.{Key, cmp, below_from_less, same_test, same_key}

abbrev Entry : Type 0
Entry = Key × Option (List ℕ)

-- ---- what is found

not_less : (r : Ordering) → r ≡ Less → is_eq r ≡ false
not_less r e = ap is_eq e

absent : (q : Key) (es : List Entry) → AllByRecursion (λ y. cmp q y ≡ Less) (keys_of es) → lookup (is_at (cmp q)) es ≡ None
absent q [] h = refl
absent q (e ∷ es) h = ap (λ b. cond b (Some e.1) (lookup (is_at (cmp q)) es)) (not_less (cmp q e.0) h.0) ∙ absent q es h.1

-- behind a vacant place of that key there is none
vacant : (q k : Key) (es : List Entry) (b : Bool) → is_eq (cmp q k) ≡ b → AllByRecursion (λ y. cmp k y ≡ Less) (keys_of es)
    → option_flatten (lookup (is_at (cmp q)) es) ≡ option_flatten (cond b (Some None) (lookup (is_at (cmp q)) es))
vacant q k es true is h = ap option_flatten (absent q es (subst (λ x. AllByRecursion (λ y. cmp x y ≡ Less) (keys_of es)) (same_key q k is) h))
vacant q k es false is h = refl

taken : (body : List ℕ) (one : Option (List ℕ)) (other : Option (Option (List ℕ))) → one ≡ option_flatten other → (b d : Bool) → b ≡ d
    → (if d then Some body else one) ≡ option_flatten (cond b (Some (Some body)) other)
taken body one other same true d e = ap (λ t. if t then Some body else one) (sym e)
taken body one other same false d e = ap (λ t. if t then Some body else one) (sym e) ∙ same

found_first : (kind number : ℕ) (k : Key) (v : Option (List ℕ)) (es : List Entry) → AllByRecursion (λ y. cmp k y ≡ Less) (keys_of es)
    → found (listed es) kind number ≡ option_flatten (lookup (is_at (cmp (kind, number))) es)
    → found (with_listed k v (listed es)) kind number ≡ option_flatten (cond (is_eq (cmp (kind, number) k)) (Some v) (lookup (is_at (cmp (kind, number))) es))
found_first kind number k None es below same = same ∙ vacant (kind, number) k es (is_eq (cmp (kind, number) k)) refl below
found_first kind number k (Some body) es below same =
    taken body (found (listed es) kind number) (lookup (is_at (cmp (kind, number))) es) same (is_eq (cmp (kind, number) k)) ((kind == k.0) && (number == k.1)) (same_test (kind, number) k)

pub found_is : (es : List Entry) → IsStrictlySortedBy cmp (keys_of es) → (kind number : ℕ) → found (listed es) kind number ≡ option_flatten (lookup (is_at (cmp (kind, number))) es)
unfolding IsStrictlySortedBy
found_is [] sorted kind number = refl
found_is (e ∷ es) sorted kind number = found_first kind number e.0 e.1 es sorted.0 (found_is es sorted.1 kind number)

-- ---- rows that rise

abbrev row : Key → List ℕ → Row
row k body = record { kind = k.0; no = k.1; body = body }

below_first : (k j : Key) (body : List ℕ) (v : Option (List ℕ)) (list : List Row) → cmp k j ≡ Less → All (IsBelow (row k body)) list → All (IsBelow (row k body)) (with_listed j v list)
below_first k j body None list less all = all
below_first k j body (Some other) list less all = All-cons (IsBelow (row k body)) (row j other) list (below_from_less k j less) all

below_all : (k : Key) (body : List ℕ) (es : List Entry) → AllByRecursion (λ y. cmp k y ≡ Less) (keys_of es) → All (IsBelow (row k body)) (listed es)
below_all k body [] h = λ i d l. absurd (omega (arith, l))
below_all k body (e ∷ es) h = below_first k e.0 body e.1 (listed es) h.0 (below_all k body es h.1)

rise_first : (k : Key) (v : Option (List ℕ)) (es : List Entry) → AllByRecursion (λ y. cmp k y ≡ Less) (keys_of es) → AllPairs IsBelow (listed es) → AllPairs IsBelow (with_listed k v (listed es))
rise_first k None es below pairs = pairs
rise_first k (Some body) es below pairs = AllPairs-cons IsBelow (row k body) (listed es) (below_all k body es below) pairs

pub rise : (es : List Entry) → IsStrictlySortedBy cmp (keys_of es) → AllPairs IsBelow (listed es)
unfolding IsStrictlySortedBy
rise [] sorted = λ i j d l m. absurd (omega (arith, m))
rise (e ∷ es) sorted = rise_first e.0 e.1 es sorted.0 (rise es sorted.1)

pub listing : (places : Places) → IsOrdered cmp places → IsListing (content places) (listed places.entries)
listing places ordered = record { rising = rise places.entries ordered; same = found_is places.entries ordered }
