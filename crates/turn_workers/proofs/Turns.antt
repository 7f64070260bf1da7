-- What a turn of the joining loop does to the lists, and how numbers are read by place.
use Rattle.std.proofs.Common.{◌≡◌, ◌<◌, ◌+◌, ◌++◌, ℕ, suc, List, [], ◌∷◌, map, length, slice_index_or, refl, ap, ap₂, sym, subst, ◌∙◌, append_assoc, arith}
use Rattle.std.proofs.lemmas.List.{map-append}
use Rattle.turn_workers.specs.Round.{numbers_from}

module _ {X Y Z : Type 0} (f : X → Z) (g : Y → Z) where
  -- one item more on the left stands for the first one on the right
  pub moved : (xs : List X) (x : X) (y : Y) (old rest : List Y) (all : List Z) → old ≡ y ∷ rest → f x ≡ g y → map f xs ++ map g old ≡ all
      → map f (xs ++ x ∷ []) ++ map g rest ≡ all
  moved xs x y old rest all steps same was =
      ap (λ l. l ++ map g rest) (map-append f xs (x ∷ []))
      ∙ (append_assoc (map f xs) (f x ∷ []) (map g rest)
      ∙ (ap (λ z. map f xs ++ z ∷ map g rest) same ∙ (ap (λ l. map f xs ++ map g l) (sym steps) ∙ was)))

module _ {X Z : Type 0} (f : X → Z) where
  -- the same, at the end of a list
  pub listed_more : (before : List Z) (xs : List X) (x : X) (z : Z) (was now : List Z) → was ≡ before ++ map f xs → now ≡ was ++ z ∷ [] → f x ≡ z → now ≡ before ++ map f (xs ++ x ∷ [])
  listed_more before xs x z was now whole more same =
      more ∙ (ap₂ (λ l y. l ++ y ∷ []) whole (sym same)
      ∙ (append_assoc before (map f xs) (f x ∷ []) ∙ ap (λ l. before ++ l) (sym (map-append f xs (x ∷ [])))))

-- what holds at each place of a list holds at each place of its tail
pub each_tail : {X : Type 0} (Q : X → Type 0) (x : X) (old rest : List X) → old ≡ x ∷ rest
    → ((i : ℕ) (d : X) → i < length old → Q (slice_index_or old i d)) → (i : ℕ) (d : X) → i < length rest → Q (slice_index_or rest i d)
each_tail Q x old rest steps each i d below =
    subst (λ l. (k : ℕ) (d : _) → k < length l → Q (slice_index_or l k d)) steps each (suc i) d (omega (arith, below))

-- numbers that rise by 1 from place to place
pub numbered : {X : Type 0} (f : X → ℕ) (xs : List X) (n : ℕ) → ((i : ℕ) (d : X) → i < length xs → f (slice_index_or xs i d) ≡ n + i) → map f xs ≡ numbers_from n (length xs)
numbered f [] n each = refl
numbered f (x ∷ xs) n each =
    let here : f x ≡ n = each 0 x (omega arith) ∙ omega arith in
    ap₂ (λ y l. y ∷ l) here (numbered f xs (1 + n) (λ i d below. each (suc i) d (omega (arith, below)) ∙ omega arith))

-- the numbers of pairs that two lists share
pub numbers_of : {X Y Z : Type 0} (f : X → ℕ × Z) (g : Y → ℕ × Z) (xs : List X) (ys : List Y) (n count : ℕ) → map f xs ≡ map g ys → length ys ≡ count
    → ((i : ℕ) (d : Y) → i < count → (g (slice_index_or ys i d)).0 ≡ n + i) → map (λ x. (f x).0) xs ≡ numbers_from n count
numbers_of f g xs ys n count same long each =
    firsts f xs
    ∙ (ap (map (λ z. z.0)) same
    ∙ (sym (firsts g ys) ∙ (numbered (λ y. (g y).0) ys n (λ i d below. each i d (subst (λ k. i < k) long below)) ∙ ap (numbers_from n) long))) where
      firsts : {X Z : Type 0} (f : X → ℕ × Z) (xs : List X) → map (λ x. (f x).0) xs ≡ map (λ z. z.0) (map f xs)
      firsts f [] = refl
      firsts f (x ∷ xs) = ap (λ l. (f x).0 ∷ l) (firsts f xs)
