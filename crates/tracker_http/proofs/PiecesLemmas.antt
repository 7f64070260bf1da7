-- The first piece of a comma list.
use Rattle.std.proofs.Common.{◌≡◌, ℕ, suc, ◌+◌, ◌<◌, ◌==◌, List, [], ◌∷◌, length, drop, Bool, true, false, refl, ap, sym, ◌∙◌, arith, if◌then◌else◌, cond}
use Rattle.std.specs.List.{slice_split, onto_first}
use Rattle.tracker_http.specs.CommaLists.{pieces}
use Rattle.tracker_http.specs.Routes.{before}

abbrev split : List ℕ → List (List ℕ)
split list = slice_split (λ b. b == 44) list

first_at : (x : ℕ) (xs : List ℕ) (comma : Bool) → length (if comma then [] else x ∷ before 44 xs) < length (x ∷ xs)
    → (length (before 44 xs) < length xs → split xs ≡ before 44 xs ∷ split (drop (length (before 44 xs) + 1) xs))
    → cond comma ([] ∷ split xs) (onto_first x (split xs))
    ≡ (if comma then [] else x ∷ before 44 xs) ∷ split (drop (length (if comma then [] else x ∷ before 44 xs) + 1) (x ∷ xs))
first_at x xs true less later = refl
first_at x xs false less later =
    let next : suc (length (before 44 xs) + 1) ≡ suc (length (before 44 xs)) + 1 = omega arith in
    ap (onto_first x) (later (omega arith)) ∙ ap (λ k. (x ∷ before 44 xs) ∷ split (drop k (x ∷ xs))) next

first_split : (list : List ℕ) → length (before 44 list) < length list → split list ≡ before 44 list ∷ split (drop (length (before 44 list) + 1) list)
first_split [] less = absurd (omega arith)
first_split (x ∷ xs) less = first_at x xs (x == 44) less (first_split xs)

whole_at : (x : ℕ) (xs : List ℕ) (comma : Bool) → length (if comma then [] else x ∷ before 44 xs) ≡ length (x ∷ xs)
    → (length (before 44 xs) ≡ length xs → split xs ≡ xs ∷ []) → cond comma ([] ∷ split xs) (onto_first x (split xs)) ≡ (x ∷ xs) ∷ []
whole_at x xs true same later = absurd (omega (arith, same))
whole_at x xs false same later = ap (onto_first x) (later (omega arith))

whole_split : (list : List ℕ) → length (before 44 list) ≡ length list → split list ≡ list ∷ []
whole_split [] same = refl
whole_split (x ∷ xs) same = whole_at x xs (x == 44) same (whole_split xs)

-- the first piece goes to the first comma
pub first_piece : (list : List ℕ) (count : ℕ) → count ≡ length (before 44 list) → count < length list
    → pieces list ≡ before 44 list ∷ pieces (drop (count + 1) list)
unfolding pieces
first_piece list count is less = rw is (first_split list (rw (sym is) less))

-- without a comma there is one piece
pub whole_piece : (list : List ℕ) (count : ℕ) → count ≡ length (before 44 list) → count ≡ length list → pieces list ≡ list ∷ []
unfolding pieces
whole_piece list count is all = whole_split list (sym is ∙ all)
