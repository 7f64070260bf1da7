-- There are no more ends than cells.
use Rattle.std.proofs.Common.{◌⊎◌, ◌≡◌, ◌≢◌, ℕ, zero, suc, ◌+◌, ◌-◌, ◌*◌, ◌<◌, ◌≤◌, ◌==◌, List, [], ◌∷◌, length, if◌then◌else◌, sym, ◌∙◌, ap, inl, inr, arith}
use Rattle.std.proofs.lemmas.Bool.{cases_eq}
use Rattle.std.proofs.lemmas.Bool.Decides.{nat_tests}
use Rattle.std.proofs.lemmas.Nat.{mul-add-lt, same_from_place}
use Rattle.filter_views.specs.declared.due.Due.{Due}
use Rattle.filter_views.specs.RowParts.{RowParts}
use Rattle.filter_views.specs.Due.{due_at}
use Rattle.filter_views.specs.FilterRow.{row_of, place_in, IsCell}
use Rattle.filter_views.specs.Agreement.{Agree}
use Rattle.filter_views.specs.Fields.{sizes, AllFit}
use Rattle.filter_views.proofs.Moves.{cell_there, distinct}

-- numbers below m with no two equal are at most m
pigeons : (n m : ℕ) (f : ℕ → ℕ) → ((k : ℕ) → k < n → f k < m) → ((j k : ℕ) → j < k → k < n → f j ≢ f k) → n ≤ m
pigeons zero m f below differ = omega arith
pigeons (suc n) zero f below differ = absurd (omega (arith, below 0 (omega arith)))
pigeons (suc n) (suc m) f below differ =
    let less : n ≤ m = pigeons n m (λ k. if f k == m then f n else f k) smaller apart in omega arith
  where
    smaller : (k : ℕ) → k < n → (if f k == m then f n else f k) < m
    smaller k lt = grind (arith, nat_tests, below k (omega arith), below n (omega arith), differ k n lt (omega arith))

    apart : (j k : ℕ) → j < k → k < n → (if f j == m then f n else f j) ≢ (if f k == m then f n else f k)
    apart j k lt in_range e = grind (arith, nat_tests, differ j k lt (omega arith), differ j n (omega arith) (omega arith), differ k n in_range (omega arith), e)

-- the place of a filter's row
abbrev row_at : List RowParts → ℕ → ℕ
row_at [] f = 0
row_at (r ∷ rs) f = if r.filter == f then 0 else suc (row_at rs f)

row_in : (rs : List RowParts) (f : ℕ) → 0 < length (row_of rs f).places → row_at rs f < length rs
row_in [] f some = absurd (omega (arith, some))
row_in (r ∷ rs) f some = by (row_in rs f) (cases_eq r.filter f)
  where
    by : (0 < length (row_of rs f).places → row_at rs f < length rs) → (r.filter ≡ f) ⊎ (r.filter ≢ f) → row_at (r ∷ rs) f < length (r ∷ rs)
    by rest (inl e) = let is : row_at (r ∷ rs) f ≡ 0 = grind (arith, nat_tests, e) in omega (arith, is)
    by rest (inr e) =
        let is : row_at (r ∷ rs) f ≡ suc (row_at rs f) = grind (arith, nat_tests, e) in
        let row : row_of (r ∷ rs) f ≡ row_of rs f = grind (arith, nat_tests, e) in
        let h = rest (omega (arith, some, ap (λ x. length x.places) row)) in
        omega (arith, is, h)

same_row : (rs : List RowParts) (f g : ℕ) → row_at rs f < length rs → row_at rs f ≡ row_at rs g → f ≡ g
same_row [] f g lt e = absurd (omega (arith, lt))
same_row (r ∷ rs) f g lt e = by (same_row rs f g) (cases_eq r.filter f) (cases_eq r.filter g)
  where
    by : (row_at rs f < length rs → row_at rs f ≡ row_at rs g → f ≡ g) → (r.filter ≡ f) ⊎ (r.filter ≢ f) → (r.filter ≡ g) ⊎ (r.filter ≢ g) → f ≡ g
    by rest (inl a) (inl b) = sym a ∙ b
    by rest (inl a) (inr b) = grind (arith, nat_tests, a, b, e)
    by rest (inr a) (inl b) = grind (arith, nat_tests, a, b, e)
    by rest (inr a) (inr b) =
        let m : row_at (r ∷ rs) f ≡ suc (row_at rs f) = grind (arith, nat_tests, a) in
        let n : row_at (r ∷ rs) g ≡ suc (row_at rs g) = grind (arith, nat_tests, b) in
        rest (omega (arith, m, lt)) (omega (arith, m, n, e))

pub few_places : (issues room : ℕ) (rs : List RowParts) (f : ℕ) → AllFit issues room (sizes rs) → length (row_of rs f).places ≤ issues
few_places issues room [] f fit = omega arith
few_places issues room (r ∷ rs) f fit = grind (arith, nat_tests, fit.1, few_places issues room rs f fit.3)

module _ (rs : List RowParts) (issues room : ℕ) (fit : AllFit issues room (sizes rs)) where
  code : ℕ → ℕ → ℕ
  code f i = row_at rs f * issues + (i - 1)

  code_below : (f i : ℕ) → IsCell rs f i → code f i < issues * length rs
  unfolding code
  code_below f i is =
      let few = few_places issues room rs f fit in
      mul-add-lt (row_at rs f) issues (i - 1) (length rs) (row_in rs f (omega (arith, is.0, is.1))) (omega (arith, is.0, is.1, few))

  same_code : (f i g j : ℕ) → IsCell rs f i → IsCell rs g j → code f i ≡ code g j → (f ≡ g) × (i ≡ j)
  unfolding code
  same_code f i g j a b e =
      let few_f = few_places issues room rs f fit in
      let few_g = few_places issues room rs g fit in
      let h = same_from_place (row_at rs f) (i - 1) (row_at rs g) (j - 1) issues (omega (arith, a.0, a.1, few_f)) (omega (arith, b.0, b.1, few_g)) e in
      (same_row rs f g (row_in rs f (omega (arith, a.0, a.1))) h.0, omega (arith, h.1, a.0, b.0))

  -- where a cell has no end, there are fewer ends than cells
  pub fewer_ends : (ds : List Due) → Agree ds rs → (f i : ℕ) → IsCell rs f i → length ds ≤ place_in rs f i → length ds < issues * length rs
  fewer_ends ds agree f i cell free =
      let most : length ds + 1 ≤ issues * length rs = pigeons (length ds + 1) (issues * length rs) (λ k. if k == length ds then code f i else code (due_at ds k).filter.0 (due_at ds k).issue.0) below apart in
      omega (arith, most)
    where
      there : (k : ℕ) → k < length ds → IsCell rs (due_at ds k).filter.0 (due_at ds k).issue.0
      there k lt = cell_there ds rs agree _ _ (omega (arith, agree.own k lt, agree.few))

      below : (k : ℕ) → k < length ds + 1 → (if k == length ds then code f i else code (due_at ds k).filter.0 (due_at ds k).issue.0) < issues * length rs
      below k lt = by (cases_eq k (length ds))
        where
          by : (k ≡ length ds) ⊎ (k ≢ length ds) → (if k == length ds then code f i else code (due_at ds k).filter.0 (due_at ds k).issue.0) < issues * length rs
          by (inl e) = let h = code_below f i cell in grind (arith, nat_tests, e, h)
          by (inr e) = let h = code_below _ _ (there k (omega (arith, lt, e))) in grind (arith, nat_tests, e, h)

      apart : (j k : ℕ) → j < k → k < length ds + 1 → (if j == length ds then code f i else code (due_at ds j).filter.0 (due_at ds j).issue.0) ≢ (if k == length ds then code f i else code (due_at ds k).filter.0 (due_at ds k).issue.0)
      apart j k lt in_range e = by (cases_eq k (length ds))
        where
          j_in : j < length ds
          j_in = omega (arith, lt, in_range)

          by : (k ≡ length ds) ⊎ (k ≢ length ds) → ⊥
          by (inl m) =
              let ne : j ≢ length ds = λ z. absurd (omega (arith, z, j_in)) in
              let same : code (due_at ds j).filter.0 (due_at ds j).issue.0 ≡ code f i = grind (arith, nat_tests, e, m, ne) in
              let h = same_code _ _ f i (there j j_in) cell same in
              let at = agree.own j j_in in
              let place : place_in rs (due_at ds j).filter.0 (due_at ds j).issue.0 ≡ place_in rs f i = ap (λ g. place_in rs g (due_at ds j).issue.0) h.0 ∙ ap (place_in rs f) h.1 in
              absurd (omega (arith, place, at, free, j_in))
          by (inr m) =
              let k_in : k < length ds = omega (arith, in_range, m) in
              let ne : j ≢ length ds = λ z. absurd (omega (arith, z, j_in)) in
              let same : code (due_at ds j).filter.0 (due_at ds j).issue.0 ≡ code (due_at ds k).filter.0 (due_at ds k).issue.0 = grind (arith, nat_tests, e, m, ne) in
              let h = same_code _ _ _ _ (there j j_in) (there k k_in) same in
              let equal = distinct ds rs agree j k j_in k_in (record { same_filter = h.0; same_issue = h.1 }) in
              absurd (omega (arith, equal, lt))
