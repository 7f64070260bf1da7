-- What a look-up of a row finds, and what edits of the list make of it.
use Rattle.std.proofs.Common.{◌⊎◌, ◌≡◌, ◌≢◌, ℕ, zero, suc, ◌-◌, ◌<◌, ◌==◌, false, List, [], ◌∷◌, length, get_or, set, if◌then◌else◌, refl, sym, ◌∙◌, ap, subst, inl, inr, arith}
use Rattle.std.proofs.lemmas.Bool.{cases_eq}
use Rattle.std.proofs.lemmas.Bool.Decides.{nat_tests}
use Rattle.std.proofs.lemmas.List.{length-set, get_or-set_other, get_or_default}
use Rattle.std.proofs.lemmas.Grind.{get_or-set_at}
use Rattle.filter_views.specs.RowParts.{RowParts}
use Rattle.filter_views.specs.FilterRow.{no_place, no_row, HasNumber, truth_at, place_at, frame, frames, filter_at, AreRising, IsAt, IsGapFor, row_of, place_in, PutsPlace}

abbrev pub NoneBefore : List RowParts → ℕ → ℕ → Type 0
NoneBefore rs f k = (j : ℕ) → j < k → filter_at rs j ≢ f

pub none_before_tail : (r : RowParts) (rs : List RowParts) (f k : ℕ) → NoneBefore (r ∷ rs) f (suc k) → NoneBefore rs f k
none_before_tail r rs f k none j lt = none (suc j) (omega arith)

pub is_at_tail : (r : RowParts) (rs : List RowParts) (f k : ℕ) → IsAt (r ∷ rs) f (suc k) → IsAt rs f k
is_at_tail r rs f k at = record { in_range = omega (arith, at.in_range); is_it = at.is_it }

-- a filter that isn't there has no row
pub row_absent : (rs : List RowParts) (f : ℕ) → NoneBefore rs f (length rs) → row_of rs f ≡ no_row
row_absent [] f none = refl
row_absent (r ∷ rs) f none = grind (arith, nat_tests, none 0 (omega arith), row_absent rs f (none_before_tail r rs f _ none))

-- the first row of the filter is its row
pub row_present : (rs : List RowParts) (f k : ℕ) (d : RowParts) → IsAt rs f k → NoneBefore rs f k → row_of rs f ≡ get_or rs k d
row_present [] f k d at none = absurd (omega (arith, at.in_range))
row_present (r ∷ rs) f zero d at none = grind (arith, nat_tests, at.is_it)
row_present (r ∷ rs) f (suc k) d at none = grind (arith, nat_tests, none 0 (omega arith), row_present rs f k d (is_at_tail r rs f k at) (none_before_tail r rs f k none))

-- writing over it with a row of the same number writes the filter's row
pub row_set : (rs : List RowParts) (f k : ℕ) (x : RowParts) → x.filter ≡ f → IsAt rs f k → NoneBefore rs f k → (g : ℕ) → row_of (set rs k x) g ≡ (if f == g then x else row_of rs g)
row_set [] f k x is at none g = absurd (omega (arith, at.in_range))
row_set (r ∷ rs) f zero x is at none g = grind (arith, nat_tests, at.is_it)
row_set (r ∷ rs) f (suc k) x is at none g = grind (arith, nat_tests, none 0 (omega arith), row_set rs f k x is (is_at_tail r rs f k at) (none_before_tail r rs f k none) g)

-- a row with the same frame leaves the frames
pub frames_set : (rs : List RowParts) (k : ℕ) (x d : RowParts) → k < length rs → frame x ≡ frame (get_or rs k d) → frames (set rs k x) ≡ frames rs
frames_set [] k x d lt same = absurd (omega (arith, lt))
frames_set (r ∷ rs) zero x d lt same = ap (λ y. y ∷ frames rs) same
frames_set (r ∷ rs) (suc k) x d lt same = ap (λ ys. frame r ∷ ys) (frames_set rs k x d (omega arith) same)

module _ (rs : List RowParts) (f k : ℕ) where
  -- smaller numbers stand before the place
  pub none_before_at : AreRising rs → IsAt rs f k → NoneBefore rs f k
  none_before_at rising at j lt same = omega (arith, rising j k lt at.in_range, at.is_it)

  pub none_before_gap : IsGapFor rs f k → NoneBefore rs f k
  none_before_gap gap j lt same = omega (arith, gap.smaller_before j lt)

  pub none_in_list : IsGapFor rs f k → NoneBefore rs f (length rs)
  none_in_list gap j lt same = grind (arith, gap.smaller_before j, gap.greater_after j)

  pub row_found : AreRising rs → IsAt rs f k → (d : RowParts) → row_of rs f ≡ get_or rs k d
  row_found rising at d = row_present rs f k d at (none_before_at rising at)

  pub row_missing : IsGapFor rs f k → row_of rs f ≡ no_row
  row_missing gap = row_absent rs f (none_in_list gap)

-- a place that is written over
pub place_written : (r : RowParts) (i p j : ℕ) → HasNumber i (length r.places) → place_at (record r { places = set r.places (i - 1) p }) j ≡ (if j == i then p else place_at r j)
place_written r i p zero has = grind (arith, nat_tests)
place_written r i p (suc j) has = by (cases_eq j (i - 1))
  where
    by : (j ≡ i - 1) ⊎ (j ≡ i - 1 → ⊥) → get_or (set r.places (i - 1) p) j no_place ≡ (if suc j == i then p else get_or r.places j no_place)
    by (inl e) = let h = get_or-set_at r.places (i - 1) j p no_place e (omega arith) in grind (arith, nat_tests, h)
    by (inr e) = let h = get_or-set_other r.places (i - 1) j p no_place e in grind (arith, nat_tests, h)

-- nothing stands in a row that isn't there
pub no_place_there : (i : ℕ) → no_place ≡ place_at no_row i
no_place_there zero = refl
no_place_there (suc i) = refl

pub false_there : (i : ℕ) → false ≡ truth_at no_row i
false_there zero = refl
false_there (suc i) = refl

module _ (rs : List RowParts) (f k : ℕ) (rising : AreRising rs) (at : IsAt rs f k) (d : RowParts) where
  -- a place that is written in the filter's row
  pub puts_place : (i p : ℕ) → HasNumber i (length (row_of rs f).places) → (x : RowParts) → x ≡ record (get_or rs k d) { places = set (get_or rs k d).places (i - 1) p } → PutsPlace rs (set rs k x) f i p
  puts_place i p has x is = record { here = here; others = others; same = frames_set rs k x d at.in_range framed }
    where
      found : row_of rs f ≡ get_or rs k d
      found = row_found rs f k rising at d

      number : x.filter ≡ f
      number = ap (λ r. r.filter) is ∙ filter_is
        where
          filter_is : (get_or rs k d).filter ≡ f
          filter_is = ap (λ r. r.filter) (get_or_default rs k d no_row at.in_range) ∙ at.is_it

      written : (g : ℕ) → row_of (set rs k x) g ≡ (if f == g then x else row_of rs g)
      written = row_set rs f k x number at (none_before_at rs f k rising at)

      framed : frame x ≡ frame (get_or rs k d)
      framed = ap frame is ∙ ap (λ n. record { filter = (get_or rs k d).filter; truths = (get_or rs k d).truths; width = n; room = (get_or rs k d).room }) (length-set (get_or rs k d).places (i - 1) p)

      has_here : HasNumber i (length (get_or rs k d).places)
      has_here = subst (λ r. HasNumber i (length r.places)) found has

      place_here : (j : ℕ) → place_at x j ≡ (if j == i then p else place_at (row_of rs f) j)
      place_here j = ap (λ r. place_at r j) is ∙ place_written (get_or rs k d) i p j has_here ∙ ap (λ r. if j == i then p else place_at r j) (sym found)

      here_is : place_at x i ≡ p
      here_is = let h = place_here i in grind (arith, nat_tests, h)

      row_here : row_of (set rs k x) f ≡ x
      row_here = let h = written f in grind (arith, nat_tests, h)

      here : place_in (set rs k x) f i ≡ p
      here = ap (λ r. place_at r i) row_here ∙ here_is

      others : (g j : ℕ) → (g ≡ f → j ≡ i → ⊥) → place_in (set rs k x) g j ≡ place_in rs g j
      others g j differ = by (cases_eq g f)
        where
          by : (g ≡ f) ⊎ (g ≢ f) → place_in (set rs k x) g j ≡ place_in rs g j
          by (inl e) =
              let h = place_here j in
              let ne : j ≢ i = differ e in
              let is : place_at x j ≡ place_at (row_of rs f) j = grind (arith, nat_tests, h, ne) in
              subst (λ m. place_in (set rs k x) m j ≡ place_in rs m j) (sym e) (ap (λ r. place_at r j) row_here ∙ is)
          by (inr e) =
              let h = written g in
              let is : row_of (set rs k x) g ≡ row_of rs g = grind (arith, nat_tests, h, e) in
              ap (λ r. place_at r j) is
