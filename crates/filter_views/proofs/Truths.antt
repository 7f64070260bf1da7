-- What writing a truth makes of the rows.
use Rattle.std.proofs.Common.{◌⊎◌, ◌≡◌, ◌≢◌, ℕ, zero, suc, ◌-◌, ◌<◌, ◌==◌, Bool, false, List, [], ◌∷◌, length, get_or, set, if◌then◌else◌, sym, ◌∙◌, ap, subst, inl, inr, arith}
use Rattle.std.proofs.lemmas.Bool.{cases_eq}
use Rattle.std.proofs.lemmas.Bool.Decides.{nat_tests}
use Rattle.std.proofs.lemmas.List.{length-set, get_or-set_other, get_or_default}
use Rattle.std.proofs.lemmas.Grind.{get_or-set_at}
use Rattle.filter_views.specs.RowParts.{RowParts}
use Rattle.filter_views.specs.FilterRow.{no_row, HasNumber, truth_at, place_at, AreRising, IsAt, row_of, place_in, truth_in}
use Rattle.filter_views.specs.Fields.{size, sizes, PutsTruth}
use Rattle.filter_views.proofs.Lookups.{row_set, row_found, none_before_at}

-- a truth that is written over
truth_written : (r : RowParts) (i : ℕ) (t : Bool) (j : ℕ) → HasNumber i (length r.truths) → truth_at (record r { truths = set r.truths (i - 1) t }) j ≡ (if j == i then t else truth_at r j)
truth_written r i t zero has = grind (arith, nat_tests)
truth_written r i t (suc j) has = by (cases_eq j (i - 1))
  where
    by : (j ≡ i - 1) ⊎ (j ≡ i - 1 → ⊥) → get_or (set r.truths (i - 1) t) j false ≡ (if suc j == i then t else get_or r.truths j false)
    by (inl e) = let h = get_or-set_at r.truths (i - 1) j t false e (omega arith) in grind (arith, nat_tests, h)
    by (inr e) = let h = get_or-set_other r.truths (i - 1) j t false e in grind (arith, nat_tests, h)

sizes_set : (rs : List RowParts) (k : ℕ) (x d : RowParts) → k < length rs → size x ≡ size (get_or rs k d) → sizes (set rs k x) ≡ sizes rs
sizes_set [] k x d lt same = absurd (omega (arith, lt))
sizes_set (r ∷ rs) zero x d lt same = ap (λ y. y ∷ sizes rs) same
sizes_set (r ∷ rs) (suc k) x d lt same = ap (λ ys. size r ∷ ys) (sizes_set rs k x d (omega arith) same)

module _ (rs : List RowParts) (f k : ℕ) (rising : AreRising rs) (at : IsAt rs f k) (d : RowParts) where
  -- a truth that is written in the filter's row
  pub puts_truth : (i : ℕ) (t : Bool) → HasNumber i (length (row_of rs f).truths) → (x : RowParts) → x ≡ record (get_or rs k d) { truths = set (get_or rs k d).truths (i - 1) t } → PutsTruth rs (set rs k x) f i t
  puts_truth i t has x is = record { here = here; others = others; places = places; same = sizes_set rs k x d at.in_range sized }
    where
      found : row_of rs f ≡ get_or rs k d
      found = row_found rs f k rising at d

      number : x.filter ≡ f
      number = ap (λ r. r.filter) is ∙ ap (λ r. r.filter) (get_or_default rs k d no_row at.in_range) ∙ at.is_it

      written : (g : ℕ) → row_of (set rs k x) g ≡ (if f == g then x else row_of rs g)
      written = row_set rs f k x number at (none_before_at rs f k rising at)

      sized : size x ≡ size (get_or rs k d)
      sized = ap size is ∙ ap (λ n. record { filter = (get_or rs k d).filter; truths = n; places = length (get_or rs k d).places; room = (get_or rs k d).room }) (length-set (get_or rs k d).truths (i - 1) t)

      has_here : HasNumber i (length (get_or rs k d).truths)
      has_here = subst (λ r. HasNumber i (length r.truths)) found has

      truth_here : (j : ℕ) → truth_at x j ≡ (if j == i then t else truth_at (row_of rs f) j)
      truth_here j = ap (λ r. truth_at r j) is ∙ truth_written (get_or rs k d) i t j has_here ∙ ap (λ r. if j == i then t else truth_at r j) (sym found)

      here_is : truth_at x i ≡ t
      here_is = let h = truth_here i in grind (arith, nat_tests, h)

      row_here : row_of (set rs k x) f ≡ x
      row_here = let h = written f in grind (arith, nat_tests, h)

      row_other : (g : ℕ) → g ≢ f → row_of (set rs k x) g ≡ row_of rs g
      row_other g e = let h = written g in grind (arith, nat_tests, h, e)

      here : truth_in (set rs k x) f i ≡ t
      here = ap (λ r. truth_at r i) row_here ∙ here_is

      others : (g j : ℕ) → (g ≡ f → j ≡ i → ⊥) → truth_in (set rs k x) g j ≡ truth_in rs g j
      others g j differ = by (cases_eq g f)
        where
          by : (g ≡ f) ⊎ (g ≢ f) → truth_in (set rs k x) g j ≡ truth_in rs g j
          by (inl e) =
              let h = truth_here j in
              let ne : j ≢ i = differ e in
              let same : truth_at x j ≡ truth_at (row_of rs f) j = grind (arith, nat_tests, h, ne) in
              subst (λ m. truth_in (set rs k x) m j ≡ truth_in rs m j) (sym e) (ap (λ r. truth_at r j) row_here ∙ same)
          by (inr e) = ap (λ r. truth_at r j) (row_other g e)

      places : (g j : ℕ) → place_in (set rs k x) g j ≡ place_in rs g j
      places g j = by (cases_eq g f)
        where
          by : (g ≡ f) ⊎ (g ≢ f) → place_in (set rs k x) g j ≡ place_in rs g j
          by (inl e) = subst (λ m. place_in (set rs k x) m j ≡ place_in rs m j) (sym e) (ap (λ r. place_at r j) (row_here ∙ is) ∙ ap (λ r. place_at r j) (sym found))
          by (inr e) = ap (λ r. place_at r j) (row_other g e)
