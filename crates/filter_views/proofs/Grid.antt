-- The shape of the views, and how a cell is read from it.
use Rattle.std.proofs.Common.{◌⊎◌, ◌≡◌, ◌≢◌, ℕ, zero, suc, ◌<◌, ◌≤◌, Bool, List, [], ◌∷◌, length, map, get_or, refl, sym, ◌∙◌, ap, inl, inr, arith}
use Rattle.std.proofs.lemmas.Bool.{cases_eq, cases_lt}
use Rattle.std.proofs.lemmas.Bool.Decides.{nat_tests}
use Rattle.std.proofs.lemmas.List.{length-map}
use Rattle.filter_views.specs.declared.due.Due.{Due}
use Rattle.filter_views.specs.RowParts.{RowParts}
use Rattle.filter_views.specs.FilterRow.{filter_at, AreRising}
use Rattle.filter_views.specs.Cell.{unset, FilterCells, Views, cells_in, cell_of}
use Rattle.filter_views.specs.Fields.{sizes, AllFit, cells, filter_cells, table, views}
use Rattle.filter_views.specs.Grid.{IsGrid}

filter_is : (ds : List Due) (rs : List RowParts) (k d : ℕ) → k < length rs → get_or (map (λ l. l.filter) (table ds rs)) k d ≡ filter_at rs k
filter_is ds [] k d lt = absurd (omega (arith, lt))
filter_is ds (r ∷ rs) zero d lt = refl
filter_is ds (r ∷ rs) (suc k) d lt = filter_is ds rs k d (omega arith)

length_cells : (ds : List Due) (ts : List Bool) (ps : List ℕ) → length ts ≡ length ps → length (cells ds ts ps) ≡ length ts
length_cells ds [] ps same = refl
length_cells ds (t ∷ ts) [] same = absurd (omega (arith, same))
length_cells ds (t ∷ ts) (p ∷ ps) same = ap suc (length_cells ds ts ps (omega (arith, same)))

cells_fit : (ds : List Due) (issues room : ℕ) (rs : List RowParts) → AllFit issues room (sizes rs) → (k : ℕ) (d : FilterCells) → k < length (table ds rs) → length (get_or (table ds rs) k d).cells ≡ issues
cells_fit ds issues room [] fit k d lt = absurd (omega (arith, lt))
cells_fit ds issues room (r ∷ rs) fit zero d lt = length_cells ds r.truths r.places (fit.0 ∙ sym fit.1) ∙ fit.0
cells_fit ds issues room (r ∷ rs) fit (suc k) d lt = cells_fit ds issues room rs fit.3 k d (omega arith)

-- rows in order, each with a cell for each issue
pub grid_of : (rs spare : List RowParts) (ds : List Due) (issues room : ℕ) → AreRising rs → AllFit issues room (sizes rs) → IsGrid (views rs spare ds issues room)
grid_of rs spare ds issues room rising fit = record { rising = numbers; cells = cells_fit ds issues room rs fit }
  where
    numbers : (i j d : ℕ) → i < j → j < length (map (λ l. l.filter) (table ds rs)) → get_or (map (λ l. l.filter) (table ds rs)) i d < get_or (map (λ l. l.filter) (table ds rs)) j d
    numbers i j d less lt =
        let in_range : j < length rs = omega (arith, lt, length-map (table ds rs) (λ l. l.filter), length-map rs (filter_cells ds)) in
        let first = filter_is ds rs i d (omega (arith, less, in_range)) in
        let second = filter_is ds rs j d in_range in
        let rises = rising i j less in_range in
        omega (arith, first, second, rises)

abbrev pub no_filter : FilterCells
no_filter = record { filter = 0; cells = [] }

abbrev pub filter_cells_at : List FilterCells → ℕ → FilterCells
filter_cells_at ls k = get_or ls k no_filter

pub filter_read : (ls : List FilterCells) (k : ℕ) → get_or (map (λ l. l.filter) ls) k 0 ≡ (filter_cells_at ls k).filter
filter_read [] k = refl
filter_read (l ∷ ls) zero = refl
filter_read (l ∷ ls) (suc k) = filter_read ls k

-- the first place of a filter has its cells
found : (ls : List FilterCells) (f k : ℕ) → k < length ls → (filter_cells_at ls k).filter ≡ f → ((j : ℕ) → j < k → (filter_cells_at ls j).filter ≢ f) → cells_in ls f ≡ (filter_cells_at ls k).cells
found [] f k lt is none = absurd (omega (arith, lt))
found (l ∷ ls) f zero lt is none = grind (arith, nat_tests, is)
found (l ∷ ls) f (suc k) lt is none = grind (arith, nat_tests, none 0 (omega arith), found ls f k (omega arith) is (λ j less. none (suc j) (omega arith)))

-- a filter with cells has a place
pub stands : (ls : List FilterCells) (f : ℕ) → 0 < length (cells_in ls f) → (k : ℕ) × (k < length ls) × ((filter_cells_at ls k).filter ≡ f)
stands [] f some = absurd (omega (arith, some))
stands (l ∷ ls) f some = by (stands ls f) (cases_eq l.filter f)
  where
    by : (0 < length (cells_in ls f) → (k : ℕ) × (k < length ls) × ((filter_cells_at ls k).filter ≡ f)) → (l.filter ≡ f) ⊎ (l.filter ≢ f) → (k : ℕ) × (k < length (l ∷ ls)) × ((filter_cells_at (l ∷ ls) k).filter ≡ f)
    by rest (inl e) = (0, omega arith, e)
    by rest (inr e) =
        let is : cells_in (l ∷ ls) f ≡ cells_in ls f = grind (arith, nat_tests, e) in
        let h = rest (omega (arith, some, ap length is)) in
        (suc h.0, omega (arith, h.1), h.2)

module _ (v : Views) (grid : IsGrid v) where
  rises : (j k : ℕ) → j < k → k < length v.table → (filter_cells_at v.table j).filter < (filter_cells_at v.table k).filter
  rises j k less lt =
      let h = grid.rising j k 0 less (omega (arith, lt, length-map v.table (λ l. l.filter))) in
      omega (arith, h, filter_read v.table j, filter_read v.table k)

  pub one_place : (j k : ℕ) → j < length v.table → k < length v.table → (filter_cells_at v.table j).filter ≡ (filter_cells_at v.table k).filter → j ≡ k
  one_place j k a b e = by (cases_lt j k) (cases_lt k j)
    where
      by : (j < k) ⊎ (k ≤ j) → (k < j) ⊎ (j ≤ k) → j ≡ k
      by (inl lt) m = let h = rises j k lt b in absurd (omega (arith, h, e))
      by (inr le) (inl lt) = let h = rises k j lt a in absurd (omega (arith, h, e))
      by (inr le) (inr ge) = omega (arith, le, ge)

  -- the cells at a place are the filter's
  pub cells_read : (k : ℕ) → k < length v.table → cells_in v.table (filter_cells_at v.table k).filter ≡ (filter_cells_at v.table k).cells
  cells_read k lt = found v.table (filter_cells_at v.table k).filter k lt refl (λ j less e. let h = rises j k less lt in absurd (omega (arith, h, e)))

  pub cell_read : (k n : ℕ) → k < length v.table → cell_of v (filter_cells_at v.table k).filter (suc n) ≡ get_or (filter_cells_at v.table k).cells n unset
  cell_read k n lt = ap (λ cs. get_or cs n unset) (cells_read k lt)

  pub width : (k : ℕ) → k < length v.table → length (filter_cells_at v.table k).cells ≡ v.issues
  width k lt = grid.cells k no_filter lt
