-- The views as they are read from the fields.
use Rattle.std.proofs.Common.{◌⊎◌, ◌≡◌, ◌≢◌, ℕ, zero, suc, ◌+◌, ◌<◌, ◌≤◌, ◌==◌, Bool, true, false, Option, Some, None, List, [], ◌∷◌, length, map, nat_eq, get_or, if◌then◌else◌, refl, sym, ◌∙◌, ap, subst, inl, inr, arith}
use Rattle.std.specs.List.{list_any, slice_get}
use Rattle.std.proofs.lemmas.Bool.{cases_eq, cases_lt, false≢true}
use Rattle.std.proofs.lemmas.Bool.Decides.{nat_tests}
use Rattle.std.proofs.lemmas.List.{length-map}
use Rattle.filter_views.specs.declared.due.Due.{Due}
use Rattle.filter_views.specs.RowParts.{RowParts}
use Rattle.filter_views.specs.Due.{is_before, due_at}
use Rattle.filter_views.specs.FilterRow.{no_place, no_row, Frame, frames, filter_at, row_of, truth_in, place_in}
use Rattle.filter_views.specs.Heap.{IsHeap}
use Rattle.filter_views.specs.Agreement.{Agree, end_at, end_in}
use Rattle.filter_views.specs.Cell.{Cell, unset, Views, cells_in, cell_of, members_from, issues_held}
use Rattle.filter_views.specs.Views.{IsLeastEnd, IsHeapOf, end_of_cell}
use Rattle.filter_views.specs.Fields.{Size, size, sizes, AllFit, cells, table, holders_from}
use Rattle.filter_views.proofs.Sifting.{first_is_least}
use Rattle.filter_views.proofs.Moves.{end_there, end_nowhere, distinct}

-- a filter's cells are those of its row
pub cells_are : (ds : List Due) (rs : List RowParts) (f : ℕ) → cells_in (table ds rs) f ≡ cells ds (row_of rs f).truths (row_of rs f).places
cells_are ds [] f = refl
cells_are ds (r ∷ rs) f = grind (arith, nat_tests, cells_are ds rs f)

cell_at : (ds : List Due) (ts : List Bool) (ps : List ℕ) → length ds ≤ no_place → length ts ≡ length ps → (k : ℕ) → get_or (cells ds ts ps) k unset ≡ record { holds = get_or ts k false; end = end_at ds (get_or ps k no_place) }
cell_at ds [] [] few same k = ap (λ (e : Option ℕ). let c : Cell = record { holds = false; end = e } in c) (sym (end_nowhere ds no_place few))
cell_at ds [] (p ∷ ps) few same k = absurd (omega (arith, same))
cell_at ds (t ∷ ts) [] few same k = absurd (omega (arith, same))
cell_at ds (t ∷ ts) (p ∷ ps) few same zero = refl
cell_at ds (t ∷ ts) (p ∷ ps) few same (suc k) = cell_at ds ts ps few (omega (arith, same)) k

row_fits : (issues room : ℕ) (rs : List RowParts) (f : ℕ) → AllFit issues room (sizes rs) → length (row_of rs f).truths ≡ length (row_of rs f).places
row_fits issues room [] f fit = refl
row_fits issues room (r ∷ rs) f fit = grind (arith, nat_tests, fit.0, fit.1, row_fits issues room rs f fit.3)

-- a cell is what stands in its row and in the heap
pub seen : (rs : List RowParts) (ds : List Due) (issues room : ℕ) (v : Views) → v.table ≡ table ds rs → AllFit issues room (sizes rs) → length ds ≤ no_place → (f j : ℕ) → cell_of v f j ≡ record { holds = truth_in rs f j; end = end_in ds rs f j }
seen rs ds issues room v is fit few f j = ap (λ ls. get_or (unset ∷ cells_in ls f) j unset) is ∙ ap (λ cs. get_or (unset ∷ cs) j unset) (cells_are ds rs f) ∙ by j
  where
    by : (j : ℕ) → get_or (unset ∷ cells ds (row_of rs f).truths (row_of rs f).places) j unset ≡ record { holds = truth_in rs f j; end = end_in ds rs f j }
    by zero = ap (λ (e : Option ℕ). let c : Cell = record { holds = false; end = e } in c) (sym (end_nowhere ds no_place few))
    by (suc j) = cell_at ds (row_of rs f).truths (row_of rs f).places few (row_fits issues room rs f fit) j

-- the filters are the rows' numbers
pub filters_are : (ds : List Due) (rs : List RowParts) → map (λ l. l.filter) (table ds rs) ≡ map (λ s. s.filter) (sizes rs)
filters_are ds [] = refl
filters_are ds (r ∷ rs) = ap (λ ns. r.filter ∷ ns) (filters_are ds rs)

pub filters_sized : (ds es : List Due) (rs ss : List RowParts) → sizes ss ≡ sizes rs → map (λ l. l.filter) (table es ss) ≡ map (λ l. l.filter) (table ds rs)
filters_sized ds es rs ss same = filters_are es ss ∙ ap (λ xs. map (λ s. s.filter) xs) same ∙ sym (filters_are ds rs)

pub length_sized : (rs ss : List RowParts) → sizes ss ≡ sizes rs → length ss ≡ length rs
length_sized rs ss same = sym (length-map ss size) ∙ ap length same ∙ length-map rs size

-- frames tell sizes
abbrev size_of_frame : Frame → Size
size_of_frame x = record { filter = x.filter; truths = length x.truths; places = x.width; room = x.room }

sizes_are : (rs : List RowParts) → sizes rs ≡ map size_of_frame (frames rs)
sizes_are [] = refl
sizes_are (r ∷ rs) = ap (λ xs. size r ∷ xs) (sizes_are rs)

pub sizes_framed : (rs ss : List RowParts) → frames ss ≡ frames rs → sizes ss ≡ sizes rs
sizes_framed rs ss same = sizes_are ss ∙ ap (λ xs. map size_of_frame xs) same ∙ sym (sizes_are rs)

-- and truths
abbrev truths_of : List Frame → ℕ → List Bool
truths_of [] f = []
truths_of (x ∷ xs) f = if x.filter == f then x.truths else truths_of xs f

truths_are : (rs : List RowParts) (f : ℕ) → (row_of rs f).truths ≡ truths_of (frames rs) f
truths_are [] f = refl
truths_are (r ∷ rs) f = grind (arith, nat_tests, truths_are rs f)

pub truth_framed : (rs ss : List RowParts) → frames ss ≡ frames rs → (f j : ℕ) → truth_in ss f j ≡ truth_in rs f j
truth_framed rs ss same f j = ap (λ ts. get_or (false ∷ ts) j false) (truths_are ss f ∙ ap (λ xs. truths_of xs f) same ∙ sym (truths_are rs f))

-- sizes tell numbers and widths
filter_at_size : (rs : List RowParts) (k : ℕ) → filter_at rs k ≡ (get_or (sizes rs) k (size no_row)).filter
filter_at_size [] k = refl
filter_at_size (r ∷ rs) zero = refl
filter_at_size (r ∷ rs) (suc k) = filter_at_size rs k

pub filter_at_sized : (rs ss : List RowParts) → sizes ss ≡ sizes rs → (k : ℕ) → filter_at ss k ≡ filter_at rs k
filter_at_sized rs ss same k = filter_at_size ss k ∙ ap (λ (xs : List Size). (get_or xs k (size no_row)).filter) same ∙ sym (filter_at_size rs k)

abbrev places_of : List Size → ℕ → ℕ
places_of [] f = 0
places_of (x ∷ xs) f = if x.filter == f then x.places else places_of xs f

places_are : (rs : List RowParts) (f : ℕ) → length (row_of rs f).places ≡ places_of (sizes rs) f
places_are [] f = refl
places_are (r ∷ rs) f = grind (arith, nat_tests, places_are rs f)

pub width_sized : (rs ss : List RowParts) → sizes ss ≡ sizes rs → (f : ℕ) → length (row_of ss f).places ≡ length (row_of rs f).places
width_sized rs ss same f = places_are ss f ∙ ap (λ xs. places_of xs f) same ∙ sym (places_are rs f)

-- the row of a filter that is there has a cell for each issue
pub there_width : (ds : List Due) (issues room : ℕ) (rs : List RowParts) (f : ℕ) → AllFit issues room (sizes rs) → list_any (nat_eq f) (map (λ l. l.filter) (table ds rs)) ≡ true → (length (row_of rs f).truths ≡ issues) × (length (row_of rs f).places ≡ issues)
there_width ds issues room [] f fit there = absurd (false≢true there)
there_width ds issues room (r ∷ rs) f fit there = by (there_width ds issues room rs f fit.3) (cases_eq r.filter f)
  where
    by : (list_any (nat_eq f) (map (λ l. l.filter) (table ds rs)) ≡ true → (length (row_of rs f).truths ≡ issues) × (length (row_of rs f).places ≡ issues)) → (r.filter ≡ f) ⊎ (r.filter ≢ f) → (length (row_of (r ∷ rs) f).truths ≡ issues) × (length (row_of (r ∷ rs) f).places ≡ issues)
    by rest (inl e) =
        let is : row_of (r ∷ rs) f ≡ r = grind (arith, nat_tests, e) in
        (ap (λ x. length x.truths) is ∙ fit.0, ap (λ x. length x.places) is ∙ fit.1)
    by rest (inr e) =
        let is : row_of (r ∷ rs) f ≡ row_of rs f = grind (arith, nat_tests, e) in
        let tail : list_any (nat_eq f) (map (λ l. l.filter) (table ds rs)) ≡ true = grind (arith, nat_tests, e, there) in
        let h = rest tail in
        (ap (λ x. length x.truths) is ∙ h.0, ap (λ x. length x.places) is ∙ h.1)

-- members are read from the truths
pub members_are : (ds : List Due) (n : ℕ) (ts : List Bool) (ps : List ℕ) → length ts ≡ length ps → holders_from n ts ≡ members_from n (cells ds ts ps)
members_are ds n [] ps same = refl
members_are ds n (t ∷ ts) [] same = absurd (omega (arith, same))
members_are ds n (true ∷ ts) (p ∷ ps) same = ap (λ xs. record { 0 = n } ∷ xs) (members_are ds (n + 1) ts ps (omega (arith, same)))
members_are ds n (false ∷ ts) (p ∷ ps) same = members_are ds (n + 1) ts ps (omega (arith, same))

pub few_truths : (issues room : ℕ) (rs : List RowParts) (f : ℕ) → AllFit issues room (sizes rs) → length (row_of rs f).truths ≤ issues
few_truths issues room [] f fit = omega arith
few_truths issues room (r ∷ rs) f fit = grind (arith, nat_tests, fit.0, few_truths issues room rs f fit.3)

pub members_seen : (rs : List RowParts) (ds : List Due) (issues room : ℕ) (v : Views) → v.table ≡ table ds rs → AllFit issues room (sizes rs) → (f : ℕ) → holders_from 1 (row_of rs f).truths ≡ issues_held v f
members_seen rs ds issues room v is fit f = members_are ds 1 _ _ (row_fits issues room rs f fit) ∙ ap (λ cs. members_from 1 cs) (sym (cells_are ds rs f)) ∙ ap (λ ls. members_from 1 (cells_in ls f)) (sym is)

-- an end stands in the heap
end_found : (ds : List Due) (k e : ℕ) → end_at ds k ≡ Some e → (k < length ds) × ((due_at ds k).end ≡ e)
end_found ds k e is = by (cases_lt k (length ds))
  where
    by : (k < length ds) ⊎ (length ds ≤ k) → (k < length ds) × ((due_at ds k).end ≡ e)
    by (inl lt) = let there = end_there ds k lt in (lt, cc)
    by (inr le) = let nowhere = end_nowhere ds k le in absurd (cc)

pub heap_of : (rs : List RowParts) (ds : List Due) (issues room : ℕ) (v : Views) → v.table ≡ table ds rs → AllFit issues room (sizes rs) → Agree ds rs → IsHeap ds → IsHeapOf v ds
heap_of rs ds issues room v is fit agree heap = record { order = heap; only = only; each = each; once = once }
  where
    end_is : (f j : ℕ) → (cell_of v f j).end ≡ end_in ds rs f j
    end_is f j = ap (λ c. c.end) (seen rs ds issues room v is fit (omega (arith, agree.few)) f j)

    only : (k : ℕ) → k < length ds → (cell_of v (due_at ds k).filter.0 (due_at ds k).issue.0).end ≡ Some (due_at ds k).end
    only k lt = end_is _ _ ∙ ap (end_at ds) (agree.own k lt) ∙ end_there ds k lt

    each : (f issue end : ℕ) → (cell_of v f issue).end ≡ Some end → (k : ℕ) × (k < length ds) × (due_at ds k ≡ end_of_cell end f issue)
    each f issue end e =
        let k = place_in rs f issue in
        let found = end_found ds k end (sym (end_is f issue) ∙ e) in
        let of = agree.back f issue found.0 in
        let d = due_at ds k in (
          k,
          found.0,
          ap (λ (x : ℕ). let y : Due = record { end = x; filter = d.filter; issue = d.issue } in y) found.1
              ∙ ap (λ (x : ℕ). let y : Due = record { end = end; filter = record { 0 = x }; issue = d.issue } in y) of.same_filter
              ∙ ap (λ (x : ℕ). let y : Due = record { end = end; filter = record { 0 = f }; issue = record { 0 = x } } in y) of.same_issue,
        )

    once : (j k : ℕ) → j < k → k < length ds → (due_at ds j).filter.0 ≡ (due_at ds k).filter.0 → (due_at ds j).issue.0 ≡ (due_at ds k).issue.0 → ⊥
    once j k lt in_range f i = let same = distinct ds rs agree j k (omega arith) in_range (record { same_filter = f; same_issue = i }) in absurd (omega (arith, same, lt))

pub least_end : (v : Views) (ds : List Due) → IsHeapOf v ds → 0 < length ds → IsLeastEnd v (due_at ds 0)
least_end v ds h some = record { there = h.only 0 some; least = least }
  where
    least : (f issue end : ℕ) → (cell_of v f issue).end ≡ Some end → is_before (end_of_cell end f issue) (due_at ds 0) ≡ false
    least f issue end e =
        let x = h.each f issue end e in
        subst (λ d. is_before d (due_at ds 0) ≡ false) x.2 (first_is_least ds h.order x.0 x.0 (omega arith) x.1)

pub no_end : (v : Views) (ds : List Due) → IsHeapOf v ds → length ds ≡ 0 → (f issue : ℕ) → (cell_of v f issue).end ≡ None
no_end v ds h none f issue = by (cell_of v f issue).end refl
  where
    by : (o : Option ℕ) → (cell_of v f issue).end ≡ o → (cell_of v f issue).end ≡ None
    by None e = e
    by (Some end) e = let x = h.each f issue end e in absurd (omega (arith, x.1, none))

-- the first entry, as it is read
pub first_is : (ds : List Due) (x : Due) → Some x ≡ slice_get ds 0 → (0 < length ds) × (due_at ds 0 ≡ x)
first_is [] x e = absurd (cc)
first_is (d ∷ ds) x e = (omega arith, cc)

pub none_is : (ds : List Due) → None ≡ slice_get ds 0 → length ds ≡ 0
none_is [] e = refl
none_is (d ∷ ds) e = absurd (cc)
