-- How many cells are due, and what settling one makes of it.
use Rattle.std.proofs.Common.{◌⊎◌, ◌≡◌, ◌≢◌, ℕ, zero, suc, ◌+◌, ◌<◌, ◌≤◌, Bool, true, false, ◌||◌, Option, Some, None, List, [], ◌∷◌, length, map, get_or, set, sum_by, nat_eq, if◌then◌else◌, refl, sym, ◌∙◌, ap, inl, inr, arith}
use Rattle.std.specs.List.{list_any}
use Rattle.std.proofs.lemmas.Option.{none-some}
use Rattle.std.specs.Ordering.{nat_cmp, ordering_then, is_lt}
use Rattle.std.specs.declared.cmp.Ordering.TheVariants.{Less, Equal, Greater}
use Rattle.std.proofs.lemmas.Bool.{cases_eq, cases_lt, eq-eqb, ne_eqb, false≢true, leb-false, lt-leb, lt-ltb}
use Rattle.std.proofs.lemmas.Bool.Decides.{nat_tests}
use Rattle.std.proofs.lemmas.List.{length-map, length-set, get_or-set_other, get_or_default, get_or_past, same_lists}
use Rattle.std.proofs.lemmas.List.Sums.{sum_by-cons, sum_by-set, sum_by-le, get_or-le-sum_by}
use Rattle.std.proofs.lemmas.Grind.{get_or-set_at}
use Rattle.filter_views.specs.declared.due.Due.{Due}
use Rattle.filter_views.specs.Due.{is_before}
use Rattle.filter_views.specs.Cell.{Cell, unset, FilterCells, Views, cells_in, cell_of, filters}
use Rattle.filter_views.specs.Views.{Shape, Settles, IsLeastEnd, end_of_cell}
use Rattle.filter_views.specs.Grid.{IsGrid}
use Rattle.filter_views.specs.Counts.{is_over, due_among, due}
use Rattle.filter_views.specs.Laws.{SettlingTakesOneOff, NoneIsDueBeforeTheNext, EndsAreOfCells}
use Rattle.filter_views.proofs.Grid.{no_filter, filter_cells_at, filter_read, stands, one_place, cells_read, cell_read, width}

abbrev one_if : Bool → ℕ
one_if t = if t then 1 else 0

-- what a cell counts for
abbrev weight : ℕ → Cell → ℕ
weight now c = one_if (is_over now c.end)

abbrev due_in : ℕ → FilterCells → ℕ
due_in now l = due_among now l.cells

-- where one cell of a list changes, its weight does
count_changed : (now : ℕ) (xs ys : List Cell) (k : ℕ) → length ys ≡ length xs → k < length xs → ((j : ℕ) → j ≢ k → get_or ys j unset ≡ get_or xs j unset) → due_among now ys + weight now (get_or xs k unset) ≡ due_among now xs + weight now (get_or ys k unset)
count_changed now xs ys k size lt same = ap (λ cs. due_among now cs + weight now (get_or xs k unset)) is ∙ sum_by-set (λ (c : Cell). weight now c) xs k (get_or ys k unset) unset lt
  where
    each : (j : ℕ) (d : Cell) → j < length ys → get_or ys j d ≡ get_or (set xs k (get_or ys k unset)) j d
    each j d l = by (cases_eq j k)
      where
        by : (j ≡ k) ⊎ (j ≢ k) → get_or ys j d ≡ get_or (set xs k (get_or ys k unset)) j d
        by (inl e) = get_or_default ys j d unset l ∙ ap (λ i. get_or ys i unset) e ∙ sym (get_or-set_at xs k j (get_or ys k unset) d e lt)
        by (inr e) = get_or_default ys j d unset l ∙ same j e ∙ get_or_default xs j unset d (omega (arith, l, size)) ∙ sym (get_or-set_other xs k j (get_or ys k unset) d e)

    is : ys ≡ set xs k (get_or ys k unset)
    is = same_lists ys (set xs k (get_or ys k unset)) (size ∙ sym (length-set xs k (get_or ys k unset))) each

-- a due cell stands in the list
due_stands : (now : ℕ) (cs : List Cell) (k : ℕ) → is_over now (get_or cs k unset).end ≡ true → k < length cs
due_stands now cs k over = by (cases_lt k (length cs))
  where
    by : (k < length cs) ⊎ (length cs ≤ k) → k < length cs
    by (inl lt) = lt
    by (inr le) = absurd (false≢true (sym (ap (λ (c : Cell). is_over now c.end) (get_or_past cs k unset le)) ∙ over))

filter_cells_from : (x y : FilterCells) → x.filter ≡ y.filter → x.cells ≡ y.cells → x ≡ y
filter_cells_from x y f cs =
    ap (λ (n : ℕ). let l : FilterCells = record { filter = n; cells = x.cells } in l) f
    ∙ ap (λ (z : List Cell). let l : FilterCells = record { filter = y.filter; cells = z } in l) cs

-- a cell of the filter at place k is settled
module _ (old new : Views) (f n : ℕ) (cell : Cell) (a : IsGrid old) (b : IsGrid new) (s : Settles old new f (suc n) cell) (k : ℕ) (lt : k < length old.table) (is : (filter_cells_at old.table k).filter ≡ f) where
  same_filters : filters new ≡ filters old
  same_filters = ap (λ (x : Shape). x.filters) s.same

  same_length : length new.table ≡ length old.table
  same_length = sym (length-map new.table (λ l. l.filter)) ∙ ap length same_filters ∙ length-map old.table (λ l. l.filter)

  same_filter : (j : ℕ) → (filter_cells_at new.table j).filter ≡ (filter_cells_at old.table j).filter
  same_filter j = sym (filter_read new.table j) ∙ ap (λ fs. get_or fs j 0) same_filters ∙ filter_read old.table j

  same_cell : (j m : ℕ) → j < length old.table → (j ≡ k → m ≢ n) → get_or (filter_cells_at new.table j).cells m unset ≡ get_or (filter_cells_at old.table j).cells m unset
  same_cell j m l differ =
      sym (cell_read new b j m (omega (arith, l, same_length)))
      ∙ ap (λ g. cell_of new g (suc m)) (same_filter j)
      ∙ s.others (filter_cells_at old.table j).filter (suc m) (λ e z. differ (one_place old a j k l lt (e ∙ sym is)) (omega (arith, z)))
      ∙ cell_read old a j m l

  same_width : (j : ℕ) → j < length old.table → length (filter_cells_at new.table j).cells ≡ length (filter_cells_at old.table j).cells
  same_width j l = width new b j (omega (arith, l, same_length)) ∙ ap (λ (x : Shape). x.issues) s.same ∙ sym (width old a j l)

  same_cells : (j : ℕ) → j < length old.table → j ≢ k → filter_cells_at new.table j ≡ filter_cells_at old.table j
  same_cells j l ne = filter_cells_from (filter_cells_at new.table j) (filter_cells_at old.table j) (same_filter j) (same_lists (filter_cells_at new.table j).cells (filter_cells_at old.table j).cells (same_width j l) each)
    where
      each : (m : ℕ) (d : Cell) → m < length (filter_cells_at new.table j).cells → get_or (filter_cells_at new.table j).cells m d ≡ get_or (filter_cells_at old.table j).cells m d
      each m d below =
          let w = same_width j l in
          get_or_default (filter_cells_at new.table j).cells m d unset below
          ∙ same_cell j m l (λ e. absurd (ne e))
          ∙ get_or_default (filter_cells_at old.table j).cells m unset d (omega (arith, below, w))

  new_table : new.table ≡ set old.table k (filter_cells_at new.table k)
  new_table = same_lists new.table (set old.table k (filter_cells_at new.table k)) (same_length ∙ sym (length-set old.table k (filter_cells_at new.table k))) each
    where
      each : (j : ℕ) (d : FilterCells) → j < length new.table → get_or new.table j d ≡ get_or (set old.table k (filter_cells_at new.table k)) j d
      each j d l = by (cases_eq j k)
        where
          by : (j ≡ k) ⊎ (j ≢ k) → get_or new.table j d ≡ get_or (set old.table k (filter_cells_at new.table k)) j d
          by (inl e) = get_or_default new.table j d no_filter l ∙ ap (λ i. get_or new.table i no_filter) e ∙ sym (get_or-set_at old.table k j (filter_cells_at new.table k) d e lt)
          by (inr e) =
              let m : j < length old.table = omega (arith, l, same_length) in
              get_or_default new.table j d no_filter l
              ∙ same_cells j m e
              ∙ get_or_default old.table j no_filter d m
              ∙ sym (get_or-set_other old.table k j (filter_cells_at new.table k) d e)

  by_table : (now : ℕ) → due new now + due_in now (filter_cells_at old.table k) ≡ due old now + due_in now (filter_cells_at new.table k)
  by_table now = ap (λ ls. sum_by (λ (l : FilterCells). due_in now l) ls + due_in now (filter_cells_at old.table k)) new_table ∙ sum_by-set (λ (l : FilterCells). due_in now l) old.table k (filter_cells_at new.table k) no_filter lt

  was : cell_of old f (suc n) ≡ get_or (filter_cells_at old.table k).cells n unset
  was = ap (λ g. cell_of old g (suc n)) (sym is) ∙ cell_read old a k n lt

  becomes : cell ≡ get_or (filter_cells_at new.table k).cells n unset
  becomes = sym s.this ∙ ap (λ g. cell_of new g (suc n)) (sym (same_filter k ∙ is)) ∙ cell_read new b k n (omega (arith, lt, same_length))

  one_less : (now : ℕ) → is_over now (cell_of old f (suc n)).end ≡ true → is_over now cell.end ≡ false → due old now ≡ due new now + 1
  one_less now over later =
      let here : is_over now (get_or (filter_cells_at old.table k).cells n unset).end ≡ true = sym (ap (λ (c : Cell). is_over now c.end) was) ∙ over in
      let over_no_more : is_over now (get_or (filter_cells_at new.table k).cells n unset).end ≡ false = sym (ap (λ (c : Cell). is_over now c.end) becomes) ∙ later in
      let table = by_table now in
      let cells = count_changed now (filter_cells_at old.table k).cells (filter_cells_at new.table k).cells n (same_width k lt) (due_stands now (filter_cells_at old.table k).cells n here) (λ m ne. same_cell k m lt (λ e. ne)) in
      let one : weight now (get_or (filter_cells_at old.table k).cells n unset) ≡ 1 = ap one_if here in
      let none : weight now (get_or (filter_cells_at new.table k).cells n unset) ≡ 0 = ap one_if over_no_more in
      omega (arith, table, cells, one, none)

pub settling_takes_one_off : SettlingTakesOneOff
settling_takes_one_off old new f zero now cell a b s over later = absurd (false≢true over)
settling_takes_one_off old new f (suc n) now cell a b s over later =
    let some = due_stands now (cells_in old.table f) n over in
    let filter_cells = stands old.table f (omega (arith, some)) in
    one_less old new f n cell a b s filter_cells.0 filter_cells.1 filter_cells.2 now over later

-- no cell is due where none is counted
not_over : (t : Bool) → one_if t ≤ 0 → t ≡ false
not_over true le = absurd (omega (arith, le))
not_over false le = refl

none_in : (now f : ℕ) (ls : List FilterCells) → sum_by (λ (l : FilterCells). due_in now l) ls ≡ 0 → due_among now (cells_in ls f) ≡ 0
none_in now f [] none = refl
none_in now f (l ∷ ls) none = by (none_in now f ls) (cases_eq l.filter f)
  where
    parts : sum_by (λ (l : FilterCells). due_in now l) (l ∷ ls) ≡ due_in now l + sum_by (λ (l : FilterCells). due_in now l) ls
    parts = sum_by-cons (λ (l : FilterCells). due_in now l) l ls

    by : (sum_by (λ (l : FilterCells). due_in now l) ls ≡ 0 → due_among now (cells_in ls f) ≡ 0) → (l.filter ≡ f) ⊎ (l.filter ≢ f) → due_among now (cells_in (l ∷ ls) f) ≡ 0
    by rest (inl e) =
        let is : cells_in (l ∷ ls) f ≡ l.cells = grind (arith, nat_tests, e) in
        let here : due_among now l.cells ≡ 0 = omega (arith, none, parts) in
        ap (λ cs. due_among now cs) is ∙ here
    by rest (inr e) =
        let is : cells_in (l ∷ ls) f ≡ cells_in ls f = grind (arith, nat_tests, e) in
        ap (λ cs. due_among now cs) is ∙ rest (omega (arith, none, parts))

none_at : (now : ℕ) (cs : List Cell) (j : ℕ) → due_among now cs ≡ 0 → is_over now (get_or (unset ∷ cs) j unset).end ≡ false
none_at now cs zero none = refl
none_at now cs (suc j) none = by (cases_lt j (length cs))
  where
    by : (j < length cs) ⊎ (length cs ≤ j) → is_over now (get_or cs j unset).end ≡ false
    by (inl lt) =
        let least : weight now (get_or cs j unset) ≤ due_among now cs = get_or-le-sum_by (λ (c : Cell). weight now c) cs j unset lt in
        not_over (is_over now (get_or cs j unset).end) (omega (arith, least, none))
    by (inr le) = ap (λ (c : Cell). is_over now c.end) (get_or_past cs j unset le)

none_due : (v : Views) (now : ℕ) → due v now ≡ 0 → (f j : ℕ) → is_over now (cell_of v f j).end ≡ false
none_due v now none f j = none_at now (cells_in v.table f) j (none_in now f v.table none)

-- and none is counted where no cell is due
none_counted : (v : Views) (now : ℕ) → IsGrid v → ((f j : ℕ) → is_over now (cell_of v f j).end ≡ false) → due v now ≡ 0
none_counted v now grid none = let most = sum_by-le (λ (l : FilterCells). due_in now l) 0 v.table each in omega (arith, most)
  where
    in_filter : (k : ℕ) → k < length v.table → due_in now (filter_cells_at v.table k) ≤ 0
    in_filter k lt = let most = sum_by-le (λ (c : Cell). weight now c) 0 (filter_cells_at v.table k).cells cell in omega (arith, most)
      where
        cell : (n : ℕ) (d : Cell) → n < length (filter_cells_at v.table k).cells → weight now (get_or (filter_cells_at v.table k).cells n d) ≤ 0
        cell n d l =
            let is : weight now (get_or (filter_cells_at v.table k).cells n d) ≡ 0 = ap (λ (c : Cell). weight now c) (get_or_default (filter_cells_at v.table k).cells n d unset l ∙ sym (cell_read v grid k n lt)) ∙ ap one_if (none (filter_cells_at v.table k).filter (suc n)) in
            omega (arith, is)

    each : (k : ℕ) (d : FilterCells) → k < length v.table → due_in now (get_or v.table k d) ≤ 0
    each k d lt =
        let is : due_in now (get_or v.table k d) ≡ due_in now (filter_cells_at v.table k) = ap (λ (l : FilterCells). due_in now l) (get_or_default v.table k d no_filter lt) in
        let least = in_filter k lt in
        omega (arith, is, least)

-- an end that comes before another is no later
earlier : (x y : Due) → x.end < y.end → is_before x y ≡ true
unfolding is_before
earlier x y lt = ap (λ t. is_lt (ordering_then (if t then Less else (if nat_eq x.end y.end then Equal else Greater)) (ordering_then (nat_cmp x.filter.0 y.filter.0) (nat_cmp x.issue.0 y.issue.0)))) (lt-ltb x.end y.end lt)

not_earlier : (x y : Due) → is_before x y ≡ false → y.end ≤ x.end
not_earlier x y stays = by (cases_lt x.end y.end)
  where
    by : (x.end < y.end) ⊎ (y.end ≤ x.end) → y.end ≤ x.end
    by (inl lt) = absurd (false≢true (sym stays ∙ earlier x y lt))
    by (inr le) = le

-- no cell is due where the least end is after the moment
none_before : (v : Views) (now : ℕ) (d : Due) → IsLeastEnd v d → now < d.end → (f j : ℕ) → is_over now (cell_of v f j).end ≡ false
none_before v now d least after f j = by (cell_of v f j).end refl
  where
    by : (o : Option ℕ) → (cell_of v f j).end ≡ o → is_over now o ≡ false
    by None e = refl
    by (Some end) e = let le = not_earlier (end_of_cell end f j) d (least.least f j end e) in lt-leb end now (omega (arith, le, after))

after_end : (v : Views) (now : ℕ) (d : Due) → IsLeastEnd v d → due v now ≡ 0 → now < d.end
after_end v now d least none = leb-false d.end now (ap (is_over now) (sym least.there) ∙ none_due v now none d.filter.0 d.issue.0)

pub none_is_due_before_the_next : NoneIsDueBeforeTheNext
none_is_due_before_the_next v None now grid next = (λ none. tt, λ after. none_counted v now grid (λ f j. ap (is_over now) (next f j)))
none_is_due_before_the_next v (Some n) now grid next =
    let d : Due = record { end = n.0; filter = n.1; issue = n.2 } in
    (λ none. after_end v now d next none, λ after. none_counted v now grid (none_before v now d next after))

-- a filter with cells is there
listed : (ls : List FilterCells) (f : ℕ) → 0 < length (cells_in ls f) → list_any (nat_eq f) (map (λ l. l.filter) ls) ≡ true
listed [] f some = absurd (omega (arith, some))
listed (l ∷ ls) f some = by (listed ls f) (cases_eq l.filter f)
  where
    by : (0 < length (cells_in ls f) → list_any (nat_eq f) (map (λ x. x.filter) ls) ≡ true) → (l.filter ≡ f) ⊎ (l.filter ≢ f) → list_any (nat_eq f) (map (λ x. x.filter) (l ∷ ls)) ≡ true
    by rest (inl e) = ap (λ t. t || list_any (nat_eq f) (map (λ x. x.filter) ls)) (eq-eqb f l.filter (sym e))
    by rest (inr e) =
        let is : cells_in (l ∷ ls) f ≡ cells_in ls f = grind (arith, nat_tests, e) in
        let other : nat_eq f l.filter ≡ false = ne_eqb f l.filter (λ same. e (sym same)) in
        ap (λ t. t || list_any (nat_eq f) (map (λ x. x.filter) ls)) other ∙ rest (omega (arith, some, ap length is))

with_end : (cs : List Cell) (n end : ℕ) → (get_or cs n unset).end ≡ Some end → n < length cs
with_end cs n end has = by (cases_lt n (length cs))
  where
    by : (n < length cs) ⊎ (length cs ≤ n) → n < length cs
    by (inl lt) = lt
    by (inr le) = absurd (none-some end (sym (ap (λ (c : Cell). c.end) (get_or_past cs n unset le)) ∙ has))

pub ends_are_of_cells : EndsAreOfCells
ends_are_of_cells v f zero end grid has = absurd (none-some end has)
ends_are_of_cells v f (suc n) end grid has =
    let within = with_end (cells_in v.table f) n end has in
    let some : 0 < length (cells_in v.table f) = omega (arith, within) in
    let place = stands v.table f some in
    let cells : cells_in v.table f ≡ (filter_cells_at v.table place.0).cells = ap (cells_in v.table) (sym place.2) ∙ cells_read v grid place.0 place.1 in
    let size : length (cells_in v.table f) ≡ v.issues = ap length cells ∙ width v grid place.0 place.1 in
    (listed v.table f some, (omega arith, omega (arith, within, size)))
