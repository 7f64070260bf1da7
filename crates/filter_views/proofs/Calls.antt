-- What the calls make of the fields, and of the views.
use Rattle.std.proofs.Common.{◌≡◌, ℕ, ◌+◌, ◌*◌, ◌^◌, ◌<◌, ◌≤◌, Bool, true, false, Option, List, [], ◌∷◌, length, map, get_or, refl, sym, ◌∙◌, ap, subst, Result, Ok, Err, OnErr, arith}
use Rattle.std.proofs.lemmas.List.{length-map, get_or_past}
use Rattle.std.proofs.Math.Nat.{mul-le-mul, mul_comm, le_trans}
use Rattle.filter_views.specs.declared.due.Due.{Due}
use Rattle.filter_views.specs.RowParts.{RowParts}
use Rattle.filter_views.specs.FilterRow.{no_place, HasNumber, row_of, truth_in, place_in, IsCell}
use Rattle.filter_views.specs.Heap.{IsHeap}
use Rattle.filter_views.specs.Agreement.{Agree, end_at, end_in, PutsEnd}
use Rattle.filter_views.specs.Cell.{Cell, unset, FilterCells, Views, cell_of, is_there}
use Rattle.filter_views.specs.Views.{Shape, Settles, AddsIssue}
use Rattle.filter_views.specs.Fields.{sizes, AllFit, table, views, IsKept, PutsTruth, WritesCell, with_issue, Widen, AllHaveRoom}
use Rattle.filter_views.proofs.Moves.{end_nowhere}
use Rattle.filter_views.proofs.AllRows.{agree_alike, truth_in_longer, place_in_longer, filter_at_longer, fit_longer, blank_longer, table_widen, place_in_widen, filter_at_widen, length_widen, fit_widen, fit_room, blank_widen}
use Rattle.filter_views.proofs.Seen.{seen, few_truths, filters_sized, length_sized, sizes_framed, truth_framed, there_width}
use Rattle.filter_views.proofs.Counting.{fewer_ends, few_places}

pub writes_cell : (ds es : List Due) (rs ms ss : List RowParts) (f i : ℕ) (holds : Bool) (end : Option ℕ) → PutsTruth rs ms f i holds → PutsEnd ds ms es ss f i end → WritesCell ds rs es ss f i holds end
writes_cell ds es rs ms ss f i holds end t p = record {
  agree = p.agree;
  heap = p.heap;
  same = sizes_framed ms ss p.same ∙ t.same;
  truth = truth_framed ms ss p.same f i ∙ t.here;
  truths = λ g j n. truth_framed ms ss p.same g j ∙ t.others g j n;
  end_here = p.here;
  ends = λ g j n. p.others g j n ∙ ap (end_at ds) (t.places g j);
}

pub shape_from : (a b : Shape) → a.filters ≡ b.filters → a.issues ≡ b.issues → a.filter_room ≡ b.filter_room → a.issue_room ≡ b.issue_room → a ≡ b
shape_from a b fs i n r =
    ap (λ (x : List ℕ). let s : Shape = record { filters = x; issues = a.issues; filter_room = a.filter_room; issue_room = a.issue_room } in s) fs
    ∙ ap (λ (x : ℕ). let s : Shape = record { filters = b.filters; issues = x; filter_room = a.filter_room; issue_room = a.issue_room } in s) i
    ∙ ap (λ (x : ℕ). let s : Shape = record { filters = b.filters; issues = b.issues; filter_room = x; issue_room = a.issue_room } in s) n
    ∙ ap (λ (x : ℕ). let s : Shape = record { filters = b.filters; issues = b.issues; filter_room = b.filter_room; issue_room = x } in s) r

pub cell_from : (a b : Bool) (x y : Option ℕ) → a ≡ b → x ≡ y → ◌≡◌ {A = Cell} (record { holds = a; end = x }) (record { holds = b; end = y })
cell_from a b x y e g = ap (λ (t : Bool). let c : Cell = record { holds = t; end = x } in c) e ∙ ap (λ (o : Option ℕ). let c : Cell = record { holds = b; end = o } in c) g

module _ (rs spare : List RowParts) (ds : List Due) (row_slots due_slots issues room : ℕ) (kept : IsKept rs spare ds row_slots due_slots issues room) where
  few : length ds ≤ no_place
  few = omega (arith, kept.agree.few)

  abbrev v : Views
  v = views rs spare ds issues room

  pub cell_seen : (f j : ℕ) → cell_of v f j ≡ record { holds = truth_in rs f j; end = end_in ds rs f j }
  cell_seen = seen rs ds issues room v refl kept.fit few

  -- a cell is written
  pub kept_written : (ss : List RowParts) (es : List Due) → Agree es ss → IsHeap es → sizes ss ≡ sizes rs → IsKept ss spare es row_slots due_slots issues room
  kept_written ss es agree heap same =
      let size = length_sized rs ss same in
      record {
        agree = agree;
        heap = heap;
        fit = subst (AllFit issues room) (sym same) kept.fit;
        ready = kept.ready;
        blank = kept.blank;
        row_room = omega (arith, kept.row_room, size);
        due_room = subst (λ n. (n + length spare) * room ≤ due_slots) (sym size) kept.due_room;
        enough = kept.enough;
        few = kept.few;
      }

  pub settles : (ss : List RowParts) (es : List Due) (f i : ℕ) (holds : Bool) (end : Option ℕ) → WritesCell ds rs es ss f i holds end → Settles v (views ss spare es issues room) f i (record { holds = holds; end = end })
  settles ss es f i holds end w =
      let fit : AllFit issues room (sizes ss) = subst (AllFit issues room) (sym w.same) kept.fit in
      let now = seen ss es issues room (views ss spare es issues room) refl fit (omega (arith, w.agree.few)) in
      record {
        this = now f i ∙ cell_from _ _ _ _ w.truth w.end_here;
        others = λ g j n. now g j ∙ cell_from _ _ _ _ (w.truths g j n) (w.ends g j n) ∙ sym (cell_seen g j);
        same = shape_from _ _ (filters_sized ds es rs ss w.same) refl (ap (λ n. n + length spare) (length_sized rs ss w.same)) refl;
      }

  pub has_truth : (f i : ℕ) → is_there v f ≡ true → HasNumber i issues → HasNumber i (length (row_of rs f).truths)
  has_truth f i there number = (number.0, omega (arith, number.1, (there_width ds issues room rs f kept.fit there).0))

  pub has_cell : (f i : ℕ) → is_there v f ≡ true → HasNumber i issues → IsCell rs f i
  has_cell f i there number = (number.0, omega (arith, number.1, (there_width ds issues room rs f kept.fit there).1))

  pub has_room : (f i : ℕ) → IsCell rs f i → length ds ≤ place_in rs f i → length ds < due_slots
  has_room f i cell free =
      let fewer = fewer_ends rs issues room kept.fit ds kept.agree f i cell free in
      let grow : issues * length rs ≤ (length rs + length spare) * room = subst (λ n. issues * length rs ≤ n) (mul_comm room (length rs + length spare)) (mul-le-mul kept.enough (omega arith)) in
      omega (arith, fewer, grow, kept.due_room)

  -- an issue is added
  pub kept_longer : (n : ℕ) → n ≡ issues + 1 → n < 2 ^ 32 → issues < room → IsKept (map with_issue rs) (map with_issue spare) ds row_slots due_slots n room
  kept_longer n is below lt =
      let a = length-map rs with_issue in
      let b = length-map spare with_issue in
      record {
        agree = agree_alike ds rs (map with_issue rs) a (filter_at_longer rs) (place_in_longer rs) kept.agree;
        heap = kept.heap;
        fit = subst (λ m. AllFit m room (sizes (map with_issue rs))) (sym is) (fit_longer issues room rs kept.fit);
        ready = subst (λ m. AllFit m room (sizes (map with_issue spare))) (sym is) (fit_longer issues room spare kept.ready);
        blank = blank_longer spare kept.blank;
        row_room = omega (arith, kept.row_room, a, b);
        due_room = subst (λ m. (m + length (map with_issue spare)) * room ≤ due_slots) (sym a) (subst (λ m. (length rs + m) * room ≤ due_slots) (sym b) kept.due_room);
        enough = omega (arith, is, lt);
        few = below;
      }

  -- a cell for a number above the issues reads as a new one
  pub fresh_cell : (g j : ℕ) → issues < j → cell_of v g j ≡ unset
  fresh_cell g j lt = cell_seen g j ∙ cell_from _ _ _ _ (truth_past rs g j lt kept.fit) (ap (end_at ds) (place_past rs g j lt kept.fit) ∙ end_nowhere ds no_place few)
    where
      past : {X : Type 0} (xs : List X) (x d : X) (k : ℕ) → length xs < k → get_or (x ∷ xs) k d ≡ d
      past xs x d k l = get_or_past (x ∷ xs) k d (omega (arith, l))

      truth_past : (rs : List RowParts) (f k : ℕ) → issues < k → AllFit issues room (sizes rs) → truth_in rs f k ≡ false
      truth_past rs f k l fit = let h = few_truths issues room rs f fit in past (row_of rs f).truths false false k (omega (arith, h, l))

      place_past : (rs : List RowParts) (f k : ℕ) → issues < k → AllFit issues room (sizes rs) → place_in rs f k ≡ no_place
      place_past rs f k l fit = let h = few_places issues room rs f fit in past (row_of rs f).places no_place no_place k (omega (arith, h, l))

  pub adds_issue : (n : ℕ) → n ≡ issues + 1 → AddsIssue v (views (map with_issue rs) (map with_issue spare) ds n room)
  adds_issue n is =
      let w = views (map with_issue rs) (map with_issue spare) ds n room in
      let now = seen (map with_issue rs) ds (issues + 1) room w refl (fit_longer issues room rs kept.fit) few in
      let same : (g j : ℕ) → cell_of w g j ≡ cell_of v g j = λ g j. now g j ∙ cell_from _ _ _ _ (truth_in_longer rs g j) (ap (end_at ds) (place_in_longer rs g j)) ∙ sym (cell_seen g j) in
      record {
        cells = same;
        fresh = λ g. same g (issues + 1) ∙ fresh_cell g (issues + 1) (omega arith);
        same = shape_from _ _ (filters_longer rs) is (ap (λ m. m + length (map with_issue spare)) (length-map rs with_issue) ∙ ap (λ m. length rs + m) (length-map spare with_issue)) refl;
      }
    where
      filters_longer : (rs : List RowParts) → map (λ l. l.filter) (table ds (map with_issue rs)) ≡ map (λ l. l.filter) (table ds rs)
      filters_longer [] = refl
      filters_longer (r ∷ rs) = ap (λ ns. r.filter ∷ ns) (filters_longer rs)

  -- rows with more room keep all
  pub kept_widen : (ss spares : List RowParts) → Widen rs ss → Widen spare spares → (more : ℕ) → due_slots ≤ more → IsKept ss spares ds row_slots more issues room
  kept_widen ss spares w u more le =
      let a = length_widen rs ss w in
      let b = length_widen spare spares u in
      record {
        agree = agree_alike ds rs ss a (filter_at_widen rs ss w) (place_in_widen rs ss w) kept.agree;
        heap = kept.heap;
        fit = fit_widen issues room rs ss w kept.fit;
        ready = fit_widen issues room spare spares u kept.ready;
        blank = blank_widen spare spares u kept.blank;
        row_room = omega (arith, kept.row_room, a, b);
        due_room = le_trans (subst (λ m. (m + length spares) * room ≤ due_slots) (sym a) (subst (λ m. (length rs + m) * room ≤ due_slots) (sym b) kept.due_room)) le;
        enough = kept.enough;
        few = kept.few;
      }

  pub views_widen : (ss spares : List RowParts) → Widen rs ss → Widen spare spares → (n : ℕ) → views ss spares ds issues n ≡ record v { issue_room = n }
  views_widen ss spares w u n =
      ap (λ (ls : List FilterCells). let x : Views = record { table = ls; issues = issues; filter_room = length ss + length spares; issue_room = n } in x) (table_widen ds rs ss w)
      ∙ ap (λ (m : ℕ). let x : Views = record { table = table ds rs; issues = issues; filter_room = m; issue_room = n } in x) (ap (λ m. m + length spares) (length_widen rs ss w) ∙ ap (λ m. length rs + m) (length_widen spare spares u))

  -- and there may be room for more issues
  pub kept_room : (ss spares : List RowParts) → Widen rs ss → Widen spare spares → (most more : ℕ) → issues ≤ most → AllHaveRoom most ss → AllHaveRoom most spares → (length ss + length spares) * most ≤ more → IsKept ss spares ds row_slots more issues most
  kept_room ss spares w u most more le a b slots =
      let m = length_widen rs ss w in
      let n = length_widen spare spares u in
      record {
        agree = agree_alike ds rs ss m (filter_at_widen rs ss w) (place_in_widen rs ss w) kept.agree;
        heap = kept.heap;
        fit = fit_room issues room most ss (fit_widen issues room rs ss w kept.fit) a;
        ready = fit_room issues room most spares (fit_widen issues room spare spares u kept.ready) b;
        blank = blank_widen spare spares u kept.blank;
        row_room = omega (arith, kept.row_room, m, n);
        due_room = slots;
        enough = le;
        few = kept.few;
      }

pub on_err : {A E P : Type 0} (r : Result A E) → P → OnErr r P
on_err (Ok a) h = tt
on_err (Err e) h = h
