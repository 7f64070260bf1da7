-- A filter comes, or goes.
use Rattle.std.proofs.Common.{◌⊎◌, ◌≡◌, ◌≢◌, ℕ, zero, suc, ◌+◌, ◌-◌, ◌*◌, ◌<◌, ◌≤◌, ◌==◌, true, false, Some, None, List, [], ◌∷◌, ◌++◌, length, map, nat_eq, nat_lt, if◌then◌else◌, refl, sym, ◌∙◌, ap, subst, inl, inr, arith}
use Rattle.std.specs.List.{list_any, insert, remove}
use Rattle.std.proofs.Math.Nat.{mul-le-mul}
use Rattle.std.proofs.lemmas.Bool.{cases_eq, false≢true}
use Rattle.std.proofs.lemmas.Bool.Decides.{nat_tests}
use Rattle.std.proofs.lemmas.List.Edits.{length-insert, get_or-insert_below, get_or-insert_at, get_or-insert_above, length-remove, get_or-remove_below, get_or-remove_above}
use Rattle.filter_views.specs.declared.due.Due.{Due}
use Rattle.filter_views.specs.RowParts.{RowParts}
use Rattle.filter_views.specs.Due.{due_at}
use Rattle.filter_views.specs.FilterRow.{no_place, no_row, frames, truth_at, place_at, filter_at, AreRising, IsAt, IsGapFor, row_of, truth_in, place_in, IsCell}
use Rattle.filter_views.specs.Agreement.{IsOf, Agree, end_at, end_in, TakesEnds}
use Rattle.filter_views.specs.Cell.{cell_of}
use Rattle.filter_views.specs.Views.{AddsFilter, RemovesFilter, with_filter, without_filter}
use Rattle.filter_views.specs.Fields.{sizes, AllFit, IsBlank, AllBlank, table, views, IsKept}
use Rattle.filter_views.proofs.Lookups.{NoneBefore, none_before_tail, is_at_tail, row_absent, row_missing, none_before_gap, none_in_list, no_place_there, false_there}
use Rattle.filter_views.proofs.Moves.{cell_there, end_there, end_nowhere}
use Rattle.filter_views.proofs.AllRows.{agree_read}
use Rattle.filter_views.proofs.Seen.{seen, filters_sized, length_sized, sizes_framed, truth_framed}
use Rattle.filter_views.proofs.Counting.{few_places}
use Rattle.filter_views.proofs.Calls.{shape_from, cell_from}

-- where the filter has a row it is there, and else it isn't
pub there_at : (ds : List Due) (rs : List RowParts) (f k : ℕ) → IsAt rs f k → list_any (nat_eq f) (map (λ l. l.filter) (table ds rs)) ≡ true
there_at ds [] f k at = absurd (omega (arith, at.in_range))
there_at ds (r ∷ rs) f zero at = grind (arith, nat_tests, at.is_it)
there_at ds (r ∷ rs) f (suc k) at = grind (arith, nat_tests, there_at ds rs f k (is_at_tail r rs f k at))

pub not_there : (ds : List Due) (rs : List RowParts) (f : ℕ) → NoneBefore rs f (length rs) → list_any (nat_eq f) (map (λ l. l.filter) (table ds rs)) ≡ false
not_there ds [] f none = refl
not_there ds (r ∷ rs) f none = grind (arith, nat_tests, none 0 (omega arith), not_there ds rs f (none_before_tail r rs f _ none))

row_insert : (rs : List RowParts) (f k : ℕ) (x : RowParts) → x.filter ≡ f → NoneBefore rs f k → (g : ℕ) → row_of (insert rs k x) g ≡ (if f == g then x else row_of rs g)
row_insert rs f zero x is none g = grind (arith, nat_tests, is)
row_insert [] f (suc k) x is none g = grind (arith, nat_tests, is)
row_insert (r ∷ rs) f (suc k) x is none g = grind (arith, nat_tests, none 0 (omega arith), row_insert rs f k x is (none_before_tail r rs f k none) g)

fit_insert : (issues room : ℕ) (rs : List RowParts) (k : ℕ) (x : RowParts) → AllFit issues room (sizes rs) → AllFit issues room (sizes (x ∷ [])) → AllFit issues room (sizes (insert rs k x))
fit_insert issues room rs zero x a b = (b.0, b.1, b.2, a)
fit_insert issues room [] (suc k) x a b = b
fit_insert issues room (r ∷ rs) (suc k) x a b = (a.0, a.1, a.2, fit_insert issues room rs k x a.3 b)

fit_split : (issues room : ℕ) (rs : List RowParts) (x : RowParts) → AllFit issues room (sizes (rs ++ x ∷ [])) → AllFit issues room (sizes rs) × AllFit issues room (sizes (x ∷ []))
fit_split issues room [] x a = (tt, a)
fit_split issues room (r ∷ rs) x a = let h = fit_split issues room rs x a.3 in ((a.0, a.1, a.2, h.0), h.1)

blank_split : (rs : List RowParts) (x : RowParts) → AllBlank (rs ++ x ∷ []) → AllBlank rs × IsBlank x
blank_split [] x a = (tt, a.0)
blank_split (r ∷ rs) x a = let h = blank_split rs x a.1 in ((a.0, h.0), h.1)

length_push : (rs : List RowParts) (x : RowParts) → length (rs ++ x ∷ []) ≡ length rs + 1
length_push [] x = refl
length_push (r ∷ rs) x = ap suc (length_push rs x) ∙ (omega arith)

gap_tail : (r : RowParts) (rs : List RowParts) (f k : ℕ) → IsGapFor (r ∷ rs) f (suc k) → IsGapFor rs f k
gap_tail r rs f k gap = record { in_range = omega (arith, gap.in_range); smaller_before = λ j lt. gap.smaller_before (suc j) (omega arith); greater_after = λ j le lt. gap.greater_after (suc j) (omega arith) (omega arith) }

filters_insert : (ds : List Due) (rs : List RowParts) (f k : ℕ) (x : RowParts) → x.filter ≡ f → IsGapFor rs f k → map (λ l. l.filter) (table ds (insert rs k x)) ≡ with_filter f (map (λ l. l.filter) (table ds rs))
filters_insert ds [] f zero x is gap = ap (λ n. n ∷ []) is
filters_insert ds [] f (suc k) x is gap = absurd (omega (arith, gap.in_range))
filters_insert ds (r ∷ rs) f zero x is gap =
    let first : nat_lt f r.filter ≡ true = let h = gap.greater_after 0 (omega arith) (omega arith) in grind (arith, nat_tests, h) in
    let ns = map (λ l. l.filter) (table ds rs) in
    ap (λ n. n ∷ r.filter ∷ ns) is ∙ sym (ap (λ b. if b then f ∷ r.filter ∷ ns else r.filter ∷ with_filter f ns) first)
filters_insert ds (r ∷ rs) f (suc k) x is gap =
    let later : nat_lt f r.filter ≡ false = let h = gap.smaller_before 0 (omega arith) in grind (arith, nat_tests, h) in
    let ns = map (λ l. l.filter) (table ds rs) in
    ap (λ ns. r.filter ∷ ns) (filters_insert ds rs f k x is (gap_tail r rs f k gap)) ∙ sym (ap (λ b. if b then f ∷ r.filter ∷ ns else r.filter ∷ with_filter f ns) later)

rising_insert : (rs : List RowParts) (f k : ℕ) (x : RowParts) → x.filter ≡ f → IsGapFor rs f k → AreRising rs → AreRising (insert rs k x)
rising_insert rs f i x is gap rising j k lt in_range =
    let number = λ (y : RowParts). y.filter in
    let new = insert rs i x in
    let length_new = length-insert rs i x gap.in_range in
    let below : (j : ℕ) → j < i → filter_at new j ≡ filter_at rs j = λ j lt. ap number (get_or-insert_below rs i x no_row j lt gap.in_range) in
    let here : (j : ℕ) → j ≡ i → filter_at new j ≡ f = λ j e. rw e (ap number (get_or-insert_at rs i x no_row gap.in_range) ∙ is) in
    let above : (j : ℕ) → i < j → filter_at new j ≡ filter_at rs (j - 1) = λ j lt. subst (λ q. filter_at new q ≡ filter_at rs (j - 1)) {x = j - 1 + 1} (omega arith) (ap number (get_or-insert_above rs i x no_row (j - 1) (omega arith) gap.in_range)) in
    grind (arith, below j, here j, above j, below k, here k, above k, rising j k, rising j (k - 1), rising (j - 1) (k - 1), gap.smaller_before j, gap.greater_after (k - 1))

module _ (rs spare left : List RowParts) (ds : List Due) (row_slots due_slots issues room : ℕ) (kept : IsKept rs spare ds row_slots due_slots issues room)
    (f k : ℕ) (gap : IsGapFor rs f k) (row x : RowParts) (is : x ≡ record row { filter = f }) (popped : spare ≡ left ++ row ∷ []) where
  number : x.filter ≡ f
  number = ap (λ r. r.filter) is

  new : List RowParts
  new = insert rs k x

  blanks : AllBlank left × IsBlank row
  blanks = blank_split left row (subst AllBlank popped kept.blank)

  fits : AllFit issues room (sizes left) × AllFit issues room (sizes (row ∷ []))
  fits = fit_split issues room left row (subst (λ rows. AllFit issues room (sizes rows)) popped kept.ready)

  fit_row : AllFit issues room (sizes (x ∷ []))
  fit_row = let h = fits.1 in (ap (λ r. length r.truths) is ∙ h.0, ap (λ r. length r.places) is ∙ h.1, subst (λ n. room ≤ n) (sym (ap (λ r. r.room) is)) h.2, tt)

  row_new : (g : ℕ) → row_of (insert rs k x) g ≡ (if f == g then x else row_of rs g)
  row_new = row_insert rs f k x number (none_before_gap rs f k gap)

  none : row_of rs f ≡ no_row
  none = row_missing rs f k gap

  place_new : (g j : ℕ) → place_in (insert rs k x) g j ≡ place_in rs g j
  place_new g j = by (cases_eq f g)
    where
      by : (f ≡ g) ⊎ (f ≢ g) → place_in (insert rs k x) g j ≡ place_in rs g j
      by (inl e) =
          let h = row_new g in
          let a : row_of (insert rs k x) g ≡ x = grind (arith, nat_tests, h, e) in
          ap (λ r. place_at r j) (a ∙ is) ∙ blanks.1.places j ∙ no_place_there j ∙ ap (λ r. place_at r j) (sym none) ∙ ap (λ m. place_in rs m j) e
      by (inr e) =
          let h = row_new g in
          let a : row_of (insert rs k x) g ≡ row_of rs g = grind (arith, nat_tests, h, e) in
          ap (λ r. place_at r j) a

  truth_new : (g j : ℕ) → truth_in (insert rs k x) g j ≡ truth_in rs g j
  truth_new g j = by (cases_eq f g)
    where
      by : (f ≡ g) ⊎ (f ≢ g) → truth_in (insert rs k x) g j ≡ truth_in rs g j
      by (inl e) =
          let h = row_new g in
          let a : row_of (insert rs k x) g ≡ x = grind (arith, nat_tests, h, e) in
          ap (λ r. truth_at r j) (a ∙ is) ∙ blanks.1.truths j ∙ false_there j ∙ ap (λ r. truth_at r j) (sym none) ∙ ap (λ m. truth_in rs m j) e
      by (inr e) =
          let h = row_new g in
          let a : row_of (insert rs k x) g ≡ row_of rs g = grind (arith, nat_tests, h, e) in
          ap (λ r. truth_at r j) a

  together : length (insert rs k x) + length left ≡ length rs + length spare
  together = omega (arith, length-insert rs k x gap.in_range, ap length popped ∙ length_push left row)

  pub kept_added : (slots : ℕ) → row_slots ≤ slots → IsKept (insert rs k x) left ds slots due_slots issues room
  kept_added slots le = record {
    agree = agree_read ds rs (insert rs k x) (rising_insert rs f k x number gap kept.agree.rising) place_new kept.agree;
    heap = kept.heap;
    fit = fit_insert issues room rs k x kept.fit fit_row;
    ready = fits.0;
    blank = blanks.0;
    row_room = omega (arith, together, kept.row_room, le);
    due_room = subst (λ n. n * room ≤ due_slots) (sym together) kept.due_room;
    enough = kept.enough;
    few = kept.few;
  }

  pub adds_filter : AddsFilter (views rs spare ds issues room) (views (insert rs k x) left ds issues room) f
  adds_filter =
      let now = seen (insert rs k x) ds issues room (views (insert rs k x) left ds issues room) refl (fit_insert issues room rs k x kept.fit fit_row) (omega (arith, kept.agree.few)) in
      let old = seen rs ds issues room (views rs spare ds issues room) refl kept.fit (omega (arith, kept.agree.few)) in
      let same : (g j : ℕ) → cell_of (views (insert rs k x) left ds issues room) g j ≡ cell_of (views rs spare ds issues room) g j = λ g j. now g j ∙ cell_from _ _ _ _ (truth_new g j) (ap (end_at ds) (place_new g j)) ∙ sym (old g j) in
      record {
        cells = same;
        fresh = λ j. same f j ∙ old f j ∙ cell_from _ _ _ _ (ap (λ r. truth_at r j) none ∙ sym (false_there j)) (ap (λ r. end_at ds (place_at r j)) none ∙ ap (end_at ds) (sym (no_place_there j)) ∙ end_nowhere ds no_place (omega (arith, kept.agree.few)));
        same = shape_from _ _ (filters_insert ds rs f k x number gap) refl together refl;
      }

-- the filter's row is taken out
row_remove : (rs : List RowParts) (f k : ℕ) → AreRising rs → IsAt rs f k → (g : ℕ) → row_of (remove rs k) g ≡ (if f == g then no_row else row_of rs g)
row_remove [] f k rising at g = absurd (omega (arith, at.in_range))
row_remove (r ∷ rs) f zero rising at g = by (cases_eq f g)
  where
    later : NoneBefore rs f (length rs)
    later j lt same = let h = rising 0 (suc j) (omega arith) (omega arith) in absurd (omega (arith, h, same, at.is_it))

    by : (f ≡ g) ⊎ (f ≢ g) → row_of rs g ≡ (if f == g then no_row else (if r.filter == g then r else row_of rs g))
    by (inl e) = let none = subst (λ m. row_of rs m ≡ no_row) e (row_absent rs f later) in grind (arith, nat_tests, none, e)
    by (inr e) = let is : r.filter ≡ f = at.is_it in grind (arith, nat_tests, is, e)
row_remove (r ∷ rs) f (suc k) rising at g =
    let tail : AreRising rs = λ i j lt l. rising (suc i) (suc j) (omega arith) (omega arith) in
    let rest = row_remove rs f k tail (is_at_tail r rs f k at) g in
    let first : r.filter ≢ f = λ e. let h = rising 0 (suc k) (omega arith) at.in_range in absurd (omega (arith, h, e, at.is_it)) in
    grind (arith, nat_tests, rest, first)

fit_remove : (issues room : ℕ) (rs : List RowParts) (k : ℕ) → AllFit issues room (sizes rs) → AllFit issues room (sizes (remove rs k))
fit_remove issues room [] zero a = tt
fit_remove issues room [] (suc k) a = tt
fit_remove issues room (r ∷ rs) zero a = a.3
fit_remove issues room (r ∷ rs) (suc k) a = (a.0, a.1, a.2, fit_remove issues room rs k a.3)

rising_remove : (rs : List RowParts) (i : ℕ) → i < length rs → AreRising rs → AreRising (remove rs i)
rising_remove rs i lt rising j k less in_range =
    let number = λ (y : RowParts). y.filter in
    let new = remove rs i in
    let shorter = length-remove rs i lt in
    let below : (j : ℕ) → j < i → filter_at new j ≡ filter_at rs j = λ j l. ap number (get_or-remove_below rs i no_row j l lt) in
    let above : (j : ℕ) → i ≤ j → filter_at new j ≡ filter_at rs (j + 1) = λ j l. ap number (get_or-remove_above rs i no_row j l lt) in
    grind (arith, below j, above j, below k, above k, rising j k, rising j (k + 1), rising (j + 1) (k + 1))

filters_remove : (ds : List Due) (rs : List RowParts) (f k : ℕ) → AreRising rs → IsAt rs f k → map (λ l. l.filter) (table ds (remove rs k)) ≡ without_filter f (map (λ l. l.filter) (table ds rs))
filters_remove ds [] f k rising at = absurd (omega (arith, at.in_range))
filters_remove ds (r ∷ rs) f zero rising at = let is : r.filter ≡ f = at.is_it in grind (arith, nat_tests, is)
filters_remove ds (r ∷ rs) f (suc k) rising at =
    let tail : AreRising rs = λ i j lt l. rising (suc i) (suc j) (omega arith) (omega arith) in
    let rest = filters_remove ds rs f k tail (is_at_tail r rs f k at) in
    let first : r.filter ≢ f = λ e. let h = rising 0 (suc k) (omega arith) at.in_range in absurd (omega (arith, h, e, at.is_it)) in
    grind (arith, nat_tests, rest, first)

module _ (rs spare : List RowParts) (ds : List Due) (row_slots due_slots issues room : ℕ) (kept : IsKept rs spare ds row_slots due_slots issues room)
    (f k : ℕ) (ss : List RowParts) (es : List Due) (taken : TakesEnds ds rs es ss f issues) (at : IsAt ss f k) where
  same_sizes : sizes ss ≡ sizes rs
  same_sizes = sizes_framed rs ss taken.same

  fit_taken : AllFit issues room (sizes ss)
  fit_taken = subst (AllFit issues room) (sym same_sizes) kept.fit

  row_left : (g : ℕ) → row_of (remove ss k) g ≡ (if f == g then no_row else row_of ss g)
  row_left = row_remove ss f k taken.agree.rising at

  row_gone : row_of (remove ss k) f ≡ no_row
  row_gone = let h = row_left f in grind (arith, nat_tests, h)

  row_stays : (g : ℕ) → f ≢ g → row_of (remove ss k) g ≡ row_of ss g
  row_stays g ne = let h = row_left g in grind (arith, nat_tests, h, ne)

  place_gone : (g j : ℕ) → f ≡ g → place_in (remove ss k) g j ≡ no_place
  place_gone g j e = ap (λ m. place_in (remove ss k) m j) (sym e) ∙ ap (λ r. place_at r j) row_gone ∙ sym (no_place_there j)

  place_stays : (g j : ℕ) → f ≢ g → place_in (remove ss k) g j ≡ place_in ss g j
  place_stays g j ne = ap (λ r. place_at r j) (row_stays g ne)

  -- no entry is left of the filter
  other_filter : (m : ℕ) → m < length es → f ≢ (due_at es m).filter.0
  other_filter m lt e =
      let d = due_at es m in
      let own = taken.agree.own m lt in
      let cell : IsCell ss d.filter.0 d.issue.0 = cell_there es ss taken.agree _ _ (omega (arith, own, taken.agree.few)) in
      let few = few_places issues room ss d.filter.0 fit_taken in
      let gone = taken.gone d.issue.0 cell.0 (omega (arith, cell.1, few)) in
      let here : end_in es ss d.filter.0 d.issue.0 ≡ Some d.end = ap (end_at es) own ∙ end_there es m lt in
      let none : end_in es ss d.filter.0 d.issue.0 ≡ None = ap (λ g. end_in es ss g d.issue.0) (sym e) ∙ gone in
      absurd (cc)

  agree_left : Agree es (remove ss k)
  agree_left = record {
    rising = rising_remove ss k at.in_range taken.agree.rising;
    few = taken.agree.few;
    own = λ m lt. place_stays _ _ (other_filter m lt) ∙ taken.agree.own m lt;
    none = λ g j le. none g j le (cases_eq f g);
    back = λ g j lt. back g j lt (cases_eq f g);
  }
    where
      none : (g j : ℕ) → length es ≤ place_in (remove ss k) g j → (f ≡ g) ⊎ (f ≢ g) → place_in (remove ss k) g j ≡ no_place
      none g j le (inl e) = place_gone g j e
      none g j le (inr e) = let same = place_stays g j e in same ∙ taken.agree.none g j (omega (arith, same, le))

      back : (g j : ℕ) → place_in (remove ss k) g j < length es → (f ≡ g) ⊎ (f ≢ g) → IsOf (due_at es (place_in (remove ss k) g j)) g j
      back g j lt (inl e) = absurd (omega (arith, place_gone g j e, lt, taken.agree.few))
      back g j lt (inr e) = let same = place_stays g j e in subst (λ p. IsOf (due_at es p) g j) (sym same) (taken.agree.back g j (omega (arith, same, lt)))

  shorter : length (remove ss k) + 1 ≡ length rs
  shorter = length-remove ss k at.in_range ∙ length_sized rs ss same_sizes

  pub kept_removed : (rows dues : ℕ) → row_slots ≤ rows → due_slots ≤ dues → IsKept (remove ss k) spare es rows dues issues room
  kept_removed rows dues more most = record {
    agree = agree_left;
    heap = taken.heap;
    fit = fit_remove issues room ss k fit_taken;
    ready = kept.ready;
    blank = kept.blank;
    row_room = omega (arith, shorter, kept.row_room, more);
    due_room = let less : (length (remove ss k) + length spare) * room ≤ (length rs + length spare) * room = mul-le-mul (omega (arith, shorter)) (omega arith) in omega (arith, less, kept.due_room, most);
    enough = kept.enough;
    few = kept.few;
  }

  pub removes_filter : RemovesFilter (views rs spare ds issues room) (views (remove ss k) spare es issues room) f
  removes_filter =
      let w = views (remove ss k) spare es issues room in
      let now = seen (remove ss k) es issues room w refl (fit_remove issues room ss k fit_taken) (omega (arith, taken.agree.few)) in
      let old = seen rs ds issues room (views rs spare ds issues room) refl kept.fit (omega (arith, kept.agree.few)) in
      record {
        gone = λ j. now f j ∙ cell_from _ _ _ _ (ap (λ r. truth_at r j) row_gone ∙ sym (false_there j)) (ap (end_at es) (place_gone f j refl) ∙ end_nowhere es no_place (omega (arith, taken.agree.few)));
        others = λ g j ne. now g j ∙ cell_from _ _ _ _ (ap (λ r. truth_at r j) (row_stays g (λ e. ne (sym e))) ∙ truth_framed rs ss taken.same g j) (ap (end_at es) (place_stays g j (λ e. ne (sym e))) ∙ taken.others g j ne) ∙ sym (old g j);
        same = shape_from _ _ (filters_remove es ss f k taken.agree.rising at ∙ ap (without_filter f) (filters_sized ds es rs ss same_sizes)) refl (omega (arith, shorter)) refl;
      }

-- where the filter has no row it isn't there
pub never_missing : (rs ss : List RowParts) (ds es : List Due) (f k : ℕ) → frames ss ≡ frames rs → IsGapFor ss f k → list_any (nat_eq f) (map (λ l. l.filter) (table ds rs)) ≡ true → ⊥
never_missing rs ss ds es f k same gap there =
    false≢true (sym (not_there ds ss f (none_in_list ss f k gap)) ∙ ap (list_any (nat_eq f)) (filters_sized ds ds rs ss (sizes_framed rs ss same)) ∙ there)
