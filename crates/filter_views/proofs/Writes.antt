-- What becomes of cells and heap when an end is written, added or taken away.
use Rattle.std.proofs.Common.{◌⊎◌, ◌≡◌, ◌≢◌, ℕ, ◌+◌, ◌-◌, ◌<◌, ◌≤◌, Option, Some, None, List, [], ◌∷◌, ◌++◌, length, get_or, take, set, refl, sym, ◌∙◌, ap, subst, inl, inr, arith}
use Rattle.std.proofs.lemmas.Bool.{cases_eq, cases_lt}
use Rattle.std.proofs.lemmas.List.{length-set, get_or_default, get_or-set_other, length-append, length-take, get_or-take, get_or_append_left}
use Rattle.std.proofs.lemmas.Grind.{get_or-set_at}
use Rattle.filter_views.specs.declared.due.Due.{Due}
use Rattle.filter_views.specs.RowParts.{RowParts}
use Rattle.filter_views.specs.Due.{due_at, no_due}
use Rattle.filter_views.specs.FilterRow.{no_place, frames, place_in, PutsPlace}
use Rattle.filter_views.specs.Heap.{IsHeap, IsHeapBut}
use Rattle.filter_views.specs.Agreement.{IsOf, Agree, end_at, end_in, OnlyMoves, PutsEnd, MovesToEnd, DropsLast}
use Rattle.filter_views.proofs.Sifting.{written, grown, front_is_heap}
use Rattle.filter_views.proofs.Moves.{rising_framed, cases_of, place_of, end_there, end_nowhere, end_moved, distinct}

-- an end is written over that of its cell
module _ (ds : List Due) (rs : List RowParts) (d : Due) (agree : Agree ds rs) (lt : place_in rs d.filter.0 d.issue.0 < length ds) where
  abbrev p : ℕ
  p = place_in rs d.filter.0 d.issue.0

  abbrev over : List Due
  over = set ds p d

  size : length over ≡ length ds
  size = length-set ds p d

  here_is : due_at over p ≡ d
  here_is = get_or-set_at ds p p d no_due refl lt

  other_is : (k : ℕ) → k ≢ p → due_at over k ≡ due_at ds k
  other_is k ne = get_or-set_other ds p k d no_due ne

  pub agree_over : Agree over rs
  agree_over = record { rising = agree.rising; few = omega (arith, agree.few, size); own = own; none = λ f i le. agree.none f i (omega (arith, le, size)); back = back }
    where
      own : (k : ℕ) → k < length over → place_in rs (due_at over k).filter.0 (due_at over k).issue.0 ≡ k
      own k l = by (cases_eq k p)
        where
          by : (k ≡ p) ⊎ (k ≢ p) → place_in rs (due_at over k).filter.0 (due_at over k).issue.0 ≡ k
          by (inl e) = subst (λ j. place_in rs (due_at over j).filter.0 (due_at over j).issue.0 ≡ j) (sym e) (ap (λ x. place_in rs x.filter.0 x.issue.0) here_is)
          by (inr e) = ap (λ x. place_in rs x.filter.0 x.issue.0) (other_is k e) ∙ agree.own k (omega (arith, l, size))

      back : (f i : ℕ) → place_in rs f i < length over → IsOf (due_at over (place_in rs f i)) f i
      back f i l = by (cases_eq (place_in rs f i) p)
        where
          old : place_in rs f i < length ds
          old = omega (arith, l, size)

          by : (place_in rs f i ≡ p) ⊎ (place_in rs f i ≢ p) → IsOf (due_at over (place_in rs f i)) f i
          by (inl e) =
              let mine = agree.back d.filter.0 d.issue.0 lt in
              let its = subst (λ q. IsOf (due_at ds q) f i) e (agree.back f i old) in
              subst (λ q. IsOf (due_at over q) f i) (sym e) (subst (λ x. IsOf x f i) (sym here_is) (record { same_filter = sym mine.same_filter ∙ its.same_filter; same_issue = sym mine.same_issue ∙ its.same_issue }))
          by (inr e) = subst (λ x. IsOf x f i) (sym (other_is (place_in rs f i) e)) (agree.back f i old)

  pub but_over : IsHeap ds → IsHeapBut over p
  but_over heap = written ds over p heap lt (omega (arith, size)) (λ k e l. other_is k e)

  pub end_over : end_in over rs d.filter.0 d.issue.0 ≡ Some d.end
  end_over = end_there over p (omega (arith, lt, size)) ∙ ap (λ x. Some x.end) here_is

  pub ends_over : (g j : ℕ) → (g ≡ d.filter.0 → j ≡ d.issue.0 → ⊥) → end_in over rs g j ≡ end_in ds rs g j
  ends_over g j differ = by (cases_lt (place_in rs g j) (length ds))
    where
      by : (place_in rs g j < length ds) ⊎ (length ds ≤ place_in rs g j) → end_in over rs g j ≡ end_in ds rs g j
      by (inl l) =
          let ne : place_in rs g j ≢ p = λ e.
          let mine = agree.back d.filter.0 d.issue.0 lt in
          let its = subst (λ q. IsOf (due_at ds q) g j) e (agree.back g j l) in
          differ (sym its.same_filter ∙ mine.same_filter) (sym its.same_issue ∙ mine.same_issue) in
          end_moved ds over _ _ (omega (arith, l, size)) l (other_is _ ne)
      by (inr l) = end_nowhere over _ (omega (arith, l, size)) ∙ sym (end_nowhere ds _ l)

-- where the entry of a cell has this end already, nothing moves
pub stays : (ds : List Due) (rs : List RowParts) (d x : Due) (k : ℕ) → Agree ds rs → IsHeap ds → place_in rs d.filter.0 d.issue.0 < length ds → k ≡ place_in rs d.filter.0 d.issue.0 → x ≡ get_or ds k x
    → x.end ≡ d.end → PutsEnd ds rs ds rs d.filter.0 d.issue.0 (Some d.end)
stays ds rs d x k agree heap lt place is same =
    let read : due_at ds k ≡ x = get_or_default ds k no_due x (omega (arith, lt, place)) ∙ sym is in
    let at : (due_at ds (place_in rs d.filter.0 d.issue.0)).end ≡ d.end = ap (λ j. (due_at ds j).end) (sym place) ∙ ap (λ (e : Due). e.end) read ∙ same in
    record { agree = agree; heap = heap; same = refl; here = end_there ds _ lt ∙ ap Some at; others = λ g j n. refl }

-- the end of a cell that has none is added
module _ (ds es : List Due) (rs ss : List RowParts) (d : Due) (agree : Agree ds rs) (is : es ≡ ds ++ d ∷ []) (few : length es < no_place) (free : length ds ≤ place_in rs d.filter.0 d.issue.0)
    (put : PutsPlace rs ss d.filter.0 d.issue.0 (length ds)) where
  longer : length es ≡ length ds + 1
  longer = ap length is ∙ length-append ds (d ∷ [])

  last_is : due_at es (length ds) ≡ d
  last_is = ap (λ xs. due_at xs (length ds)) is ∙ at_end ds
    where
      at_end : (xs : List Due) → due_at (xs ++ d ∷ []) (length xs) ≡ d
      at_end [] = refl
      at_end (x ∷ xs) = at_end xs

  front_is : (k : ℕ) → k < length ds → due_at es k ≡ due_at ds k
  front_is k l = ap (λ xs. due_at xs k) is ∙ get_or_append_left ds (d ∷ []) no_due k l

  pub agree_added : Agree es ss
  agree_added = record { rising = rising_framed rs ss put.same agree.rising; few = few; own = own; none = none; back = back }
    where
      own : (k : ℕ) → k < length es → place_in ss (due_at es k).filter.0 (due_at es k).issue.0 ≡ k
      own k l = by (cases_lt k (length ds))
        where
          by : (k < length ds) ⊎ (length ds ≤ k) → place_in ss (due_at es k).filter.0 (due_at es k).issue.0 ≡ k
          by (inl m) =
              let x = due_at ds k in
              let at : place_in rs x.filter.0 x.issue.0 ≡ k = agree.own k m in
              ap (λ x. place_in ss x.filter.0 x.issue.0) (front_is k m)
              ∙ put.others x.filter.0 x.issue.0 (λ f i. let e : place_in rs x.filter.0 x.issue.0 ≡ place_in rs d.filter.0 d.issue.0 = ap (λ g. place_in rs g x.issue.0) f ∙ ap (place_in rs d.filter.0) i in absurd (omega (arith, e, at, m, free)))
              ∙ at
          by (inr m) =
              let e : k ≡ length ds = omega (arith, l, m, longer) in
              subst (λ j. place_in ss (due_at es j).filter.0 (due_at es j).issue.0 ≡ j) (sym e) (ap (λ x. place_in ss x.filter.0 x.issue.0) last_is ∙ put.here)

      none : (f i : ℕ) → length es ≤ place_in ss f i → place_in ss f i ≡ no_place
      none f i le = by (cases_of d f i)
        where
          by : IsOf d f i ⊎ (f ≡ d.filter.0 → i ≡ d.issue.0 → ⊥) → place_in ss f i ≡ no_place
          by (inl m) = absurd (omega (arith, place_of ss d f i m, put.here, le, longer))
          by (inr n) = let same = put.others f i n in same ∙ agree.none f i (omega (arith, same, le, longer))

      back : (f i : ℕ) → place_in ss f i < length es → IsOf (due_at es (place_in ss f i)) f i
      back f i l = by (cases_of d f i) (cases_lt (place_in rs f i) (length ds))
        where
          by : IsOf d f i ⊎ (f ≡ d.filter.0 → i ≡ d.issue.0 → ⊥) → (place_in rs f i < length ds) ⊎ (length ds ≤ place_in rs f i) → IsOf (due_at es (place_in ss f i)) f i
          by (inl m) x = subst (λ q. IsOf (due_at es q) f i) (sym (place_of ss d f i m ∙ put.here)) (subst (λ y. IsOf y f i) (sym last_is) m)
          by (inr n) (inl x) = subst (λ q. IsOf (due_at es q) f i) (sym (put.others f i n)) (subst (λ y. IsOf y f i) (sym (front_is _ x)) (agree.back f i x))
          by (inr n) (inr x) = absurd (omega (arith, put.others f i n, agree.none f i x, l, few))

  pub but_added : IsHeap ds → IsHeapBut es (length ds)
  but_added heap = grown ds es heap longer front_is

  pub end_added : end_in es ss d.filter.0 d.issue.0 ≡ Some d.end
  end_added = ap (end_at es) put.here ∙ end_there es (length ds) (omega (arith, longer)) ∙ ap (λ x. Some x.end) last_is

  pub ends_added : (g j : ℕ) → (g ≡ d.filter.0 → j ≡ d.issue.0 → ⊥) → end_in es ss g j ≡ end_in ds rs g j
  ends_added g j differ = ap (end_at es) (put.others g j differ) ∙ by (cases_lt (place_in rs g j) (length ds))
    where
      by : (place_in rs g j < length ds) ⊎ (length ds ≤ place_in rs g j) → end_at es (place_in rs g j) ≡ end_in ds rs g j
      by (inl l) = end_moved ds es _ _ (omega (arith, l, longer)) l (front_is _ l)
      by (inr l) = end_nowhere es _ (omega (arith, agree.none g j l, few)) ∙ sym (end_nowhere ds _ l)

-- the last entry is taken away
module _ (ds es : List Due) (rs ss : List RowParts) (d : Due) (agree : Agree ds rs) (some : 0 < length ds) (is : es ≡ take (length ds - 1) ds) (last : d ≡ due_at ds (length ds - 1))
    (put : PutsPlace rs ss d.filter.0 d.issue.0 no_place) where
  shorter : length es ≡ length ds - 1
  shorter = ap length is ∙ (simp length-take (omega arith))

  left_is : (k : ℕ) → k < length ds - 1 → due_at es k ≡ due_at ds k
  left_is k l = ap (λ xs. due_at xs k) is ∙ get_or-take (length ds - 1) ds k no_due l

  -- the one at a place before the last is of another cell
  not_last : (k : ℕ) → k < length ds - 1 → (f i : ℕ) → IsOf (due_at ds k) f i → f ≡ d.filter.0 → i ≡ d.issue.0 → ⊥
  not_last k l f i of e m =
      let same : k ≡ length ds - 1 = distinct ds rs agree k (length ds - 1) (omega arith) (omega arith) (record {
        same_filter = of.same_filter ∙ e ∙ ap (λ x. x.filter.0) last;
        same_issue = of.same_issue ∙ m ∙ ap (λ x. x.issue.0) last;
      }) in
      absurd (omega (arith, same, l))

  -- a cell other than the last one's isn't there
  place_not_last : (f i : ℕ) → (f ≡ d.filter.0 → i ≡ d.issue.0 → ⊥) → place_in rs f i ≢ length ds - 1
  place_not_last f i n e =
      let of = subst (λ q. IsOf (due_at ds q) f i) e (agree.back f i (omega (arith, e, some))) in
      n (sym of.same_filter ∙ ap (λ x. x.filter.0) (sym last)) (sym of.same_issue ∙ ap (λ x. x.issue.0) (sym last))

  agree_dropped : Agree es ss
  agree_dropped = record { rising = rising_framed rs ss put.same agree.rising; few = omega (arith, agree.few, shorter); own = own; none = none; back = back }
    where
      own : (k : ℕ) → k < length es → place_in ss (due_at es k).filter.0 (due_at es k).issue.0 ≡ k
      own k l =
          let m : k < length ds - 1 = omega (arith, l, shorter) in
          ap (λ x. place_in ss x.filter.0 x.issue.0) (left_is k m) ∙ put.others _ _ (not_last k m _ _ (record { same_filter = refl; same_issue = refl })) ∙ agree.own k (omega (arith, m))

      none : (f i : ℕ) → length es ≤ place_in ss f i → place_in ss f i ≡ no_place
      none f i le = by (cases_of d f i)
        where
          by : IsOf d f i ⊎ (f ≡ d.filter.0 → i ≡ d.issue.0 → ⊥) → place_in ss f i ≡ no_place
          by (inl m) = place_of ss d f i m ∙ put.here
          by (inr n) = let same = put.others f i n in same ∙ agree.none f i (omega (arith, same, le, shorter, place_not_last f i n))

      back : (f i : ℕ) → place_in ss f i < length es → IsOf (due_at es (place_in ss f i)) f i
      back f i l = by (cases_of d f i)
        where
          by : IsOf d f i ⊎ (f ≡ d.filter.0 → i ≡ d.issue.0 → ⊥) → IsOf (due_at es (place_in ss f i)) f i
          by (inl m) = absurd (omega (arith, place_of ss d f i m, put.here, l, shorter, agree.few))
          by (inr n) =
              let same = put.others f i n in
              let m : place_in rs f i < length ds - 1 = omega (arith, same, l, shorter) in
              subst (λ q. IsOf (due_at es q) f i) (sym same) (subst (λ x. IsOf x f i) (sym (left_is _ m)) (agree.back f i (omega (arith, m))))

  pub dropped : DropsLast ds rs es ss
  dropped = record { agree = agree_dropped; front = is; same = put.same; here = here; others = others }
    where
      here : end_in es ss (due_at ds (length ds - 1)).filter.0 (due_at ds (length ds - 1)).issue.0 ≡ None
      here = subst (λ x. end_in es ss x.filter.0 x.issue.0 ≡ None) last (ap (end_at es) put.here ∙ end_nowhere es no_place (omega (arith, shorter, agree.few)))

      others : (g j : ℕ) → (g ≡ (due_at ds (length ds - 1)).filter.0 → j ≡ (due_at ds (length ds - 1)).issue.0 → ⊥) → end_in es ss g j ≡ end_in ds rs g j
      others g j n = ap (end_at es) (put.others g j differ) ∙ by (cases_lt (place_in rs g j) (length ds - 1))
        where
          differ : g ≡ d.filter.0 → j ≡ d.issue.0 → ⊥
          differ a b = n (a ∙ ap (λ x. x.filter.0) last) (b ∙ ap (λ x. x.issue.0) last)

          by : (place_in rs g j < length ds - 1) ⊎ (length ds - 1 ≤ place_in rs g j) → end_at es (place_in rs g j) ≡ end_in ds rs g j
          by (inl l) = end_moved ds es _ _ (omega (arith, l, shorter)) (omega (arith, l)) (left_is _ l)
          by (inr l) = end_nowhere es _ (omega (arith, l, shorter)) ∙ sym (end_nowhere ds _ (omega (arith, l, place_not_last g j differ)))

-- entries that move after an end was written leave the ends
pub puts_then_moves : (ds es hs : List Due) (rs ss ts : List RowParts) (f i : ℕ) (end : Option ℕ) → Agree hs ts → IsHeap hs → frames ss ≡ frames rs → end_in es ss f i ≡ end →
    ((g j : ℕ) → (g ≡ f → j ≡ i → ⊥) → end_in es ss g j ≡ end_in ds rs g j) → OnlyMoves es ss hs ts → PutsEnd ds rs hs ts f i end
puts_then_moves ds es hs rs ss ts f i end agree heap same here others moves =
    record { agree = agree; heap = heap; same = moves.same ∙ same; here = moves.ends f i ∙ here; others = λ g j n. moves.ends g j ∙ others g j n }

-- the end of a cell goes: its entry changes places with the last one, which is taken away
module _ (ds es hs : List Due) (rs ss ts : List RowParts) (f i : ℕ) (agree : Agree ds rs) (lt : place_in rs f i < length ds)
    (moved : MovesToEnd ds es (place_in rs f i)) (moves : OnlyMoves ds rs es ss) (drops : DropsLast es ss hs ts) where
  of_cell : IsOf (due_at es (length es - 1)) f i
  of_cell = subst (λ d. IsOf d f i) (sym (ap (λ n. due_at es (n - 1)) moves.size ∙ moved.last)) (agree.back f i lt)

  taken_size : length hs ≡ length ds - 1
  taken_size = ap length drops.front ∙ (let s = moves.size in simp length-take (omega arith))

  taken_same : frames ts ≡ frames rs
  taken_same = drops.same ∙ moves.same

  taken_here : end_in hs ts f i ≡ None
  taken_here = ap (λ g. end_in hs ts g i) (sym of_cell.same_filter) ∙ ap (λ j. end_in hs ts (due_at es (length es - 1)).filter.0 j) (sym of_cell.same_issue) ∙ drops.here

  taken_others : (g j : ℕ) → (g ≡ f → j ≡ i → ⊥) → end_in hs ts g j ≡ end_in ds rs g j
  taken_others g j n = drops.others g j (λ a b. n (a ∙ of_cell.same_filter) (b ∙ of_cell.same_issue)) ∙ moves.ends g j

  left_entry : (k : ℕ) → k ≢ place_in rs f i → k < length hs → due_at hs k ≡ due_at ds k
  left_entry k ne l =
      let m : k < length ds - 1 = omega (arith, l, taken_size) in
      let s = moves.size in
      ap (λ xs. due_at xs k) drops.front ∙ get_or-take (length es - 1) es k no_due (omega (arith, m, s)) ∙ moved.others k ne m

  pub but_taken : IsHeap ds → IsHeapBut hs (place_in rs f i)
  but_taken heap = written ds hs (place_in rs f i) heap lt (omega (arith, taken_size)) left_entry

  pub taken_then_mended : (us : List Due) (vs : List RowParts) → Agree us vs → IsHeap us → OnlyMoves hs ts us vs → PutsEnd ds rs us vs f i None
  taken_then_mended us vs a h m = puts_then_moves ds hs us rs ts vs f i None a h taken_same taken_here taken_others m

  pub taken_last : IsHeap ds → length hs ≤ place_in rs f i → PutsEnd ds rs hs ts f i None
  taken_last heap le = record {
    agree = drops.agree;
    heap = front_is_heap ds hs heap (omega (arith, taken_size)) (λ k l. left_entry k (λ e. absurd (omega (arith, e, l, le))) l);
    same = taken_same;
    here = taken_here;
    others = taken_others;
  }
