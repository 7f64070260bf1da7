-- What swapping two entries of the heap keeps.
use Rattle.std.proofs.Common.{◌⊎◌, ◌≡◌, ◌≢◌, ℕ, zero, suc, ◌<◌, ◌≤◌, Some, None, List, [], ◌∷◌, ◌==◌, if◌then◌else◌, length, get_or, refl, sym, ◌∙◌, ap, subst, inl, inr, arith}
use Rattle.std.specs.List.{SwappedAt}
use Rattle.std.proofs.lemmas.Bool.{cases_eq, cases_lt}
use Rattle.std.proofs.lemmas.Bool.Decides.{nat_tests}
use Rattle.filter_views.specs.declared.due.Due.{Due}
use Rattle.filter_views.specs.RowParts.{RowParts}
use Rattle.filter_views.specs.Due.{due_at, no_due}
use Rattle.filter_views.specs.FilterRow.{no_place, no_row, frame, frames, filter_at, AreRising, row_of, place_in, IsCell, PutsPlace, Frame}
use Rattle.filter_views.specs.Agreement.{IsOf, Agree, end_at, end_in, OnlyMoves}

-- the number of a row is in its frame
filter_in_frame : (rs : List RowParts) (k : ℕ) → filter_at rs k ≡ (get_or (frames rs) k (frame no_row)).filter
filter_in_frame [] k = refl
filter_in_frame (r ∷ rs) zero = refl
filter_in_frame (r ∷ rs) (suc k) = filter_in_frame rs k

pub length_frames : (rs : List RowParts) → length (frames rs) ≡ length rs
length_frames [] = refl
length_frames (r ∷ rs) = ap suc (length_frames rs)

pub rising_framed : (rs ss : List RowParts) → frames ss ≡ frames rs → AreRising rs → AreRising ss
rising_framed rs ss same rising j k lt in_range =
    let size : length ss ≡ length rs = sym (length_frames ss) ∙ ap length same ∙ length_frames rs in
    let at : (i : ℕ) → filter_at ss i ≡ filter_at rs i = λ i. filter_in_frame ss i ∙ ap (λ (fs : List Frame). (get_or fs i (frame no_row)).filter) same ∙ sym (filter_in_frame rs i) in
    omega (arith, at j, at k, size, rising j k lt (omega (arith, size)))

pub cases_of : (d : Due) (f i : ℕ) → IsOf d f i ⊎ (f ≡ d.filter.0 → i ≡ d.issue.0 → ⊥)
cases_of d f i = by (cases_eq d.filter.0 f) (cases_eq d.issue.0 i)
  where
    by : (d.filter.0 ≡ f) ⊎ (d.filter.0 ≢ f) → (d.issue.0 ≡ i) ⊎ (d.issue.0 ≢ i) → IsOf d f i ⊎ (f ≡ d.filter.0 → i ≡ d.issue.0 → ⊥)
    by (inl a) (inl b) = inl (record { same_filter = a; same_issue = b })
    by (inr a) b = inr (λ x y. a (sym x))
    by (inl a) (inr b) = inr (λ x y. b (sym y))

-- the place of the cell whose end this is
pub place_of : (rs : List RowParts) (d : Due) (f i : ℕ) → IsOf d f i → place_in rs f i ≡ place_in rs d.filter.0 d.issue.0
place_of rs d f i is = ap (λ g. place_in rs g i) (sym is.same_filter) ∙ ap (λ j. place_in rs d.filter.0 j) (sym is.same_issue)

pub end_there : (ds : List Due) (k : ℕ) → k < length ds → end_at ds k ≡ Some (due_at ds k).end
end_there ds k lt = grind (arith, nat_tests)

pub end_nowhere : (ds : List Due) (k : ℕ) → length ds ≤ k → end_at ds k ≡ None
end_nowhere ds k le = grind (arith, nat_tests)

pub end_moved : (ds es : List Due) (j k : ℕ) → j < length es → k < length ds → due_at es j ≡ due_at ds k → end_at es j ≡ end_at ds k
end_moved ds es j k a b same = end_there es j a ∙ ap (λ d. Some d.end) same ∙ sym (end_there ds k b)

-- each entry is of a cell of its own
pub distinct : (ds : List Due) (rs : List RowParts) → Agree ds rs → (j k : ℕ) → j < length ds → k < length ds → IsOf (due_at ds j) (due_at ds k).filter.0 (due_at ds k).issue.0 → j ≡ k
distinct ds rs agree j k a b is = sym (agree.own j a) ∙ sym (place_of rs (due_at ds j) _ _ is) ∙ agree.own k b

module _ (ds es : List Due) (rs ms ss : List RowParts) (a b : ℕ) (a_in : a < length ds) (b_in : b < length ds) (differ : a ≢ b) (agree : Agree ds rs)
    (swapped : SwappedAt ds es a b) (size : length es ≡ length ds)
    (first : PutsPlace rs ms (due_at es a).filter.0 (due_at es a).issue.0 a) (second : PutsPlace ms ss (due_at es b).filter.0 (due_at es b).issue.0 b) where
  at_a : due_at es a ≡ due_at ds b
  at_a = swapped.0 no_due

  at_b : due_at es b ≡ due_at ds a
  at_b = swapped.1 no_due

  at_other : (k : ℕ) → k ≢ a → k ≢ b → due_at es k ≡ due_at ds k
  at_other k x y = swapped.2 k no_due x y

  -- where the entries of the new list stood
  differ_new : (j k : ℕ) → j < length ds → k < length ds → j ≢ k → (m n : ℕ) → due_at es m ≡ due_at ds j → due_at es n ≡ due_at ds k → (due_at es m).filter.0 ≡ (due_at es n).filter.0 → (due_at es m).issue.0 ≡ (due_at es n).issue.0 → ⊥
  differ_new j k x y ne m n p q f i = ne (distinct ds rs agree j k x y (record {
    same_filter = ap (λ d. d.filter.0) (sym p) ∙ f ∙ ap (λ d. d.filter.0) q;
    same_issue = ap (λ d. d.issue.0) (sym p) ∙ i ∙ ap (λ d. d.issue.0) q;
  }))

  place_b : (f i : ℕ) → IsOf (due_at es b) f i → place_in ss f i ≡ b
  place_b f i is = place_of ss (due_at es b) f i is ∙ second.here

  place_a : (f i : ℕ) → (f ≡ (due_at es b).filter.0 → i ≡ (due_at es b).issue.0 → ⊥) → IsOf (due_at es a) f i → place_in ss f i ≡ a
  place_a f i not_b is = second.others f i not_b ∙ place_of ms (due_at es a) f i is ∙ first.here

  place_other : (f i : ℕ) → (f ≡ (due_at es b).filter.0 → i ≡ (due_at es b).issue.0 → ⊥) → (f ≡ (due_at es a).filter.0 → i ≡ (due_at es a).issue.0 → ⊥) → place_in ss f i ≡ place_in rs f i
  place_other f i not_b not_a = second.others f i not_b ∙ first.others f i not_a

  -- a cell whose end is neither of the two stands elsewhere
  elsewhere : (f i : ℕ) → (f ≡ (due_at es b).filter.0 → i ≡ (due_at es b).issue.0 → ⊥) → (f ≡ (due_at es a).filter.0 → i ≡ (due_at es a).issue.0 → ⊥) → place_in rs f i < length ds → due_at es (place_in rs f i) ≡ due_at ds (place_in rs f i)
  elsewhere f i not_b not_a lt =
      let is = agree.back f i lt in
      at_other (place_in rs f i)
      (λ e. not_b (sym is.same_filter ∙ ap (λ k. (due_at ds k).filter.0) e ∙ ap (λ d. d.filter.0) (sym at_b)) (sym is.same_issue ∙ ap (λ k. (due_at ds k).issue.0) e ∙ ap (λ d. d.issue.0) (sym at_b)))
      (λ e. not_a (sym is.same_filter ∙ ap (λ k. (due_at ds k).filter.0) e ∙ ap (λ d. d.filter.0) (sym at_a)) (sym is.same_issue ∙ ap (λ k. (due_at ds k).issue.0) e ∙ ap (λ d. d.issue.0) (sym at_a)))

  same_frames : frames ss ≡ frames rs
  same_frames = second.same ∙ first.same

  pub agree_swapped : Agree es ss
  agree_swapped = record { rising = rising_framed rs ss same_frames agree.rising; few = omega (arith, agree.few, size); own = own; none = none; back = back }
    where
      own : (k : ℕ) → k < length es → place_in ss (due_at es k).filter.0 (due_at es k).issue.0 ≡ k
      own k lt = by (cases_eq k b) (cases_eq k a)
        where
          by : (k ≡ b) ⊎ (k ≢ b) → (k ≡ a) ⊎ (k ≢ a) → place_in ss (due_at es k).filter.0 (due_at es k).issue.0 ≡ k
          by (inl e) m = subst (λ j. place_in ss (due_at es j).filter.0 (due_at es j).issue.0 ≡ j) (sym e) second.here
          by (inr e) (inl m) = subst (λ j. place_in ss (due_at es j).filter.0 (due_at es j).issue.0 ≡ j) (sym m)
              (second.others _ _ (differ_new b a b_in a_in (λ z. differ (sym z)) a b at_a at_b) ∙ first.here)
          by (inr e) (inr m) =
              let same = at_other k m e in
              let k_in : k < length ds = omega (arith, lt, size) in
              place_other _ _ (differ_new k a k_in a_in m k b same at_b) (differ_new k b k_in b_in e k a same at_a)
              ∙ ap (λ d. place_in rs d.filter.0 d.issue.0) same ∙ agree.own k k_in

      none : (f i : ℕ) → length es ≤ place_in ss f i → place_in ss f i ≡ no_place
      none f i le = by (cases_of (due_at es b) f i) (cases_of (due_at es a) f i)
        where
          by : IsOf (due_at es b) f i ⊎ (f ≡ (due_at es b).filter.0 → i ≡ (due_at es b).issue.0 → ⊥) → IsOf (due_at es a) f i ⊎ (f ≡ (due_at es a).filter.0 → i ≡ (due_at es a).issue.0 → ⊥) → place_in ss f i ≡ no_place
          by (inl is) m = absurd (omega (arith, place_b f i is, le, size, b_in))
          by (inr n) (inl is) = absurd (omega (arith, place_a f i n is, le, size, a_in))
          by (inr n) (inr m) = let same = place_other f i n m in same ∙ agree.none f i (omega (arith, same, le, size))

      back : (f i : ℕ) → place_in ss f i < length es → IsOf (due_at es (place_in ss f i)) f i
      back f i lt = by (cases_of (due_at es b) f i) (cases_of (due_at es a) f i)
        where
          by : IsOf (due_at es b) f i ⊎ (f ≡ (due_at es b).filter.0 → i ≡ (due_at es b).issue.0 → ⊥) → IsOf (due_at es a) f i ⊎ (f ≡ (due_at es a).filter.0 → i ≡ (due_at es a).issue.0 → ⊥) → IsOf (due_at es (place_in ss f i)) f i
          by (inl is) m = subst (λ p. IsOf (due_at es p) f i) (sym (place_b f i is)) is
          by (inr n) (inl is) = subst (λ p. IsOf (due_at es p) f i) (sym (place_a f i n is)) is
          by (inr n) (inr m) =
              let same = place_other f i n m in
              let old : place_in rs f i < length ds = omega (arith, lt, size, same) in
              subst (λ p. IsOf (due_at es p) f i) (sym same) (subst (λ d. IsOf d f i) (sym (elsewhere f i n m old)) (agree.back f i old))

  pub only_moves_swapped : OnlyMoves ds rs es ss
  only_moves_swapped = record { size = size; same = same_frames; ends = ends }
    where
      ends : (f i : ℕ) → end_in es ss f i ≡ end_in ds rs f i
      ends f i = by (cases_of (due_at es b) f i) (cases_of (due_at es a) f i) (cases_lt (place_in rs f i) (length ds))
        where
          by : IsOf (due_at es b) f i ⊎ (f ≡ (due_at es b).filter.0 → i ≡ (due_at es b).issue.0 → ⊥) → IsOf (due_at es a) f i ⊎ (f ≡ (due_at es a).filter.0 → i ≡ (due_at es a).issue.0 → ⊥) → (place_in rs f i < length ds) ⊎ (length ds ≤ place_in rs f i) → end_in es ss f i ≡ end_in ds rs f i
          by (inl is) m l =
              let old : place_in rs f i ≡ a = place_of rs (due_at es b) f i is ∙ ap (λ d. place_in rs d.filter.0 d.issue.0) at_b ∙ agree.own a a_in in
              ap (end_at es) (place_b f i is) ∙ end_moved ds es b a (omega (arith, b_in, size)) a_in at_b ∙ sym (ap (end_at ds) old)
          by (inr n) (inl is) l =
              let old : place_in rs f i ≡ b = place_of rs (due_at es a) f i is ∙ ap (λ d. place_in rs d.filter.0 d.issue.0) at_a ∙ agree.own b b_in in
              ap (end_at es) (place_a f i n is) ∙ end_moved ds es a b (omega (arith, a_in, size)) b_in at_a ∙ sym (ap (end_at ds) old)
          by (inr n) (inr m) (inl l) = ap (end_at es) (place_other f i n m) ∙ end_moved ds es _ _ (omega (arith, l, size)) l (elsewhere f i n m l)
          by (inr n) (inr m) (inr l) = ap (end_at es) (place_other f i n m) ∙ end_nowhere es _ (omega (arith, l, size)) ∙ sym (end_nowhere ds _ l)

pub only_moves_none : (ds : List Due) (rs : List RowParts) → OnlyMoves ds rs ds rs
only_moves_none ds rs = record { size = refl; same = refl; ends = λ f i. refl }

pub only_moves_more : (ds es hs : List Due) (rs ss ts : List RowParts) → OnlyMoves ds rs es ss → OnlyMoves es ss hs ts → OnlyMoves ds rs hs ts
only_moves_more ds es hs rs ss ts a b = record { size = b.size ∙ a.size; same = b.same ∙ a.same; ends = λ f i. b.ends f i ∙ a.ends f i }

-- an entry's cell is there
pub cell_there : (ds : List Due) (rs : List RowParts) → Agree ds rs → (f i : ℕ) → place_in rs f i < no_place → IsCell rs f i
cell_there ds rs agree f i lt = by (row_of rs f).places i lt
  where
    by : (ps : List ℕ) (i : ℕ) → get_or (no_place ∷ ps) i no_place < no_place → (0 < i) × (i ≤ length ps)
    by ps zero l = absurd (omega (arith, l))
    by ps (suc i) l = inside ps i l
      where
        inside : (ps : List ℕ) (i : ℕ) → get_or ps i no_place < no_place → (0 < suc i) × (suc i ≤ length ps)
        inside [] i l = absurd (omega (arith, l))
        inside (p ∷ ps) zero l = (omega arith, omega arith)
        inside (p ∷ ps) (suc i) l = let h = inside ps i l in (omega arith, omega (arith, h.1))

-- the cell of an entry is there
pub cell_of_entry : (ds : List Due) (rs : List RowParts) → Agree ds rs → (k : ℕ) → k < length ds → (d : Due) → d ≡ due_at ds k → IsCell rs d.filter.0 d.issue.0
cell_of_entry ds rs agree k lt d is = cell_there ds rs agree d.filter.0 d.issue.0 (omega (arith, ap (λ x. place_in rs x.filter.0 x.issue.0) is, agree.own k lt, agree.few))

-- cells stay where the frames stay
width_framed : (rs ss : List RowParts) → frames ss ≡ frames rs → (f : ℕ) → length (row_of ss f).places ≡ length (row_of rs f).places
width_framed rs ss same f = width_in_frame ss f ∙ ap (λ fs. width_of fs f) same ∙ sym (width_in_frame rs f)
  where
    width_of : List Frame → ℕ → ℕ
    width_of [] f = 0
    width_of (x ∷ xs) f = if x.filter == f then x.width else width_of xs f

    width_in_frame : (rs : List RowParts) (f : ℕ) → length (row_of rs f).places ≡ width_of (frames rs) f
    width_in_frame [] f = refl
    width_in_frame (r ∷ rs) f = grind (arith, nat_tests, width_in_frame rs f)

pub cell_framed : (rs ss : List RowParts) → frames ss ≡ frames rs → (f i : ℕ) → IsCell rs f i → IsCell ss f i
cell_framed rs ss same f i is = (is.0, omega (arith, is.1, width_framed rs ss same f))
