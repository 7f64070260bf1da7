-- Edits of all rows.
use Rattle.std.proofs.Common.{◌⊎◌, ◌≡◌, ◌≢◌, ℕ, zero, suc, ◌+◌, ◌<◌, ◌≤◌, false, List, [], ◌∷◌, ◌++◌, length, map, take, drop, get_or, set, refl, sym, ◌∙◌, ap, subst, inl, inr, arith}
use Rattle.std.proofs.lemmas.Bool.{cases_eq}
use Rattle.std.proofs.lemmas.Bool.Decides.{nat_tests}
use Rattle.std.proofs.lemmas.List.{length-append, get_or-set_other}
use Rattle.std.proofs.lemmas.Grind.{get_or-set_at}
use Rattle.filter_views.specs.declared.due.Due.{Due}
use Rattle.filter_views.specs.RowParts.{RowParts}
use Rattle.filter_views.specs.FilterRow.{no_place, no_row, truth_at, place_at, filter_at, AreRising, place_in, truth_in}
use Rattle.filter_views.specs.Due.{due_at}
use Rattle.filter_views.specs.Agreement.{Agree, IsOf}
use Rattle.filter_views.specs.Fields.{size, sizes, AllFit, AllBlank, AllAreShort, AllHaveRoom, Widen, with_issue, room_at, filter_cells, table}

-- a loop over the rows has left the rest as it was
pub still_old : (old rows : List RowParts) (at : ℕ) (d : RowParts) → at < length old → rows ≡ map with_issue (take at old) ++ drop at old → get_or rows at d ≡ get_or old at d
still_old old rows at d lt is = ap (λ xs. get_or xs at d) is ∙ go old at lt
  where
    go : (old : List RowParts) (at : ℕ) → at < length old → get_or (map with_issue (take at old) ++ drop at old) at d ≡ get_or old at d
    go [] at l = absurd (omega (arith, l))
    go (r ∷ rs) zero l = refl
    go (r ∷ rs) (suc at) l = go rs at (omega arith)

pub short_at : (rs : List RowParts) (k : ℕ) (d : RowParts) → AllAreShort rs → k < length rs → (length (get_or rs k d).truths < (get_or rs k d).room) × (length (get_or rs k d).places < (get_or rs k d).room)
short_at [] k d all lt = absurd (omega (arith, lt))
short_at (r ∷ rs) zero d all lt = (all.0, all.1)
short_at (r ∷ rs) (suc k) d all lt = short_at rs k d all.2 (omega arith)

pub widen_none : (rs : List RowParts) → Widen rs rs
widen_none [] = tt
widen_none (r ∷ rs) = (refl, omega arith, widen_none rs)

pub widen_set : (old rs : List RowParts) (k : ℕ) (x d : RowParts) → Widen old rs → k < length rs → x ≡ record (get_or rs k d) { room = x.room } → (get_or rs k d).room ≤ x.room → Widen old (set rs k x)
widen_set [] [] k x d w lt is more = absurd (omega (arith, lt))
widen_set [] (s ∷ ss) k x d w lt is more = absurd w
widen_set (r ∷ rs) [] k x d w lt is more = absurd w
widen_set (r ∷ rs) (s ∷ ss) zero x d w lt is more = (is ∙ ap (λ (y : RowParts). let z : RowParts = record y { room = x.room } in z) w.0, omega (arith, w.1, more), w.2)
widen_set (r ∷ rs) (s ∷ ss) (suc k) x d w lt is more = (w.0, w.1, widen_set rs ss k x d w.2 (omega arith) is more)

pub all_have_room : (most : ℕ) (rs : List RowParts) → ((k : ℕ) → k < length rs → most ≤ room_at rs k) → AllHaveRoom most rs
all_have_room most [] h = tt
all_have_room most (r ∷ rs) h = (h 0 (omega arith), all_have_room most rs (λ k lt. h (suc k) (omega arith)))

pub length_widen : (rs ss : List RowParts) → Widen rs ss → length ss ≡ length rs
length_widen [] [] w = refl
length_widen [] (s ∷ ss) w = absurd w
length_widen (r ∷ rs) [] w = absurd w
length_widen (r ∷ rs) (s ∷ ss) w = ap suc (length_widen rs ss w.2)

pub table_widen : (ds : List Due) (rs ss : List RowParts) → Widen rs ss → table ds ss ≡ table ds rs
table_widen ds [] [] w = refl
table_widen ds [] (s ∷ ss) w = absurd w
table_widen ds (r ∷ rs) [] w = absurd w
table_widen ds (r ∷ rs) (s ∷ ss) w = ap (λ y. filter_cells ds y ∷ table ds ss) w.0 ∙ ap (λ ls. filter_cells ds r ∷ ls) (table_widen ds rs ss w.2)

pub place_in_widen : (rs ss : List RowParts) → Widen rs ss → (f j : ℕ) → place_in ss f j ≡ place_in rs f j
place_in_widen [] [] w f j = refl
place_in_widen [] (s ∷ ss) w f j = absurd w
place_in_widen (r ∷ rs) [] w f j = absurd w
place_in_widen (r ∷ rs) (s ∷ ss) w f j =
    let number : s.filter ≡ r.filter = ap (λ y. y.filter) w.0 in
    let first : place_at s j ≡ place_at r j = ap (λ y. place_at y j) w.0 in
    let rest = place_in_widen rs ss w.2 f j in
    grind (arith, nat_tests, number, first, rest)

pub filter_at_widen : (rs ss : List RowParts) → Widen rs ss → (k : ℕ) → filter_at ss k ≡ filter_at rs k
filter_at_widen [] [] w k = refl
filter_at_widen [] (s ∷ ss) w k = absurd w
filter_at_widen (r ∷ rs) [] w k = absurd w
filter_at_widen (r ∷ rs) (s ∷ ss) w zero = ap (λ y. y.filter) w.0
filter_at_widen (r ∷ rs) (s ∷ ss) w (suc k) = filter_at_widen rs ss w.2 k

pub filter_at_longer : (rs : List RowParts) (k : ℕ) → filter_at (map with_issue rs) k ≡ filter_at rs k
filter_at_longer [] k = refl
filter_at_longer (r ∷ rs) zero = refl
filter_at_longer (r ∷ rs) (suc k) = filter_at_longer rs k

-- the heap agrees with any rows in which each cell has its place
pub agree_read : (ds : List Due) (rs ss : List RowParts) → AreRising ss → ((f j : ℕ) → place_in ss f j ≡ place_in rs f j) → Agree ds rs → Agree ds ss
agree_read ds rs ss rising same agree = record {
  rising = rising;
  few = agree.few;
  own = λ k lt. same _ _ ∙ agree.own k lt;
  none = λ f i le. let e = same f i in e ∙ agree.none f i (omega (arith, e, le));
  back = λ f i lt. let e = same f i in subst (λ p. IsOf (due_at ds p) f i) (sym e) (agree.back f i (omega (arith, e, lt)));
}

-- and so with any rows that read alike
pub agree_alike : (ds : List Due) (rs ss : List RowParts) → length ss ≡ length rs → ((k : ℕ) → filter_at ss k ≡ filter_at rs k) → ((f j : ℕ) → place_in ss f j ≡ place_in rs f j) → Agree ds rs → Agree ds ss
agree_alike ds rs ss size at same agree = agree_read ds rs ss (λ j k lt in_range. omega (arith, at j, at k, agree.rising j k lt (omega (arith, size)))) same agree

pub fit_widen : (issues room : ℕ) (rs ss : List RowParts) → Widen rs ss → AllFit issues room (sizes rs) → AllFit issues room (sizes ss)
fit_widen issues room [] [] w a = tt
fit_widen issues room [] (s ∷ ss) w a = absurd w
fit_widen issues room (r ∷ rs) [] w a = absurd w
fit_widen issues room (r ∷ rs) (s ∷ ss) w a =
    (ap (λ y. length y.truths) w.0 ∙ a.0, ap (λ y. length y.places) w.0 ∙ a.1, omega (arith, a.2, w.1), fit_widen issues room rs ss w.2 a.3)

pub fit_room : (issues room most : ℕ) (rs : List RowParts) → AllFit issues room (sizes rs) → AllHaveRoom most rs → AllFit issues most (sizes rs)
fit_room issues room most [] a h = tt
fit_room issues room most (r ∷ rs) a h = (a.0, a.1, h.0, fit_room issues room most rs a.3 h.1)

pub blank_widen : (rs ss : List RowParts) → Widen rs ss → AllBlank rs → AllBlank ss
blank_widen [] [] w a = tt
blank_widen [] (s ∷ ss) w a = absurd w
blank_widen (r ∷ rs) [] w a = absurd w
blank_widen (r ∷ rs) (s ∷ ss) w a =
    (record { truths = λ j. ap (λ y. truth_at y j) w.0 ∙ a.0.truths j; places = λ j. ap (λ y. place_at y j) w.0 ∙ a.0.places j }, blank_widen rs ss w.2 a.1)

-- one more value of those that stand behind the end changes no reading
get_or_longer : {X : Type 0} (xs : List X) (d : X) (k : ℕ) → get_or (xs ++ d ∷ []) k d ≡ get_or xs k d
get_or_longer [] d zero = refl
get_or_longer [] d (suc k) = refl
get_or_longer (x ∷ xs) d zero = refl
get_or_longer (x ∷ xs) d (suc k) = get_or_longer xs d k

pub truth_longer : (r : RowParts) (j : ℕ) → truth_at (with_issue r) j ≡ truth_at r j
truth_longer r j = get_or_longer (false ∷ r.truths) false j

pub place_longer : (r : RowParts) (j : ℕ) → place_at (with_issue r) j ≡ place_at r j
place_longer r j = get_or_longer (no_place ∷ r.places) no_place j

pub truth_in_longer : (rs : List RowParts) (f j : ℕ) → truth_in (map with_issue rs) f j ≡ truth_in rs f j
truth_in_longer [] f j = refl
truth_in_longer (r ∷ rs) f j = grind (arith, nat_tests, truth_longer r j, truth_in_longer rs f j)

pub place_in_longer : (rs : List RowParts) (f j : ℕ) → place_in (map with_issue rs) f j ≡ place_in rs f j
place_in_longer [] f j = refl
place_in_longer (r ∷ rs) f j = grind (arith, nat_tests, place_longer r j, place_in_longer rs f j)

pub short_from_fit : (issues room : ℕ) (rs : List RowParts) → issues < room → AllFit issues room (sizes rs) → AllAreShort rs
short_from_fit issues room [] lt a = tt
short_from_fit issues room (r ∷ rs) lt a = (omega (arith, a.0, a.2, lt), omega (arith, a.1, a.2, lt), short_from_fit issues room rs lt a.3)

pub fit_longer : (issues room : ℕ) (rs : List RowParts) → AllFit issues room (sizes rs) → AllFit (issues + 1) room (sizes (map with_issue rs))
fit_longer issues room [] a = tt
fit_longer issues room (r ∷ rs) a =
    (length-append r.truths (false ∷ []) ∙ ap (λ n. n + 1) a.0, length-append r.places (no_place ∷ []) ∙ ap (λ n. n + 1) a.1, a.2, fit_longer issues room rs a.3)

pub blank_longer : (rs : List RowParts) → AllBlank rs → AllBlank (map with_issue rs)
blank_longer [] a = tt
blank_longer (r ∷ rs) a = (record { truths = λ j. truth_longer r j ∙ a.0.truths j; places = λ j. place_longer r j ∙ a.0.places j }, blank_longer rs a.1)

pub numbers_longer : (rs : List RowParts) → map (λ r. r.filter) (map with_issue rs) ≡ map (λ r. r.filter) rs
numbers_longer [] = refl
numbers_longer (r ∷ rs) = ap (λ ns. r.filter ∷ ns) (numbers_longer rs)

pub room_more : (rs : List RowParts) (at most : ℕ) (x : RowParts) → at < length rs → most ≤ x.room → ((k : ℕ) → k < at → most ≤ room_at rs k) → (k : ℕ) → k < at + 1 → most ≤ room_at (set rs at x) k
room_more rs at most x in_range room below k lt = by (cases_eq k at)
  where
    by : (k ≡ at) ⊎ (k ≢ at) → most ≤ room_at (set rs at x) k
    by (inl e) = omega (arith, room, ap (λ y. y.room) (get_or-set_at rs at k x no_row e in_range))
    by (inr e) = omega (arith, below k (omega (arith, lt, e)), ap (λ y. y.room) (get_or-set_other rs at k x no_row e))
