-- The rows of a board are the issues of the order that are members.
use Rattle.std.proofs.Common.{◌≡◌, ◌≢◌, ℕ, suc, ◌<◌, ◌≤◌, ◌==◌, Bool, true, false, ◌||◌, ◌&&◌, inl, inr, List, [], ◌∷◌, ◌⊎◌, length, get_or, refl, sym, ◌∙◌, ap, subst, arith}
use Rattle.std.specs.Prelude.{All, AllPairs, filter, nat_lt}
use Rattle.std.proofs.lemmas.Bool.{cases_Bool, cases_eq, false≢true}
use Rattle.std.proofs.lemmas.Bool.Decides.{nat_tests}
use Rattle.std.proofs.lemmas.List.{get_or-map, length-map}
use Rattle.std.proofs.lemmas.List.Elements.{All-head, All-tail, filter_passes}
use Rattle.std.proofs.lemmas.List.Kept.{AllPairs-filter}
use Rattle.std.proofs.lemmas.List.Sorted.{All-permutation, list_any-IsPermutation, IsNonDecreasingBy-from_sort}
use Rattle.std.proofs.lemmas.Map.Keys.{IsDistinct-IsPermutation, IsDistinct-from_apart, apart_from_distinct}
use Rattle.field_values.specs.declared.numbers.IssueNo.{IssueNo}
use Rattle.board.specs.Order.{Pair, IsOrder, places_before}
use Rattle.board.specs.Table.{nothing, number_at}
use Rattle.board.specs.Issues.{issues_in}
use Rattle.board.specs.Board.{members_in, AreRows, has_issue, board_rows}
use Rattle.board.specs.Laws.{RowsAreTheMembers}
use Rattle.board.proofs.Moves.{places_before-number_at, number_at-places_before}

abbrev numbered : ℕ → IssueNo
numbered n = record { 0 = n }

head_among : (x : IssueNo) (xs : List IssueNo) → has_issue (x ∷ xs) x.0 ≡ true
head_among x xs = let itself : (x.0 == x.0) ≡ true = grind (arith, nat_tests) in ap (λ b. b || has_issue xs x.0) itself

behind_among : (x : IssueNo) (xs : List IssueNo) (n : ℕ) → x.0 ≢ n → has_issue (x ∷ xs) n ≡ has_issue xs n
behind_among x xs n differ = let other : (x.0 == n) ≡ false = grind (arith, nat_tests) in ap (λ b. b || has_issue xs n) other

-- issues with rising keys: what is among those behind the first has a greater key
module _ (key : ℕ → ℕ) where
  abbrev Rise : List IssueNo → Type 0
  Rise xs = AllPairs (λ a b. key a.0 < key b.0) xs

  greater : (m n : ℕ) (xs : List IssueNo) → All (λ x. m < key x.0) xs → has_issue xs n ≡ true → m < key n
  greater m n [] all is = absurd (false≢true is)
  greater m n (x ∷ xs) all is = by (cases_eq x.0 n) (greater m n xs (All-tail (λ x. m < key x.0) x xs all))
    where
      by : (x.0 ≡ n) ⊎ (x.0 ≡ n → ⊥) → (has_issue xs n ≡ true → m < key n) → m < key n
      by (inl same) rest = subst (λ k. m < key k) same (All-head (λ x. m < key x.0) x xs all)
      by (inr differ) rest = rest (sym (behind_among x xs n differ) ∙ is)

  Rise-head : (x : IssueNo) (xs : List IssueNo) → Rise (x ∷ xs) → All (λ y. key x.0 < key y.0) xs
  Rise-head x xs rise = λ k d lt. rise 0 (suc k) d (omega arith) (omega arith)

  Rise-tail : (x : IssueNo) (xs : List IssueNo) → Rise (x ∷ xs) → Rise xs
  Rise-tail x xs rise = λ i j d less lt. rise (suc i) (suc j) d (omega arith) (omega arith)

  first_not_behind : (x : IssueNo) (xs : List IssueNo) → Rise (x ∷ xs) → has_issue xs x.0 ≡ false
  first_not_behind x xs rise = by (cases_Bool (has_issue xs x.0))
    where
      by : (has_issue xs x.0 ≡ true) ⊎ (has_issue xs x.0 ≡ false) → has_issue xs x.0 ≡ false
      by (inl is) = let less = greater (key x.0) x.0 xs (Rise-head x xs rise) is in absurd (omega arith)
      by (inr is) = is

  pub same_from_rising : (xs ys : List IssueNo) → Rise xs → Rise ys → ((n : ℕ) → has_issue xs n ≡ has_issue ys n) → xs ≡ ys
  same_from_rising [] [] rx ry same = refl
  same_from_rising [] (y ∷ ys) rx ry same = absurd (false≢true (same y.0 ∙ head_among y ys))
  same_from_rising (x ∷ xs) [] rx ry same = absurd (false≢true (sym (same x.0) ∙ head_among x xs))
  same_from_rising (x ∷ xs) (y ∷ ys) rx ry same = by (cases_eq x.0 y.0) (same_from_rising xs ys (Rise-tail x xs rx) (Rise-tail y ys ry))
    where
      tails : x.0 ≡ y.0 → (n : ℕ) → (x.0 ≡ n) ⊎ (x.0 ≡ n → ⊥) → has_issue xs n ≡ has_issue ys n
      tails first n (inl here) =
          ap (has_issue xs) (sym here) ∙ first_not_behind x xs rx
          ∙ sym (ap (has_issue ys) (sym here ∙ first) ∙ first_not_behind y ys ry)
      tails first n (inr differ) =
          sym (behind_among x xs n differ) ∙ same n ∙ behind_among y ys n (λ here. differ (first ∙ here))

      by : (x.0 ≡ y.0) ⊎ (x.0 ≡ y.0 → ⊥) → (((n : ℕ) → has_issue xs n ≡ has_issue ys n) → xs ≡ ys) → x ∷ xs ≡ y ∷ ys
      by (inl first) rest =
          let one : x ≡ y = ap numbered first in
          let others : xs ≡ ys = rest (λ n. tails first n (cases_eq x.0 n)) in
          λ i. one i ∷ others i
      by (inr differ) rest =
          let a = greater (key y.0) x.0 ys (Rise-head y ys ry) (sym (behind_among y ys x.0 (λ e. differ (sym e))) ∙ sym (same x.0) ∙ head_among x xs) in
          let b = greater (key x.0) y.0 xs (Rise-head x xs rx) (sym (behind_among x xs y.0 differ) ∙ same y.0 ∙ head_among y ys) in
          absurd (omega arith)

-- what a filter by numbers leaves
among_filter : (p : ℕ → Bool) (xs : List IssueNo) (n : ℕ) → has_issue (filter (λ i. p i.0) xs) n ≡ (has_issue xs n && p n)
among_filter p [] n = refl
among_filter p (x ∷ xs) n = by (cases_Bool (p x.0)) (cases_eq x.0 n) (among_filter p xs n)
  where
    never : (b : Bool) → (b && false) ≡ false
    never true = refl
    never false = refl

    by : (p x.0 ≡ true) ⊎ (p x.0 ≡ false) → (x.0 ≡ n) ⊎ (x.0 ≡ n → ⊥) → has_issue (filter (λ i. p i.0) xs) n ≡ (has_issue xs n && p n) →
        has_issue (filter (λ i. p i.0) (x ∷ xs)) n ≡ (has_issue (x ∷ xs) n && p n)
    by (inl is) (inl same) rest =
        let here : (x.0 == n) ≡ true = grind (arith, nat_tests) in
        let passes : p n ≡ true = ap p (sym same) ∙ is in
        rw (is, here, passes) refl
    by (inl is) (inr differ) rest = let other : (x.0 == n) ≡ false = grind (arith, nat_tests) in rw (is, other) rest
    by (inr is) (inl same) rest =
        let here : (x.0 == n) ≡ true = grind (arith, nat_tests) in
        let fails : p n ≡ false = ap p (sym same) ∙ is in
        rw (is, here, fails) (rest ∙ ap (λ b. has_issue xs n && b) fails ∙ never (has_issue xs n))
    by (inr is) (inr differ) rest = let other : (x.0 == n) ≡ false = grind (arith, nat_tests) in rw (is, other) rest

among_issues : (ps : List Pair) (n : ℕ) → has_issue (issues_in ps) n ≡ nat_lt (places_before ps n) (length ps)
among_issues [] n = grind (arith, nat_tests)
among_issues (p ∷ ps) n = by (cases_Bool (p.1.0 == n)) (among_issues ps n)
  where
    by : ((p.1.0 == n) ≡ true) ⊎ ((p.1.0 == n) ≡ false) → has_issue (issues_in ps) n ≡ nat_lt (places_before ps n) (length ps) →
        has_issue (issues_in (p ∷ ps)) n ≡ nat_lt (places_before (p ∷ ps) n) (length (p ∷ ps))
    by (inl is) rest = rw is (grind (arith, nat_tests))
    by (inr is) rest = rw is (grind (arith, nat_tests))

module _ (ps : List Pair) (members rows : List IssueNo) (order : IsOrder ps) (differ : AllPairs (λ m n. m.0 ≢ n.0) members) (are : AreRows ps members rows) where
  abbrev key : ℕ → ℕ
  key issue = places_before ps issue

  abbrev stands : IssueNo → Bool
  stands issue = nat_lt (places_before ps issue.0) (length ps)

  abbrev same_number : IssueNo → IssueNo → Bool
  same_number a b = a.0 == b.0

  rows_apart : (i j : ℕ) (d : IssueNo) → i < j → j < length rows → same_number (get_or rows i d) (get_or rows j d) ≡ false
  rows_apart i j d less lt =
      apart_from_distinct same_number rows i j d
      (IsDistinct-IsPermutation same_number (λ a b. grind (arith, nat_tests)) (members_in ps members) rows are.same
      (IsDistinct-from_apart same_number (members_in ps members) (λ i j d less lt.
      let apart = AllPairs-filter (λ (m n : IssueNo). m.0 ≢ n.0) stands members differ i j d less lt in grind (arith, nat_tests))))
      less lt

  rows_stand : All (λ i. stands i ≡ true) rows
  rows_stand = All-permutation (λ i. stands i ≡ true) (members_in ps members) rows are.same (filter_passes stands members)

  there : (i : IssueNo) → stands i ≡ true → number_at ps (key i.0) ≡ i.0
  there i is = let inside : places_before ps i.0 < length ps = grind (arith, nat_tests) in number_at-places_before ps i.0 inside

  key_rises : (a b : IssueNo) → stands a ≡ true → stands b ≡ true → key a.0 ≤ key b.0 → same_number a b ≡ false → key a.0 < key b.0
  key_rises a b sa sb le apart = by (cases_eq (key a.0) (key b.0))
    where
      by : (key a.0 ≡ key b.0) ⊎ (key a.0 ≡ key b.0 → ⊥) → key a.0 < key b.0
      by (inr other) = omega arith
      by (inl same) = let e : a.0 ≡ b.0 = sym (there a sa) ∙ ap (number_at ps) same ∙ there b sb in absurd (grind (arith, nat_tests))

  rows_rise : Rise key rows
  rows_rise i j d less lt =
      key_rises (get_or rows i d) (get_or rows j d) (rows_stand i d (omega arith)) (rows_stand j d lt)
      (IsNonDecreasingBy-from_sort (λ issue. places_before ps issue.0) rows are.in_order i j d (omega arith) lt) (rows_apart i j d less lt)

  issues_rise : Rise key (issues_in ps)
  issues_rise i j d less lt =
      let n : length (issues_in ps) ≡ length ps = length-map ps (λ p. p.1) in
      let a = at i d (omega arith) in
      let b = at j d (omega arith) in
      omega arith
    where
      at : (k : ℕ) (d : IssueNo) → k < length ps → key (get_or (issues_in ps) k d).0 ≡ k
      at k d lt = ap (λ (i : IssueNo). key i.0) (get_or-map (λ (p : Pair). p.1) ps k nothing d lt) ∙ places_before-number_at ps k order.once lt

  pub rows_are_the_members : rows ≡ board_rows ps members
  rows_are_the_members =
      same_from_rising key rows (board_rows ps members) rows_rise
      (AllPairs-filter (λ (a b : IssueNo). key a.0 < key b.0) (λ issue. has_issue members issue.0) (issues_in ps) issues_rise) same
    where
      commutes : (a b : Bool) → (a && b) ≡ (b && a)
      commutes true true = refl
      commutes true false = refl
      commutes false true = refl
      commutes false false = refl

      same : (n : ℕ) → has_issue rows n ≡ has_issue (board_rows ps members) n
      same n =
          sym (list_any-IsPermutation (λ (m : IssueNo). m.0 == n) (members_in ps members) rows are.same)
          ∙ among_filter (λ k. nat_lt (places_before ps k) (length ps)) members n
          ∙ commutes (has_issue members n) (nat_lt (places_before ps n) (length ps))
          ∙ ap (λ b. b && has_issue members n) (sym (among_issues ps n))
          ∙ sym (among_filter (has_issue members) (issues_in ps) n)

pub rows_are_members : RowsAreTheMembers
rows_are_members = rows_are_the_members
