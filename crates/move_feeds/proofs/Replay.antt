-- Whoever does to a set what one set after another puts out has the last one.
use Rattle.std.proofs.Common.{◌≡◌, ℕ, zero, suc, ◌+◌, ◌<◌, ◌≤◌, ◌==◌, Bool, true, false, not, ◌&&◌, ◌||◌, List, [], ◌∷◌, ◌++◌, get_or, map, if◌then◌else◌, refl, sym, ◌∙◌, ap, arith}
use Rattle.std.specs.List.{list_any}
use Rattle.std.proofs.lemmas.Bool.Decides.{nat_tests}
use Rattle.field_values.specs.declared.numbers.IssueNo.{IssueNo}
use Rattle.move_feeds.specs.declared.moves.Change.{Change}
use Rattle.move_feeds.specs.Changes.{change, changes, entry, exit, lacking, lacking_from}
use Rattle.move_feeds.specs.Laws.{AreMoves, Issues, all_changes, is_in, last_of, replayed, with_change}

-- the sets have the same issues
abbrev Agree : Issues → Issues → Type 0
Agree one other = (n : ℕ) → one n ≡ other n

-- ---- one change behind another

replayed_append : (cs ds : List Change) (set : Issues) → replayed (cs ++ ds) set ≡ replayed ds (replayed cs set)
replayed_append [] ds set = refl
replayed_append (c ∷ cs) ds set = replayed_append cs ds (with_change c set)

moves_append : (cs ds : List Change) (set : Issues) → AreMoves cs set → AreMoves ds (replayed cs set) → AreMoves (cs ++ ds) set
moves_append [] ds set first second = second
moves_append (c ∷ cs) ds set (is, first) second = (is, moves_append cs ds (with_change c set) first second)

-- ---- what the one set has and the other hasn't

abbrev has : ℕ → List IssueNo → Bool
has m issues = list_any (λ (i : IssueNo). i.0 == m) issues

-- at a place the one has the issue and the other hasn't
abbrev lacks_at : List Bool → List Bool → ℕ → Bool
lacks_at these those k = get_or these k false && not (get_or those k false)

none_below : (m n : ℕ) (these those : List Bool) → m < n → has m (lacking_from n these those) ≡ false
none_below m n [] those less = refl
none_below m n (this ∷ these) [] less = by this (none_below m (n + 1) these [] (omega (arith, less)))
  where
    by : (b : Bool) → has m (lacking_from (n + 1) these []) ≡ false → has m (if b then record { 0 = n } ∷ lacking_from (n + 1) these [] else lacking_from (n + 1) these []) ≡ false
    by true rest =
        let other : (n == m) ≡ false = grind (arith, nat_tests, less) in
        ap (λ t. t || has m (lacking_from (n + 1) these [])) other ∙ rest
    by false rest = rest
none_below m n (this ∷ these) (that ∷ those) less = by (this && not that) (none_below m (n + 1) these those (omega (arith, less)))
  where
    by : (b : Bool) → has m (lacking_from (n + 1) these those) ≡ false → has m (if b then record { 0 = n } ∷ lacking_from (n + 1) these those else lacking_from (n + 1) these those) ≡ false
    by true rest =
        let other : (n == m) ≡ false = grind (arith, nat_tests, less) in
        ap (λ t. t || has m (lacking_from (n + 1) these those)) other ∙ rest
    by false rest = rest

-- a first issue that is there or not, and then others
headed : (m n : ℕ) (b : Bool) (rest : List IssueNo) → m ≡ n → has m rest ≡ false → has m (if b then record { 0 = n } ∷ rest else rest) ≡ b
headed m n true rest e none =
    let own : (n == m) ≡ true = grind (arith, nat_tests, e) in
    ap (λ t. t || has m rest) own
headed m n false rest e none = none

passed : (m n : ℕ) (b c : Bool) (rest : List IssueNo) → n < m → has m rest ≡ c → has m (if b then record { 0 = n } ∷ rest else rest) ≡ c
passed m n true c rest less is =
    let other : (n == m) ≡ false = grind (arith, nat_tests, less) in
    ap (λ t. t || has m rest) other ∙ is
passed m n false c rest less is = is

and_true : (b : Bool) → b ≡ b && true
and_true true = refl
and_true false = refl

among : (m n k : ℕ) (these those : List Bool) → m ≡ n + k → has m (lacking_from n these those) ≡ lacks_at these those k
among m n k [] those e = refl
among m n zero (this ∷ these) [] e = headed m n this (lacking_from (n + 1) these []) (omega (arith, e)) (none_below m (n + 1) these [] (omega (arith, e))) ∙ and_true this
among m n (suc k) (this ∷ these) [] e =
    passed m n this _ (lacking_from (n + 1) these []) (omega (arith, e)) (among m (n + 1) k these [] (omega (arith, e)))
among m n zero (this ∷ these) (that ∷ those) e = headed m n (this && not that) (lacking_from (n + 1) these those) (omega (arith, e)) (none_below m (n + 1) these those (omega (arith, e)))
among m n (suc k) (this ∷ these) (that ∷ those) e =
    passed m n (this && not that) _ (lacking_from (n + 1) these those) (omega (arith, e)) (among m (n + 1) k these those (omega (arith, e)))

-- by number from 1
abbrev lacks : List Bool → List Bool → ℕ → Bool
lacks these those n = is_in these n && not (is_in those n)

lacking_has : (these those : List Bool) (n : ℕ) → has n (lacking these those) ≡ lacks these those n
lacking_has these those zero = none_below 0 1 these those (omega arith)
lacking_has these those (suc n) = among (suc n) 1 n these those (omega arith)

-- ---- several issues come in, or go out

pub replayed_all : (b : Bool) (issues : List IssueNo) (set : Issues) (n : ℕ) → replayed (map (change b) issues) set n ≡ (if has n issues then b else set n)
replayed_all b [] set n = refl
replayed_all b (i ∷ is) set n = replayed_all b is (with_change (change b i) set) n ∙ by (i.0 == n) (has n is)
  where
    by : (own among : Bool) → (if among then b else (if own then b else set n)) ≡ (if own || among then b else set n)
    by true true = refl
    by true false = refl
    by false true = refl
    by false false = refl

-- one that isn't where it is going, and then others
module _ (b : Bool) (n : ℕ) (set : Issues) (rest : List IssueNo)
    (others : (s : Issues) → ((k : ℕ) → s (n + 1 + k) ≡ set (n + 1 + k)) → AreMoves (map (change b) rest) s) where
  moved_here : (t : Bool) → (t ≡ true → set n ≡ not b) → AreMoves (map (change b) (if t then record { 0 = n } ∷ rest else rest)) set
  moved_here true free = (
    free refl,
    others (with_change (change b (record { 0 = n })) set) (λ k.
        let other : (n == n + 1 + k) ≡ false = grind (arith, nat_tests) in
        ap (λ t. if t then b else set (n + 1 + k)) other),
  )
  moved_here false free = others set (λ k. refl)

-- each of them isn't where it is going
moved_all : (b : Bool) (n : ℕ) (these those : List Bool) (set : Issues) → ((k : ℕ) → lacks_at these those k ≡ true → set (n + k) ≡ not b)
    → AreMoves (map (change b) (lacking_from n these those)) set
moved_all b n [] those set free = tt
moved_all b n (this ∷ these) [] set free =
    moved_here b n set (lacking_from (n + 1) these []) (λ s same. moved_all b (n + 1) these [] s (λ k lacks. same k ∙ (ap set (omega arith) ∙ free (suc k) lacks)))
    this (λ is. ap set (omega arith) ∙ free 0 (sym (and_true this) ∙ is))
moved_all b n (this ∷ these) (that ∷ those) set free =
    moved_here b n set (lacking_from (n + 1) these those) (λ s same. moved_all b (n + 1) these those s (λ k lacks. same k ∙ (ap set (omega arith) ∙ free (suc k) lacks)))
    (this && not that) (λ is. ap set (omega arith) ∙ free 0 is)

-- ---- one set comes to be another

module _ (before now : List Bool) (set : Issues) (agree : Agree set (is_in before)) where
  abbrev out : List Change
  out = map exit (lacking before now)

  abbrev come : List Change
  come = map entry (lacking now before)

  between : (n : ℕ) → replayed out set n ≡ (is_in before n && is_in now n)
  between n = replayed_all false (lacking before now) set n ∙ (ap (λ b. if has n (lacking before now) then false else b) (agree n) ∙ (ap (λ h. if h then false else is_in before n) (lacking_has before now n) ∙ by (is_in before n) (is_in now n)))
    where
      by : (was is : Bool) → (if (was && not is) then false else was) ≡ (was && is)
      by true true = refl
      by true false = refl
      by false true = refl
      by false false = refl

  pub gives : Agree (replayed (changes before now) set) (is_in now)
  gives n =
      ap (λ (s : Issues). s n) (replayed_append out come set) ∙ (replayed_all true (lacking now before) (replayed out set) n
      ∙ (ap (λ b. if has n (lacking now before) then true else b) (between n) ∙ (ap (λ h. if h then true else (is_in before n && is_in now n)) (lacking_has now before n) ∙ by (is_in before n) (is_in now n))))
    where
      by : (was is : Bool) → (if (is && not was) then true else (was && is)) ≡ is
      by true true = refl
      by true false = refl
      by false true = refl
      by false false = refl

  pub are_moves : AreMoves (changes before now) set
  are_moves = moves_append out come set exits entries
    where
      left : (k : ℕ) (was is : Bool) → was && not is ≡ true → was ≡ true
      left k true is e = refl
      left k false is e = e

      exits : AreMoves out set
      exits = moved_all false 1 before now set (λ k lacks. ap set (omega arith) ∙ (agree (suc k) ∙ left k (get_or before k false) (get_or now k false) lacks))

      right : (was is : Bool) → is && not was ≡ true → was && is ≡ false
      right true true e = sym e
      right true false e = refl
      right false is e = refl

      entries : AreMoves come (replayed out set)
      entries = moved_all true 1 now before (replayed out set) (λ k lacks. ap (replayed out set) (omega arith) ∙ (between (suc k) ∙ right (get_or before k false) (get_or now k false) lacks))

-- ---- one set after another

pub replaying_gives_the_set : (before : List Bool) (sets : List (List Bool)) (set : Issues) → Agree set (is_in before) → Agree (replayed (all_changes before sets) set) (is_in (last_of before sets))
replaying_gives_the_set before [] set agree n = agree n
replaying_gives_the_set before (now ∷ more) set agree n =
    ap (λ (s : Issues). s n) (replayed_append (changes before now) (all_changes now more) set)
    ∙ replaying_gives_the_set now more (replayed (changes before now) set) (gives before now set agree) n

pub each_move_is_one : (before : List Bool) (sets : List (List Bool)) (set : Issues) → Agree set (is_in before) → AreMoves (all_changes before sets) set
each_move_is_one before [] set agree = tt
each_move_is_one before (now ∷ more) set agree =
    moves_append (changes before now) (all_changes now more) set (are_moves before now set agree)
    (each_move_is_one now more (replayed (changes before now) set) (gives before now set agree))
