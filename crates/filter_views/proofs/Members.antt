-- The members are the numbers whose cell holds.
use Rattle.std.proofs.Common.{◌≡◌, ℕ, zero, suc, ◌+◌, ◌<◌, ◌==◌, Bool, true, false, ◌||◌, List, [], ◌∷◌, get_or, All, AllPairs, if◌then◌else◌, refl, ◌∙◌, ap, arith}
use Rattle.std.specs.List.{list_any}
use Rattle.std.proofs.lemmas.Bool.Decides.{nat_tests}
use Rattle.std.proofs.lemmas.List.Elements.{All-cons}
use Rattle.std.proofs.lemmas.List.Kept.{AllPairs-cons}
use Rattle.field_values.specs.declared.numbers.IssueNo.{IssueNo}
use Rattle.filter_views.specs.Cell.{Cell, unset, Views, cells_in, cell_of, members_from, issues_held}
use Rattle.filter_views.specs.Grid.{AreMembers}

abbrev numbered : ℕ → IssueNo
numbered n = record { 0 = n }

abbrev has : ℕ → List IssueNo → Bool
has m issues = list_any (λ (i : IssueNo). i.0 == m) issues

abbrev IsLess : IssueNo → IssueNo → Type 0
IsLess i j = i.0 < j.0

-- members have no smaller number than the first cell
above : (low : IssueNo) (n : ℕ) (cs : List Cell) → low.0 < n → All (IsLess low) (members_from n cs)
above low n [] less = λ k d lt. absurd (omega (arith, lt))
above low n (c ∷ cs) less = by c.holds (above low (n + 1) cs (omega (arith, less)))
  where
    by : (b : Bool) → All (IsLess low) (members_from (n + 1) cs) → All (IsLess low) (if b then numbered n ∷ members_from (n + 1) cs else members_from (n + 1) cs)
    by true rest = All-cons (IsLess low) (numbered n) (members_from (n + 1) cs) less rest
    by false rest = rest

rising : (n : ℕ) (cs : List Cell) → AllPairs IsLess (members_from n cs)
rising n [] = λ i j d less lt. absurd (omega (arith, lt))
rising n (c ∷ cs) = by c.holds (rising (n + 1) cs)
  where
    by : (b : Bool) → AllPairs IsLess (members_from (n + 1) cs) → AllPairs IsLess (if b then numbered n ∷ members_from (n + 1) cs else members_from (n + 1) cs)
    by true rest = AllPairs-cons IsLess (numbered n) (members_from (n + 1) cs) (above (numbered n) (n + 1) cs (omega arith)) rest
    by false rest = rest

none_below : (m n : ℕ) (cs : List Cell) → m < n → has m (members_from n cs) ≡ false
none_below m n [] less = refl
none_below m n (c ∷ cs) less = by c.holds (none_below m (n + 1) cs (omega (arith, less)))
  where
    by : (b : Bool) → has m (members_from (n + 1) cs) ≡ false → has m (if b then numbered n ∷ members_from (n + 1) cs else members_from (n + 1) cs) ≡ false
    by true rest =
        let other : (n == m) ≡ false = grind (arith, nat_tests, less) in
        ap (λ t. t || has m (members_from (n + 1) cs)) other ∙ rest
    by false rest = rest

-- a number is among them where its cell holds
among : (m n j : ℕ) (cs : List Cell) → m ≡ n + j → has m (members_from n cs) ≡ (get_or cs j unset).holds
among m n j [] e = refl
among m n zero (c ∷ cs) e = by c.holds (none_below m (n + 1) cs (omega (arith, e)))
  where
    by : (b : Bool) → has m (members_from (n + 1) cs) ≡ false → has m (if b then numbered n ∷ members_from (n + 1) cs else members_from (n + 1) cs) ≡ b
    by true rest =
        let own : (n == m) ≡ true = grind (arith, nat_tests, e) in
        ap (λ t. t || has m (members_from (n + 1) cs)) own
    by false rest = rest
among m n (suc j) (c ∷ cs) e = by c.holds (among m (n + 1) j cs (omega (arith, e)))
  where
    by : (b : Bool) → has m (members_from (n + 1) cs) ≡ (get_or cs j unset).holds → has m (if b then numbered n ∷ members_from (n + 1) cs else members_from (n + 1) cs) ≡ (get_or cs j unset).holds
    by true rest =
        let other : (n == m) ≡ false = grind (arith, nat_tests, e) in
        ap (λ t. t || has m (members_from (n + 1) cs)) other ∙ rest
    by false rest = rest

pub members_hold : (v : Views) (f : ℕ) → AreMembers v f (issues_held v f)
members_hold v f = record { rising = rising 1 (cells_in v.table f); each = each }
  where
    each : (n : ℕ) → has n (issues_held v f) ≡ (cell_of v f n).holds
    each zero = none_below 0 1 (cells_in v.table f) (omega arith)
    each (suc n) = among (suc n) 1 n (cells_in v.table f) (omega arith)
