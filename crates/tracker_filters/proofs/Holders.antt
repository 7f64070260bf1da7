-- The issues of which a filter holds, read from its cells.
use Rattle.std.proofs.Common.{◌⊎◌, ◌≡◌, ◌≢◌, ℕ, suc, ◌+◌, ◌<◌, true, Some, Option, List, [], ◌∷◌, length, get_or, map, slice_get, nat_eq, if◌then◌else◌, refl, sym, ◌∙◌, ap, subst, inl, inr, arith}
use Rattle.std.specs.List.{list_any}
use Rattle.std.proofs.lemmas.Bool.{cases_eq, false≢true}
use Rattle.std.proofs.lemmas.Bool.Decides.{nat_tests}
use Rattle.field_values.specs.declared.numbers.IssueNo.{IssueNo}
use Rattle.change_history.specs.History.{History}
use Rattle.jql_bound.specs.Condition.{Condition}
use Rattle.jql_meaning.specs.Surroundings.{Surroundings}
use Rattle.jql_meaning.specs.Truth.{query_holds}
use Rattle.filter_views.specs.Cell.{Cell, FilterCells, Views, unset, cells_in, cell_of, members_from, issues_held, filters as numbers_in}
use Rattle.filter_views.specs.Grid.{IsGrid}
use Rattle.tracker_filters.specs.declared.filter.Filter.{Filter}
use Rattle.rising_numbers.specs.ByNumber.{by_number}
use Rattle.tracker_filters.specs.Saved.{number, condition_of}
use Rattle.tracker_filters.specs.Watched.{AreRight, AreCellsOf, holders_from}
use Rattle.rising_numbers.proofs.Listed.{is_listed}

-- cells that tell the truth of each issue list just those of which the query holds
listed : (n : ℕ) (around : Surroundings) (moment : ℕ) (query : Option Condition) (cells : List Cell) (hs : List History) → length cells ≡ length hs
    → ((k : ℕ) (h : History) → slice_get hs k ≡ Some h → (get_or cells k unset).holds ≡ query_holds around h moment query)
    → members_from n cells ≡ holders_from n around moment query hs
listed n around moment query [] [] many truth = refl
listed n around moment query [] (h ∷ hs) many truth = absurd (omega (arith, many))
listed n around moment query (c ∷ cs) [] many truth = absurd (omega (arith, many))
listed n around moment query (c ∷ cs) (h ∷ hs) many truth =
    let first : IssueNo = record { 0 = n } in
    let rest = listed (n + 1) around moment query cs hs (omega (arith, many)) (λ k g at. truth (suc k) g at) in
    ap (λ b. if b then first ∷ members_from (n + 1) cs else members_from (n + 1) cs) (truth 0 h refl)
    ∙ ap (λ issues. if query_holds around h moment query then first ∷ issues else issues) rest

-- a filter that is there has as many cells as there are issues
cells_many : (ls : List FilterCells) (n issues : ℕ) → list_any (nat_eq n) (map (λ l. l.filter) ls) ≡ true → ((k : ℕ) (d : FilterCells) → k < length ls → length (get_or ls k d).cells ≡ issues) → length (cells_in ls n) ≡ issues
cells_many [] n issues there all = absurd (false≢true there)
cells_many (l ∷ ls) n issues there all = by (cases_eq l.filter n) (λ h. cells_many ls n issues h (λ k d lt. all (suc k) d (omega (arith, lt))))
  where
    by : (l.filter ≡ n) ⊎ (l.filter ≢ n) → (list_any (nat_eq n) (map (λ l. l.filter) ls) ≡ true → length (cells_in ls n) ≡ issues) → length (cells_in (l ∷ ls) n) ≡ issues
    by (inl e) rest = let own = all 0 l (omega arith) in grind (arith, nat_tests, e, own)
    by (inr ne) rest =
        let there : list_any (nat_eq n) (map (λ l. l.filter) ls) ≡ true = grind (arith, nat_tests, ne, there) in
        grind (arith, nat_tests, ne, rest there)

pub members_are : (around : Surroundings) (moment : ℕ) (hs : List History) (fs : List Filter) (v : Views) (n : ℕ) (f : Filter) → AreRight around moment hs fs v → AreCellsOf fs hs v → IsGrid v → by_number number n fs ≡ Some f
    → issues_held v n ≡ holders_from 1 around moment (condition_of f) hs
members_are around moment hs fs v n f right cells grid found =
    let there : list_any (nat_eq n) (numbers_in v) ≡ true = subst (λ ns. list_any (nat_eq n) ns ≡ true) (sym cells.rows) (is_listed number n f fs found) in
    let many = cells_many v.table n v.issues there grid.cells ∙ cells.issues in
    listed 1 around moment (condition_of f) (cells_in v.table n) hs many (λ k h at. let is : cell_of v n (k + 1) ≡ get_or (cells_in v.table n) k unset = read k in ap (λ (c : Cell). c.holds) (sym is) ∙ (right.each n k f h found at).truth)
  where
    read : (k : ℕ) → cell_of v n (k + 1) ≡ get_or (cells_in v.table n) k unset
    read k = ap (cell_of v n) {x = k + 1} {y = suc k} (omega arith)
