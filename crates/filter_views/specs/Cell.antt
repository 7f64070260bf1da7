-- Filter views, as contracts see them: a cell for each filter and each issue.
use Rattle.std.specs.Prelude.{ℕ, ◌+◌, ◌==◌, Bool, false, List, [], ◌∷◌, Option, None, map, nat_eq, slice_index_or, if◌then◌else◌}
use Rattle.std.specs.List.{list_any}
use Rattle.field_values.specs.declared.numbers.IssueNo.{IssueNo}

-- whether the filter holds of the issue, and when that ends
pub record Cell : Type 0 where
  pub holds : Bool
  pub end : Option ℕ

-- a new cell is false and has no end
abbrev pub unset : Cell
unset = record { holds = false; end = None }

-- a filter and its cells, by issue
pub record FilterCells : Type 0 where
  pub filter : ℕ
  pub cells : List Cell

-- the cells of all filters, the number of issues, and for how many filters and issues there is room
pub record Views : Type 0 where
  pub table : List FilterCells
  pub issues : ℕ
  pub filter_room : ℕ
  pub issue_room : ℕ

abbrev pub cells_in : List FilterCells → ℕ → List Cell
cells_in [] f = []
cells_in (l ∷ ls) f = if l.filter == f then l.cells else cells_in ls f

-- the cell of a filter and an issue; where there is none, it reads as a new one. Issues are numbered from 1
abbrev pub cell_of : Views → ℕ → ℕ → Cell
cell_of v f issue = slice_index_or (unset ∷ cells_in v.table f) issue unset

-- the filters that are there
abbrev pub filters : Views → List ℕ
filters v = map (λ l. l.filter) v.table

abbrev pub is_there : Views → ℕ → Bool
is_there v f = list_any (nat_eq f) (filters v)

-- the issues of which a list of cells holds, the first cell being that of this number
abbrev pub members_from : ℕ → List Cell → List IssueNo
members_from n [] = []
members_from n (c ∷ cs) =
    if c.holds then record { 0 = n } ∷ members_from (n + 1) cs else members_from (n + 1) cs

-- the issues of which the filter holds, by number
abbrev pub issues_held : Views → ℕ → List IssueNo
issues_held v f = members_from 1 (cells_in v.table f)
