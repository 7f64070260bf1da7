-- The shape of filter views, and what it tells of a filter's issues.
use Rattle.std.specs.Prelude.{ℕ, ◌≡◌, ◌<◌, ◌==◌, List, length, All, AllPairs}
use Rattle.std.specs.List.{list_any}
use Rattle.field_values.specs.declared.numbers.IssueNo.{IssueNo}
use Rattle.filter_views.specs.Cell.{Views, cell_of, filters}

-- the filters' numbers rise, and each filter has a cell for each issue, from 1 on
pub record IsGrid (v : Views) : Type 0 where
  pub rising : AllPairs (λ f g. f < g) (filters v)
  pub cells : All (λ l. length l.cells ≡ v.issues) v.table

-- these are the issues whose cell holds, and their numbers rise
pub record AreMembers (v : Views) (f : ℕ) (issues : List IssueNo) : Type 0 where
  pub rising : AllPairs (λ i j. i.0 < j.0) issues
  pub each : (n : ℕ) → list_any (λ i. i.0 == n) issues ≡ (cell_of v f n).holds
