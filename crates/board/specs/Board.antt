-- The issues of a board, in rank order.
use Rattle.std.specs.Prelude.{ℕ, ◌==◌, Bool, List, length, filter, nat_lt}
use Rattle.std.specs.List.{list_any}
use Rattle.std.specs.Ordering.{nat_cmp}
use Rattle.std.specs.List.Sorted.{IsPermutation, IsSortedByKey}
use Rattle.field_values.specs.declared.numbers.IssueNo.{IssueNo}
use Rattle.board.specs.Order.{Pair, places_before}
use Rattle.board.specs.Issues.{issues_in}

-- the members that stand in the order
abbrev pub members_in : List Pair → List IssueNo → List IssueNo
members_in ps members = filter (λ issue. nat_lt (places_before ps issue.0) (length ps)) members

-- these are the members that stand in the order, sorted by their places there
pub record AreRows (ps : List Pair) (members rows : List IssueNo) : Type 0 where
  pub same : IsPermutation (members_in ps members) rows
  pub in_order : IsSortedByKey (λ issue. places_before ps issue.0) nat_cmp rows

-- an issue of this number is among them
abbrev pub has_issue : List IssueNo → ℕ → Bool
has_issue members issue = list_any (λ m. m.0 == issue) members

-- the issues of the order that are members, as they stand there
abbrev pub board_rows : List Pair → List IssueNo → List IssueNo
board_rows ps members = filter (λ issue. has_issue members issue.0) (issues_in ps)
