-- The moments at which the truth of a query can change although nothing happens: an edge of the query meets a mark of the issue.
use Rattle.std.specs.Prelude.{◌≡◌, ◌≢◌, ◌⊎◌, ℕ, Option, Some, None, ◌-◌, false, List, ℤ, ◌+ℤ◌}
use Rattle.std.specs.List.{Contains}
use Rattle.std.specs.Ordering.{int_cmp}
use Rattle.jiff_core.specs.Calendar.{IsWithin}
use Rattle.change_history.specs.History.{History}
use Rattle.jql_bound.specs.declared.leaf.Leaf.{Leaf}
use Rattle.jql_bound.specs.declared.past.PastLeaf.{PastLeaf}
use Rattle.jql_bound.specs.Condition.{Condition, now, past, all_of, any_of, Conditions, no_conditions, condition}
use Rattle.jql_meaning.specs.Surroundings.{Surroundings}
use Rattle.jql_meaning.specs.Edges.{Edge, edge_at, goes_on, edges_now, edges_past}
use Rattle.jql_meaning.specs.Marks.{IsMark}

-- at this moment an edge comes to a mark, or to the second before or after it, or leaves it
pub record MeetsMark (s : Surroundings) (h : History) (edges : List Edge) (t : ℕ) : Type 0 where
  pub edge : Edge
  pub mark : ℤ
  pub apart : ℤ
  pub is_edge : Contains edges edge
  pub is_mark : IsMark s h mark
  pub near : IsWithin 1 apart
  pub differs : int_cmp (edge_at s edge (t - 1)) (mark +ℤ apart)
      ≢ int_cmp (edge_at s edge t) (mark +ℤ apart)

-- two edges come to each other, or to two seconds from each other at most, or part
pub record MeetsEdge (s : Surroundings) (edges : List Edge) (t : ℕ) : Type 0 where
  pub edge : Edge
  pub other : Edge
  pub apart : ℤ
  pub is_edge : Contains edges edge
  pub is_other : Contains edges other
  pub near : IsWithin 2 apart
  pub differs : int_cmp (edge_at s edge (t - 1)) (edge_at s other (t - 1) +ℤ apart)
      ≢ int_cmp (edge_at s edge t) (edge_at s other t +ℤ apart)

-- an edge that doesn't go on by one each second comes to another second
pub record Leaps (s : Surroundings) (edges : List Edge) (t : ℕ) : Type 0 where
  pub edge : Edge
  pub is_edge : Contains edges edge
  pub stands : goes_on edge ≡ false
  pub differs : edge_at s edge (t - 1) ≢ edge_at s edge t

-- a moment is critical for a present comparison, or for one with the past
unfoldable pub IsCriticalNow : Surroundings → History → Leaf → ℕ → Type 0
IsCriticalNow s h leaf t = MeetsMark s h (edges_now leaf) t

unfoldable pub IsCriticalPast : Surroundings → History → PastLeaf → ℕ → Type 0
IsCriticalPast s h leaf t =
    MeetsMark s h (edges_past leaf) t
    ⊎ (MeetsEdge s (edges_past leaf) t ⊎ Leaps s (edges_past leaf) t)

-- a moment is critical for a condition where it is for one of its comparisons
unfoldable mutual
  pub IsCritical : Surroundings → History → ℕ → Condition → Type 0
  IsCritical s h t (now leaf) = IsCriticalNow s h leaf t
  IsCritical s h t (past leaf) = IsCriticalPast s h leaf t
  IsCritical s h t (all_of conditions) = IsCriticalForOne s h t conditions
  IsCritical s h t (any_of conditions) = IsCriticalForOne s h t conditions

  pub IsCriticalForOne : Surroundings → History → ℕ → Conditions → Type 0
  IsCriticalForOne s h t no_conditions = ⊥
  IsCriticalForOne s h t (condition c cs) = IsCritical s h t c ⊎ IsCriticalForOne s h t cs

-- a query without a condition has no critical moment
unfoldable pub IsCriticalForQuery : Surroundings → History → ℕ → Option Condition → Type 0
IsCriticalForQuery s h t None = ⊥
IsCriticalForQuery s h t (Some c) = IsCritical s h t c
