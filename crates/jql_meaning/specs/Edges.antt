-- The edges of a query: the seconds that its dates mean, which go on with the moments.
use Rattle.std.specs.Prelude.{ℕ, Bool, true, false, List, [], ◌∷◌, ℤ, pos, ◌+ℤ◌}
use Rattle.std.specs.List.{flat_map}
use Rattle.relative_dates.specs.declared.term.Term.{Term}
use Rattle.relative_dates.specs.Term.{moves}
use Rattle.relative_dates.specs.Calendar.{local_day, midnight}
use Rattle.jql_bound.specs.declared.operand.Operand.{Operand}
use Rattle.jql_bound.specs.declared.leaf.Operator.{Operator}
use Rattle.jql_bound.specs.declared.leaf.Leaf.{Leaf}
use Rattle.jql_bound.specs.declared.past.PastPredicate.{PastPredicate}
use Rattle.jql_bound.specs.declared.past.PastLeaf.{PastLeaf}
use Rattle.jql_meaning.specs.Surroundings.{Surroundings}
use Rattle.jql_meaning.specs.Comparison.{second_now}

-- an edge: the second of a date, the first second of a date's local day or of the day after it, or the present moment
pub data Edge : Type 0 where
  date : Term → Edge
  day : Term → Edge
  day_after : Term → Edge
  present_moment : Edge

-- where an edge stands at a moment
abbrev pub edge_at : Surroundings → Edge → ℕ → ℤ
edge_at s (date d) t = second_now s t d
edge_at s (day d) t = midnight s.calendar.zone (local_day s.calendar.zone (second_now s t d))
edge_at s (day_after d) t =
    midnight s.calendar.zone (local_day s.calendar.zone (second_now s t d) +ℤ pos 1)
edge_at s present_moment t = pos t

-- the edge goes on by one each second
abbrev pub goes_on : Edge → Bool
goes_on (date d) = moves d
goes_on (day d) = false
goes_on (day_after d) = false
goes_on present_moment = true

-- the edges of a present comparison: the dates that it compares with
abbrev pub operand_edges : Operand → List Edge
operand_edges (Operand.Date d) = date d ∷ []
operand_edges operand = []

abbrev pub operands_of : Operator → List Operand
operands_of (Operator.In operands) = operands
operands_of (Operator.NotIn operands) = operands
operands_of (Operator.Compares inequality operand) = operand ∷ []
operands_of operator = []

abbrev pub edges_now : Leaf → List Edge
edges_now leaf = flat_map operand_edges (operands_of leaf.operator)

-- the edges of a comparison with the past: the dates of its windows, of ON both ends of the local day, and the present moment
abbrev pub window_edges : PastPredicate → List Edge
window_edges (PastPredicate.After d) = date d ∷ []
window_edges (PastPredicate.Before d) = date d ∷ []
window_edges (PastPredicate.On d) = day d ∷ day_after d ∷ []
window_edges (PastPredicate.During from to) = date from ∷ date to ∷ []
window_edges (PastPredicate.By users) = []

abbrev pub edges_past : PastLeaf → List Edge
edges_past leaf = present_moment ∷ flat_map window_edges leaf.predicates
