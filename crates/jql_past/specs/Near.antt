-- When the edges of a comparison with the past come near a mark or near each other.
use Rattle.std.specs.Prelude.{◌≡◌, ◌≢◌, ◌⊎◌, ℕ, false, List, Option, Some, None, ℤ, pos, ◌+ℤ◌, ◌-ℤ◌, ◌*ℤ◌, ◌≤ℤ◌}
use Rattle.change_history.specs.declared.entry.Entry.{Entry}
use Rattle.change_history.specs.History.{History, present}
use Rattle.change_history.specs.Span.{entries_of}
use Rattle.relative_dates.specs.declared.term.Term.{Term}
use Rattle.jql_bound.specs.declared.past.PastPredicate.{PastPredicate}
use Rattle.jql_bound.specs.declared.past.PastLeaf.{PastLeaf}
use Rattle.jql_meaning.specs.Surroundings.{Surroundings}
use Rattle.jql_meaning.specs.Edges.{Edge, date, day, day_after, present_moment, edge_at, goes_on, window_edges}
use Rattle.jql_meaning.specs.Marks.{value_mark}
use Rattle.jql_past.specs.Next.{ToOne}

-- how far a date is ahead of the present moment, where it goes on with it
abbrev pub date_ahead : Term → Option ℤ
date_ahead Term.Now = Some (pos 0)
date_ahead (Term.Literal local) = None
date_ahead (Term.FromNow minutes) = Some (pos 60 *ℤ minutes)
date_ahead (Term.PeriodEdge boundary) = None

abbrev pub ahead : Edge → Option ℤ
ahead (date d) = date_ahead d
ahead (day d) = None
ahead (day_after d) = None
ahead present_moment = Some (pos 0)

-- what is so far ahead of the moment is near a second: at most the reach before it, or one second more behind it
abbrev pub IsNear : ℤ → ℤ → Option ℤ → ℕ → Type 0
IsNear second reach None t = ⊥
IsNear second reach (Some ahead) t =
    (((second -ℤ reach) -ℤ ahead) ≤ℤ pos t) × (pos t ≤ℤ (((second +ℤ reach) +ℤ pos 1) -ℤ ahead))

-- the present moment is, or a date of the windows that goes on with it
abbrev pub OneIsNear : List PastPredicate → ℤ → ℤ → ℕ → Type 0
OneIsNear predicates second reach t =
    IsNear second reach (Some (pos 0)) t
    ⊎ ToOne (λ predicate. ToOne (λ edge. IsNear second reach (ahead edge)) (window_edges predicate))
    predicates t

-- an edge that stands no longer stands where it did, or one that goes on is near it
abbrev pub IsDisturbed : Surroundings → List PastPredicate → ℕ → Edge → ℕ → Type 0
IsDisturbed s predicates at edge t =
    (goes_on edge ≡ false)
    × ((edge_at s edge t ≢ edge_at s edge at) ⊎ OneIsNear predicates (edge_at s edge at) (pos 2) t)

abbrev pub OneIsDisturbed : Surroundings → List PastPredicate → ℕ → ℕ → Type 0
OneIsDisturbed s predicates at t =
    ToOne (λ predicate. ToOne (IsDisturbed s predicates at) (window_edges predicate)) predicates t

-- an edge is near the moment of a change
abbrev pub IsNearChange : List PastPredicate → Entry → ℕ → Type 0
IsNearChange predicates entry t = OneIsNear predicates (pos entry.at) (pos 1) t

-- an edge is near a mark that there may be
abbrev pub IsNearMark : List PastPredicate → Option ℤ → ℕ → Type 0
IsNearMark predicates None t = ⊥
IsNearMark predicates (Some mark) t = OneIsNear predicates mark (pos 1) t

-- the truth of a comparison may change: an edge is near the creation, the field's present date or a change of the field, or two
-- edges are near each other, or one that stands has come to another second
abbrev pub MayChange : Surroundings → History → PastLeaf → ℕ → ℕ → Type 0
MayChange s h leaf at t =
    (OneIsNear leaf.predicates (pos h.at) (pos 1) t
    ⊎ IsNearMark leaf.predicates (value_mark s (present h leaf.field)) t)
    ⊎ (ToOne (IsNearChange leaf.predicates) (entries_of h.entries leaf.field) t
    ⊎ OneIsDisturbed s leaf.predicates at t)
