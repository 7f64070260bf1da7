-- Surroundings of one calendar have the same critical moments.
use Rattle.std.proofs.Common.{◌≡◌, ℕ, ◌-◌, List, refl, sym, ◌∙◌, inl, inr, Option, Some, None, ℤ, pos, ◌+ℤ◌}
use Rattle.std.specs.Ordering.{int_cmp}
use Rattle.change_history.specs.History.{History}
use Rattle.relative_dates.specs.Calendar.{midnight, local_day}
use Rattle.relative_dates.specs.Term.{second}
use Rattle.jql_bound.specs.Condition.{Condition, now, past, all_of, any_of, Conditions, no_conditions, condition}
use Rattle.jql_meaning.specs.Surroundings.{Surroundings}
use Rattle.jql_meaning.specs.Edges.{Edge, date, day, day_after, present_moment, edge_at, edges_past}
use Rattle.jql_meaning.specs.Marks.{IsMark, of_creation, of_change, of_date}
use Rattle.jql_meaning.specs.Critical.{MeetsMark, MeetsEdge, Leaps, IsCriticalNow, IsCriticalPast, IsCritical, IsCriticalForOne, IsCriticalForQuery}

module _ (one other : Surroundings) (h : History) (same : one.calendar ≡ other.calendar) where
  same_edge : (edge : Edge) (t : ℕ) → edge_at one edge t ≡ edge_at other edge t
  same_edge (date d) t = λ i. second (same i) d (pos t)
  same_edge (day d) t = λ i. midnight (same i).zone (local_day (same i).zone (second (same i) d (pos t)))
  same_edge (day_after d) t = λ i. midnight (same i).zone (local_day (same i).zone (second (same i) d (pos t)) +ℤ pos 1)
  same_edge present_moment t = refl

  same_mark : (mark : ℤ) → IsMark one h mark → IsMark other h mark
  same_mark mark (of_creation e) = of_creation e
  same_mark mark (of_change entry c e) = of_change entry c e
  same_mark mark (of_date field on is e) = of_date field on is (e ∙ (λ i. midnight (same i).zone on.0))

  meets_mark : (edges : List Edge) (t : ℕ) → MeetsMark one h edges t → MeetsMark other h edges t
  meets_mark edges t m = record {
    edge = m.edge;
    mark = m.mark;
    apart = m.apart;
    is_edge = m.is_edge;
    is_mark = same_mark m.mark m.is_mark;
    near = m.near;
    differs = λ e. m.differs ((λ i. int_cmp (same_edge m.edge (t - 1) i) (m.mark +ℤ m.apart)) ∙ e ∙ (λ i. int_cmp (sym (same_edge m.edge t) i) (m.mark +ℤ m.apart)));
  }

  meets_edge : (edges : List Edge) (t : ℕ) → MeetsEdge one edges t → MeetsEdge other edges t
  meets_edge edges t m = record {
    edge = m.edge;
    other = m.other;
    apart = m.apart;
    is_edge = m.is_edge;
    is_other = m.is_other;
    near = m.near;
    differs = λ e. m.differs (
        (λ i. int_cmp (same_edge m.edge (t - 1) i) (same_edge m.other (t - 1) i +ℤ m.apart))
        ∙ e
        ∙ (λ i. int_cmp (sym (same_edge m.edge t) i) (sym (same_edge m.other t) i +ℤ m.apart))
        );
  }

  leaps : (edges : List Edge) (t : ℕ) → Leaps one edges t → Leaps other edges t
  leaps edges t m = record {
    edge = m.edge;
    is_edge = m.is_edge;
    stands = m.stands;
    differs = λ e. m.differs (same_edge m.edge (t - 1) ∙ e ∙ sym (same_edge m.edge t));
  }

mutual
  unfolding IsCritical IsCriticalNow IsCriticalPast

  critical : (one other : Surroundings) (h : History) (t : ℕ) (c : Condition) → one.calendar ≡ other.calendar → IsCritical one h t c → IsCritical other h t c
  critical one other h t (now leaf) same m = meets_mark one other h same _ t m
  critical one other h t (past leaf) same m =
      elim m [
        | inl mark ↦ inl (meets_mark one other h same (edges_past leaf) t mark)
        | inr later ↦ elim later [
          | inl edge ↦ inr (inl (meets_edge one other h same (edges_past leaf) t edge))
          | inr leap ↦ inr (inr (leaps one other h same (edges_past leaf) t leap))
        ]
      ]
  critical one other h t (all_of cs) same m = critical_for_one one other h t cs same m
  critical one other h t (any_of cs) same m = critical_for_one one other h t cs same m

  critical_for_one : (one other : Surroundings) (h : History) (t : ℕ) (cs : Conditions) → one.calendar ≡ other.calendar → IsCriticalForOne one h t cs → IsCriticalForOne other h t cs
  critical_for_one one other h t no_conditions same m = m
  critical_for_one one other h t (condition c cs) same m =
      elim m [
        | inl here ↦ inl (critical one other h t c same here)
        | inr later ↦ inr (critical_for_one one other h t cs same later)
      ]

pub critical_by_the_calendar : (one other : Surroundings) (h : History) (t : ℕ) (query : Option Condition) → one.calendar ≡ other.calendar → IsCriticalForQuery one h t query → IsCriticalForQuery other h t query
unfolding IsCriticalForQuery
critical_by_the_calendar one other h t None same m = m
critical_by_the_calendar one other h t (Some c) same m = critical one other h t c same m
