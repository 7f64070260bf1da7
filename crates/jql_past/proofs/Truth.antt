-- The truth of a comparison with the past stays up to the next moment at which it may change, and that one is critical.
use Rattle.std.proofs.Common.{◌≡◌, ◌≢◌, ◌⊎◌, ℕ, zero, suc, ◌-◌, ◌<◌, ◌≤◌, false, List, [], ◌∷◌, arith, inl, inr, refl, sym, ◌∙◌, ap, subst, Option, Some, None, ℤ, pos, ◌+ℤ◌, ◌-ℤ◌, ◌*ℤ◌, ◌≤ℤ◌, ◌<ℤ◌}
use Rattle.std.specs.List.{Contains, flat_map}
use Rattle.std.specs.Ordering.{int_cmp}
use Rattle.std.proofs.lemmas.Bool.{cases_lt, cases_eq, true≢false}
use Rattle.std.proofs.lemmas.Int.{ints, by_lt_z}
use Rattle.std.proofs.lemmas.List.Elements.{Contains-append_right}
use Rattle.jiff_core.proofs.SignedLemmas.{signed_arith}
use Rattle.field_values.specs.declared.value.Value.{Value}
use Rattle.change_history.specs.History.{History, present}
use Rattle.change_history.specs.Span.{entries_of}
use Rattle.relative_dates.specs.declared.term.Term.{Term}
use Rattle.relative_dates.specs.Calendar.{IsZone}
use Rattle.jql_bound.specs.declared.past.PastLeaf.{PastLeaf}
use Rattle.jql_meaning.specs.Surroundings.{Surroundings}
use Rattle.jql_meaning.specs.Past.{holds_past}
use Rattle.jql_meaning.specs.Edges.{Edge, date, day, day_after, present_moment, edge_at, goes_on, window_edges, edges_past}
use Rattle.jql_meaning.specs.Marks.{IsMark, of_creation, of_change, of_date, value_mark}
use Rattle.jql_meaning.specs.Critical.{MeetsMark, MeetsEdge, Leaps, IsCriticalPast}
use Rattle.jql_meaning.specs.Ends.{Stays}
use Rattle.jql_meaning.proofs.Differing.{same_or_not}
use Rattle.jql_meaning.proofs.PastMeetings.{near_mark, near_edge}
use Rattle.jql_meaning.proofs.PastChanges.{past_changes_are_critical}
use Rattle.jql_past.specs.Next.{IsNext}
use Rattle.jql_past.specs.Near.{ahead, IsNear, OneIsNear, IsDisturbed, IsNearMark, IsNearChange, MayChange}
use Rattle.jql_past.proofs.Nexts.{to_member, which, to_nested, from_nested}
use Rattle.jql_past.proofs.Own.{own, own_holds, own_among, own_date}

-- ---- whole numbers

stable : (x y : ℤ) → (x ≢ y → ⊥) → x ≡ y
stable x y n =
    by_lt_z x y
    (λ less. absurd (n (λ same. omega (arith, signed_arith))))
    (λ more. by_lt_z y x
    (λ less. absurd (n (λ same. omega (arith, signed_arith))))
    (λ also. omega (arith, signed_arith)))

both_less : (x z y w : ℤ) → x <ℤ z → y <ℤ w → int_cmp x z ≡ int_cmp y w
both_less x z y w one other = grind (arith, ints)

both_greater : (x z y w : ℤ) → z <ℤ x → w <ℤ y → int_cmp x z ≡ int_cmp y w
both_greater x z y w one other = grind (arith, ints)

both_moved : (x y z w : ℤ) → y ≡ x +ℤ pos 1 → w ≡ z +ℤ pos 1 → int_cmp x z ≡ int_cmp y w
both_moved x y z w one other =
    by_lt_z x z
    (λ less. both_less x z y w less (omega (arith, signed_arith)))
    (λ more. by_lt_z z x
    (λ less. both_greater x z y w less (omega (arith, signed_arith)))
    (λ also. both_equal x z y w (omega (arith, signed_arith)) (omega (arith, signed_arith))))
  where
    both_equal : (x z y w : ℤ) → x ≡ z → y ≡ w → int_cmp x z ≡ int_cmp y w
    both_equal x z y w one other = grind (arith, ints)

-- what moves on by one and then compares otherwise has come to the other, or left it
moved_first : (x y z : ℤ) → y ≡ x +ℤ pos 1 → int_cmp x z ≢ int_cmp y z → (z ≤ℤ y) × (y ≤ℤ (z +ℤ pos 1))
moved_first x y z is differs =
    by_lt_z y z
    (λ less. absurd (differs (both_less x z y z (omega (arith, signed_arith)) less)))
    (λ more. by_lt_z z x
    (λ less. absurd (differs (both_greater x z y z less (omega (arith, signed_arith)))))
    (λ also. (more, omega (arith, signed_arith))))

moved_second : (x y z : ℤ) → y ≡ x +ℤ pos 1 → int_cmp z x ≢ int_cmp z y → (z ≤ℤ y) × (y ≤ℤ (z +ℤ pos 1))
moved_second x y z is differs =
    by_lt_z y z
    (λ less. absurd (differs (both_greater z x z y (omega (arith, signed_arith)) less)))
    (λ more. by_lt_z z x
    (λ less. absurd (differs (both_less z x z y less (omega (arith, signed_arith)))))
    (λ also. (more, omega (arith, signed_arith))))

-- ---- edges

-- an edge goes on, so far ahead of the moment, or stands
data Gait (s : Surroundings) (edge : Edge) : Type 0 where
  going : (by : ℤ) → ahead edge ≡ Some by → ((t : ℕ) → edge_at s edge t ≡ pos t +ℤ by) → Gait s edge
  still : goes_on edge ≡ false → ahead edge ≡ None → Gait s edge

gait : (s : Surroundings) (edge : Edge) → Gait s edge
gait s (date Term.Now) = going (pos 0) refl (λ t. omega (arith, signed_arith))
gait s (date (Term.Literal local)) = still refl refl
gait s (date (Term.FromNow minutes)) = going (pos 60 *ℤ minutes) refl (λ t. refl)
gait s (date (Term.PeriodEdge boundary)) = still refl refl
gait s (day d) = still refl refl
gait s (day_after d) = still refl refl
gait s present_moment = going (pos 0) refl (λ t. omega (arith, signed_arith))

going_near : (edge : Edge) (second reach by : ℤ) (t : ℕ) → ahead edge ≡ Some by → ((second -ℤ reach) -ℤ by) ≤ℤ pos t → pos t ≤ℤ (((second +ℤ reach) +ℤ pos 1) -ℤ by) → IsNear second reach (ahead edge) t
going_near edge second reach by t is low high = rw is (low, high)

-- ---- what may change, and what is critical

module _ (s : Surroundings) (h : History) (leaf : PastLeaf) (at : ℕ) (zone : IsZone s.calendar.zone) where
  abbrev May : ℕ → Type 0
  May = MayChange s h leaf at

  abbrev edges : List Edge
  edges = edges_past leaf

  -- each edge that stands is where it was
  abbrev Stood : ℕ → Type 0
  Stood t = (edge : Edge) → Contains edges edge → goes_on edge ≡ false → edge_at s edge t ≡ edge_at s edge at

  near_one : (edge : Edge) (second reach : ℤ) (t : ℕ) → Contains edges edge → IsNear second reach (ahead edge) t → OneIsNear leaf.predicates second reach t
  near_one edge second reach t is near =
      elim (to_member (λ edge. IsNear second reach (ahead edge)) edges edge t is near) [
        | inl first ↦ inl first
        | inr later ↦ inr (to_nested (λ edge. IsNear second reach (ahead edge)) window_edges leaf.predicates t later)
      ]

  which_one : (second reach : ℤ) (t : ℕ) → OneIsNear leaf.predicates second reach t → (edge : Edge) × Contains edges edge × IsNear second reach (ahead edge) t
  which_one second reach t near =
      which (λ edge. IsNear second reach (ahead edge)) edges t (elim near [
        | inl first ↦ inl first
        | inr later ↦ inr (from_nested (λ edge. IsNear second reach (ahead edge)) window_edges leaf.predicates t later)
      ])

  disturbed : (edge : Edge) (t : ℕ) → Contains edges edge → IsDisturbed s leaf.predicates at edge t → May t
  disturbed edge t is happens =
      elim (to_member (IsDisturbed s leaf.predicates at) edges edge t is happens) [
        | inl first ↦ absurd (true≢false first.0)
        | inr later ↦ inr (inr (to_nested (IsDisturbed s leaf.predicates at) window_edges leaf.predicates t later))
      ]

  stood : (t : ℕ) → (t ≡ at) ⊎ (May t → ⊥) → Stood t
  stood t calm edge is stands =
      elim calm [
        | inl same ↦ rw same refl
        | inr none ↦ stable (edge_at s edge t) (edge_at s edge at) (λ moved. none (disturbed edge t is (stands, inl moved)))
      ]

  -- an edge near a mark of the field's own
  at_own_mark : (mark : ℤ) (t : ℕ) → IsMark s (own h leaf.field) mark → OneIsNear leaf.predicates mark (pos 1) t → May t
  at_own_mark mark t (of_creation is) near = inl (inl (subst (λ m. OneIsNear leaf.predicates m (pos 1) t) is near))
  at_own_mark mark t (of_change entry among is) near =
      inr (inl (to_member (IsNearChange leaf.predicates) (entries_of h.entries leaf.field) entry t among (subst (λ m. OneIsNear leaf.predicates m (pos 1) t) is near)))
  at_own_mark mark t (of_date field on here is) near =
      let date_mark : value_mark s (present h leaf.field) ≡ Some mark = own_date s h leaf.field field on here ∙ ap (λ (m : ℤ). Some m) (sym is) in
      inl (inr (rw date_mark near))

  module _ (t : ℕ) (later : 0 < t) where
    -- with nothing that may change, and no edge that left its place, the moment isn't critical
    module _ (none : May t → ⊥) (before : Stood (t - 1)) (now : Stood t) where
      no_mark : MeetsMark s (own h leaf.field) edges t → ⊥
      no_mark m =
          let low = m.near.0 in
          let high = m.near.1 in
          elim (gait s m.edge) [
            | going by is goes ↦
                let was = goes (t - 1) in
                let stands = goes t in
                let come = moved_first (edge_at s m.edge (t - 1)) (edge_at s m.edge t) (m.mark +ℤ m.apart) (omega (arith, signed_arith)) m.differs in
                none (at_own_mark m.mark t m.is_mark (near_one m.edge m.mark (pos 1) t m.is_edge
                (going_near m.edge m.mark (pos 1) by t is (omega (arith, signed_arith, come)) (omega (arith, signed_arith, come)))))
            | still stands is ↦ m.differs (ap (λ x. int_cmp x (m.mark +ℤ m.apart)) (before m.edge m.is_edge stands ∙ sym (now m.edge m.is_edge stands)))
          ]

      no_edge : MeetsEdge s edges t → ⊥
      no_edge m =
          let low = m.near.0 in
          let high = m.near.1 in
          elim (gait s m.edge) [
            | going by is goes ↦
                let first_was = goes (t - 1) in
                let first_is = goes t in
                elim (gait s m.other) [
                  | going other_by other_is other_goes ↦
                      let second_was = other_goes (t - 1) in
                      let second_is = other_goes t in
                      m.differs (both_moved (edge_at s m.edge (t - 1)) (edge_at s m.edge t) (edge_at s m.other (t - 1) +ℤ m.apart) (edge_at s m.other t +ℤ m.apart) (omega (arith, signed_arith)) (omega (arith, signed_arith)))
                  | still stands other_is ↦
                      let stood_there = before m.other m.is_other stands in
                      let stands_there = now m.other m.is_other stands in
                      let come = moved_first (edge_at s m.edge (t - 1)) (edge_at s m.edge t) (edge_at s m.other at +ℤ m.apart) (omega (arith, signed_arith))
                      (λ same. m.differs (rw (stood_there, stands_there) same)) in
                      none (disturbed m.other t m.is_other (
                        stands,
                        inr (near_one m.edge (edge_at s m.other at) (pos 2) t m.is_edge
                            (going_near m.edge (edge_at s m.other at) (pos 2) by t is (omega (arith, signed_arith, come)) (omega (arith, signed_arith, come)))),
                      ))
                ]
            | still stands is ↦
                let stood_there = before m.edge m.is_edge stands in
                let stands_there = now m.edge m.is_edge stands in
                elim (gait s m.other) [
                  | going other_by other_is other_goes ↦
                      let second_was = other_goes (t - 1) in
                      let second_is = other_goes t in
                      let come = moved_second (edge_at s m.other (t - 1) +ℤ m.apart) (edge_at s m.other t +ℤ m.apart) (edge_at s m.edge at) (omega (arith, signed_arith))
                      (λ same. m.differs (rw (stood_there, stands_there) same)) in
                      none (disturbed m.edge t m.is_edge (
                        stands,
                        inr (near_one m.other (edge_at s m.edge at) (pos 2) t m.is_other
                            (going_near m.other (edge_at s m.edge at) (pos 2) other_by t other_is (omega (arith, signed_arith, come)) (omega (arith, signed_arith, come)))),
                      ))
                  | still other_stands other_is ↦
                      let first_same = stood_there ∙ sym stands_there in
                      let second_same = before m.other m.is_other other_stands ∙ sym (now m.other m.is_other other_stands) in
                      m.differs (λ i. int_cmp (first_same i) (second_same i +ℤ m.apart))
                ]
          ]

      no_leap : Leaps s edges t → ⊥
      no_leap m = m.differs (before m.edge m.is_edge m.stands ∙ sym (now m.edge m.is_edge m.stands))

      not_critical : IsCriticalPast s (own h leaf.field) leaf t → ⊥
      unfolding IsCriticalPast
      not_critical critical =
          elim critical [ inl mark ↦ no_mark mark | inr rest ↦ elim rest [ inl edge ↦ no_edge edge | inr leap ↦ no_leap leap ] ]

      same_truth : holds_past s leaf h (t - 1) ≡ holds_past s leaf h t
      same_truth =
          elim (same_or_not (holds_past s leaf h (t - 1)) (holds_past s leaf h t)) [
            | inl same ↦ same
            | inr differs ↦ absurd (not_critical (past_changes_are_critical s (own h leaf.field) leaf t zone
                (λ same. differs (sym (own_holds s h leaf (t - 1)) ∙ same ∙ own_holds s h leaf t))))
          ]

    -- what may change is critical, where the edges that stand stood up to then
    module _ (before : Stood (t - 1)) where
      at_mark : (mark : ℤ) → IsMark s h mark → OneIsNear leaf.predicates mark (pos 1) t → IsCriticalPast s h leaf t
      unfolding IsCriticalPast
      at_mark mark of near =
          let one = which_one mark (pos 1) t near in
          elim (gait s one.0) [
            | going by is goes ↦
                let here = rw is at one.2 in
                let low = here.0 in
                let high = here.1 in
                let was = goes (t - 1) in
                let stands = goes t in
                near_mark s h edges t later one.0 mark one.1 (omega (arith, signed_arith)) of (omega (arith, signed_arith)) (omega (arith, signed_arith))
            | still stands is ↦ absurd (rw is at one.2)
          ]

      at_edge : (edge : Edge) → Contains edges edge → IsDisturbed s leaf.predicates at edge t → IsCriticalPast s h leaf t
      unfolding IsCriticalPast
      at_edge edge among happens =
          let stood_there = before edge among happens.0 in
          let leaps : edge_at s edge (t - 1) ≢ edge_at s edge t → IsCriticalPast s h leaf t =
          λ differs. inr (inr (record { edge = edge; is_edge = among; stands = happens.0; differs = differs })) in
          elim happens.1 [
            | inl moved ↦ leaps (λ same. moved (sym same ∙ stood_there))
            | inr near ↦
                let one = which_one (edge_at s edge at) (pos 2) t near in
                elim (gait s one.0) [
                  | going by is goes ↦
                      let here = rw is at one.2 in
                      let low = here.0 in
                      let high = here.1 in
                      let was = goes (t - 1) in
                      let stands = goes t in
                      by_lt_z (edge_at s edge (t - 1)) (edge_at s edge t)
                      (λ less. leaps (λ same. omega (arith, signed_arith)))
                      (λ more. by_lt_z (edge_at s edge t) (edge_at s edge (t - 1))
                      (λ less. leaps (λ same. omega (arith, signed_arith)))
                      (λ also.
                      near_edge s h edges t later one.0 edge one.1 among (omega (arith, signed_arith)) (omega (arith, signed_arith)) (omega (arith, signed_arith)) (omega (arith, signed_arith))))
                  | still stands is ↦ absurd (rw is at one.2)
                ]
          ]

      at_date : (value : Value) → present h leaf.field ≡ value → IsNearMark leaf.predicates (value_mark s value) t → IsCriticalPast s h leaf t
      at_date (Value.Date on) is near = at_mark _ (of_date leaf.field on is refl) near
      at_date value is near = absurd near

      may_is_critical : May t → IsCriticalPast s h leaf t
      may_is_critical may =
          elim may [
            | inl fixed ↦ elim fixed [
              | inl created ↦ at_mark (pos h.at) (of_creation refl) created
              | inr dated ↦ at_date (present h leaf.field) refl dated
            ]
            | inr rest ↦ elim rest [
              | inl changed ↦
                  let one = which (IsNearChange leaf.predicates) (entries_of h.entries leaf.field) t changed in
                  at_mark (pos one.0.at) (of_change one.0 (own_among h.entries leaf.field one.0 one.1) refl) one.2
              | inr other ↦
                  let one = which (IsDisturbed s leaf.predicates at) (flat_map window_edges leaf.predicates) t (from_nested (IsDisturbed s leaf.predicates at) window_edges leaf.predicates t other) in
                  at_edge one.0 (behind one.0 one.1) one.2
            ]
          ]
        where
          behind : (edge : Edge) → Contains (flat_map window_edges leaf.predicates) edge → Contains edges edge
          behind edge c = Contains-append_right (present_moment ∷ []) (flat_map window_edges leaf.predicates) edge c

  -- ---- from moment to moment

  same_to : (t : ℕ) → at ≤ t → ((u : ℕ) → at < u → u ≤ t → May u → ⊥) → holds_past s leaf h t ≡ holds_past s leaf h at
  same_to zero low calm = let is : at ≡ 0 = omega arith in rw is refl
  same_to (suc t) low calm =
      elim (cases_lt at (suc t)) [
        | inl less ↦
            let here : (u : ℕ) → at ≤ u → u ≤ suc t → Stood u = λ u from to. stood u (elim (cases_eq u at) [ inl same ↦ inl same | inr other ↦ inr (calm u (omega arith) to) ]) in
            sym (same_truth (suc t) (omega arith) (calm (suc t) less (omega arith)) (here (suc t - 1) (omega arith) (omega arith)) (here (suc t) low (omega arith)))
            ∙ ap (holds_past s leaf h) (omega arith) ∙ same_to t (omega arith) (λ u from to. calm u from (omega arith))
        | inr same ↦ let is : at ≡ suc t = omega arith in rw is refl
      ]

  pub stays : (next : Option ℕ) → IsNext May at next → Stays (holds_past s leaf h) (IsCriticalPast s h leaf) at next
  stays None n = λ t low high. same_to t low (λ u from to. n u from (omega arith))
  stays (Some next) n = record {
    later = n.later;
    in_time = n.in_time;
    critical =
        may_is_critical next (omega (arith, n.later))
        (stood (next - 1) (elim (cases_eq (next - 1) at) [ inl same ↦ inl same | inr other ↦ inr (n.not_before (next - 1) (omega (arith, n.later)) (omega (arith, n.later))) ]))
        n.happens;
    stays = λ t low high. same_to t low (λ u from to. n.not_before u from (omega arith));
  }
