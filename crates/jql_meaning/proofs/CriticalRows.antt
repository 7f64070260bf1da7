-- Worked moments: some that are critical, and some that aren't. The issue was made at 100 and got a status at 110.
use Rattle.std.proofs.Common.{◌≡◌, zero, suc, Bool, true, false, [], ◌∷◌, arith, inl, inr, refl, sym, subst, ap, ◌∙◌, codes, if◌then◌else◌, ◌==◌, ℤ, pos, negsuc, ◌+ℤ◌, ◌<ℤ◌}
use Rattle.std.specs.List.{Contains}
use Rattle.std.specs.Ordering.{MatchOrdering, int_cmp, is_lt}
use Rattle.std.specs.Cmp.{int_cmp_is, int_ranks}
use Rattle.std.specs.declared.cmp.Ordering.{Ordering}
use Rattle.std.specs.declared.cmp.Ordering.TheVariants.{Less, Equal, Greater}
use Rattle.std.proofs.lemmas.Bool.{true≢false}
use Rattle.jiff_core.specs.Calendar.{IsWithin}
use Rattle.jiff_core.proofs.SignedLemmas.{signed_arith}
use Rattle.field_values.specs.declared.numbers.UserNo.{UserNo}
use Rattle.field_values.specs.declared.numbers.FieldNo.{FieldNo}
use Rattle.field_values.specs.declared.numbers.TheConstants.FieldNo as number
use Rattle.field_values.specs.declared.numbers.Day.{Day}
use Rattle.field_values.specs.declared.value.Value.{Value}
use Rattle.change_history.specs.declared.entry.Entry.{Entry}
use Rattle.change_history.specs.History.{History}
use Rattle.relative_dates.specs.declared.term.Term.{Term}
use Rattle.relative_dates.specs.Calendar.{fixed_calendar}
use Rattle.jql_bound.specs.declared.leaf.Inequality.{Inequality}
use Rattle.jql_bound.specs.declared.leaf.Operator.{Operator}
use Rattle.jql_bound.specs.declared.leaf.Subject.{Subject}
use Rattle.jql_bound.specs.declared.leaf.Leaf.{Leaf}
use Rattle.jql_bound.specs.declared.operand.Operand.{Operand}
use Rattle.jql_bound.specs.declared.past.PastLeaf.{PastLeaf}
use Rattle.jql_bound.specs.declared.past.PastPredicate.{PastPredicate}
use Rattle.jql_bound.specs.declared.past.PastTest.{PastTest}
use Rattle.jql_meaning.specs.Surroundings.{Surroundings}
use Rattle.jql_meaning.specs.Edges.{Edge, date, present_moment, edge_at, goes_on, edges_past}
use Rattle.jql_meaning.specs.Marks.{IsMark, of_creation, of_change, of_date}
use Rattle.jql_meaning.specs.Critical.{IsCriticalNow, IsCriticalPast}

abbrev anna : UserNo
anna = record { 0 = 0 }

abbrev status : FieldNo
status = number.STATUS

abbrev open_now : Value
open_now = Value.Choice (record { 0 = 0 })

abbrev around : Surroundings
around = record { sprints = []; members = []; calendar = fixed_calendar (pos 0) 1 }

abbrev change_at_110 : Entry
change_at_110 = record { change = 2; at = 110; author = anna; field = status; from = Value.Empty; to = open_now }

abbrev issue : History
issue = record { no = record { 0 = 1 }; key = codes "OPS-1"; change = 1; at = 100; author = anna; opening = []; entries = change_at_110 ∷ [] }

abbrev a_minute_ago : Term
a_minute_ago = Term.FromNow (negsuc 0)

-- created > "-1m", which holds up to 159
abbrev lately_created : Leaf
lately_created = record { subject = Subject.Created; operator = Operator.Compares Inequality.Greater (Operand.Date a_minute_ago) }

-- status CHANGED AFTER "-1m", which holds up to 169
abbrev lately_changed : PastLeaf
lately_changed = record { field = status; test = PastTest.Changed []; predicates = PastPredicate.After a_minute_ago ∷ [] }

less_not_equal : Less ≡ Equal → ⊥
less_not_equal same = true≢false (ap is_lt same)

-- ---- critical: a minute after the creation, and a minute after the change

pub critical_after_the_creation : IsCriticalNow around issue lately_created 160
unfolding IsCriticalNow
critical_after_the_creation = record {
  edge = date a_minute_ago;
  mark = pos 100;
  apart = pos 0;
  is_edge = (0, omega arith, refl);
  is_mark = of_creation refl;
  near = (omega (arith, signed_arith), omega (arith, signed_arith));
  differs = less_not_equal;
}

pub critical_after_the_change : IsCriticalPast around issue lately_changed 170
unfolding IsCriticalPast
critical_after_the_change = inl (record {
  edge = date a_minute_ago;
  mark = pos 110;
  apart = pos 0;
  is_edge = (1, omega arith, refl);
  is_mark = of_change change_at_110 (0, omega arith, refl) refl;
  near = (omega (arith, signed_arith), omega (arith, signed_arith));
  differs = less_not_equal;
})

-- ---- not critical: later, where the dates are far behind these moments and go on side by side

no_date : (test : Bool) (day : Day) → (if test then open_now else Value.Empty) ≡ Value.Date day → ⊥
no_date true day same = cc
no_date false day same = cc

-- the marks are 100 and 110
up_to_110 : (mark : ℤ) → IsMark around issue mark → mark <ℤ pos 111
up_to_110 mark (of_creation is) = omega (arith, signed_arith, is)
up_to_110 mark (of_change entry (zero, inside, same) is) = let at : mark ≡ pos 110 = is ∙ ap (λ (e : Entry). pos e.at) (sym same) in omega (arith, signed_arith, at)
up_to_110 mark (of_change entry (suc k, inside, same) is) = absurd (omega (arith, inside))
up_to_110 mark (of_date field day held is) = absurd (no_date (status.0 == field.0) day held)

-- an edge that stands behind all of them by more than a second, and still does a second later
far : (x y mark apart : ℤ) → pos 112 <ℤ x → pos 112 <ℤ y → mark <ℤ pos 111 → IsWithin 1 apart → int_cmp x (mark +ℤ apart) ≡ int_cmp y (mark +ℤ apart)
far x y mark apart one other least near =
    sym (int_cmp_is x (mark +ℤ apart) Greater (omega (arith, signed_arith, one, least, near.0, near.1)))
    ∙ int_cmp_is y (mark +ℤ apart) Greater (omega (arith, signed_arith, other, least, near.0, near.1))

-- two edges that go on by one
shifted : (x y z w : ℤ) → z ≡ x +ℤ pos 1 → w ≡ y +ℤ pos 1 → int_cmp x y ≡ int_cmp z w
shifted x y z w first second = by_rank (int_cmp x y) (int_ranks x y)
  where
    by_rank : (r : Ordering) → MatchOrdering r (x <ℤ y) (x ≡ y) (y <ℤ x) → r ≡ int_cmp z w
    by_rank Less h = int_cmp_is z w Less (omega (arith, signed_arith, first, second, h))
    by_rank Equal h = int_cmp_is z w Equal (omega (arith, signed_arith, first, second, h))
    by_rank Greater h = int_cmp_is z w Greater (omega (arith, signed_arith, first, second, h))

one_alone : (P : Edge → Type 0) (x edge : Edge) → Contains (x ∷ []) edge → P x → P edge
one_alone P x edge (zero, inside, is) p = subst P is p
one_alone P x edge (suc k, inside, is) p = absurd (omega (arith, inside))

one_of_two : (P : Edge → Type 0) (x y edge : Edge) → Contains (x ∷ y ∷ []) edge → P x → P y → P edge
one_of_two P x y edge (zero, inside, is) p q = subst P is p
one_of_two P x y edge (suc zero, inside, is) p q = subst P is q
one_of_two P x y edge (suc (suc k), inside, is) p q = absurd (omega (arith, inside))

pub not_critical_later : IsCriticalNow around issue lately_created 200 → ⊥
unfolding IsCriticalNow
not_critical_later m =
    m.differs (
    one_alone (λ edge. int_cmp (edge_at around edge 199) (m.mark +ℤ m.apart) ≡ int_cmp (edge_at around edge 200) (m.mark +ℤ m.apart)) (date a_minute_ago) m.edge m.is_edge
    (far (pos 139) (pos 140) m.mark m.apart (omega (arith, signed_arith)) (omega (arith, signed_arith)) (up_to_110 m.mark m.is_mark) m.near)
    )

-- both edges are behind the marks, and go on by one
record GoesOn (edge : Edge) : Type 0 where
  before : pos 112 <ℤ edge_at around edge 299
  next : edge_at around edge 300 ≡ edge_at around edge 299 +ℤ pos 1
  moving : goes_on edge ≡ true

goes_on_each : (edge : Edge) → Contains (edges_past lately_changed) edge → GoesOn edge
goes_on_each edge inside =
    one_of_two GoesOn present_moment (date a_minute_ago) edge inside
    (record { before = omega (arith, signed_arith); next = refl; moving = refl })
    (record { before = omega (arith, signed_arith); next = refl; moving = refl })

pub past_not_critical_later : IsCriticalPast around issue lately_changed 300 → ⊥
unfolding IsCriticalPast
past_not_critical_later critical =
    elim critical [
      | inl m ↦
          let e = goes_on_each m.edge m.is_edge in
          m.differs (far (edge_at around m.edge 299) (edge_at around m.edge 300) m.mark m.apart e.before (omega (arith, signed_arith, e.before, e.next)) (up_to_110 m.mark m.is_mark) m.near)
      | inr later ↦ elim later [
        | inl m ↦
            let e = goes_on_each m.edge m.is_edge in
            let o = goes_on_each m.other m.is_other in
            m.differs (shifted (edge_at around m.edge 299) (edge_at around m.other 299 +ℤ m.apart) (edge_at around m.edge 300) (edge_at around m.other 300 +ℤ m.apart) e.next (omega (arith, signed_arith, o.next)))
        | inr m ↦ true≢false (sym (goes_on_each m.edge m.is_edge).moving ∙ m.stands)
      ]
    ]
