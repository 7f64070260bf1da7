-- A present comparison comes to another truth only where one of its dates meets the mark that it looks at.
use Rattle.std.proofs.Common.{◌≡◌, ◌≢◌, ◌⊎◌, ℕ, ◌-◌, Bool, not, ◌||◌, ◌&&◌, List, [], ◌∷◌, ◌++◌, arith, inl, inr, refl, sym, ◌∙◌, ap, Option, Some, None, ℤ, pos, ◌+ℤ◌}
use Rattle.std.specs.List.{list_any, flat_map, Contains}
use Rattle.std.specs.Ordering.{int_cmp, is_eq, is_some_and, ordering_reverse}
use Rattle.std.specs.declared.cmp.Ordering.{Ordering}
use Rattle.std.specs.Cmp.{int_cmp_total}
use Rattle.std.proofs.lemmas.Option.{none-some, same_Some}
use Rattle.std.proofs.lemmas.List.Elements.{Contains-append_left, Contains-append_right}
use Rattle.jiff_core.proofs.SignedLemmas.{signed_arith}
use Rattle.field_values.specs.declared.numbers.FieldNo.{FieldNo}
use Rattle.field_values.specs.declared.value.Value.{Value}
use Rattle.change_history.specs.declared.entry.Entry.{Entry}
use Rattle.change_history.specs.History.{History, present, updated, last_moment}
use Rattle.jql_bound.specs.declared.operand.Operand.{Operand}
use Rattle.jql_bound.specs.declared.leaf.Subject.{Subject}
use Rattle.jql_bound.specs.declared.leaf.Operator.{Operator}
use Rattle.jql_bound.specs.declared.leaf.Leaf.{Leaf}
use Rattle.jql_meaning.specs.Surroundings.{Surroundings}
use Rattle.jql_meaning.proofs.Differing.{same_or_not}
use Rattle.jql_meaning.specs.Present.{holds_now, operator_holds, lacks_value}
use Rattle.jql_meaning.specs.Comparison.{second_now, midnight_of, equals_value, equals_moment, equals, value_order, moment_order, order, stands}
use Rattle.jql_meaning.specs.Edges.{Edge, date, operand_edges, operands_of}
use Rattle.jql_meaning.specs.Marks.{IsMark, of_creation, of_change, of_date, value_mark, subject_mark, IsSteady}
use Rattle.jql_meaning.specs.Critical.{MeetsMark, IsCriticalNow}

turned : (mark x y : ℤ) → int_cmp x mark ≡ int_cmp y mark → int_cmp mark x ≡ int_cmp mark y
turned mark x y same = int_cmp_total.antisymm mark x ∙ ap ordering_reverse same ∙ sym (int_cmp_total.antisymm mark y)

steady_value : (s : Surroundings) (u t : ℕ) (v : Value) (operand : Operand) → IsSteady s u t (value_mark s v) operand → equals_value s u v operand ≡ equals_value s t v operand
steady_value s u t (Value.Date day) (Operand.Date d) same = ap is_eq (turned (midnight_of s day) (second_now s u d) (second_now s t d) same)
steady_value s u t v operand same = refl

steady_moment : (s : Surroundings) (u t moment : ℕ) (operand : Operand) → IsSteady s u t (Some (pos moment)) operand → equals_moment s u moment operand ≡ equals_moment s t moment operand
steady_moment s u t moment (Operand.Date d) same = ap is_eq (turned (pos moment) (second_now s u d) (second_now s t d) same)
steady_moment s u t moment operand same = refl

-- then it stands for what is compared as it did
pub steady_equals : (s : Surroundings) (h : History) (u t : ℕ) (subject : Subject) (operand : Operand) → IsSteady s u t (subject_mark s h subject) operand → equals s h u subject operand ≡ equals s h t subject operand
steady_equals s h u t (Subject.Field field) operand same = steady_value s u t (present h field) operand same
steady_equals s h u t Subject.Project operand same = refl
steady_equals s h u t Subject.Key operand same = refl
steady_equals s h u t Subject.Created operand same = steady_moment s u t h.at operand same
steady_equals s h u t Subject.Updated operand same = steady_moment s u t (updated h) operand same

steady_value_order : (s : Surroundings) (u t : ℕ) (v : Value) (operand : Operand) → IsSteady s u t (value_mark s v) operand → value_order s u v operand ≡ value_order s t v operand
steady_value_order s u t (Value.Date day) (Operand.Date d) same = ap (λ (o : Ordering). Some o) (turned (midnight_of s day) (second_now s u d) (second_now s t d) same)
steady_value_order s u t v operand same = refl

steady_moment_order : (s : Surroundings) (u t moment : ℕ) (operand : Operand) → IsSteady s u t (Some (pos moment)) operand → moment_order s u moment operand ≡ moment_order s t moment operand
steady_moment_order s u t moment (Operand.Date d) same = ap (λ (o : Ordering). Some o) (turned (pos moment) (second_now s u d) (second_now s t d) same)
steady_moment_order s u t moment operand same = refl

-- and it is ordered as it was
pub steady_order : (s : Surroundings) (h : History) (u t : ℕ) (subject : Subject) (operand : Operand) → IsSteady s u t (subject_mark s h subject) operand → order s h u subject operand ≡ order s h t subject operand
steady_order s h u t (Subject.Field field) operand same = steady_value_order s u t (present h field) operand same
steady_order s h u t Subject.Project operand same = refl
steady_order s h u t Subject.Key operand same = refl
steady_order s h u t Subject.Created operand same = steady_moment_order s u t h.at operand same
steady_order s h u t Subject.Updated operand same = steady_moment_order s u t (updated h) operand same

-- the moment of the last change is that of the creation or of a change
last_change : (at : ℕ) (entries : List Entry) → (last_moment at entries ≡ at) ⊎ ((entry : Entry) × Contains entries entry × (last_moment at entries ≡ entry.at))
last_change at [] = inl refl
last_change at (entry ∷ entries) =
    elim (last_change entry.at entries) [
      | inl same ↦ inr (entry, (0, omega arith, refl), same)
      | inr later ↦ inr (later.0, Contains-append_right (entry ∷ []) entries later.0 later.1, later.2)
    ]

mark_of_value : (s : Surroundings) (h : History) (field : FieldNo) (v : Value) (mark : ℤ) → present h field ≡ v → value_mark s v ≡ Some mark → IsMark s h mark
mark_of_value s h field (Value.Date on) mark is same = of_date field on is (sym (same_Some (midnight_of s on) mark same))
mark_of_value s h field v mark is same = absurd (none-some mark same)

-- the mark that a comparison looks at is one of the issue's
pub mark_is : (s : Surroundings) (h : History) (subject : Subject) (mark : ℤ) → subject_mark s h subject ≡ Some mark → IsMark s h mark
mark_is s h (Subject.Field field) mark same = mark_of_value s h field (present h field) mark refl same
mark_is s h Subject.Project mark same = absurd (none-some mark same)
mark_is s h Subject.Key mark same = absurd (none-some mark same)
mark_is s h Subject.Created mark same = of_creation (sym (same_Some (pos h.at) mark same))
mark_is s h Subject.Updated mark same =
    let is : mark ≡ pos (updated h) = sym (same_Some (pos (updated h)) mark same) in
    elim (last_change h.at h.entries) [
      | inl created ↦ of_creation (is ∙ ap pos created)
      | inr later ↦ of_change later.0 later.1 (is ∙ ap pos later.2)
    ]

-- a date that compares otherwise with the mark meets it
pub met : (s : Surroundings) (h : History) (subject : Subject) (edges : List Edge) (t : ℕ) (operand : Operand) (mark : Option ℤ) → subject_mark s h subject ≡ mark → ((edge : Edge) → Contains (operand_edges operand) edge → Contains edges edge) → (IsSteady s (t - 1) t mark operand → ⊥) → MeetsMark s h edges t
met s h subject edges t operand None is among moved = absurd (moved tt)
met s h subject edges t (Operand.Date d) (Some mark) is among moved = record {
  edge = date d;
  mark = mark;
  apart = pos 0;
  is_edge = among (date d) (0, omega arith, refl);
  is_mark = mark_is s h subject mark is;
  near = (omega (arith, signed_arith), omega (arith, signed_arith));
  differs = λ same. let zero : mark +ℤ pos 0 ≡ mark = omega (arith, signed_arith) in moved (rw zero at same);
}
met s h subject edges t operand (Some mark) is among moved = absurd (moved tt)

-- where it matters whether one of several passes, one of them passes otherwise
one_differs : (f g : Operand → Bool) (operands : List Operand) → list_any f operands ≢ list_any g operands → (operand : Operand) × ((edge : Edge) → Contains (operand_edges operand) edge → Contains (flat_map operand_edges operands) edge) × (f operand ≢ g operand)
one_differs f g [] n = absurd (n refl)
one_differs f g (operand ∷ operands) n =
    elim (same_or_not (f operand) (g operand)) [
      | inl same ↦
          let later = one_differs f g operands (λ e. n (λ i. same i || e i)) in
          (later.0, λ edge c. Contains-append_right (operand_edges operand) (flat_map operand_edges operands) edge (later.1 edge c), later.2)
      | inr differs ↦ (operand, λ edge c. Contains-append_left (operand_edges operand) (flat_map operand_edges operands) edge c, differs)
    ]

one_meets : (s : Surroundings) (h : History) (t : ℕ) (subject : Subject) (operands : List Operand) → list_any (λ operand. equals s h (t - 1) subject operand) operands ≢ list_any (λ operand. equals s h t subject operand) operands → MeetsMark s h (flat_map operand_edges operands) t
one_meets s h t subject operands n =
    let one = one_differs (λ operand. equals s h (t - 1) subject operand) (λ operand. equals s h t subject operand) operands n in
    met s h subject (flat_map operand_edges operands) t one.0 (subject_mark s h subject) refl one.1
    (λ steady. one.2 (steady_equals s h (t - 1) t subject one.0 steady))

operator_meets : (s : Surroundings) (h : History) (t : ℕ) (subject : Subject) (operator : Operator) → operator_holds s h (t - 1) subject operator ≢ operator_holds s h t subject operator → MeetsMark s h (flat_map operand_edges (operands_of operator)) t
operator_meets s h t subject (Operator.In operands) n = one_meets s h t subject operands n
operator_meets s h t subject (Operator.NotIn operands) n = one_meets s h t subject operands (λ e. n (λ i. not (lacks_value h subject) && not (e i)))
operator_meets s h t subject (Operator.Compares inequality operand) n =
    met s h subject (operand_edges operand ++ []) t operand (subject_mark s h subject) refl (λ edge c. Contains-append_left (operand_edges operand) [] edge c)
    (λ steady. n (ap (is_some_and (stands inequality)) (steady_order s h (t - 1) t subject operand steady)))
operator_meets s h t subject (Operator.Contains words) n = absurd (n refl)
operator_meets s h t subject (Operator.Lacks words) n = absurd (n refl)
operator_meets s h t subject Operator.IsEmpty n = absurd (n refl)
operator_meets s h t subject Operator.IsNotEmpty n = absurd (n refl)

pub changes_are_critical : (s : Surroundings) (h : History) (leaf : Leaf) (t : ℕ) → holds_now s leaf h (t - 1) ≢ holds_now s leaf h t → IsCriticalNow s h leaf t
unfolding holds_now IsCriticalNow
changes_are_critical s h leaf t n = operator_meets s h t leaf.subject leaf.operator n
