-- A comparison's truth stays while its dates compare with the mark as they did.
use Rattle.std.proofs.Common.{◌≡◌, ℕ, zero, suc, ◌<◌, not, ◌||◌, ◌&&◌, List, [], ◌∷◌, length, arith, refl, ap, Option, Some, None, ℤ}
use Rattle.std.specs.Prelude.{slice_index_or}
use Rattle.std.specs.List.{All, Contains, list_any, flat_map}
use Rattle.std.specs.Ordering.{is_some_and}
use Rattle.std.proofs.lemmas.List.Elements.{All-head, All-tail, Contains-append_left, Contains-append_right}
use Rattle.change_history.specs.History.{History}
use Rattle.jql_bound.specs.declared.operand.Operand.{Operand}
use Rattle.jql_bound.specs.declared.leaf.Subject.{Subject}
use Rattle.jql_bound.specs.declared.leaf.Operator.{Operator}
use Rattle.jql_bound.specs.declared.leaf.Leaf.{Leaf}
use Rattle.jql_meaning.specs.Surroundings.{Surroundings}
use Rattle.jql_meaning.specs.Present.{holds_now, operator_holds, lacks_value}
use Rattle.jql_meaning.specs.Comparison.{equals, stands}
use Rattle.jql_meaning.specs.Edges.{Edge, operand_edges, operands_of}
use Rattle.jql_meaning.specs.Marks.{subject_mark, IsSteady}
use Rattle.jql_meaning.specs.Critical.{IsCriticalNow}
use Rattle.jql_meaning.specs.Ends.{Stays}
use Rattle.jql_meaning.proofs.Meetings.{steady_equals, steady_order, met}
use Rattle.jql_present.specs.Steady.{IsFirstOf}

-- all operands are steady, so the same ones stand for what is compared
any_stays : (s : Surroundings) (h : History) (u t : ℕ) (subject : Subject) (mark : Option ℤ) → subject_mark s h subject ≡ mark → (operands : List Operand) → All (λ operand. IsSteady s u t mark operand) operands → list_any (λ operand. equals s h u subject operand) operands ≡ list_any (λ operand. equals s h t subject operand) operands
any_stays s h u t subject mark is [] all = refl
any_stays s h u t subject mark is (operand ∷ operands) all =
    let head = All-head (λ operand. IsSteady s u t mark operand) operand operands all in
    let same : equals s h u subject operand ≡ equals s h t subject operand = steady_equals s h u t subject operand (rw is head) in
    let rest = any_stays s h u t subject mark is operands (All-tail (λ operand. IsSteady s u t mark operand) operand operands all) in
    λ i. same i || rest i

pub operator_stays : (s : Surroundings) (h : History) (u t : ℕ) (subject : Subject) (mark : Option ℤ) → subject_mark s h subject ≡ mark → (operator : Operator) → All (λ operand. IsSteady s u t mark operand) (operands_of operator) → operator_holds s h u subject operator ≡ operator_holds s h t subject operator
operator_stays s h u t subject mark is (Operator.In operands) all = any_stays s h u t subject mark is operands all
operator_stays s h u t subject mark is (Operator.NotIn operands) all =
    let same = any_stays s h u t subject mark is operands all in λ i. not (lacks_value h subject) && not (same i)
operator_stays s h u t subject mark is (Operator.Compares inequality operand) all =
    let head = All-head (λ operand. IsSteady s u t mark operand) operand [] all in
    ap (is_some_and (stands inequality)) (steady_order s h u t subject operand (rw is head))
operator_stays s h u t subject mark is (Operator.Contains words) all = refl
operator_stays s h u t subject mark is (Operator.Lacks words) all = refl
operator_stays s h u t subject mark is Operator.IsEmpty all = refl
operator_stays s h u t subject mark is Operator.IsNotEmpty all = refl

-- an edge of one operand is one of the comparison's
among : (operands : List Operand) (operand : Operand) (k : ℕ) → k < length operands → slice_index_or operands k operand ≡ operand → (edge : Edge) → Contains (operand_edges operand) edge → Contains (flat_map operand_edges operands) edge
among [] operand k less is edge c = absurd (omega arith)
among (first ∷ operands) operand zero less is edge c = Contains-append_left (operand_edges first) (flat_map operand_edges operands) edge (rw is c)
among (first ∷ operands) operand (suc k) less is edge c = Contains-append_right (operand_edges first) (flat_map operand_edges operands) edge (among operands operand k (omega arith) is edge c)

pub stays : (s : Surroundings) (h : History) (leaf : Leaf) (at : ℕ) (mark : ℤ) (next : Option ℕ) → subject_mark s h leaf.subject ≡ Some mark → IsFirstOf s (operands_of leaf.operator) mark at next → Stays (holds_now s leaf h) (IsCriticalNow s h leaf) at next
unfolding holds_now IsCriticalNow
stays s h leaf at mark None is first = λ t low high. operator_stays s h t at leaf.subject (Some mark) is leaf.operator (first t low high)
stays s h leaf at mark (Some next) is first = record {
  later = first.later;
  in_time = first.in_time;
  critical =
      met s h leaf.subject (flat_map operand_edges (operands_of leaf.operator)) next first.operand (Some mark) is
      (λ edge c. among (operands_of leaf.operator) first.operand first.is_one.0 first.is_one.1 first.is_one.2 edge c)
      first.moves;
  stays = λ t low high. operator_stays s h t at leaf.subject (Some mark) is leaf.operator (first.steady t low high);
}

-- without a mark nothing goes by the moment
no_mark_steady : (s : Surroundings) (u t : ℕ) (operands : List Operand) → All (λ operand. IsSteady s u t None operand) operands
no_mark_steady s u t operands = λ k d inside. tt

pub stays_without_a_mark : (s : Surroundings) (h : History) (leaf : Leaf) (at : ℕ) → subject_mark s h leaf.subject ≡ None → Stays (holds_now s leaf h) (IsCriticalNow s h leaf) at None
unfolding holds_now
stays_without_a_mark s h leaf at is = λ t low high. operator_stays s h t at leaf.subject None is leaf.operator (no_mark_steady s t at (operands_of leaf.operator))
