-- The first moments at which dates compare otherwise with a mark.
use Rattle.std.proofs.Common.{◌≡◌, ℕ, ◌+◌, ◌-◌, ◌<◌, min, List, [], ◌∷◌, ◌++◌, length, take, get_or, arith, inl, inr, refl, sym, ◌∙◌, ap, subst, Option, Some, None, ℤ}
use Rattle.std.specs.List.{All}
use Rattle.std.proofs.lemmas.Bool.{cases_lt}
use Rattle.std.proofs.lemmas.List.{take_more}
use Rattle.std.proofs.lemmas.List.Elements.{All-nil, All-cons, All-append, Contains-append_left, Contains-append_right}
use Rattle.relative_dates.specs.declared.term.Term.{Term}
use Rattle.relative_dates.specs.Change.{IsNextChange}
use Rattle.jql_bound.specs.declared.operand.Operand.{Operand}
use Rattle.jql_meaning.specs.Surroundings.{Surroundings}
use Rattle.jql_meaning.specs.Marks.{IsSteady}
use Rattle.jql_present.specs.Steady.{IsFirstOf, earlier}

one_steady : (s : Surroundings) (u t : ℕ) (mark : ℤ) (operand : Operand) → IsSteady s u t (Some mark) operand → All (λ operand. IsSteady s u t (Some mark) operand) (operand ∷ [])
one_steady s u t mark operand steady =
    All-cons (λ operand. IsSteady s u t (Some mark) operand) operand [] steady (All-nil (λ operand. IsSteady s u t (Some mark) operand))

-- what a date's next change is to its operand
pub first_of_date : (s : Surroundings) (date : Term) (mark : ℤ) (at : ℕ) (next : Option ℕ) → IsNextChange s.calendar date mark at next → IsFirstOf s (Operand.Date date ∷ []) mark at next
first_of_date s date mark at (Some next) change = record {
  later = change.0;
  in_time = change.1;
  operand = Operand.Date date;
  is_one = (0, omega arith, refl);
  moves = λ same. elim (cases_lt at (next - 1)) [
    | inl later ↦ change.2 (sym same ∙ change.3 (next - 1) later (omega (arith, change.0)))
    | inr now ↦ let is : next - 1 ≡ at = omega (arith, change.0) in change.2 (sym (rw is at same))
  ];
  steady = λ t low high. one_steady s t at mark (Operand.Date date) (elim (cases_lt at t) [
    | inl later ↦ change.3 t later high
    | inr now ↦ let is : t ≡ at = omega arith in rw is refl
  ]);
}
first_of_date s date mark at None change = λ t low high. one_steady s t at mark (Operand.Date date) (elim (cases_lt at t) [
  | inl later ↦ change t later high
  | inr now ↦ let is : t ≡ at = omega arith in rw is refl
])

-- of two lists one after the other, the earlier of both
pub first_of_both : (s : Surroundings) (operands others : List Operand) (mark : ℤ) (at : ℕ) (one other : Option ℕ) → IsFirstOf s operands mark at one → IsFirstOf s others mark at other → IsFirstOf s (operands ++ others) mark at (earlier one other)
first_of_both s operands others mark at None None f g = λ t low high. All-append (λ operand. IsSteady s t at (Some mark) operand) operands others (f t low high) (g t low high)
first_of_both s operands others mark at None (Some other) f g = record {
  later = g.later;
  in_time = g.in_time;
  operand = g.operand;
  is_one = Contains-append_right operands others g.operand g.is_one;
  moves = g.moves;
  steady = λ t low high. All-append (λ operand. IsSteady s t at (Some mark) operand) operands others (f t low (omega (arith, g.in_time))) (g.steady t low high);
}
first_of_both s operands others mark at (Some one) None f g = record {
  later = f.later;
  in_time = f.in_time;
  operand = f.operand;
  is_one = Contains-append_left operands others f.operand f.is_one;
  moves = f.moves;
  steady = λ t low high. All-append (λ operand. IsSteady s t at (Some mark) operand) operands others (f.steady t low high) (g t low (omega (arith, f.in_time)));
}
first_of_both s operands others mark at (Some one) (Some other) f g =
    elim (cases_lt other one) [
      | inl less ↦
          let is : min one other ≡ other = omega arith in
          rw is (record {
            later = g.later;
            in_time = g.in_time;
            operand = g.operand;
            is_one = Contains-append_right operands others g.operand g.is_one;
            moves = g.moves;
            steady = λ t low high. All-append (λ operand. IsSteady s t at (Some mark) operand) operands others (f.steady t low (omega arith)) (g.steady t low high);
          })
      | inr more ↦
          let is : min one other ≡ one = omega arith in
          rw is (record {
            later = f.later;
            in_time = f.in_time;
            operand = f.operand;
            is_one = Contains-append_left operands others f.operand f.is_one;
            moves = f.moves;
            steady = λ t low high. All-append (λ operand. IsSteady s t at (Some mark) operand) operands others (f.steady t low high) (g.steady t low (omega arith));
          })
    ]

-- before the first of a list, and without a date, nothing moves
pub first_of_none : (s : Surroundings) (mark : ℤ) (at : ℕ) → IsFirstOf s [] mark at None
first_of_none s mark at = λ t low high. All-nil (λ operand. IsSteady s t at (Some mark) operand)

-- the step of a loop over operands
pub first_of_more : (s : Surroundings) (operands : List Operand) (mark : ℤ) (at i : ℕ) (operand : Operand) (one other result : Option ℕ) → i < length operands → operand ≡ get_or operands i operand → result ≡ earlier one other → IsFirstOf s (take i operands) mark at one → IsFirstOf s (operand ∷ []) mark at other → IsFirstOf s (take (i + 1) operands) mark at result
first_of_more s operands mark at i operand one other result less is both f g =
    let P : List Operand → Option ℕ → Type 0 = λ os r. IsFirstOf s os mark at r in
    let list : take i operands ++ operand ∷ [] ≡ take (i + 1) operands = ap (λ o. take i operands ++ o ∷ []) is ∙ sym (take_more operands i operand less) in
    subst (λ r. P (take (i + 1) operands) r) (sym both) (subst (λ os. P os (earlier one other)) list (first_of_both s (take i operands) (operand ∷ []) mark at one other f g))

-- of the same operands and the same mark
pub first_of_same : (s : Surroundings) (operands others : List Operand) (mark other_mark : ℤ) (at : ℕ) (result : Option ℕ) → operands ≡ others → mark ≡ other_mark → IsFirstOf s operands mark at result → IsFirstOf s others other_mark at result
first_of_same s operands others mark other_mark at result same same_mark f =
    let P : List Operand → ℤ → Type 0 = λ os m. IsFirstOf s os m at result in
    subst (λ os. P os other_mark) same (subst (λ m. P operands m) same_mark f)
