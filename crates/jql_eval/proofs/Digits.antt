-- Numbers that are read digit by digit.
use Rattle.std.proofs.Common.{◌≡◌, ℕ, ◌+◌, ◌*◌, ◌-◌, ◌<◌, ◌≤◌, min, List, length, get_or, take, ap, sym, ◌∙◌, arith, inl, inr, lt-ltb, le-ltb, if◌then◌else◌}
use Rattle.std.proofs.lemmas.Bool.{cases_lt}
use Rattle.std.proofs.lemmas.List.{take_more}
use Rattle.std.proofs.lemmas.List.Sums.{fold_push}
use Rattle.jql_meaning.specs.Order.{number_in}
use Rattle.jql_eval.specs.Numbers.{digit_before, number_before, lead}

-- one digit more
pub number_more : (digits : List ℕ) (left : ℕ) → number_before digits left ≡ 10 * number_before digits (left + 1) + digit_before digits left
number_more digits left =
    elim (cases_lt left (length digits)) [
      | inl inside ↦
          let n = length digits - (left + 1) in
          let behind : length digits - left ≡ n + 1 = omega arith in
          let place : length digits - 1 - left ≡ n = omega arith in
          let front = ap (λ (k : ℕ). number_in (take k digits)) behind ∙ ap number_in (take_more digits n 0 (omega arith)) ∙ fold_push (λ (number digit : ℕ). 10 * number + (digit - 48)) 0 (take n digits) (get_or digits n 0) in
          let last : digit_before digits left ≡ get_or digits n 0 - 48 = λ i. if lt-ltb left (length digits) inside i then get_or digits (place i) 0 - 48 else 0 in
          omega (arith, front, last)
      | inr outside ↦
          let none : length digits - left ≡ 0 = omega arith in
          let nothing : length digits - (left + 1) ≡ 0 = omega arith in
          let last : digit_before digits left ≡ 0 = λ i. if le-ltb left (length digits) outside i then get_or digits (length digits - 1 - left) 0 - 48 else 0 in
          omega (arith, ap (λ (k : ℕ). number_in (take k digits)) none, ap (λ (k : ℕ). number_in (take k digits)) nothing, last)
    ]

-- the lead over another number, after one digit more of both
pub lead_more : (n m a b : ℕ) → a ≤ 207 → b ≤ 207 → lead (10 * n + a) (10 * m + b) ≡ min (10 * lead n m + a - (10 * lead m n + b)) 1_000
lead_more n m a b small also = omega arith

-- the step of the loop over the digits
pub lead_on : (one other : List ℕ) (left ahead behind digit opposite : ℕ) (result : ℕ) → 0 < left → ahead ≡ lead (number_before one left) (number_before other left) → behind ≡ lead (number_before other left) (number_before one left) → digit ≡ digit_before one (left - 1) → opposite ≡ digit_before other (left - 1) → digit ≤ 207 → opposite ≤ 207 → result ≡ min (10 * ahead + digit - (10 * behind + opposite)) 1_000 → result ≡ lead (number_before one (left - 1)) (number_before other (left - 1))
lead_on one other left ahead behind digit opposite result some leads follows is also small slight made =
    let on : left - 1 + 1 ≡ left = omega arith in
    let n = number_before one left in
    let m = number_before other left in
    let first : number_before one (left - 1) ≡ 10 * n + digit = number_more one (left - 1) ∙ (λ i. 10 * number_before one (on i) + sym is i) in
    let second : number_before other (left - 1) ≡ 10 * m + opposite = number_more other (left - 1) ∙ (λ i. 10 * number_before other (on i) + sym also i) in
    made ∙ (λ i. min (10 * leads i + digit - (10 * follows i + opposite)) 1_000) ∙ sym (lead_more n m digit opposite small slight) ∙ (λ i. lead (sym first i) (sym second i))
