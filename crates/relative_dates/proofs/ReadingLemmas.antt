-- Numbers and terms, as they are read.
use Rattle.std.proofs.Common.{◌≡◌, ℕ, zero, suc, ◌+◌, ◌-◌, ◌*◌, ◌<◌, ◌≤◌, min, List, [], length, take, drop, get_or, length-drop, refl, sym, ◌∙◌, arith, Bool, not, true, false, ◌&&◌, inl, inr, cond, Some, None, ℤ}
use Rattle.std.specs.Prelude.{◌==◌, nat_le, option_and_then}
use Rattle.std.specs.List.{list_all}
use Rattle.std.specs.Option.{option_map}
use Rattle.std.specs.Char.{is_ascii_digit}
use Rattle.std.proofs.lemmas.Bool.{cases_Bool, ne_eqb}
use Rattle.std.proofs.lemmas.List.{take_all, get_or_default}
use Rattle.std.proofs.lemmas.List.Sums.{fold_more, position_or_len_is, list_all-from_AllPass, AllPass-from_list_all}
use Rattle.std.proofs.lemmas.Bool.Decides.{nat_tests}
use Rattle.relative_dates.specs.declared.amount.Amount.{Amount}
use Rattle.relative_dates.specs.declared.amount.Units.{Units}
use Rattle.relative_dates.specs.declared.term.LocalSecond.{LocalSecond}
use Rattle.relative_dates.specs.declared.term.Term.TheVariants.{Literal, FromNow}
use Rattle.relative_dates.specs.Reading.{number_of, number_up_to, first_space, term_of, terms_of, plus, literal_of, period_of, read_term}

pub first_space-is : (text : List ℕ) (i : ℕ) → i ≤ length text → ((k : ℕ) → k < i → (get_or text k 0 == 32) ≡ false) → (i < length text → get_or text i 0 ≡ 32) → i ≡ first_space text
first_space-is text i in' before here =
    sym (position_or_len_is (λ b. b == 32) text i 0 in' before (λ l. let e = here l in rw e refl))

-- a number of no digits
pub number_of-none : number_of [] ≡ 0
unfolding number_of
number_of-none = refl

-- and of one digit more
pub number_of-more : (text : List ℕ) (i : ℕ) → i < length text → number_of (take (i + 1) text) ≡ 10 * number_of (take i text) + (get_or text i 0 - 48)
unfolding number_of
number_of-more text i h = fold_more (λ number digit. 10 * number + (digit - 48)) 0 text i 0 h

-- numbers from the cap on stay there, whatever digit follows
pub capped : (n c digit : ℕ) → c ≡ min n 10_000 → min (10 * c + digit) 10_000 ≡ min (10 * n + digit) 10_000
capped n c digit e = rw e (omega arith)

pub number_up_to-empty : (most : ℕ) (text : List ℕ) → length text ≡ 0 → number_up_to most text ≡ None
unfolding number_up_to
number_up_to-empty most text e = rw e refl

pub number_up_to-other : (most : ℕ) (text : List ℕ) (i : ℕ) → i < length text → is_ascii_digit (get_or text i 0) ≡ false → number_up_to most text ≡ None
unfolding number_up_to
number_up_to-other most text i in' other =
    elim (cases_Bool (list_all is_ascii_digit text)) [
      | inl each ↦ absurd (let digit = AllPass-from_list_all is_ascii_digit text each i 0 in' in cc)
      | inr some_not ↦ rw some_not (none_left (not (length text == 0)) (nat_le (number_of text) most) (number_of text))
    ]
  where
    none_left : (a b : Bool) (n : ℕ) → cond (a && false && b) (Some n) None ≡ None
    none_left true b n = refl
    none_left false b n = refl

each_digit : (text : List ℕ) → ((k : ℕ) → k < length text → is_ascii_digit (get_or text k 0) ≡ true) → list_all is_ascii_digit text ≡ true
each_digit text digits = list_all-from_AllPass is_ascii_digit text (λ k d h. rw (get_or_default text k d 0 h) (digits k h))

pub number_up_to-fits : (most : ℕ) (text : List ℕ) (n : ℕ) → (length text ≡ 0 → ⊥) → ((k : ℕ) → k < length text → is_ascii_digit (get_or text k 0) ≡ true) → n ≡ min (number_of text) 10_000 → most < 10_000 → n ≤ most → number_up_to most text ≡ Some n
unfolding number_up_to
number_up_to-fits most text n some digits is small fits =
    let same : number_of text ≡ n = omega arith in
    let test : nat_le n most ≡ true = grind (arith, nat_tests) in
    rw (same, ne_eqb (length text) 0 some, each_digit text digits) (rw test refl)

pub number_up_to-large : (most : ℕ) (text : List ℕ) (n : ℕ) → (length text ≡ 0 → ⊥) → ((k : ℕ) → k < length text → is_ascii_digit (get_or text k 0) ≡ true) → n ≡ min (number_of text) 10_000 → most < n → number_up_to most text ≡ None
unfolding number_up_to
number_up_to-large most text n some digits is large =
    let over : most < number_of text = omega arith in
    let test : nat_le (number_of text) most ≡ false = grind (arith, nat_tests) in
    rw (ne_eqb (length text) 0 some, each_digit text digits) (rw test refl)

pub terms_of-zero : (most : ℕ) (units : Units) (text : List ℕ) → most ≡ 0 → terms_of most units text ≡ None
unfolding terms_of
terms_of-zero most units text e = rw e refl

pub terms_of-one : (most : ℕ) (units : Units) (text : List ℕ) → (most ≡ 0 → ⊥) → first_space text ≡ length text → terms_of most units text ≡ term_of units text
unfolding terms_of
terms_of-one zero units text some e = absurd (some refl)
terms_of-one (suc more) units text some e = rw e (rw (same_eqb (length text)) refl)
  where
    same_eqb : (n : ℕ) → (n == n) ≡ true
    same_eqb n = grind (arith, nat_tests)

pub terms_of-more : (most : ℕ) (units : Units) (text : List ℕ) → (most ≡ 0 → ⊥) → (first_space text ≡ length text → ⊥) → terms_of most units text ≡ option_and_then (λ first. option_map (plus first) (terms_of (most - 1) units (drop (first_space text + 1) text))) (term_of units (take (first_space text) text))
unfolding terms_of
terms_of-more zero units text some e = absurd (some refl)
terms_of-more (suc more) units text some e =
    let back : suc more - 1 ≡ more = omega arith in
    rw (ne_eqb (first_space text) (length text) e, back) refl

pub terms_of-no_first : (most : ℕ) (units : Units) (text : List ℕ) (end : ℕ) → (most ≡ 0 → ⊥) → end ≡ first_space text → (end ≡ length text → ⊥) → term_of units (take end text) ≡ None → terms_of most units text ≡ None
terms_of-no_first most units text end some is other first =
    terms_of-more most units text some (λ e. other (is ∙ e)) ∙ rw (← is) (rw first refl)

pub terms_of-no_rest : (most : ℕ) (units : Units) (text : List ℕ) (end : ℕ) (a : Amount) → (most ≡ 0 → ⊥) → end ≡ first_space text → (end ≡ length text → ⊥) → term_of units (take end text) ≡ Some a → terms_of (most - 1) units (drop (end + 1) text) ≡ None → terms_of most units text ≡ None
terms_of-no_rest most units text end a some is other first rest =
    terms_of-more most units text some (λ e. other (is ∙ e)) ∙ rw (← is) (rw (first, rest) refl)

pub terms_of-both : (most : ℕ) (units : Units) (text : List ℕ) (end : ℕ) (a b : Amount) → (most ≡ 0 → ⊥) → end ≡ first_space text → (end ≡ length text → ⊥) → term_of units (take end text) ≡ Some a → terms_of (most - 1) units (drop (end + 1) text) ≡ Some b → terms_of most units text ≡ Some (plus a b)
terms_of-both most units text end a b some is other first rest =
    terms_of-more most units text some (λ e. other (is ∙ e)) ∙ rw (← is) (rw (first, rest) refl)

pub is_zero : (n : ℕ) → (n == 0) ≡ true → n ≡ 0
is_zero n e = grind (arith, nat_tests)

pub is_not_zero : (n : ℕ) → (n == 0) ≡ false → n ≡ 0 → ⊥
is_not_zero n e z = grind (arith, nat_tests)

-- a slice from a place on is what is left there
pub from_on : (text : List ℕ) (n : ℕ) → take (length text - n) (drop n text) ≡ drop n text
from_on text n = take_all (length text - n) (drop n text) (let long : length (drop n text) ≡ length text - n = length-drop n text in omega arith)

pub read_term-literal : (text : List ℕ) (local : LocalSecond) → literal_of text ≡ Some local → read_term text ≡ Some (Literal local)
unfolding read_term
read_term-literal text local e = rw e refl

pub read_term-period : (text : List ℕ) (minutes : ℤ) → literal_of text ≡ None → period_of text ≡ Some minutes → read_term text ≡ Some (FromNow minutes)
unfolding read_term
read_term-period text minutes e f = rw (e, f) refl

pub read_term-none : (text : List ℕ) → literal_of text ≡ None → period_of text ≡ None → read_term text ≡ None
unfolding read_term
read_term-none text e f = rw (e, f) refl
