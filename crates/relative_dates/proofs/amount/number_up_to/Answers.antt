use Rattle.std.proofs.Common.{◌∙◌, sym, refl, arith, below_more}
use Rattle.std.proofs.lemmas.List.{take_all}
use Rattle.relative_dates.proofs.ReadingLemmas.{is_zero, is_not_zero, number_of-none, number_of-more, capped, number_up_to-empty, number_up_to-other, number_up_to-fits, number_up_to-large}
use Rattle.relative_dates.proofs.amount.number_up_to.Goals as goal

pub returns-then-is_empty-clause-value : goal.returns-then-is_empty-clause-value
returns-then-is_empty-clause-value c = sym (number_up_to-empty _ _ (is_zero _ (sym c.is_empty.ensures ∙ c.if-is_empty.true)))

pub loop-digit-init : goal.loop-digit-init
loop-digit-init c = record { digits = λ k h. absurd (omega arith); number = rw number_of-none refl }

pub returns-then-not-is_ascii_digit-clause-value : goal.returns-then-not-is_ascii_digit-clause-value
returns-then-not-is_ascii_digit-clause-value c =
    sym (number_up_to-other _ _ c.loop-digit.digit-index c.loop-digit-test.true (sym c.is_ascii_digit.ensures.value ∙ c.if-not-is_ascii_digit.true))

pub loop-digit-preserved : goal.loop-digit-preserved
loop-digit-preserved c = record {
  digits = below_more _ _ c.loop-digit.invariant.digits (sym c.is_ascii_digit.ensures.value ∙ c.if-not-is_ascii_digit.false);
  number = rw (number_of-more _ c.loop-digit.digit-index c.loop-digit-test.true) (c.min-number.ensures ∙ rw c.from.ensures (capped _ _ _ c.loop-digit.invariant.number));
}

pub returns-then-number-most-clause-value : goal.returns-then-number-most-clause-value
returns-then-number-most-clause-value c =
    let whole = take_all c.loop-digit.digit-index c.args.text.now c.loop-digit-test.false in
    sym (number_up_to-fits _ _ _ (is_not_zero _ (sym c.is_empty.ensures ∙ c.if-is_empty.false)) (λ k h. c.loop-digit.invariant.digits k (omega (arith, c.loop-digit-test.false))) (rw whole at c.loop-digit.invariant.number) c.requires c.if-number-most.true)

pub returns-else-number-most-clause-value : goal.returns-else-number-most-clause-value
returns-else-number-most-clause-value c =
    let whole = take_all c.loop-digit.digit-index c.args.text.now c.loop-digit-test.false in
    sym (number_up_to-large _ _ c.loop-digit.number (is_not_zero _ (sym c.is_empty.ensures ∙ c.if-is_empty.false)) (λ k h. c.loop-digit.invariant.digits k (omega (arith, c.loop-digit-test.false))) (rw whole at c.loop-digit.invariant.number) c.if-number-most.false)
