use Rattle.std.proofs.Common.{◌∙◌, sym, ap, Some}
use Rattle.relative_dates.proofs.ReadingLemmas.{terms_of-zero, terms_of-one, terms_of-no_first, terms_of-no_rest, terms_of-both, from_on}
use Rattle.relative_dates.proofs.amount.+terms.Goals as goal

pub returns-then-most-eq0-clause-value : goal.returns-then-most-eq0-clause-value
returns-then-most-eq0-clause-value t c = sym (terms_of-zero _ _ _ c.if-most-eq0.true)

pub returns-then-end-text-clause-value : goal.returns-then-end-text-clause-value
returns-then-end-text-clause-value t c =
    c.term.ensures.value ∙ sym (terms_of-one _ _ _ c.if-most-eq0.false (sym c.first_space-end.ensures.value ∙ c.if-end-text.true))

pub returns-in_err-first-clause-value : goal.returns-in_err-first-clause-value
returns-in_err-first-clause-value t c =
    c.from_residual.ensures ∙ sym (terms_of-no_first c.args.most c.args.units c.args.text.now c.first_space-end.result c.if-most-eq0.false c.first_space-end.ensures.value c.if-end-text.false (sym c.term-2.ensures.value ∙ c.in_err-first.was))

pub returns-in_err-rest-clause-value : goal.returns-in_err-rest-clause-value
returns-in_err-rest-clause-value t c =
    let rest = rw from_on at c.terms.ensures.value in
    c.from_residual-in_err-rest.ensures ∙ sym (terms_of-no_rest c.args.most c.args.units c.args.text.now c.first_space-end.result _ c.if-most-eq0.false c.first_space-end.ensures.value c.if-end-text.false (sym c.term-2.ensures.value ∙ c.in_ok-first.was) (sym rest ∙ c.in_err-rest.was))

pub returns-clause-value : goal.returns-clause-value
returns-clause-value t c =
    let rest = rw from_on at c.terms.ensures.value in
    let both = terms_of-both c.args.most c.args.units c.args.text.now c.first_space-end.result _ _ c.if-most-eq0.false c.first_space-end.ensures.value c.if-end-text.false (sym c.term-2.ensures.value ∙ c.in_ok-first.was) (sym rest ∙ c.in_ok-rest.was) in
    ap Some c.plus.ensures ∙ sym both
