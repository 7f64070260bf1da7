use Rattle.std.proofs.Common.{◌∙◌, sym, FitsSigned, w32, rules}
use Rattle.std.proofs.lemmas.Int.{to_z-of_z}
use Rattle.relative_dates.proofs.ReadingLemmas.{read_term-literal, read_term-period, read_term-none}
use Rattle.relative_dates.proofs.term.Term.read.Goals as goal

pub returns-in-Some : goal.returns-in-Some
returns-in-Some c =
    let is = rw c.as_bytes-text.ensures.value at c.literal.ensures in
    sym (read_term-literal _ _ (sym is ∙ c.in-Some.is))

pub returns-in-Some-period : goal.returns-in-Some-period
returns-in-Some-period c =
    let literal = rw c.as_bytes-text.ensures.value at c.literal.ensures in
    let period = rw c.as_bytes-text.ensures.value at c.period.ensures in
    let minutes : FitsSigned w32 c.in-Some-period.minutes = search rules in
    simp to_z-of_z (sym (read_term-period _ _ (sym literal ∙ c.in_default.is) (sym period ∙ c.in-Some-period.is)))

pub returns-in-None : goal.returns-in-None
returns-in-None c =
    let literal = rw c.as_bytes-text.ensures.value at c.literal.ensures in
    let period = rw c.as_bytes-text.ensures.value at c.period.ensures in
    sym (read_term-none _ (sym literal ∙ c.in_default.is) (sym period ∙ c.in-None.is))
