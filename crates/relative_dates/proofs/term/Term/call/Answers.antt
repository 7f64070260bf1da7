use Rattle.std.proofs.Common.{◌∙◌, sym, refl}
use Rattle.relative_dates.specs.Call.{call_of}
use Rattle.relative_dates.proofs.term.Term.call.Goals as goal

pub returns-in-Some : goal.returns-in-Some
unfolding call_of
returns-in-Some c = c.answer.ensures ∙ rw (sym c.function_named.ensures ∙ c.in-Some.is) refl

pub returns-in-None : goal.returns-in-None
unfolding call_of
returns-in-None c = rw (sym c.function_named.ensures ∙ c.in-None.is) refl
