use Rattle.relative_dates.proofs.OrderLemmas.{second-le}
use Rattle.relative_dates.proofs.term.Term.never_falls.Goals as goal

pub returns : goal.returns
returns c = λ at later le in'. second-le _ _ at later c.first_day.ensures.calendar c.is_bounded.ensures le in'
