use Rattle.std.proofs.Common.{arith}
use Rattle.jiff_core.proofs.SignedLemmas.{signed_arith}
use Rattle.civil_dates.proofs.Parts.{date_is}
use Rattle.civil_dates.proofs.laws.parts_of_days.Goals as goal

pub returns : goal.returns
returns c = λ day h.
    let of = date_is day h in
    (((omega (arith, signed_arith), omega (arith, signed_arith, of.late)), of.month, of.day_in), of.is)
