use Rattle.std.proofs.Common.{◌∙◌, sym, arith}
use Rattle.row_lines.proofs.Told.{same_number}
use Rattle.row_lines.proofs.line.row_number_at.Goals as goal

pub returns-else-number-lt-NUMBERS : goal.returns-else-number-lt-NUMBERS
returns-else-number-lt-NUMBERS c n small e =
    let same = same_number c.in-Some.number n c.in-Some.ensures.0 (omega (arith, small)) (sym c.in-Some.ensures.1 ∙ e) in
    omega (arith, same, small, c.if-number-lt-NUMBERS.false)
