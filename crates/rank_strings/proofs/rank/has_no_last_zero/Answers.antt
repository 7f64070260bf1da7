use Rattle.std.proofs.Common.{◌≡◌, ◌-◌, get_or, length, arith}
use Rattle.std.proofs.lemmas.Bool.Decides.{nat_tests}
use Rattle.rank_strings.proofs.Digits.{last_or-last}
use Rattle.rank_strings.proofs.rank.has_no_last_zero.Goals as goal

pub returns-in-Some : goal.returns-in-Some
returns-in-Some c =
    let item = c.in-Some.ensures.item in
    let last : c.in-Some.digit.now ≡ get_or c.args.further.now (length c.args.further.now - 1) 0 = item.4 (omega arith) 0 in
    rw (last_or-last 1 c.args.further.now 0 item.3.0, ← last) (grind (arith, nat_tests))
