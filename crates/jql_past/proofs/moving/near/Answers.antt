use Rattle.std.proofs.Common.{pos, ◌+ℤ◌, ◌-ℤ◌, arith, FitsSigned, w64}
use Rattle.std.proofs.lemmas.Int.{to_z-of_z}
use Rattle.jiff_core.proofs.SignedLemmas.{signed_arith}
use Rattle.jql_past.proofs.moving.near.Goals as goal

pub returns : goal.returns
returns c =
    let second : FitsSigned w64 c.args.second = c.ranges.second in
    let reach : FitsSigned w64 c.args.reach = c.ranges.reach in
    let ahead : FitsSigned w64 c.args.ahead = c.ranges.ahead in
    let before : FitsSigned w64 (c.args.second -ℤ c.args.reach) = omega (arith, signed_arith, c.requires.second, c.requires.reach) in
    let behind : FitsSigned w64 (c.args.second +ℤ c.args.reach) = omega (arith, signed_arith, c.requires.second, c.requires.reach) in
    let one_more : FitsSigned w64 ((c.args.second +ℤ c.args.reach) +ℤ pos 1) = omega (arith, signed_arith, c.requires.second, c.requires.reach) in
    let low : FitsSigned w64 ((c.args.second -ℤ c.args.reach) -ℤ c.args.ahead) = omega (arith, signed_arith, c.requires.ahead, c.requires.second, c.requires.reach) in
    let high : FitsSigned w64 (((c.args.second +ℤ c.args.reach) +ℤ pos 1) -ℤ c.args.ahead) = omega (arith, signed_arith, c.requires.ahead, c.requires.second, c.requires.reach) in
    simp to_z-of_z at c.next_within.ensures
