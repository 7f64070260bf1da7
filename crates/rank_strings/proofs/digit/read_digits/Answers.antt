use Rattle.std.proofs.Common.{get_or, refl, arith}
use Rattle.std.proofs.lemmas.Grind.{common_steps, elements}
use Rattle.rank_strings.proofs.Digits.{not_digits}
use Rattle.rank_strings.proofs.digit.read_digits.Goals as goal

pub returns-in_default : goal.returns-in_default
returns-in_default c =
    not_digits c.args.bytes.now c.loop-i.i (get_or c.args.bytes.now c.loop-i.i 0) (omega arith) refl c.in_default.ensures

pub loop-i-preserved : goal.loop-i-preserved
loop-i-preserved c = record {
  digits = grind (arith, elements);
  written = grind (arith, common_steps, c.in-Some.ensures);
}
