use Rattle.std.proofs.Common.{◌≡◌, map, take}
use Rattle.rank_strings.specs.Rank.{AreDigits}
use Rattle.rank_strings.specs.Text.{digit_code}
use Rattle.rank_strings.proofs.digit.read_digits.Given as goal

abbrev pub invariant-loop-i : goal.invariant-loop-i
invariant-loop-i l = record {
  digits : AreDigits (take l.i l.digits);
  written : map digit_code (take l.i l.digits) ≡ take l.i l.bytes;
}
