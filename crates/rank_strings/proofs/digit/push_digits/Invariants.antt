use Rattle.std.proofs.Common.{◌≡◌, ◌++◌, map, take}
use Rattle.std.specs.String.{string_bytes}
use Rattle.rank_strings.specs.Text.{digit_code}
use Rattle.rank_strings.proofs.digit.push_digits.Given as goal

abbrev pub invariant-loop-digit : goal.invariant-loop-digit
invariant-loop-digit l =
    string_bytes l.text ≡ string_bytes l.initial.text ++ map digit_code (take l.digit-index l.digits)
