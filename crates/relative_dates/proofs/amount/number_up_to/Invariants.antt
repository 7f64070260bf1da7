use Rattle.std.proofs.Common.{◌≡◌, ℕ, ◌<◌, get_or, true, take, min}
use Rattle.std.specs.Char.{is_ascii_digit}
use Rattle.relative_dates.specs.Reading.{number_of}
use Rattle.relative_dates.proofs.amount.number_up_to.Given as goal

abbrev pub invariant-loop-digit : goal.invariant-loop-digit
invariant-loop-digit l = record {
  digits : (k : ℕ) → k < l.digit-index → is_ascii_digit (get_or l.text k 0) ≡ true;
  number : l.number ≡ min (number_of (take l.digit-index l.text)) 10_000;
}
