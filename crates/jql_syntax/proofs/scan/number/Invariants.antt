use Rattle.std.proofs.Common.{◌≡◌, ◌≤◌, length, fold}
use Rattle.std.specs.Str.{chars}
use denote.Text.{Utf8}
use denote.Shadow.{shadow}
use Rattle.std.specs.Char.{is_ascii_digit}
use Rattle.relative_dates.specs.Reading.{number_of}
use Rattle.jql_syntax.specs.Tokens.{front, past, numbered}
use Rattle.jql_syntax.proofs.scan.number.Given as goal
use Rattle.jql_syntax.proofs.Scanning.{with_digit}

abbrev pub invariant-loop-c : goal.invariant-loop-c
invariant-loop-c l =
    shadow (Utf8 l.rest)
    × (length l.rest ≤ length l.text)
    × (l.number ≤ 199_999)
    × (numbered (fold with_digit l.number (front is_ascii_digit (chars l.rest))) ≡ numbered (number_of (front is_ascii_digit (chars l.text))))
    × (past is_ascii_digit (chars l.rest) ≡ past is_ascii_digit (chars l.text))

abbrev pub decreases-loop-c : goal.decreases-loop-c
decreases-loop-c l = length l.rest
