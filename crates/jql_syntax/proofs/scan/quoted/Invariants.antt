use Rattle.std.proofs.Common.{◌≡◌, ◌≤◌, length, string_bytes}
use Rattle.std.specs.Str.{chars}
use denote.Text.{Utf8}
use denote.Shadow.{shadow}
use Rattle.jql_syntax.specs.Tokens.{quote_at, quoted}
use Rattle.jql_syntax.proofs.scan.quoted.Given as goal
use Rattle.jql_syntax.proofs.Scanning.{quoted_on}

abbrev pub invariant-loop-c : goal.invariant-loop-c
invariant-loop-c l =
    shadow (Utf8 l.rest)
    × (length l.rest ≤ length l.text)
    × (quoted_on (string_bytes l.string) (quote_at l.quote (chars l.rest)) ≡ quoted (quote_at l.quote (chars l.text)))

abbrev pub decreases-loop-c : goal.decreases-loop-c
decreases-loop-c l = length l.rest
