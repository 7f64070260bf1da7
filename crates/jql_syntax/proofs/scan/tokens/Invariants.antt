use Rattle.std.proofs.Common.{◌≤◌, length}
use Rattle.std.specs.Str.{chars}
use denote.Text.{Utf8}
use denote.Shadow.{shadow}
use Rattle.jql_syntax.specs.Tokens.{tokens}
use Rattle.jql_syntax.proofs.Scanning.{Upto}
use Rattle.jql_syntax.proofs.scan.tokens.Given as goal

abbrev pub invariant-tokens : goal.invariant-tokens
invariant-tokens l = shadow (Utf8 l.rest) × Upto l.tokens.items (length l.text) (length l.rest) (chars l.rest) (tokens l.text) × (length l.rest ≤ length l.text)

abbrev pub decreases-tokens : goal.decreases-tokens
decreases-tokens l = length l.rest
