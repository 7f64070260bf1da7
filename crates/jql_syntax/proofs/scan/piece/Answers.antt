use Rattle.std.proofs.Common.{arith}
use Rattle.std.specs.Str.{chars}
use Rattle.std.proofs.lemmas.Str.{chars-nil}
use Rattle.jql_syntax.proofs.Scanning.{banned_piece}
use Rattle.jql_syntax.proofs.scan.piece.Goals as goal

pub returns-then-is_banned : goal.returns-then-is_banned
returns-then-is_banned c =
    record { value = rw chars-nil (banned_piece c.args.c (chars c.args.rest.now) c.in_default.ensures.value c.if-is_quote.ensures c.if-is_banned.ensures); shorter = omega arith }
