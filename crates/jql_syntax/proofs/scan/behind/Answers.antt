use Rattle.std.proofs.Common.{arith}
use Rattle.std.proofs.lemmas.Str.{chars-nil}
use Rattle.jql_syntax.proofs.scan.behind.Goals as goal

pub returns-in-Bad : goal.returns-in-Bad
returns-in-Bad c = record { value = rw c.in-Bad.is chars-nil; shorter = omega arith }
