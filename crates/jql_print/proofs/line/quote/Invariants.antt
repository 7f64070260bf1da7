use Rattle.std.proofs.Common.{◌≡◌, ◌++◌, string_bytes}
use Rattle.std.specs.Prelude.{encode_utf8_all}
use lib.Utf8.{encode}
use Rattle.jql_print.specs.Spelling.{escaped}
use Rattle.jql_print.proofs.line.quote.Given as goal

abbrev pub invariant-loop-c : goal.invariant-loop-c
invariant-loop-c l = string_bytes l.out ≡ string_bytes l.fn.out ++ (encode 34 ++ encode_utf8_all (escaped l.yielded))
