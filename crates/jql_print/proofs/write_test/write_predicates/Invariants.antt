use Rattle.std.proofs.Common.{◌≡◌, ◌++◌, List, drop, string_bytes}
use Rattle.std.specs.Prelude.{encode_utf8_all}
use Rattle.jql_syntax.specs.declared.token.Token.{Token}
use Rattle.jql_print.specs.Print.{each, predicate_text}
use Rattle.jql_print.specs.Spelling.{spellings}
use Rattle.jql_print.proofs.write_test.write_predicates.Given as goal

abbrev pub invariant-loop-predicate : goal.invariant-loop-predicate
invariant-loop-predicate l = (rest : List Token) → string_bytes l.line.text ++ encode_utf8_all (spellings l.line.is_tight (each predicate_text (drop l.predicate-index l.predicates) rest)) ≡ string_bytes l.fn.line.text ++ encode_utf8_all (spellings l.fn.line.is_tight (each predicate_text l.predicates rest))
