use Rattle.std.proofs.Common.{◌≡◌, ◌++◌, List, drop, string_bytes}
use Rattle.std.specs.Prelude.{encode_utf8_all}
use Rattle.jql_syntax.specs.View.{views}
use Rattle.jql_syntax.specs.declared.token.Token.{Token}
use Rattle.jql_print.specs.Print.{units_text, conjunctions_text}
use Rattle.jql_print.specs.Spelling.{spellings}
use Rattle.jql_print.proofs.Writes.{units_left, conjunctions_left}
use Rattle.jql_print.proofs.write_expr.+writer.Given as goal

abbrev pub invariant-write_units-loop-i : goal.invariant-write_units-loop-i
invariant-write_units-loop-i l = (rest : List Token) → string_bytes l.line.text ++ encode_utf8_all (spellings l.line.is_tight (units_left l.i (views (drop l.i l.units)) rest)) ≡ string_bytes l.fn.line.text ++ encode_utf8_all (spellings l.fn.line.is_tight (units_text (views l.units) rest))

abbrev pub invariant-write_conjunctions-loop-i : goal.invariant-write_conjunctions-loop-i
invariant-write_conjunctions-loop-i l = (rest : List Token) → string_bytes l.line.text ++ encode_utf8_all (spellings l.line.is_tight (conjunctions_left l.i (views (drop l.i l.conjunctions)) rest)) ≡ string_bytes l.fn.line.text ++ encode_utf8_all (spellings l.fn.line.is_tight (conjunctions_text (views l.conjunctions) rest))
