use Rattle.std.proofs.Common.{◌≡◌, ◌++◌, List, drop, string_bytes}
use Rattle.std.specs.Prelude.{encode_utf8_all}
use Rattle.jql_syntax.specs.declared.token.Token.{Token}
use Rattle.jql_print.specs.Print.{each, aspect_text}
use Rattle.jql_print.specs.Spelling.{spellings}
use Rattle.jql_print.proofs.write_test.write_aspects.Given as goal

abbrev pub invariant-loop-aspect : goal.invariant-loop-aspect
invariant-loop-aspect l = (rest : List Token) → string_bytes l.line.text ++ encode_utf8_all (spellings l.line.is_tight (each aspect_text (drop l.aspect-index l.aspects) rest)) ≡ string_bytes l.fn.line.text ++ encode_utf8_all (spellings l.fn.line.is_tight (each aspect_text l.aspects rest))
