use Rattle.std.proofs.Common.{◌≡◌, ◌++◌, List, drop, string_bytes}
use Rattle.std.specs.Prelude.{encode_utf8_all}
use Rattle.jql_syntax.specs.declared.token.Mark.TheVariants.{Comma}
use Rattle.jql_syntax.specs.declared.token.Token.{Token}
use Rattle.jql_print.specs.Print.{each, keyed, key_text}
use Rattle.jql_print.specs.Spelling.{spellings}
use Rattle.jql_print.proofs.whole.write_more_keys.Given as goal

abbrev pub invariant-loop-key : goal.invariant-loop-key
invariant-loop-key l = (rest : List Token) → string_bytes l.line.text ++ encode_utf8_all (spellings l.line.is_tight (each (keyed Comma key_text) (drop l.key-index l.keys) rest)) ≡ string_bytes l.fn.line.text ++ encode_utf8_all (spellings l.fn.line.is_tight (each (keyed Comma key_text) l.keys rest))
