use Rattle.std.proofs.Common.{◌≡◌, ◌++◌, List, drop, string_bytes}
use Rattle.std.specs.Prelude.{encode_utf8_all}
use Rattle.jql_syntax.specs.declared.token.Mark.TheVariants.{Comma}
use Rattle.jql_syntax.specs.declared.token.Token.{Token}
use Rattle.jql_print.specs.Print.{each, keyed, item_text}
use Rattle.jql_print.specs.Spelling.{spellings}
use Rattle.jql_print.proofs.write_value.write_more_items.Given as goal

abbrev pub invariant-loop-item : goal.invariant-loop-item
invariant-loop-item l = (rest : List Token) → string_bytes l.line.text ++ encode_utf8_all (spellings l.line.is_tight (each (keyed Comma item_text) (drop l.item-index l.items) rest)) ≡ string_bytes l.fn.line.text ++ encode_utf8_all (spellings l.fn.line.is_tight (each (keyed Comma item_text) l.items rest))
