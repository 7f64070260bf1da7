use Rattle.std.proofs.Common.{refl, false, string_bytes}
use Rattle.jql_syntax.specs.declared.token.Token.TheVariants.{Word}
use Rattle.jql_print.proofs.Writes.{token_writes, text_bytes}
use Rattle.jql_print.proofs.line.put_word.Goals as goal

pub returns : goal.returns
returns c =
    token_writes (string_bytes c.args.line.now.text) (string_bytes c.push_str.new.self) (string_bytes c.space.new.line.text) (c.as_str.result.now) c.args.line.now.is_tight false (Word c.args.word.now)
    c.in_ok-space.ensures
    c.in_ok-push_str.ensures.bytes
    (text_bytes c.as_str.result.now c.args.word.now c.as_str.utf8 c.as_str.ensures)
    refl
