use Rattle.std.proofs.Common.{refl, true, string_bytes}
use Rattle.jql_syntax.specs.declared.token.Token.TheVariants.{Name}
use Rattle.jql_print.proofs.Writes.{token_writes, text_bytes}
use Rattle.jql_print.proofs.line.put_name.Goals as goal

pub returns : goal.returns
returns c =
    token_writes (string_bytes c.args.line.now.text) (string_bytes c.push_str.new.self) (string_bytes c.space.new.line.text) (c.as_str.result.now) c.args.line.now.is_tight true (Name c.args.name.now)
    c.in_ok-space.ensures
    c.in_ok-push_str.ensures.bytes
    (text_bytes c.as_str.result.now c.args.name.now c.as_str.utf8 c.as_str.ensures)
    refl
