use Rattle.std.proofs.Common.{◌∙◌, refl, false, string_bytes, arith}
use Rattle.jql_syntax.specs.declared.token.Token.TheVariants.{Custom}
use Rattle.jql_print.proofs.Writes.{token_writes, number_bytes}
use Rattle.jql_print.proofs.line.put_field_number.Goals as goal

pub returns : goal.returns
returns c =
    token_writes (string_bytes c.args.line.now.text) (string_bytes c.push_str.new.self) (string_bytes c.space.new.line.text) (c.as_str.result.now) c.args.line.now.is_tight false (Custom c.args.number)
    c.in_ok-space.ensures
    c.in_ok-push_str.ensures.bytes
    (c.as_str.ensures.value ∙ c.in_ok-text.ensures.ok ∙ number_bytes c.args.number (omega arith))
    refl
