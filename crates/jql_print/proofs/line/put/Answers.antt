use Rattle.std.proofs.Common.{◌∷◌, ◌++◌, [], ◌||◌, if◌then◌else◌, ◌∙◌, ap, string_bytes}
use Rattle.jql_syntax.specs.declared.token.Token.TheVariants.{Marked}
use Rattle.jql_print.proofs.Writes.{token_writes, mark_bytes}
use Rattle.jql_print.proofs.line.put.Goals as goal

pub returns : goal.returns
returns c =
    let old = string_bytes c.args.line.now.text in
    token_writes old (string_bytes c.push_str.new.self) (string_bytes c.space.new.line.text) c.spelling.result.now c.args.line.now.is_tight c.is_tight-line.result (Marked c.args.mark)
    (c.in_ok-space.ensures ∙ ap (λ v. old ++ (if c.args.line.now.is_tight || v then [] else 32 ∷ [])) c.closes.ensures)
    c.in_ok-push_str.ensures.bytes
    (c.spelling.ensures ∙ mark_bytes c.args.mark)
    c.is_tight-line.ensures
