use Rattle.std.proofs.Common.{◌∷◌, ◌++◌, [], ap, refl, false, string_bytes}
use Rattle.std.specs.Prelude.{encode_utf8_all, chars}
use Rattle.jql_syntax.specs.declared.token.Token.TheVariants.{Quoted}
use Rattle.jql_print.specs.Spelling.{escaped}
use Rattle.jql_print.proofs.Writes.{token_writes}
use Rattle.jql_print.proofs.line.put_quoted.Goals as goal

pub returns : goal.returns
returns c =
    token_writes (string_bytes c.args.line.now.text) (string_bytes c.quote.new.out) (string_bytes c.space.new.line.text) (encode_utf8_all (34 ∷ (escaped (chars c.as_str.result.now) ++ 34 ∷ []))) c.args.line.now.is_tight false (Quoted c.args.text.now)
    c.in_ok-space.ensures
    c.in_ok-quote.ensures
    (ap (λ v. encode_utf8_all (34 ∷ (escaped (chars v) ++ 34 ∷ []))) c.as_str.ensures)
    refl
