use Rattle.std.proofs.Common.{◌∷◌, ◌∙◌}
use Rattle.jql_syntax.specs.declared.token.Token.TheVariants.{Marked}
use Rattle.jql_syntax.specs.declared.token.Mark.TheVariants.{Open, Close}
use Rattle.jql_print.specs.Print.{argument_text}
use Rattle.jql_print.proofs.Writes.{OnOk-map}
use Rattle.jql_print.proofs.write_value.write_call.Goals as goal

pub returns : goal.returns
returns c = OnOk-map c.put-2.result
    (λ h rest. h rest
    ∙ c.in_ok-write_argument.ensures (Marked Close ∷ rest)
    ∙ c.in_ok-put.ensures (argument_text c.args.call.now.argument (Marked Close ∷ rest))
    ∙ c.in_ok-put_name.ensures (Marked Open ∷ argument_text c.args.call.now.argument (Marked Close ∷ rest)))
    c.put-2.ensures
