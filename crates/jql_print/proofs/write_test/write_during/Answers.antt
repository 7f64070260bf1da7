use Rattle.std.proofs.Common.{◌∷◌, ◌∙◌}
use Rattle.jql_syntax.specs.declared.token.Token.TheVariants.{Marked}
use Rattle.jql_syntax.specs.declared.token.Mark.TheVariants.{Open, Comma, Close}
use Rattle.jql_print.specs.Print.{value_text}
use Rattle.jql_print.proofs.Writes.{OnOk-map}
use Rattle.jql_print.proofs.write_test.write_during.Goals as goal

pub returns : goal.returns
returns c = OnOk-map c.put-2.result
    (λ h rest. h rest
    ∙ c.in_ok-write_keyed_value-2.ensures (Marked Close ∷ rest)
    ∙ c.in_ok-write_keyed_value.ensures (Marked Comma ∷ value_text c.args.end.now (Marked Close ∷ rest))
    ∙ c.in_ok-put.ensures (Marked Open ∷ value_text c.args.start.now (Marked Comma ∷ value_text c.args.end.now (Marked Close ∷ rest))))
    c.put-2.ensures
