use Rattle.std.proofs.Common.{◌∷◌, ◌∙◌}
use Rattle.jql_syntax.specs.declared.token.Token.TheVariants.{Marked}
use Rattle.jql_syntax.specs.declared.token.Mark.TheVariants.{Close}
use Rattle.jql_print.specs.Print.{separated, item_text}
use Rattle.jql_print.proofs.Writes.{OnOk-map}
use Rattle.jql_print.proofs.write_value.write_list.Goals as goal

pub returns : goal.returns
returns c = OnOk-map c.put-2.result
    (λ h rest. h rest
    ∙ c.in_ok-write_items.ensures (Marked Close ∷ rest)
    ∙ c.in_ok-put.ensures (separated item_text c.args.items.now (Marked Close ∷ rest)))
    c.put-2.ensures
