use Rattle.std.proofs.Common.{◌∷◌, ◌∙◌}
use Rattle.jql_syntax.specs.declared.token.Token.TheVariants.{Marked}
use Rattle.jql_syntax.specs.declared.token.Mark.TheVariants.{Empty}
use Rattle.jql_print.proofs.Writes.{OnOk-map}
use Rattle.jql_print.proofs.write_test.write_is_empty.Goals as goal

pub returns : goal.returns
returns c = OnOk-map c.put-2.result (λ h rest. h rest ∙ c.in_ok-put.ensures (Marked Empty ∷ rest)) c.put-2.ensures
