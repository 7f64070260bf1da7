use Rattle.std.proofs.Common.{◌∷◌, ◌∙◌}
use Rattle.jql_syntax.specs.declared.token.Token.TheVariants.{Marked}
use Rattle.jql_syntax.specs.declared.token.Mark.TheVariants.{In}
use Rattle.jql_print.specs.Print.{members_text}
use Rattle.jql_print.proofs.Writes.{OnOk-map}
use Rattle.jql_print.proofs.write_test.write_not_in.Goals as goal

pub returns : goal.returns
returns c = OnOk-map c.write_keyed_members.result (λ h rest. h rest ∙ c.in_ok-put.ensures (Marked In ∷ members_text c.args.members.now rest)) c.write_keyed_members.ensures
