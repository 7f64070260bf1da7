use Rattle.std.proofs.Common.{◌∷◌, ◌∙◌}
use Rattle.jql_syntax.specs.declared.token.Token.TheVariants.{Marked}
use Rattle.jql_syntax.specs.declared.token.Mark.TheVariants.{By, Comma}
use Rattle.jql_print.specs.Print.{key_text, each, keyed}
use Rattle.jql_print.proofs.Writes.{OnOk-map}
use Rattle.jql_print.proofs.whole.write_sorted.Goals as goal

pub returns : goal.returns
returns c = OnOk-map c.write_more_keys.result
    (λ h rest. h rest
    ∙ c.in_ok-write_key.ensures (each (keyed Comma key_text) c.args.more.now rest)
    ∙ c.in_ok-put-2.ensures (key_text c.args.first.now (each (keyed Comma key_text) c.args.more.now rest))
    ∙ c.in_ok-put.ensures (Marked By ∷ key_text c.args.first.now (each (keyed Comma key_text) c.args.more.now rest)))
    c.write_more_keys.ensures
