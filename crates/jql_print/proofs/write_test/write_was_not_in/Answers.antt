use Rattle.std.proofs.Common.{◌∷◌, ◌∙◌}
use Rattle.jql_syntax.specs.declared.token.Token.TheVariants.{Marked}
use Rattle.jql_syntax.specs.declared.token.Mark.TheVariants.{Not, In}
use Rattle.jql_print.specs.Print.{members_text, each, predicate_text}
use Rattle.jql_print.proofs.Writes.{OnOk-map}
use Rattle.jql_print.proofs.write_test.write_was_not_in.Goals as goal

pub returns : goal.returns
returns c = OnOk-map c.write_predicates.result
    (λ h rest. h rest
    ∙ c.in_ok-write_keyed_members.ensures (each predicate_text c.args.predicates.now rest)
    ∙ c.in_ok-put-2.ensures (Marked In ∷ members_text c.args.members.now (each predicate_text c.args.predicates.now rest))
    ∙ c.in_ok-put.ensures (Marked Not ∷ Marked In ∷ members_text c.args.members.now (each predicate_text c.args.predicates.now rest)))
    c.write_predicates.ensures
