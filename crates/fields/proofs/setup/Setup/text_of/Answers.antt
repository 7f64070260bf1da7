use Rattle.std.proofs.Common.{◌≡◌, Some, subst, sym}
use Rattle.std.specs.Prelude.{IfOk}
use Rattle.field_forms.specs.Names.{AreDistinct}
use Rattle.field_forms.specs.Known.{Names, choices_of, value_of}
use Rattle.fields.specs.SetupParts.{parts}
use Rattle.fields.proofs.Choices.{choices_distinct}
use Rattle.fields.proofs.setup.Setup.text_of.Goals as goal

pub returns-clause-read : goal.returns-clause-read
returns-clause-read c may =
    let lent = c.known.ensures.names in
    let distinct = choices_distinct (parts c.args.self.now) c.args.self.now.sound c.args.field.0 in
    let distinct_lent = subst (λ (names : Names). AreDistinct (choices_of names c.args.field.0)) (sym lent) distinct in
    subst (λ (names : Names). IfOk c.text_of.result (λ text. value_of names c.args.field.0 text ≡ Some c.args.value.now)) lent (c.text_of.ensures.read distinct_lent may)
