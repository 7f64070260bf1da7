use Rattle.std.proofs.Common.{subst, List, ℕ}
use Rattle.std.specs.Prelude.{IfOk}
use Rattle.field_forms.specs.Known.{names_of}
use Rattle.field_forms.specs.ValueTexts.{IsTextOf}
use Rattle.field_forms.proofs.RoundTrip.{texts_read_back}
use Rattle.field_forms.proofs.known.text_of.Goals as goal

pub returns-clause-read : goal.returns-clause-read
returns-clause-read c distinct may =
    let names = names_of c.args.known.now in
    let is = subst (λ (choices : List (List ℕ)). IfOk c.value_text.result (IsTextOf choices c.args.value.now)) c.choices_of.ensures.names c.value_text.ensures in
    texts_read_back names c.args.field.0 c.args.value.now c.value_text.result c.requires.fits is distinct may
