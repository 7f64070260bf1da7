use Rattle.field_forms.specs.Known.{names_of}
use Rattle.field_forms.proofs.Fits.{read_values_fit}
use Rattle.field_forms.proofs.known.value_of.Goals as goal

pub returns-clause-fits : goal.returns-clause-fits
returns-clause-fits c = read_values_fit (names_of c.args.known.now) c.args.field.0 c.args.text.now c.read_value.result c.read_value.ensures
