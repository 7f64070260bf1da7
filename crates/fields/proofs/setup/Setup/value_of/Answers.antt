use Rattle.field_forms.proofs.Fits.{read_values_fit}
use Rattle.fields.specs.SetupParts.{names}
use Rattle.fields.proofs.setup.Setup.value_of.Goals as goal

pub returns-clause-fits : goal.returns-clause-fits
returns-clause-fits c = read_values_fit (names c.args.self.now) c.args.field.0 c.args.text.now c.read_value.result c.read_value.ensures
