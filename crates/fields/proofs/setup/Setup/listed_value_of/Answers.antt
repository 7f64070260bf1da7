use Rattle.field_forms.proofs.Fits.{listed_values_fit}
use Rattle.fields.specs.SetupParts.{names}
use Rattle.fields.proofs.setup.Setup.listed_value_of.Goals as goal

pub returns-clause-fits : goal.returns-clause-fits
returns-clause-fits c = listed_values_fit (names c.args.self.now) c.args.field.0 c.args.texts.now c.read_list.result c.read_list.ensures
