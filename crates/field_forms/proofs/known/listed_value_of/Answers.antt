use Rattle.field_forms.specs.Known.{names_of}
use Rattle.field_forms.proofs.Fits.{listed_values_fit}
use Rattle.field_forms.proofs.known.listed_value_of.Goals as goal

pub returns-clause-fits : goal.returns-clause-fits
returns-clause-fits c = listed_values_fit (names_of c.args.known.now) c.args.field.0 c.args.texts.now c.read_list.result c.read_list.ensures
