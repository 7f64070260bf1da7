use Rattle.field_forms.proofs.Finding.{few_options}
use Rattle.field_forms.proofs.known.own_field.Goals as goal

pub returns-clause-few : goal.returns-clause-few
returns-clause-few c = few_options c.args.fields.now c.args.no c.field_numbered.result c.requires c.field_numbered.ensures
