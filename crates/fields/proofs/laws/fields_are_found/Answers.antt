use Rattle.fields.proofs.FieldNames.{numbers_are_fields, fields_are_found}
use Rattle.fields.proofs.laws.fields_are_found.Goals as goal

pub returns-clause-numbers : goal.returns-clause-numbers
returns-clause-numbers c = numbers_are_fields

pub returns-clause-named : goal.returns-clause-named
returns-clause-named c = fields_are_found
