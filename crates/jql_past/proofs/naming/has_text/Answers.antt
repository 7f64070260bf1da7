use Rattle.std.proofs.Common.{sym}
use Rattle.field_values.specs.declared.numbers.ChoiceNo.{ChoiceNo}
use Rattle.jql_past.proofs.Several.{none_passes}
use Rattle.jql_past.proofs.naming.has_text.Goals as goal

-- choices are no texts
pub returns-in-Set : goal.returns-in-Set
returns-in-Set c = rw c.in-Set.is (sym (none_passes {X = ChoiceNo} c.in-Set.field-0))
