use Rattle.std.proofs.Common.{ap, sym}
use Rattle.std.specs.Prelude.{option_and_then}
use Rattle.serde_json.specs.Find.{as_object}
use Rattle.call_lines.proofs.AskedLines.{data_of-no_text}
use Rattle.call_lines.proofs.body.members_in.Goals as goal

pub returns-in-Err : goal.returns-in-Err
returns-in-Err c = sym (ap (option_and_then as_object) (data_of-no_text _ c.in-Err.ensures.cases.0))
