use Rattle.tracker_sight.proofs.Imported.{imports_are_made_once}
use Rattle.tracker_sight.proofs.laws.imports_are_made_once.Goals as goal

pub returns : goal.returns
returns c = imports_are_made_once
