use Rattle.run_laws.proofs.Exports.{exports_are_read_back}
use Rattle.run_laws.proofs.laws.exports_are_read_back.Goals as goal

pub returns : goal.returns
returns c = exports_are_read_back
