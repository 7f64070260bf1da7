use Rattle.tracker_server.proofs.Theirs.{theirs}
use Rattle.tracker_server.proofs.laws.requests_of_a_connection.Goals as goal

pub returns : goal.returns
returns c = theirs
