use Rattle.whole_laws.proofs.Connections.{ends_by_bytes}
use Rattle.whole_laws.proofs.connection.serve_one.Goals as goal

pub returns : goal.returns
returns g c =
    ends_by_bytes g.W.Teller.events g.W.Teller.tells g.W.Teller.steps _ _ _ _ _ _ _ _ _ _ _ _ _
    c.serve_connection.ensures.serves c.serve_connection.ensures.read_cause c.serve_connection.ensures.write_cause
