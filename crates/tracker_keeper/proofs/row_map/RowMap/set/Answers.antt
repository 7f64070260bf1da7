use Rattle.std.proofs.Common.{Some}
use Rattle.tracker_keeper.proofs.Keys.{set_at}
use Rattle.tracker_keeper.proofs.row_map.RowMap.set.Goals as goal

pub returns-clause-done : goal.returns-clause-done
returns-clause-done c = set_at c.args.kind c.args.no (Some c.args.body) c.args.self.now.places c.insert.new.self c.in_ok-before.ensures.updates.0
