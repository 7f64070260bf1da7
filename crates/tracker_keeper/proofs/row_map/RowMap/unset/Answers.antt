use Rattle.std.proofs.Common.{None}
use Rattle.tracker_keeper.proofs.Keys.{set_at}
use Rattle.tracker_keeper.proofs.row_map.RowMap.unset.Goals as goal

pub returns : goal.returns
returns c = set_at c.args.kind c.args.no None c.args.self.now.places c.remove.new.self c.remove.ensures.updates.0
