use Rattle.std.proofs.Common.{◌≡◌, false, true, IsSome, subst}
use Rattle.tracker_keeper.proofs.row_map.RowMap.set_body.Goals as goal

pub unreachable-requires : goal.unreachable-requires
unreachable-requires c = let there : false ≡ true = subst IsSome c.in_default.ensures.absent c.requires in absurd (cc)
