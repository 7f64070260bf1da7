use Rattle.std.proofs.Common.{rules, nat_lt}
use Rattle.std.proofs.lemmas.Fn.{always_returns_same}
use Rattle.std.proofs.lemmas.List.Sorted.{IsPartitionedBy-ltb}
use Rattle.change_history.specs.History.{RoomyHistory}
use Rattle.tracker_loading.proofs.Turns.{changes_rise, place_found}
use Rattle.tracker_loading.proofs.turn.count_before.Goals as goal

-- the closure says whether an issue's change number is smaller
pub returns : goal.returns
returns c =
    let facts = c.partition_point.ensures in
    let is = c.args.issues.now in
    place_found is c.args.change c.partition_point.result facts.bound
    (facts.partitioned (λ (i : RoomyHistory). nat_lt i.history.change c.args.change) (always_returns_same _ _ _ (λ a b g called. search rules))
    (IsPartitionedBy-ltb (λ (i : RoomyHistory). i.history.change) is c.args.change (changes_rise is c.requires)))
