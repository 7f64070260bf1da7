use Rattle.std.proofs.Common.{◌≡◌, ◌++◌, drop, option_map}
use Rattle.serde_json.specs.View.{items_view}
use Rattle.fields.specs.SetupParts.{names}
use Rattle.tracker_keeper.specs.LookingAtValues.{entries_like}
use Rattle.tracker_keeper.proofs.looking_at_groups.entries_like.Given as goal

abbrev pub invariant-loop-item : goal.invariant-loop-item
invariant-loop-item l =
    entries_like (names l.setup) l.stamp.change l.stamp.at l.stamp.author (items_view l.items)
    ≡ option_map (λ more. l.entries ++ more) (entries_like (names l.setup) l.stamp.change l.stamp.at l.stamp.author (items_view (drop l.item-index l.items)))
