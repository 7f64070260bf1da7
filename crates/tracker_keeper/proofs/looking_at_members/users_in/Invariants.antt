use Rattle.std.proofs.Common.{◌≡◌, ◌++◌, drop, option_map}
use Rattle.serde_json.specs.View.{items_view}
use Rattle.tracker_keeper.specs.LookingAtValues.{users_in}
use Rattle.tracker_keeper.proofs.looking_at_members.users_in.Given as goal

abbrev pub invariant-loop-item : goal.invariant-loop-item
invariant-loop-item l =
    users_in l.setup.users (items_view l.items) ≡ option_map (λ more. l.users ++ more) (users_in l.setup.users (items_view (drop l.item-index l.items)))
