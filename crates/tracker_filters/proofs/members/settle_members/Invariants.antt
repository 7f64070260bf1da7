use Rattle.std.proofs.Common.{◌≡◌, ◌+◌, length, take}
use Rattle.jql_meaning.specs.Surroundings.{surroundings_of}
use Rattle.change_history.specs.History.{histories_of}
use Rattle.tracker_filters.specs.Members.{members_cost}
use Rattle.tracker_filters.proofs.Regrouping.{SettledAsking}
use Rattle.tracker_filters.proofs.members.settle_members.Given as goal

-- the filters before this one are settled, as far as they ask for members
abbrev pub invariant-loop-filter : goal.invariant-loop-filter
invariant-loop-filter g l = record {
  settled : SettledAsking (surroundings_of l.context) l.at l.filters (histories_of l.issues) l.filter-index l.fn.views l.views;
  steps : l.steps ≡ l.fn.steps + members_cost (take l.filter-index l.filters) (length l.issues);
}
