-- What the state keeps, and what holds of it.
use Rattle.std.specs.Prelude.{◌≡◌, ◌≤◌, ◌<◌, ℕ, List, Ok, map, length, option_map}
use Rattle.std.specs.List.{All}
use Rattle.fields.specs.declared.setup.Setup.{Setup}
use Rattle.fields.specs.SetupParts.{parts}
use Rattle.field_values.specs.Parts.{Parts}
use Rattle.tracker_limits.specs.Limits.{most_changes}
use Rattle.jql_bound.specs.declared.context.Context.{Context}
use Rattle.jql_meaning.specs.Surroundings.{surroundings_of}
use Rattle.tracker_machine.specs.Machine.{Machine}
use Rattle.tracker_machine.specs.Query.{asked, Query}
use Rattle.tracker_machine.specs.Saved.{SavedFilter}
use Rattle.tracker_machine.specs.Search.{surroundings_in}
use Rattle.tracker_machine.specs.Sprints.{work_of}
use Rattle.tracker_machine.specs.Tracker.{IsTracker}
use Rattle.tracker_issues.specs.Counts.{Tally, IsTally}
use Rattle.tracker_issues.specs.Issues.{Shelf}
use Rattle.external_ids.specs.Ids.{IdList}
use Rattle.tracker_ranks.specs.Ranked.{OrderedIssues}
use Rattle.tracker_filters.specs.declared.filter.Filter.{Filter}
use Rattle.tracker_filters.specs.Watched.{WatchedFilters}
use Rattle.tracker_boards.specs.Boards.{BoardList}
use Rattle.tracker_work.specs.Work.{TrackedWork, HasRoomForSprint}
use Rattle.jql_bound.specs.Condition.{view}
use Rattle.jql_bound.specs.declared.cond.Bound.{Bound}

-- what a query that is bound to a setup asks for
abbrev pub query_of : Bound → Query
query_of bound = record { condition = option_map view bound.cond; keys = bound.order.keys }

-- a filter as the abstract tracker has it
abbrev pub saved_as : Filter → SavedFilter
saved_as f = record { no = f.no; owner = f.owner; name = f.name; text = f.text }

abbrev pub saved_filters : List Filter → List SavedFilter
saved_filters filters = map saved_as filters

-- the abstract tracker's state that the parts of a state are
abbrev pub machine_of : Setup → ℕ → ℕ → Shelf → IdList → OrderedIssues → WatchedFilters → BoardList
    → TrackedWork → Machine
machine_of setup moment change issues externals ranks watched boards work = record {
  text = setup.text;
  setup = parts setup;
  moment = moment;
  change = change;
  sprints = work.seen.sprints;
  histories = map (λ i. i.history) issues.kept;
  externals = externals.ids;
  order = ranks.order;
  balance = ranks.balance;
  filters = saved_filters watched.filters;
  boards = boards.boards;
}

-- the abstract tracker's state; for how many issues there is room, for how many external ids, up to how many issues may have ranks,
-- and for how many entries there is room, issue by issue; the filters with their verdicts; for how many boards there is room; the sprints with what
-- remains of them; and of how many sprints the phases have room where queries ask for them
pub record Held : Type 0 where
  pub machine : Machine
  pub room : ℕ
  pub externals_room : ℕ
  pub ranks_room : ℕ
  pub rooms : List ℕ
  pub watched : WatchedFilters
  pub boards_room : ℕ
  pub work : TrackedWork
  pub phases_room : ℕ

-- there is room for one more sprint
pub record HasSprintRoom (s : Held) : Type 0 where
  pub work : HasRoomForSprint s.work
  pub phases : length s.machine.sprints < s.phases_room

-- the filter asks for what its text asks for when its owner asks it
abbrev pub IsBound : Parts → Filter → Type 0
IsBound setup f = asked setup f.owner.0 f.text ≡ Ok (query_of f.query)

-- the filters have seen the tracker as it is
pub record HaveSeen (m : Machine) (w : WatchedFilters) : Type 0 where
  pub histories : w.histories ≡ m.histories
  pub around : w.around ≡ surroundings_in m.setup m.sprints
  pub moment : w.moment ≡ m.moment

-- what the state keeps true of itself, where it tallies issues by projects so, and has these filters, what remains of sprints, and what
-- queries ask of beside issues
pub record IsState (m : Machine) (tally : Tally) (w : WatchedFilters) (work : TrackedWork)
    (context : Context) : Type 0 where
  pub counted : IsTally tally m.setup m.histories
  pub few_changes : m.change ≤ most_changes
  pub tracker : IsTracker m
  pub seen : HaveSeen m w
  pub bound : All (IsBound m.setup) w.filters
  pub worked : work.seen ≡ work_of m
  pub around : surroundings_of context ≡ surroundings_in m.setup m.sprints
