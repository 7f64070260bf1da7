-- The parts of a state, from what was made of all rows.
use Rattle.std.specs.Prelude.{◌≡◌, List}
use Rattle.std.specs.List.{All}
use Rattle.std.specs.List.Sorted.{IsPermutation}
use Rattle.jql_meaning.specs.Surroundings.{surroundings_of}
use Rattle.tracker_ranks.specs.Loaded.{numbered_from}
use Rattle.tracker_issues.specs.Counts.{IsTally}
use Rattle.tracker_filters.specs.declared.filter.Filter.{Filter}
use Rattle.tracker_machine.specs.Machine.{Machine}
use Rattle.tracker_machine.specs.Search.{surroundings_in}
use Rattle.tracker_machine.specs.Sprints.{work_of}
use Rattle.tracker_state.specs.State.{HaveSeen, IsBound, machine_of}
use Rattle.tracker_loading.specs.declared.parts.Base.{Base}
use Rattle.tracker_loading.specs.declared.parts.Derived.{Derived}
use Rattle.tracker_loading.specs.declared.parts.Given.{Given}
use Rattle.tracker_loading.specs.Making.{made_of}

-- the abstract tracker that was made
abbrev pub made_with : Base → Given → Machine
made_with base given =
    made_of base.setup given.balance base.change base.moment base.issues base.externals
    given.ranks.items given.sprints given.filters.items base.boards

-- what was made has all that a state needs
pub record IsWhole (m : Machine) (base : Base) (given : Given) : Type 0 where
  -- it tallies the issues by projects
  pub counted : IsTally base.issues.tally m.setup m.histories
  -- each issue has one of the ranks
  pub permuted : IsPermutation (numbered_from 1 given.ranks.items) m.order
  -- each filter asks for what its text asks for when its owner asks it
  pub bound : All (IsBound m.setup) given.filters.items

-- what is derived is that of this tracker, with these filters
pub record IsDerived (m : Machine) (filters : List Filter) (d : Derived) : Type 0 where
  pub around : surroundings_of d.context ≡ surroundings_in m.setup m.sprints
  pub order : d.ranks.order ≡ m.order
  pub balance : d.ranks.balance ≡ m.balance
  pub filters_are : d.filters.filters ≡ filters
  pub seen : HaveSeen m d.filters
  pub worked : d.work.seen ≡ work_of m

-- the abstract tracker of both
abbrev pub machine_with : Base → Derived → Machine
machine_with base d =
    machine_of base.setup base.moment base.change base.issues base.externals d.ranks d.filters
    base.boards d.work
