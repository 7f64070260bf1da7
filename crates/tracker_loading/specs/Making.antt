-- A tracker in the making, as the rows that were read have told of it.
use Rattle.std.specs.Prelude.{◌≡◌, ◌≤◌, ◌<◌, ◌+◌, ℕ, suc, List, [], ◌∷◌, map, length, None}
use Rattle.std.specs.List.{All}
use Rattle.std.specs.List.Sorted.{IsPermutation}
use Rattle.fields.specs.declared.setup.Setup.{Setup}
use Rattle.fields.specs.SetupParts.{parts}
use Rattle.rank_strings.specs.Rank.{RankParts, IsRank}
use Rattle.board.specs.Order.{Pair}
use Rattle.external_ids.specs.Ids.{IdList}
use Rattle.rank_balancer.specs.Step.{after_move}
use Rattle.rank_balancer.specs.declared.balance.Balance.{Balance}
use Rattle.sprints.specs.Sprint.{SprintList}
use Rattle.tracker_ranks.specs.Loaded.{numbered_from}
use Rattle.tracker_boards.specs.Boards.{BoardList}
use Rattle.tracker_filters.specs.declared.filter.Filter.{Filter}
use Rattle.tracker_filters.specs.Saved.{number}
use Rattle.tracker_issues.specs.Counts.{Tally, IsTally}
use Rattle.tracker_issues.specs.Issues.{Shelf}
use Rattle.tracker_keeper.specs.declared.part.Format.{Format}
use Rattle.tracker_keeper.specs.declared.part.Format.TheVariants.{Second}
use Rattle.tracker_keeper.specs.declared.part.Part.{Part}
use Rattle.tracker_keeper.specs.declared.part.Part.TheVariants as part
use Rattle.rising_numbers.specs.ByNumber.{RiseFrom, by_number}
use Rattle.tracker_machine.specs.Machine.{Machine}
use Rattle.tracker_machine.specs.Saved.{filter_number, board_number}
use Rattle.tracker_machine.specs.Checks.{entries_kept}
use Rattle.tracker_state.specs.State.{IsBound, saved_filters}
use Rattle.tracker_loading.specs.Turns.{AreCreatedInTurn, IsGroupMoment}
pub use Rattle.tracker_loading.specs.Turns.{IsBehindGroups}
use Rattle.tracker_loading.specs.Taken.{AreTaken}

-- these issues put in one after the other by their ranks, counted up from this number
abbrev pub placed : List Pair → ℕ → List RankParts → List Pair
placed order n [] = order
placed order n (rank ∷ ranks) = placed (after_move order (record { 0 = n }, rank)) (suc n) ranks

-- the issues from 1 on by these ranks
abbrev pub order_of : List RankParts → List Pair
order_of ranks = placed [] 1 ranks

-- the abstract tracker's state that the parts of one in the making are
abbrev pub made_of : Setup → Balance → ℕ → ℕ → Shelf → IdList → List RankParts → SprintList
    → List Filter → BoardList → Machine
made_of setup balance change moment issues externals ranks sprints filters boards = record {
  text = setup.text;
  setup = parts setup;
  moment = moment;
  change = change;
  histories = map (λ i. i.history) issues.kept;
  externals = externals.ids;
  order = order_of ranks;
  balance = balance;
  sprints = sprints.sprints;
  filters = saved_filters filters;
  boards = boards.boards;
}

-- what one in the making keeps true of itself, where it tallies issues by projects so, has these ranks and filters, finds these ranks
-- taken, and notes this moment as that of the last change group
pub record IsMaking (m : Machine) (tally : Tally) (ranks : List RankParts) (filters : List Filter)
    (taken : List RankParts) (group_at : ℕ) : Type 0 where
  pub counted : IsTally tally m.setup m.histories
  -- each issue that has a rank has one
  pub permuted : IsPermutation (numbered_from 1 ranks) m.order
  -- each filter asks for what its text asks for when its owner asks it
  pub bound : All (IsBound m.setup) filters
  -- their numbers rise from 1 on
  pub rising : RiseFrom number 1 filters
  -- the issues stand in the order of their creations
  pub created : AreCreatedInTurn m.histories
  -- the last change group was at that moment
  pub groups : IsGroupMoment m.histories group_at
  -- what was read are ranks, and those are taken
  pub are_ranks : All IsRank ranks
  pub are_taken : AreTaken ranks taken

-- ---- what is read next

-- the part's row stands behind those that were read, by kind and then number: issues come before all groups, groups by their change
-- numbers, external ids by their issues' numbers, and filters and boards by theirs; a rank is that of the first issue that has none yet,
-- and members in rows of the second format are those of the first group that hasn't told its own
unfoldable pub IsNextPart : Format → ℕ → Machine → Part → Type 0
IsNextPart format told m (part.Issue issue key change at author values) =
    entries_kept m.histories ≡ 0
IsNextPart format told m (part.Group issue group) = IsBehindGroups m.histories group.change
IsNextPart format told m (part.Rank issue rank) =
    issue.0 ≤ length m.histories → issue.0 ≡ length m.order + 1
IsNextPart format told m (part.External issue external) = All (λ e. e.no.0 < issue.0) m.externals
IsNextPart format told m (part.Filter filter_no owner name jql) =
    by_number filter_number filter_no.0 m.filters ≡ None
IsNextPart format told m (part.Board board_no name filter) =
    by_number board_number board_no.0 m.boards ≡ None
IsNextPart format told m (part.Members group members) = format ≡ Second → group.0 ≡ told + 1
IsNextPart format told m _ = Unit {0}
