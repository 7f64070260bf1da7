-- What an accepted call does.
use Rattle.std.specs.Prelude.{◌≡◌, ◌≢◌, ℕ, ◌+◌, ◌-◌, ◌≤◌, List, [], ◌∷◌, ◌++◌, slice_get, slice_set, length, true, Option, Some, None}
use Rattle.std.specs.Option.{option_map_or}
use Rattle.rising_numbers.specs.ByNumber.{by_number, put_by_number, without_number}
use Rattle.field_values.specs.Years.{last_second}
use Rattle.field_values.specs.Parts.{Parts}
use Rattle.field_values.specs.GroupMembers.{with_members, is_user_list}
use Rattle.change_history.specs.declared.entry.Entry.{Entry}
use Rattle.change_history.specs.declared.entry.Group.{Group}
use Rattle.change_history.specs.History.{History}
use Rattle.field_values.specs.declared.numbers.BoardNo.{BoardNo}
use Rattle.field_values.specs.declared.numbers.FilterNo.{FilterNo}
use Rattle.field_values.specs.declared.numbers.GroupNo.{GroupNo}
use Rattle.field_values.specs.declared.numbers.IssueNo.{IssueNo}
use Rattle.field_values.specs.declared.numbers.SprintNo.{SprintNo}
use Rattle.field_values.specs.declared.numbers.UserNo.{UserNo}
use Rattle.external_ids.specs.declared.external_id.ExternalId.{ExternalId}
use Rattle.external_ids.specs.Ids.{external_number, external_named}
use Rattle.rank_strings.specs.Rank.{RankParts}
use Rattle.board.specs.declared.board.Board.{Board}
use Rattle.rank_balancer.specs.declared.balance.Balance.{Balance}
use Rattle.rank_balancer.specs.Balance.{IsMoving, after_start, from_of, to_of}
use Rattle.rank_balancer.specs.Step.{Move, ArePicks, after_move, after_moves}
use Rattle.tracker_ranks.specs.Ranked.{IsGiven, IsNext, with_last, balance_moved}
use Rattle.sprints.specs.declared.state.SprintState.{SprintState}
use Rattle.external_ids.specs.Form.{is_external}
use Rattle.tracker_machine.specs.Machine.{Machine}
use Rattle.tracker_machine.specs.Saved.{SavedFilter, filter_number, board_number, without_boards_of, MaySave, MayMake}
use Rattle.tracker_machine.specs.SprintRules.{with_future, in_state, MayMakeSprint, MayTurn}
use Rattle.tracker_machine.specs.Tracker.{MayOpen, MayGroup}

pub data Effect : Type 0 where
  -- it is this moment now
  NewMoment : ℕ → Effect
  -- there is a new issue, of this rank, with an external id if it has one
  NewIssue : History → RankParts → Option (List ℕ) → Effect
  -- the issue at a place is changed
  NewGroup : ℕ → Group → Effect
  -- an issue has another rank
  NewRank : IssueNo → RankParts → Effect
  -- a rebalancing begins, with this balance
  NewBalance : Balance → Effect
  -- a step of a rebalancing makes these moves
  NewRanks : List Move → Effect
  -- there is a new sprint of this name
  NewSprint : List ℕ → Effect
  -- a sprint starts or is closed, and is in this state from then on
  NewState : SprintNo → SprintState → Effect
  -- a filter is saved, in the place of the one of its number where there is one
  NewFilter : SavedFilter → Effect
  -- a filter is dropped, and its boards with it
  NoFilter : FilterNo → Effect
  -- there is a new board
  NewBoard : Board → Effect
  -- a board is dropped
  NoBoard : BoardNo → Effect
  -- a group has these members, and no others
  NewMembers : GroupNo → List UserNo → Effect

-- the external ids with that of an issue, if it has one
abbrev pub with_external : List ExternalId → IssueNo → Option (List ℕ) → List ExternalId
with_external ids issue None = ids
with_external ids issue (Some id) =
    put_by_number external_number (record { no = issue; id = id }) ids

abbrev pub with_issue : Machine → History → RankParts → Option (List ℕ) → Machine
with_issue m h rank external = record m {
  change = m.change + 1;
  histories = m.histories ++ h ∷ [];
  externals = with_external m.externals h.no external;
  order = with_last m.order h.no rank;
}

-- a history with entries more
abbrev pub longer : History → List Entry → History
longer h entries = record h { entries = h.entries ++ entries }

-- the histories where the one at a place has entries more
abbrev pub grown : List History → ℕ → List Entry → List History
grown histories place entries =
    option_map_or (λ h. slice_set histories place (longer h entries))
    (slice_get histories place) histories

abbrev pub with_group : Machine → ℕ → Group → Machine
with_group m place group =
    record m { change = m.change + 1; histories = grown m.histories place group.entries }

abbrev pub with_new_rank : Machine → IssueNo → RankParts → Machine
with_new_rank m issue rank = record m { order = after_move m.order (issue, rank) }

abbrev pub with_balance : Machine → Balance → Machine
with_balance m balance = record m { balance = balance }

abbrev pub with_moves : Machine → List Move → Machine
with_moves m moves = record m {
  order = after_moves m.order moves;
  balance = balance_moved m.order m.balance moves;
}

abbrev pub with_sprint : Machine → List ℕ → Machine
with_sprint m name = record m { sprints = with_future m.sprints name }

abbrev pub with_state : Machine → SprintNo → SprintState → Machine
with_state m sprint state = record m { sprints = in_state m.sprints sprint.0 state }

abbrev pub with_filter : Machine → SavedFilter → Machine
with_filter m f = record m { filters = put_by_number filter_number f m.filters }

abbrev pub without_filter : Machine → FilterNo → Machine
without_filter m filter_no =
    record m {
      filters = without_number filter_number filter_no.0 m.filters;
      boards = without_boards_of filter_no m.boards;
    }

abbrev pub with_board : Machine → Board → Machine
with_board m b = record m { boards = put_by_number board_number b m.boards }

abbrev pub without_board : Machine → BoardNo → Machine
without_board m board_no = record m { boards = without_number board_number board_no.0 m.boards }

-- the setup where a group has other members
abbrev pub regrouped : Parts → GroupNo → List UserNo → Parts
regrouped setup group members =
    record setup { group = with_members setup.group (group.0 - 1) members }

abbrev pub with_group_members : Machine → GroupNo → List UserNo → Machine
with_group_members m group members = record m { setup = regrouped m.setup group members }

-- the state after an effect
unfoldable pub applied : Effect → Machine → Machine
applied (NewMoment to) m = record m { moment = to }
applied (NewIssue h rank external) m = with_issue m h rank external
applied (NewGroup place group) m = with_group m place group
applied (NewRank issue rank) m = with_new_rank m issue rank
applied (NewBalance balance) m = with_balance m balance
applied (NewRanks moves) m = with_moves m moves
applied (NewSprint name) m = with_sprint m name
applied (NewState sprint state) m = with_state m sprint state
applied (NewFilter f) m = with_filter m f
applied (NoFilter filter_no) m = without_filter m filter_no
applied (NewBoard b) m = with_board m b
applied (NoBoard board_no) m = without_board m board_no
applied (NewMembers group members) m = with_group_members m group members

-- an external id has its form, and no other issue has it
abbrev pub MayName : List ExternalId → Option (List ℕ) → Type 0
MayName ids None = Unit {0}
MayName ids (Some id) = (is_external id ≡ true) × (external_named id ids ≡ None)

-- the group is there, and is to have users of the setup, in their order
pub record MayHave (setup : Parts) (group : GroupNo) (members : List UserNo) : Type 0 where
  pub from_one : 1 ≤ group.0
  pub there : group.0 ≤ length setup.group
  pub listed : is_user_list (length setup.users) members ≡ true

-- an effect is of a tracker that may have it
unfoldable pub IsAllowed : Effect → Machine → Type 0
IsAllowed (NewMoment to) m = (m.moment ≤ to) × (to ≤ last_second)
IsAllowed (NewIssue h rank external) m =
    MayOpen m h × IsNext m.order m.balance h.no rank × MayName m.externals external
IsAllowed (NewGroup place group) m = MayGroup m place group
IsAllowed (NewRank issue rank) m = IsGiven m.order m.balance issue rank
IsAllowed (NewBalance balance) m = after_start m.balance ≡ Some balance
IsAllowed (NewRanks moves) m =
    IsMoving m.balance × ArePicks m.order (from_of m.balance) (to_of m.balance) moves
IsAllowed (NewSprint name) m = MayMakeSprint m.sprints name
IsAllowed (NewState sprint state) m = MayTurn m.moment m.change m.sprints sprint state
IsAllowed (NewFilter f) m = MaySave m.setup m.filters f
IsAllowed (NoFilter filter_no) m = by_number filter_number filter_no.0 m.filters ≢ None
IsAllowed (NewBoard b) m = MayMake m.filters m.boards b
IsAllowed (NoBoard board_no) m = by_number board_number board_no.0 m.boards ≢ None
IsAllowed (NewMembers group members) m = MayHave m.setup group members
