-- What is kept of a tracker: its parts by kind and number, the row of each, and the operations that keep an effect.
use Rattle.std.specs.Prelude.{ℕ, ◌+◌, ◌==◌, List, [], ◌∷◌, map, filter, length, slice_get, Option, Some, None, option_map, if◌then◌else◌}
use Rattle.std.specs.List.{find}
use Rattle.std.specs.Option.{option_or, option_map_or}
use Rattle.rising_numbers.specs.ByNumber.{by_number}
use Rattle.field_values.specs.Parts.{Parts}
use Rattle.field_forms.specs.Known.{Names}
use Rattle.fields.specs.SetupParts.{names_in}
use Rattle.change_history.specs.declared.entry.Entry.{Entry}
use Rattle.change_history.specs.declared.entry.Group.{Group}
use Rattle.change_history.specs.History.{History}
use Rattle.field_values.specs.declared.numbers.FilterNo.{FilterNo}
use Rattle.field_values.specs.declared.numbers.IssueNo.{IssueNo}
use Rattle.field_values.specs.declared.numbers.SprintNo.{SprintNo}
use Rattle.field_values.specs.declared.numbers.GroupNo.{GroupNo}
use Rattle.field_values.specs.declared.numbers.UserNo.{UserNo}
use Rattle.field_values.specs.declared.parts.Group.{Group as UserGroup}
use Rattle.external_ids.specs.declared.external_id.ExternalId.{ExternalId}
use Rattle.external_ids.specs.Ids.{external_number}
use Rattle.rank_strings.specs.Rank.{RankParts}
use Rattle.board.specs.Order.{Pair, rank_in}
use Rattle.jql_meaning.specs.Surroundings.{numbered}
use Rattle.sprints.specs.declared.sprint.Sprint.{Sprint}
use Rattle.sprints.specs.declared.state.SprintState.{SprintState}
use Rattle.sprints.specs.Sprint.{future, sprint_of}
use Rattle.board.specs.declared.board.Board.{Board}
use Rattle.rank_balancer.specs.Step.{Move}
use Rattle.tracker_keeper.specs.declared.row.RowOp.{RowOp}
use Rattle.tracker_keeper.specs.declared.row.RowOp.TheVariants.{Put, Drop}
use Rattle.tracker_keeper.specs.declared.part.Part.{Part}
use Rattle.tracker_keeper.specs.declared.part.Part.TheVariants as part
use Rattle.tracker_keeper.specs.declared.part.Format.TheVariants.{Second}
use Rattle.tracker_keeper.specs.Parts.{part_kind, part_number}
use Rattle.tracker_keeper.specs.Bodies.{body_text}
use Rattle.tracker_keeper.specs.Rows.{Rows}
use Rattle.tracker_machine.specs.Machine.{Machine}
use Rattle.tracker_machine.specs.Saved.{SavedFilter, filter_number, board_number, is_board_of}
use Rattle.tracker_machine.specs.Effect.{Effect, with_issue, with_group, with_balance, with_moves}
use Rattle.tracker_machine.specs.Effect.Effect.{NewMoment, NewIssue, NewGroup, NewRank, NewBalance, NewRanks, NewSprint, NewState, NewFilter, NoFilter, NewBoard, NoBoard, NewMembers}

-- ---- parts

abbrev pub setup_part : Machine → Part
setup_part m = part.Setup m.text

-- where the tracker stands
abbrev pub present_part : Machine → Part
present_part m = part.Present m.balance m.change Second m.moment

-- an issue as it was created
abbrev pub issue_part : History → Part
issue_part h = part.Issue h.no h.key h.change h.at h.author h.opening

-- a change group of an issue
abbrev pub group_part : History → Group → Part
group_part h group = part.Group h.no group

abbrev pub rank_part : IssueNo → RankParts → Part
rank_part issue rank = part.Rank issue rank

abbrev pub sprint_part : SprintNo → Sprint → Part
sprint_part sprint_no sprint = part.Sprint sprint_no sprint

abbrev pub filter_part : SavedFilter → Part
filter_part f = part.Filter f.no f.owner f.name f.text

abbrev pub board_part : Board → Part
board_part b = part.Board b.no b.name b.filter

abbrev pub external_part : ExternalId → Part
external_part e = part.External e.no e.id

-- the members of a group
abbrev pub members_part : GroupNo → List UserNo → Part
members_part group members = part.Members group members

-- ---- the part of each kind and number

-- the issue of a number
abbrev pub issue_numbered : List History → ℕ → Option History
issue_numbered histories number = find (λ h. h.no.0 == number) histories

-- the entries of a change
abbrev pub entries_of_change : ℕ → List Entry → List Entry
entries_of_change change entries = filter (λ e. e.change == change) entries

-- the change group that the entries of one change are
abbrev pub group_of : List Entry → Option Group
group_of [] = None
group_of (e ∷ es) =
    Some (record { change = e.change; at = e.at; author = e.author; entries = e ∷ es })

-- the change group of a number, where the issue has it
abbrev pub issue_group : ℕ → History → Option Part
issue_group number h = option_map (group_part h) (group_of (entries_of_change number h.entries))

-- the same of whatever issue has it
abbrev pub group_numbered : List History → ℕ → Option Part
group_numbered [] number = None
group_numbered (h ∷ hs) number = option_or (issue_group number h) (group_numbered hs number)

-- the rank of the issue of a number
abbrev pub rank_numbered : List Pair → ℕ → Option Part
rank_numbered order number = option_map (rank_part (record { 0 = number })) (rank_in order number)

-- the sprint of a number
abbrev pub sprint_numbered : List Sprint → ℕ → Option Part
sprint_numbered sprints number =
    option_map (sprint_part (record { 0 = number })) (sprint_of sprints number)

-- the members of the group of a number
abbrev pub members_numbered : List UserGroup → ℕ → Option Part
members_numbered groups number =
    option_map (λ g. members_part (record { 0 = number }) g.members) (numbered groups number)

-- the one part of a kind, which has number 0
abbrev pub lone : Part → ℕ → Option Part
lone p number = if number == 0 then Some p else None

-- the parts of a kind, by number
pub record Kind : Type 0 where
  pub kind : ℕ
  pub parts : ℕ → Option Part

abbrev pub kind_of : ℕ → (ℕ → Option Part) → Kind
kind_of kind parts = record { kind = kind; parts = parts }

-- the part of a kind and a number, where there is one
abbrev pub part_in : List Kind → ℕ → ℕ → Option Part
part_in [] kind number = None
part_in (k ∷ ks) kind number = if kind == k.kind then k.parts number else part_in ks kind number

abbrev pub kinds : Machine → List Kind
kinds m =
    kind_of 1 (lone (setup_part m))
    ∷ kind_of 2 (lone (present_part m))
    ∷ kind_of 3 (λ n. option_map issue_part (issue_numbered m.histories n))
    ∷ kind_of 4 (group_numbered m.histories)
    ∷ kind_of 5 (rank_numbered m.order)
    ∷ kind_of 6 (λ n. option_map external_part (by_number external_number n m.externals))
    ∷ kind_of 7 (sprint_numbered m.sprints)
    ∷ kind_of 8 (λ n. option_map filter_part (by_number filter_number n m.filters))
    ∷ kind_of 9 (λ n. option_map board_part (by_number board_number n m.boards))
    ∷ kind_of 10 (members_numbered m.setup.group)
    ∷ []

unfoldable pub part_at : Machine → ℕ → ℕ → Option Part
part_at m kind number = part_in (kinds m) kind number

-- ---- rows

-- the rows of a tracker: each part's text at its kind and its number
unfoldable pub rows_of : Machine → Rows
rows_of m kind number = option_map (body_text (names_in m.setup)) (part_at m kind number)

-- a part is put where it belongs
abbrev pub put_part : Names → Part → RowOp
put_part names p = Put (record { kind = part_kind p; no = part_number p; body = body_text names p })

abbrev pub put_parts : Parts → List Part → List RowOp
put_parts setup ps = map (put_part (names_in setup)) ps

-- ---- what is put

-- the change group of the issue at a place
abbrev pub group_parts : List History → ℕ → Group → List Part
group_parts histories place group =
    option_map_or (λ h. group_part h group ∷ []) (slice_get histories place) []

-- the external id of an issue, if it has one
abbrev pub external_parts : IssueNo → Option (List ℕ) → List Part
external_parts issue None = []
external_parts issue (Some id) = external_part (record { no = issue; id = id }) ∷ []

-- the ranks that moves give
abbrev pub rank_parts : List Move → List Part
rank_parts moves = map (λ move. rank_part move.0 move.1) moves

-- a sprint in another state, where it is there
abbrev pub state_parts : List Sprint → SprintNo → SprintState → List Part
state_parts sprints sprint_no state =
    option_map_or (λ s. sprint_part sprint_no (record s { state = state }) ∷ [])
    (sprint_of sprints sprint_no.0) []

-- the parts that an effect changes or makes, by kind
unfoldable pub parts_of : Effect → Machine → List Part
parts_of (NewMoment to) m = present_part (record m { moment = to }) ∷ []
parts_of (NewIssue h rank external) m =
    present_part (with_issue m h rank external) ∷ issue_part h ∷ rank_part h.no rank
    ∷ external_parts h.no external
parts_of (NewGroup place group) m =
    present_part (with_group m place group) ∷ group_parts m.histories place group
parts_of (NewRank issue rank) m = rank_part issue rank ∷ []
parts_of (NewBalance balance) m = present_part (with_balance m balance) ∷ []
parts_of (NewRanks moves) m = present_part (with_moves m moves) ∷ rank_parts moves
parts_of (NewSprint name) m = sprint_part (record { 0 = length m.sprints + 1 }) (future name) ∷ []
parts_of (NewState sprint state) m = state_parts m.sprints sprint state
parts_of (NewFilter f) m = filter_part f ∷ []
parts_of (NoFilter filter_no) m = []
parts_of (NewBoard b) m = board_part b ∷ []
parts_of (NoBoard board_no) m = []
parts_of (NewMembers group members) m = members_part group members ∷ []

-- ---- what is taken out

-- the rows of a filter's boards
abbrev pub board_drops : FilterNo → List Board → List RowOp
board_drops filter_no boards =
    map (λ b. Drop 9 (board_number b)) (filter (is_board_of filter_no) boards)

-- the rows that an effect ends, by kind
unfoldable pub drops_of : Effect → Machine → List RowOp
drops_of (NoFilter filter_no) m = Drop 8 filter_no.0 ∷ board_drops filter_no m.boards
drops_of (NoBoard board_no) m = Drop 9 board_no.0 ∷ []
drops_of _ m = []

-- ---- operations

-- the operations that keep an effect, which puts parts or ends rows
unfoldable pub ops_of : Effect → Machine → List RowOp
ops_of (NoFilter filter_no) m = drops_of (NoFilter filter_no) m
ops_of (NoBoard board_no) m = drops_of (NoBoard board_no) m
ops_of effect m = put_parts m.setup (parts_of effect m)

-- the members of groups that are numbered from this number on
abbrev pub members_from : ℕ → List UserGroup → List Part
members_from first [] = []
members_from first (g ∷ gs) =
    members_part (record { 0 = first }) g.members ∷ members_from (first + 1) gs

abbrev pub all_members : Machine → List Part
all_members m = members_from 1 m.setup.group

-- a new tracker has a setup, stands at its beginning, and has the members that its groups have
abbrev pub opening_parts : Machine → List Part
opening_parts m = setup_part m ∷ present_part m ∷ all_members m

-- the operations that keep a new tracker
unfoldable pub opening_ops : Machine → List RowOp
opening_ops m = put_parts m.setup (opening_parts m)

-- what a tracker's rows of the first format lack: its format, and who is in its groups
abbrev pub migrating_parts : Machine → List Part
migrating_parts m = present_part m ∷ all_members m

-- the operations that make rows of the second format of them
unfoldable pub migrating_ops : Machine → List RowOp
migrating_ops m = put_parts m.setup (migrating_parts m)
