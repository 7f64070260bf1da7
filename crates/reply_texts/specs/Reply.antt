-- The text of a reply: compact JSON.
use Rattle.std.specs.Prelude.{ℕ, ℤ, Bool, List, [], ◌∷◌, ◌++◌, Option, Some, None, codes, decimal, map}
use Rattle.serde_json.specs.Data.{Data, null, boolean, string, array, object, item, no_items, Members, member, no_members, put}
use Rattle.serde_json.specs.View.{items_of}
use Rattle.serde_json.specs.Written.{compact_text}
use Rattle.field_forms.specs.TextLists.{texts_data}
use Rattle.json_texts.specs.JsonData.{natural, integer, natural_or_null, text_or_null}
use Rattle.reply_texts.specs.Described.{describe_data}
use Rattle.tracker_calls.specs.declared.reply.Reply.{Reply}
use Rattle.tracker_calls.specs.declared.reply.Reply.TheVariants as reply
use Rattle.tracker_calls.specs.declared.reply.Answer.{Answer}
use Rattle.tracker_calls.specs.declared.reply.Answer.TheVariants as answer
use Rattle.tracker_calls.specs.declared.reply.Shown.{Shown}
use Rattle.tracker_calls.specs.declared.reply.Shown.TheVariants as shown
use Rattle.tracker_calls.specs.declared.reply.ShownField.{ShownField}
use Rattle.tracker_calls.specs.declared.reply.ToldEntry.{ToldEntry}
use Rattle.tracker_calls.specs.declared.reply.RankedKey.{RankedKey}
use Rattle.tracker_calls.specs.declared.reply.Column.{Column}
use Rattle.tracker_calls.specs.declared.reply.BalanceState.{BalanceState}
use Rattle.tracker_calls.specs.declared.reply.BalanceState.TheVariants as state
use Rattle.tracker_calls.specs.declared.cause.BalanceKept.{BalanceKept}
use Rattle.tracker_calls.specs.declared.cause.BalanceKept.TheVariants as kept
use Rattle.tracker_calls.specs.declared.reply.BurnedRow.{BurnedRow}
use Rattle.tracker_calls.specs.declared.listed.ListedIssue.{ListedIssue}
use Rattle.tracker_calls.specs.declared.listed.ToldFilter.{ToldFilter}
use Rattle.tracker_calls.specs.declared.listed.ToldBoard.{ToldBoard}
use Rattle.tracker_calls.specs.declared.listed.ToldSprint.{ToldSprint}
use Rattle.tracker_calls.specs.declared.reply.SprintPhase.{SprintPhase}
use Rattle.tracker_calls.specs.declared.reply.SprintPhase.TheVariants as phase
use Rattle.field_values.specs.declared.rules.Permission.{Permission}
use Rattle.field_values.specs.declared.rules.Permission.TheVariants as permission
use Rattle.tracker_limits.specs.Limits.{most_boards, most_entries, most_filters, most_issues, most_sprints, most_text_bytes}
use Rattle.tracker_calls.specs.declared.reply.Refusal.{Refusal}
use Rattle.tracker_calls.specs.declared.cause.Cause.{Cause}
use Rattle.tracker_calls.specs.declared.cause.Cause.TheVariants as cause
use Rattle.tracker_calls.specs.declared.reply.Refusal.TheVariants as refusal
use Rattle.tracker_calls.specs.declared.cause.Thing.{Thing}
use Rattle.tracker_calls.specs.declared.cause.Thing.TheVariants as thing
use Rattle.tracker_calls.specs.declared.cause.Limit.{Limit}
use Rattle.tracker_calls.specs.declared.cause.Limit.TheVariants as limit

abbrev pub thing_name : Thing → List ℕ
thing_name thing.User = codes "user"
thing_name thing.Project = codes "project"
thing_name thing.Issue = codes "issue"
thing_name thing.Transition = codes "transition"
thing_name thing.Sprint = codes "sprint"
thing_name thing.Field = codes "field"
thing_name thing.Filter = codes "filter"
thing_name thing.Board = codes "board"
thing_name thing.Group = codes "group"

abbrev pub limit_name : Limit → List ℕ
limit_name limit.Issues = codes "issues"
limit_name limit.Entries = codes "entries"
limit_name limit.TextBytes = codes "text_bytes"
limit_name limit.Filters = codes "filters"
limit_name limit.Boards = codes "boards"
limit_name limit.Sprints = codes "sprints"

-- how many are kept at most
abbrev pub limit_number : Limit → ℕ
limit_number limit.Issues = most_issues
limit_number limit.Entries = most_entries
limit_number limit.TextBytes = most_text_bytes
limit_number limit.Filters = most_filters
limit_number limit.Boards = most_boards
limit_number limit.Sprints = most_sprints

abbrev pub permission_name : Permission → List ℕ
permission_name permission.Browse = codes "browse"
permission_name permission.Create = codes "create"
permission_name permission.Edit = codes "edit"
permission_name permission.Transition = codes "transition"
permission_name permission.Rank = codes "rank"
permission_name permission.Plan = codes "plan"
permission_name permission.Administer = codes "administer"

abbrev pub phase_name : SprintPhase → List ℕ
phase_name phase.Future = codes "future"
phase_name phase.Active = codes "active"
phase_name phase.Closed = codes "closed"

abbrev pub shown_data : Shown → Data
shown_data (shown.Text text) = string text
shown_data (shown.List texts) = texts_data texts
shown_data (shown.Number n) = natural n

-- a value, which may be empty
abbrev pub shown_or_null : Option Shown → Data
shown_or_null None = null
shown_or_null (Some s) = shown_data s

-- each field is a member of its name, among these
abbrev pub with_fields : Members → List ShownField → Members
with_fields members [] = members
with_fields members (f ∷ fs) = with_fields (put f.name (shown_data f.value) members) fs

-- the members under `ok`
abbrev pub create_data : Bool → ℕ → List ℕ → Data
create_data already change issue = object
    (member (codes "already") (boolean already)
    (member (codes "change") (natural change) (member (codes "issue") (string issue) no_members)))

abbrev pub edit_data : Option ℕ → List ℕ → Data
edit_data change issue =
    object (member (codes "change") (natural_or_null change)
    (member (codes "issue") (string issue) no_members))

abbrev pub tick_data : ℕ → Data
tick_data moment = object (member (codes "moment") (natural moment) no_members)

abbrev pub show_data : ℕ → List ShownField → List ℕ → ℕ → Data
show_data created fields issue updated = object
    (member (codes "created") (natural created)
    (member (codes "fields") (object (with_fields no_members fields))
    (member (codes "issue") (string issue)
    (member (codes "updated") (natural updated) no_members))))

abbrev pub entry_data : ToldEntry → Data
entry_data e = object
    (member (codes "at") (natural e.at)
    (member (codes "by") (string e.by)
    (member (codes "change") (natural e.change)
    (member (codes "field") (string e.field)
    (member (codes "from") (shown_or_null e.from)
    (member (codes "to") (shown_or_null e.to) no_members))))))

abbrev pub history_data : List ToldEntry → ℕ → Data
history_data entries total = object
    (member (codes "entries") (array (items_of (map entry_data entries)))
    (member (codes "total") (natural total) no_members))

abbrev pub search_data : List (List ℕ) → ℕ → Data
search_data issues total =
    object (member (codes "issues") (texts_data issues)
    (member (codes "total") (natural total) no_members))

abbrev pub move_data : List ℕ → List ℕ → Data
move_data issue rank =
    object (member (codes "issue") (string issue) (member (codes "rank") (string rank) no_members))

-- a key with its rank
abbrev pub ranked_data : RankedKey → Data
ranked_data r = array (item (string r.issue) (item (string r.rank) no_items))

abbrev pub ranks_data : List RankedKey → ℕ → Data
ranks_data ranks total = object
    (member (codes "ranks") (array (items_of (map ranked_data ranks)))
    (member (codes "total") (natural total) no_members))

abbrev pub rebalance_start_data : ℕ → ℕ → Data
rebalance_start_data from to =
    object (member (codes "from") (natural from) (member (codes "to") (natural to) no_members))

abbrev pub rebalance_step_data : ℕ → ℕ → Data
rebalance_step_data left moved =
    object (member (codes "left") (natural left)
    (member (codes "moved") (natural moved) no_members))

abbrev pub balance_data : BalanceState → ℕ → Bool → Data
balance_data (state.Idle bucket) longest offer = object
    (member (codes "bucket") (natural bucket)
    (member (codes "longest") (natural longest)
    (member (codes "offer") (boolean offer)
    (member (codes "state") (string (codes "idle")) no_members))))
balance_data (state.Moving from left to) longest offer = object
    (member (codes "from") (natural from)
    (member (codes "left") (natural left)
    (member (codes "longest") (natural longest)
    (member (codes "offer") (boolean offer)
    (member (codes "state") (string (codes "moving"))
    (member (codes "to") (natural to) no_members))))))

abbrev pub save_filter_data : ℕ → ℕ → Data
save_filter_data filter members =
    object (member (codes "filter") (natural filter)
    (member (codes "members") (natural members) no_members))

-- answers that tell a filter or a board by its number
abbrev pub filter_number_data : ℕ → Data
filter_number_data filter = object (member (codes "filter") (natural filter) no_members)

abbrev pub board_number_data : ℕ → Data
board_number_data board = object (member (codes "board") (natural board) no_members)

-- a status with the issues that have it
abbrev pub column_data : Column → Data
column_data c =
    object (member (codes "issues") (texts_data c.issues)
    (member (codes "status") (string c.status) no_members))

abbrev pub board_data : List Column → ℕ → Data
board_data columns total = object
    (member (codes "columns") (array (items_of (map column_data columns)))
    (member (codes "total") (natural total) no_members))

abbrev pub make_sprint_data : ℕ → Data
make_sprint_data sprint = object (member (codes "sprint") (natural sprint) no_members)

-- a group and how many members it has
abbrev pub set_group_data : List ℕ → ℕ → Data
set_group_data group members =
    object (member (codes "group") (string group)
    (member (codes "members") (natural members) no_members))

abbrev pub sprint_phase_data : ℕ → SprintPhase → Data
sprint_phase_data sprint phase = object
    (member (codes "sprint") (natural sprint)
    (member (codes "state") (string (phase_name phase)) no_members))

-- a change of what a sprint has left, in thousandths of points
abbrev pub burned_data : BurnedRow → Data
burned_data r = object
    (member (codes "at") (natural r.at)
    (member (codes "by") (integer r.by)
    (member (codes "change") (natural r.change)
    (member (codes "issue") (string r.issue)
    (member (codes "left") (integer r.left) no_members)))))

abbrev pub burndown_data : ℤ → List BurnedRow → ℤ → SprintPhase → ℕ → Data
burndown_data left rows start phase total = object
    (member (codes "left") (integer left)
    (member (codes "rows") (array (items_of (map burned_data rows)))
    (member (codes "start") (integer start)
    (member (codes "state") (string (phase_name phase))
    (member (codes "total") (natural total) no_members)))))

-- an issue is listed as it is shown
abbrev pub listed_data : ListedIssue → Data
listed_data i = show_data i.created i.fields i.issue i.updated

abbrev pub list_data : List ListedIssue → ℕ → Data
list_data issues total = object
    (member (codes "issues") (array (items_of (map listed_data issues)))
    (member (codes "total") (natural total) no_members))

-- a saved filter, with its text as it was given
abbrev pub told_filter_data : ToldFilter → Data
told_filter_data f = object
    (member (codes "filter") (natural f.filter.0)
    (member (codes "jql") (string f.jql)
    (member (codes "name") (string f.name) (member (codes "owner") (string f.owner) no_members))))

abbrev pub filters_data : List ToldFilter → ℕ → Data
filters_data filters total = object
    (member (codes "filters") (array (items_of (map told_filter_data filters)))
    (member (codes "total") (natural total) no_members))

abbrev pub told_board_data : ToldBoard → Data
told_board_data b = object
    (member (codes "board") (natural b.board.0)
    (member (codes "filter") (natural b.filter.0) (member (codes "name") (string b.name) no_members)))

abbrev pub boards_data : List ToldBoard → ℕ → Data
boards_data boards total = object
    (member (codes "boards") (array (items_of (map told_board_data boards)))
    (member (codes "total") (natural total) no_members))

abbrev pub told_sprint_data : ToldSprint → Data
told_sprint_data s = object
    (member (codes "name") (string s.name)
    (member (codes "sprint") (natural s.sprint.0)
    (member (codes "state") (string (phase_name s.state)) no_members)))

abbrev pub sprints_data : List ToldSprint → ℕ → Data
sprints_data sprints total = object
    (member (codes "sprints") (array (items_of (map told_sprint_data sprints)))
    (member (codes "total") (natural total) no_members))

abbrev pub answer_data : Answer → Data
answer_data (answer.Create already change issue) = create_data already change issue
answer_data (answer.Edit change issue) = edit_data change issue
answer_data (answer.Transition change issue) = edit_data change issue
answer_data (answer.Tick moment) = tick_data moment
answer_data (answer.Show created fields issue updated) = show_data created fields issue updated
answer_data (answer.History entries total) = history_data entries total
answer_data (answer.Search issues total) = search_data issues total
answer_data (answer.Move issue rank) = move_data issue rank
answer_data (answer.Ranks ranks total) = ranks_data ranks total
answer_data (answer.RebalanceStart from to) = rebalance_start_data from to
answer_data (answer.RebalanceStep left moved) = rebalance_step_data left moved
answer_data (answer.Balance state longest offer) = balance_data state longest offer
answer_data (answer.SaveFilter filter members) = save_filter_data filter.0 members
answer_data (answer.DropFilter filter) = filter_number_data filter.0
answer_data (answer.Filter issues total) = search_data issues total
answer_data (answer.MakeBoard board) = board_number_data board.0
answer_data (answer.DropBoard board) = board_number_data board.0
answer_data (answer.Board columns total) = board_data columns total
answer_data (answer.MakeSprint sprint) = make_sprint_data sprint.0
answer_data (answer.SetGroup group members) = set_group_data group members
answer_data (answer.SprintPhase sprint phase) = sprint_phase_data sprint.0 phase
answer_data (answer.Burndown left rows start phase total) =
    burndown_data left rows start phase total
answer_data (answer.List issues total) = list_data issues total
answer_data (answer.Filters filters total) = filters_data filters total
answer_data (answer.Boards boards total) = boards_data boards total
answer_data (answer.Sprints sprints total) = sprints_data sprints total
answer_data (answer.Describe told) = describe_data told

-- the members under `refused`
abbrev pub form_data : List ℕ → Data
form_data name =
    object (member (codes "member") (string name) (member (codes "no") (natural 1) no_members))

abbrev pub unknown_data : Thing → List ℕ → Data
unknown_data kind name =
    object (member (codes "kind") (string (thing_name kind))
    (member (codes "name") (string name) (member (codes "no") (natural 2) no_members)))

abbrev pub forbidden_data : Permission → Option (List ℕ) → Data
forbidden_data p project = object
    (member (codes "no") (natural 3)
    (member (codes "permission") (string (permission_name p))
    (member (codes "project") (text_or_null project) no_members)))

-- refusals that tell a check by its number
abbrev pub index_data : ℕ → ℕ → Data
index_data refusal_number index =
    object (member (codes "index") (natural index)
    (member (codes "no") (natural refusal_number) no_members))

abbrev pub unfit_data : List ℕ → Data
unfit_data field =
    object (member (codes "field") (string field) (member (codes "no") (natural 6) no_members))

abbrev pub query_data : ℕ → ℕ → Data
query_data kind place =
    object (member (codes "kind") (natural kind)
    (member (codes "no") (natural 7) (member (codes "place") (natural place) no_members)))

abbrev pub no_room_data : Option (List ℕ) → Option (List ℕ) → Data
no_room_data low high = object
    (member (codes "high") (text_or_null high)
    (member (codes "low") (text_or_null low) (member (codes "no") (natural 8) no_members)))

abbrev pub sprint_is_data : SprintPhase → Data
sprint_is_data phase =
    object (member (codes "no") (natural 9)
    (member (codes "state") (string (phase_name phase)) no_members))

abbrev pub limit_data : Limit → Data
limit_data l =
    object (member (codes "limit") (string (limit_name l))
    (member (codes "no") (natural 10)
    (member (codes "number") (natural (limit_number l)) no_members)))

abbrev pub earlier_data : ℕ → Data
earlier_data kept =
    object (member (codes "kept") (natural kept) (member (codes "no") (natural 11) no_members))

-- the bucket, or the two of them
abbrev pub balance_text : BalanceKept → List ℕ
balance_text (kept.Idle bucket) = codes "idle " ++ decimal bucket
balance_text (kept.Moving from to) = codes "moving " ++ (decimal from ++ 32 ∷ decimal to)

abbrev pub balance_is_data : BalanceKept → Data
balance_is_data balance =
    object (member (codes "kept") (string (balance_text balance))
    (member (codes "no") (natural 12) no_members))

-- the key of the issue that has an external id
abbrev pub external_is_data : List ℕ → List ℕ → Data
external_is_data external kept = object
    (member (codes "external") (string external)
    (member (codes "kept") (string kept) (member (codes "no") (natural 13) no_members)))

abbrev pub number_data : ℕ → Data
number_data n = object (member (codes "no") (natural n) no_members)

abbrev pub cause_data : Cause → Data
cause_data (cause.Form name) = form_data name
cause_data (cause.Unknown kind name) = unknown_data kind name
cause_data (cause.Forbidden p project) = forbidden_data p project
cause_data (cause.Condition index) = index_data 4 index
cause_data (cause.Validator index) = index_data 5 index
cause_data (cause.Unfit field) = unfit_data field
cause_data (cause.Query kind place) = query_data kind place
cause_data (cause.NoRoom low high) = no_room_data low high
cause_data (cause.SprintIs phase) = sprint_is_data phase
cause_data (cause.Limit l) = limit_data l
cause_data (cause.Earlier kept) = earlier_data kept
cause_data (cause.BalanceIs balance) = balance_is_data balance
cause_data (cause.ExternalIs external kept) = external_is_data external kept

abbrev pub refusal_data : Refusal → Data
refusal_data (refusal.Cause c) = cause_data c
refusal_data refusal.Keeper = number_data 14
refusal_data refusal.Memory = number_data 15

abbrev pub reply_data : Reply → Data
reply_data (reply.Ok a) = object (member (codes "ok") (answer_data a) no_members)
reply_data (reply.Refused r) = object (member (codes "refused") (refusal_data r) no_members)

unfoldable pub reply_text : Reply → List ℕ
reply_text r = compact_text (reply_data r)
