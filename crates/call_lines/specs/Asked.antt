-- What a line asks for.
use Rattle.std.specs.Prelude.{◌≡◌, ℕ, nat_le, List, [], ◌∷◌, codes, Result, Ok, Err, Option, Some, None, option_and_then, ⊤, if◌then◌else◌, Bool, false, not, find, ◌||◌}
use Rattle.std.specs.Str.{is_utf8, bytes_eq}
use Rattle.serde_json.specs.Data.{Data, Members, member, no_members}
use Rattle.serde_json.specs.Find.{get, as_number, as_u64, as_object}
use Rattle.serde_json.specs.Read.{read}
use Rattle.json_texts.specs.JsonMembers.{text_at, title_at}
use Rattle.call_lines.specs.Given.{set_at, set_if_there}
use Rattle.tracker_calls.specs.declared.call.Call.{Call}
use Rattle.tracker_calls.specs.declared.call.Call.TheVariants.{Create, Edit, Transition, Tick, MoveBefore, MoveAfter, RebalanceStart, RebalanceStep, SaveFilter, DropFilter, MakeBoard, DropBoard, MakeSprint, StartSprint, CloseSprint, SetGroup, Show, History, Search, Ranks, Balance, Filter, Board, Burndown}
use Rattle.tracker_calls.specs.declared.call.Call.TheVariants as call
use Rattle.call_lines.specs.Part.{whole_within, from_if_there, count_if_there, count_at}
use Rattle.call_lines.specs.Named.{external_if_there, names_at, fields_if_there}
use Rattle.call_lines.specs.declared.kind.CallKind.{CallKind}
use Rattle.call_lines.specs.declared.kind.CallKind.TheVariants as kind
use Rattle.tracker_calls.specs.declared.cause.Cause.{Cause}
use Rattle.tracker_calls.specs.declared.cause.Cause.TheVariants.{Form}
use Rattle.tracker_calls.specs.declared.reply.Refusal.{Refusal}
use Rattle.tracker_calls.specs.declared.reply.Refusal.TheVariants as refusal

-- want of memory may be answered in place of anything else; no reader asks a keeper
abbrev pub ErrUnlessMemory : {T : Type 0} → Refusal → Result T Cause → Type 0
ErrUnlessMemory (refusal.Cause c) expected = Err c ≡ expected
ErrUnlessMemory refusal.Keeper expected = ⊥
ErrUnlessMemory refusal.Memory expected = ⊤

abbrev pub UnlessMemory : {T : Type 0} → Result T Refusal → Result T Cause → Type 0
UnlessMemory (Ok x) expected = Ok x ≡ expected
UnlessMemory (Err r) expected = ErrUnlessMemory r expected

-- without this member there is no call
abbrev pub need : {A B : Type 0} → Option A → List ℕ → (A → Result B Cause) → Result B Cause
need None name next = Err (Form name)
need (Some x) name next = next x

-- the names of an object's members, which stand in byte order
abbrev pub names_of : Members → List (List ℕ)
names_of no_members = []
names_of (member name d more) = name ∷ names_of more

-- no other member stands there
abbrev pub no_other : {B : Type 0} → Option (List ℕ) → Result B Cause → Result B Cause
no_other None next = next
no_other (Some name) next = Err (Form name)

-- the number of a saved filter, a board or a sprint
abbrev pub number_at : List ℕ → Data → Option ℕ
number_at name d = option_and_then (whole_within 0 4_294_967_295) (get name d)

-- an issue isn't moved beside itself
abbrev pub other_than : List ℕ → Data → Option (List ℕ)
other_than issue d =
    option_and_then (λ other. if bytes_eq other issue then None else Some other)
    (text_at (codes "other") d)

-- a moment of the years 1970 to 2099
abbrev pub moment_of : ℕ → Option ℕ
moment_of n = if nat_le n 4102444799 then Some n else None

abbrev pub moment_at : List ℕ → Data → Option ℕ
moment_at name d =
    option_and_then moment_of (option_and_then as_u64 (option_and_then as_number (get name d)))

abbrev pub is_among : List ℕ → List (List ℕ) → Bool
is_among name [] = false
is_among name (other ∷ more) = bytes_eq name other || is_among name more

-- ---- the calls and their members

abbrev pub kind_named : List ℕ → Option CallKind
kind_named name =
    if bytes_eq name (codes "create") then Some kind.Create else
    (if bytes_eq name (codes "edit") then Some kind.Edit else
    (if bytes_eq name (codes "transition") then Some kind.Transition else
    (if bytes_eq name (codes "tick") then Some kind.Tick else
    (if bytes_eq name (codes "move_before") then Some kind.MoveBefore else
    (if bytes_eq name (codes "move_after") then Some kind.MoveAfter else
    (if bytes_eq name (codes "rebalance_start") then Some kind.RebalanceStart else
    (if bytes_eq name (codes "rebalance_step") then Some kind.RebalanceStep else
    (if bytes_eq name (codes "save_filter") then Some kind.SaveFilter else
    (if bytes_eq name (codes "drop_filter") then Some kind.DropFilter else
    (if bytes_eq name (codes "make_board") then Some kind.MakeBoard else
    (if bytes_eq name (codes "drop_board") then Some kind.DropBoard else
    (if bytes_eq name (codes "make_sprint") then Some kind.MakeSprint else
    (if bytes_eq name (codes "start_sprint") then Some kind.StartSprint else
    (if bytes_eq name (codes "close_sprint") then Some kind.CloseSprint else
    (if bytes_eq name (codes "set_group") then Some kind.SetGroup else
    (if bytes_eq name (codes "show") then Some kind.Show else
    (if bytes_eq name (codes "history") then Some kind.History else
    (if bytes_eq name (codes "search") then Some kind.Search else
    (if bytes_eq name (codes "ranks") then Some kind.Ranks else
    (if bytes_eq name (codes "balance") then Some kind.Balance else
    (if bytes_eq name (codes "filter") then Some kind.Filter else
    (if bytes_eq name (codes "board") then Some kind.Board else
    (if bytes_eq name (codes "burndown") then Some kind.Burndown else
    (if bytes_eq name (codes "list") then Some kind.List else
    (if bytes_eq name (codes "filters") then Some kind.Filters else
    (if bytes_eq name (codes "boards") then Some kind.Boards else
    (if bytes_eq name (codes "sprints") then Some kind.Sprints else
    (if bytes_eq name (codes "describe") then Some kind.Describe else None))))))))))))))))))))))))))))

abbrev pub call_members : CallKind → List (List ℕ)
call_members kind.Create =
    codes "call" ∷ codes "external" ∷ codes "project" ∷ codes "set" ∷ codes "summary" ∷ codes "type"
    ∷ codes "user" ∷ []
call_members kind.Edit = codes "call" ∷ codes "issue" ∷ codes "set" ∷ codes "user" ∷ []
call_members kind.Transition =
    codes "call" ∷ codes "issue" ∷ codes "set" ∷ codes "transition" ∷ codes "user" ∷ []
call_members kind.Tick = codes "call" ∷ codes "to" ∷ codes "user" ∷ []
call_members kind.MoveBefore = codes "call" ∷ codes "issue" ∷ codes "other" ∷ codes "user" ∷ []
call_members kind.MoveAfter = codes "call" ∷ codes "issue" ∷ codes "other" ∷ codes "user" ∷ []
call_members kind.RebalanceStart = codes "call" ∷ codes "user" ∷ []
call_members kind.RebalanceStep = codes "call" ∷ codes "count" ∷ codes "user" ∷ []
call_members kind.SaveFilter = codes "call" ∷ codes "jql" ∷ codes "name" ∷ codes "user" ∷ []
call_members kind.DropFilter = codes "call" ∷ codes "filter" ∷ codes "user" ∷ []
call_members kind.MakeBoard = codes "call" ∷ codes "filter" ∷ codes "name" ∷ codes "user" ∷ []
call_members kind.DropBoard = codes "board" ∷ codes "call" ∷ codes "user" ∷ []
call_members kind.MakeSprint = codes "call" ∷ codes "name" ∷ codes "user" ∷ []
call_members kind.StartSprint = codes "call" ∷ codes "sprint" ∷ codes "user" ∷ []
call_members kind.CloseSprint = codes "call" ∷ codes "sprint" ∷ codes "user" ∷ []
call_members kind.SetGroup = codes "call" ∷ codes "group" ∷ codes "members" ∷ codes "user" ∷ []
call_members kind.Show = codes "call" ∷ codes "issue" ∷ codes "user" ∷ []
call_members kind.History =
    codes "call" ∷ codes "count" ∷ codes "from" ∷ codes "issue" ∷ codes "user" ∷ []
call_members kind.Search =
    codes "call" ∷ codes "count" ∷ codes "from" ∷ codes "jql" ∷ codes "user" ∷ []
call_members kind.Ranks = codes "call" ∷ codes "count" ∷ codes "from" ∷ codes "user" ∷ []
call_members kind.Balance = codes "call" ∷ codes "user" ∷ []
call_members kind.Filter =
    codes "call" ∷ codes "count" ∷ codes "filter" ∷ codes "from" ∷ codes "user" ∷ []
call_members kind.Board =
    codes "board" ∷ codes "call" ∷ codes "count" ∷ codes "from" ∷ codes "user" ∷ []
call_members kind.Burndown =
    codes "call" ∷ codes "count" ∷ codes "from" ∷ codes "sprint" ∷ codes "user" ∷ []
call_members kind.List =
    codes "call" ∷ codes "count" ∷ codes "fields" ∷ codes "from" ∷ codes "jql" ∷ codes "user" ∷ []
call_members kind.Filters = codes "call" ∷ codes "count" ∷ codes "from" ∷ codes "user" ∷ []
call_members kind.Boards = codes "call" ∷ codes "count" ∷ codes "from" ∷ codes "user" ∷ []
call_members kind.Sprints = codes "call" ∷ codes "count" ∷ codes "from" ∷ codes "user" ∷ []
call_members kind.Describe = codes "call" ∷ codes "user" ∷ []

abbrev pub is_member : CallKind → List ℕ → Bool
is_member kind name = is_among name (call_members kind)

-- the first name in byte order that is no member of the call
abbrev pub first_other : CallKind → List (List ℕ) → Option (List ℕ)
first_other kind names = find (λ name. not (is_member kind name)) names

-- who asks for which call
abbrev pub Asked : Type 0
Asked = Result (List ℕ × Call) Cause

abbrev pub create_of : Data → Members → List ℕ → Asked
create_of d members user =
    need (text_at (codes "project") d) (codes "project") (λ project.
    need (text_at (codes "type") d) (codes "type") (λ issue_type.
    need (text_at (codes "summary") d) (codes "summary") (λ summary.
    need (set_if_there d) (codes "set") (λ set.
    need (external_if_there d) (codes "external") (λ external.
    no_other (first_other kind.Create (names_of members))
    (Ok (user, Create project issue_type summary set external)))))))

abbrev pub edit_of : Data → Members → List ℕ → Asked
edit_of d members user =
    need (text_at (codes "issue") d) (codes "issue") (λ issue.
    need (set_at d) (codes "set") (λ set.
    no_other (first_other kind.Edit (names_of members)) (Ok (user, Edit issue set))))

abbrev pub transition_of : Data → Members → List ℕ → Asked
transition_of d members user =
    need (text_at (codes "issue") d) (codes "issue") (λ issue.
    need (text_at (codes "transition") d) (codes "transition") (λ transition.
    need (set_if_there d) (codes "set") (λ set.
    no_other (first_other kind.Transition (names_of members))
    (Ok (user, Transition issue transition set)))))

abbrev pub tick_of : Data → Members → List ℕ → Asked
tick_of d members user =
    need (moment_at (codes "to") d) (codes "to") (λ to.
    no_other (first_other kind.Tick (names_of members)) (Ok (user, Tick to)))

-- either move
abbrev pub move_of : CallKind → (List ℕ → List ℕ → Call) → Data → Members → List ℕ → Asked
move_of kind call d members user =
    need (text_at (codes "issue") d) (codes "issue") (λ issue.
    need (other_than issue d) (codes "other") (λ other.
    no_other (first_other kind (names_of members)) (Ok (user, call issue other))))

abbrev pub rebalance_start_of : Members → List ℕ → Asked
rebalance_start_of members user =
    no_other (first_other kind.RebalanceStart (names_of members)) (Ok (user, RebalanceStart))

abbrev pub rebalance_step_of : Data → Members → List ℕ → Asked
rebalance_step_of d members user =
    need (count_at 1000 d) (codes "count") (λ count.
    no_other (first_other kind.RebalanceStep (names_of members)) (Ok (user, RebalanceStep count)))

abbrev pub save_filter_of : Data → Members → List ℕ → Asked
save_filter_of d members user =
    need (title_at (codes "name") d) (codes "name") (λ name.
    need (text_at (codes "jql") d) (codes "jql") (λ jql.
    no_other (first_other kind.SaveFilter (names_of members)) (Ok (user, SaveFilter name jql))))

abbrev pub drop_filter_of : Data → Members → List ℕ → Asked
drop_filter_of d members user =
    need (number_at (codes "filter") d) (codes "filter") (λ filter.
    no_other (first_other kind.DropFilter (names_of members))
    (Ok (user, DropFilter (record { 0 = filter }))))

abbrev pub make_board_of : Data → Members → List ℕ → Asked
make_board_of d members user =
    need (title_at (codes "name") d) (codes "name") (λ name.
    need (number_at (codes "filter") d) (codes "filter") (λ filter.
    no_other (first_other kind.MakeBoard (names_of members))
    (Ok (user, MakeBoard name (record { 0 = filter })))))

abbrev pub drop_board_of : Data → Members → List ℕ → Asked
drop_board_of d members user =
    need (number_at (codes "board") d) (codes "board") (λ board.
    no_other (first_other kind.DropBoard (names_of members))
    (Ok (user, DropBoard (record { 0 = board }))))

abbrev pub make_sprint_of : Data → Members → List ℕ → Asked
make_sprint_of d members user =
    need (title_at (codes "name") d) (codes "name") (λ name.
    no_other (first_other kind.MakeSprint (names_of members)) (Ok (user, MakeSprint name)))

abbrev pub start_sprint_of : Data → Members → List ℕ → Asked
start_sprint_of d members user =
    need (number_at (codes "sprint") d) (codes "sprint") (λ sprint.
    no_other (first_other kind.StartSprint (names_of members))
    (Ok (user, StartSprint (record { 0 = sprint }))))

abbrev pub close_sprint_of : Data → Members → List ℕ → Asked
close_sprint_of d members user =
    need (number_at (codes "sprint") d) (codes "sprint") (λ sprint.
    no_other (first_other kind.CloseSprint (names_of members))
    (Ok (user, CloseSprint (record { 0 = sprint }))))

abbrev pub set_group_of : Data → Members → List ℕ → Asked
set_group_of d members user =
    need (text_at (codes "group") d) (codes "group") (λ group.
    need (names_at (codes "members") d) (codes "members") (λ names.
    no_other (first_other kind.SetGroup (names_of members)) (Ok (user, SetGroup group names))))

abbrev pub show_of : Data → Members → List ℕ → Asked
show_of d members user =
    need (text_at (codes "issue") d) (codes "issue") (λ issue.
    no_other (first_other kind.Show (names_of members)) (Ok (user, Show issue)))

abbrev pub history_of : Data → Members → List ℕ → Asked
history_of d members user =
    need (text_at (codes "issue") d) (codes "issue") (λ issue.
    need (from_if_there d) (codes "from") (λ from.
    need (count_if_there 50 d) (codes "count") (λ count.
    no_other (first_other kind.History (names_of members))
    (Ok (user, History issue (record { from = from; count = count }))))))

abbrev pub search_of : Data → Members → List ℕ → Asked
search_of d members user =
    need (text_at (codes "jql") d) (codes "jql") (λ jql.
    need (from_if_there d) (codes "from") (λ from.
    need (count_if_there 1000 d) (codes "count") (λ count.
    no_other (first_other kind.Search (names_of members))
    (Ok (user, Search jql (record { from = from; count = count }))))))

abbrev pub ranks_of : Data → Members → List ℕ → Asked
ranks_of d members user =
    need (from_if_there d) (codes "from") (λ from.
    need (count_if_there 1000 d) (codes "count") (λ count.
    no_other (first_other kind.Ranks (names_of members))
    (Ok (user, Ranks (record { from = from; count = count })))))

abbrev pub balance_of : Members → List ℕ → Asked
balance_of members user =
    no_other (first_other kind.Balance (names_of members)) (Ok (user, Balance))

abbrev pub filter_of : Data → Members → List ℕ → Asked
filter_of d members user =
    need (number_at (codes "filter") d) (codes "filter") (λ filter.
    need (from_if_there d) (codes "from") (λ from.
    need (count_if_there 1000 d) (codes "count") (λ count.
    no_other (first_other kind.Filter (names_of members))
    (Ok (user, Filter (record { 0 = filter }) (record { from = from; count = count }))))))

abbrev pub board_of : Data → Members → List ℕ → Asked
board_of d members user =
    need (number_at (codes "board") d) (codes "board") (λ board.
    need (from_if_there d) (codes "from") (λ from.
    need (count_if_there 1000 d) (codes "count") (λ count.
    no_other (first_other kind.Board (names_of members))
    (Ok (user, Board (record { 0 = board }) (record { from = from; count = count }))))))

abbrev pub burndown_of : Data → Members → List ℕ → Asked
burndown_of d members user =
    need (number_at (codes "sprint") d) (codes "sprint") (λ sprint.
    need (from_if_there d) (codes "from") (λ from.
    need (count_if_there 1000 d) (codes "count") (λ count.
    no_other (first_other kind.Burndown (names_of members))
    (Ok (user, Burndown (record { 0 = sprint }) (record { from = from; count = count }))))))

abbrev pub list_of : Data → Members → List ℕ → Asked
list_of d members user =
    need (text_at (codes "jql") d) (codes "jql") (λ jql.
    need (fields_if_there d) (codes "fields") (λ fields.
    need (from_if_there d) (codes "from") (λ from.
    need (count_if_there 100 d) (codes "count") (λ count.
    no_other (first_other kind.List (names_of members))
    (Ok (user, call.List jql fields (record { from = from; count = count })))))))

abbrev pub filters_of : Data → Members → List ℕ → Asked
filters_of d members user =
    need (from_if_there d) (codes "from") (λ from.
    need (count_if_there 1000 d) (codes "count") (λ count.
    no_other (first_other kind.Filters (names_of members))
    (Ok (user, call.Filters (record { from = from; count = count })))))

abbrev pub boards_of : Data → Members → List ℕ → Asked
boards_of d members user =
    need (from_if_there d) (codes "from") (λ from.
    need (count_if_there 1000 d) (codes "count") (λ count.
    no_other (first_other kind.Boards (names_of members))
    (Ok (user, call.Boards (record { from = from; count = count })))))

abbrev pub sprints_of : Data → Members → List ℕ → Asked
sprints_of d members user =
    need (from_if_there d) (codes "from") (λ from.
    need (count_if_there 1000 d) (codes "count") (λ count.
    no_other (first_other kind.Sprints (names_of members))
    (Ok (user, call.Sprints (record { from = from; count = count })))))

abbrev pub describe_of : Members → List ℕ → Asked
describe_of members user =
    no_other (first_other kind.Describe (names_of members)) (Ok (user, call.Describe))

abbrev pub asked_by : CallKind → Data → Members → List ℕ → Asked
asked_by kind.Create d members user = create_of d members user
asked_by kind.Edit d members user = edit_of d members user
asked_by kind.Transition d members user = transition_of d members user
asked_by kind.Tick d members user = tick_of d members user
asked_by kind.MoveBefore d members user = move_of kind.MoveBefore MoveBefore d members user
asked_by kind.MoveAfter d members user = move_of kind.MoveAfter MoveAfter d members user
asked_by kind.RebalanceStart d members user = rebalance_start_of members user
asked_by kind.RebalanceStep d members user = rebalance_step_of d members user
asked_by kind.SaveFilter d members user = save_filter_of d members user
asked_by kind.DropFilter d members user = drop_filter_of d members user
asked_by kind.MakeBoard d members user = make_board_of d members user
asked_by kind.DropBoard d members user = drop_board_of d members user
asked_by kind.MakeSprint d members user = make_sprint_of d members user
asked_by kind.StartSprint d members user = start_sprint_of d members user
asked_by kind.CloseSprint d members user = close_sprint_of d members user
asked_by kind.SetGroup d members user = set_group_of d members user
asked_by kind.Show d members user = show_of d members user
asked_by kind.History d members user = history_of d members user
asked_by kind.Search d members user = search_of d members user
asked_by kind.Ranks d members user = ranks_of d members user
asked_by kind.Balance d members user = balance_of members user
asked_by kind.Filter d members user = filter_of d members user
asked_by kind.Board d members user = board_of d members user
asked_by kind.Burndown d members user = burndown_of d members user
asked_by kind.List d members user = list_of d members user
asked_by kind.Filters d members user = filters_of d members user
asked_by kind.Boards d members user = boards_of d members user
asked_by kind.Sprints d members user = sprints_of d members user
asked_by kind.Describe d members user = describe_of members user

-- the user and the call, or the first fault in the order of the members
abbrev pub call_of : Data → Asked
call_of d =
    need (as_object d) (codes "line") (λ members.
    need (text_at (codes "user") d) (codes "user") (λ user.
    need (option_and_then kind_named (text_at (codes "call") d)) (codes "call")
    (λ kind. asked_by kind d members user)))

-- the JSON of a line
abbrev pub data_of : List ℕ → Option Data
data_of bytes = if is_utf8 bytes then read bytes else None

unfoldable pub line_of : List ℕ → Asked
line_of bytes = need (data_of bytes) (codes "line") call_of
