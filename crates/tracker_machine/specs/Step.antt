-- One step of the abstract tracker: what a call means, the reply to it, and the state after it.
use Rattle.std.specs.Prelude.{ℕ, List, Option, None}
use Rattle.tracker_calls.specs.declared.call.Call.{Call}
use Rattle.tracker_calls.specs.declared.call.Call.TheVariants as call
use Rattle.tracker_calls.specs.declared.cause.Cause.{Cause}
use Rattle.tracker_calls.specs.declared.reply.Reply.{Reply}
use Rattle.tracker_machine.specs.Machine.{Machine}
use Rattle.tracker_machine.specs.Known.{known_place}
use Rattle.tracker_machine.specs.Checks.{or_then, caller_refusal, twins_refusal, external_refusal, few_refusal, few_fields_refusal, part_refusal, count_refusal, other_refusal, title_refusal}
use Rattle.tracker_machine.specs.Meaning.{Meaning, unless, reply_to, next_after, allowance, Performs}
use Rattle.tracker_machine.specs.Create.{create_meaning}
use Rattle.tracker_machine.specs.Members.{set_group_meaning}
use Rattle.tracker_machine.specs.Edit.{edit_meaning}
use Rattle.tracker_machine.specs.Transition.{transition_meaning}
use Rattle.tracker_machine.specs.Tick.{tick_meaning}
use Rattle.tracker_machine.specs.Move.{move_before_meaning, move_after_meaning}
use Rattle.tracker_machine.specs.Ranks.{ranks_meaning}
use Rattle.tracker_machine.specs.Rebalance.{rebalance_start_meaning, rebalance_step_meaning, balance_meaning}
use Rattle.tracker_machine.specs.Show.{show_meaning}
use Rattle.tracker_machine.specs.Entries.{history_meaning}
use Rattle.tracker_machine.specs.Search.{search_meaning}
use Rattle.tracker_machine.specs.Filters.{save_filter_meaning, drop_filter_meaning, filter_meaning}
use Rattle.tracker_machine.specs.Boards.{make_board_meaning, drop_board_meaning, board_meaning}
use Rattle.tracker_machine.specs.Sprints.{make_sprint_meaning, start_sprint_meaning, close_sprint_meaning, burndown_meaning}
use Rattle.tracker_machine.specs.IssueList.{list_meaning}
use Rattle.tracker_machine.specs.Describe.{describe_meaning}
use Rattle.tracker_machine.specs.Overviews.{filters_meaning, boards_meaning, sprints_meaning}

-- the call of a user, who is known, by place
unfoldable pub meaning_for : Machine → ℕ → Call → Meaning
meaning_for m user (call.Create project issue_type summary set external) =
    create_meaning m user project issue_type summary set external
meaning_for m user (call.Edit issue set) = edit_meaning m user issue set
meaning_for m user (call.Transition issue transition set) =
    transition_meaning m user issue transition set
meaning_for m user (call.Tick to) = tick_meaning m to
meaning_for m user (call.Show issue) = show_meaning m user issue
meaning_for m user (call.History issue part) = history_meaning m user issue part
meaning_for m user (call.Search jql part) = search_meaning m user jql part
meaning_for m user (call.MoveBefore issue other) = move_before_meaning m user issue other
meaning_for m user (call.MoveAfter issue other) = move_after_meaning m user issue other
meaning_for m user (call.Ranks part) = ranks_meaning m user part
meaning_for m user call.RebalanceStart = rebalance_start_meaning m user
meaning_for m user (call.RebalanceStep count) = rebalance_step_meaning m user count
meaning_for m user call.Balance = balance_meaning m
meaning_for m user (call.SaveFilter name jql) = save_filter_meaning m user name jql
meaning_for m user (call.DropFilter filter) = drop_filter_meaning m user filter
meaning_for m user (call.Filter filter part) = filter_meaning m user filter part
meaning_for m user (call.MakeBoard name filter) = make_board_meaning m user name filter
meaning_for m user (call.DropBoard board) = drop_board_meaning m user board
meaning_for m user (call.Board board part) = board_meaning m user board part
meaning_for m user (call.MakeSprint name) = make_sprint_meaning m user name
meaning_for m user (call.StartSprint sprint) = start_sprint_meaning m user sprint
meaning_for m user (call.CloseSprint sprint) = close_sprint_meaning m user sprint
meaning_for m user (call.SetGroup group members) = set_group_meaning m user group members
meaning_for m user (call.Burndown sprint part) = burndown_meaning m user sprint part
meaning_for m user (call.List jql fields part) = list_meaning m user jql fields part
meaning_for m user (call.Filters part) = filters_meaning m user part
meaning_for m user (call.Boards part) = boards_meaning m part
meaning_for m user (call.Sprints part) = sprints_meaning m part
meaning_for m user call.Describe = describe_meaning m user

-- the fault of a call's form; a call that was read from a line has none
unfoldable pub form_refusal : Call → Option Cause
form_refusal (call.Create project issue_type summary set external) =
    or_then (twins_refusal set) (external_refusal external)
form_refusal (call.Edit issue set) = twins_refusal set
form_refusal (call.Transition issue transition set) = twins_refusal set
form_refusal (call.History issue part) = part_refusal 50 part
form_refusal (call.Search jql part) = part_refusal 1_000 part
form_refusal (call.MoveBefore issue other) = other_refusal issue other
form_refusal (call.MoveAfter issue other) = other_refusal issue other
form_refusal (call.Ranks part) = part_refusal 1_000 part
form_refusal (call.RebalanceStep count) = count_refusal 1_000 count
form_refusal (call.SaveFilter name jql) = title_refusal name
form_refusal (call.Filter filter part) = part_refusal 1_000 part
form_refusal (call.MakeBoard name filter) = title_refusal name
form_refusal (call.Board board part) = part_refusal 1_000 part
form_refusal (call.MakeSprint name) = title_refusal name
form_refusal (call.SetGroup group members) = few_refusal members
form_refusal (call.Burndown sprint part) = part_refusal 1_000 part
form_refusal (call.List jql fields part) =
    or_then (few_fields_refusal fields) (part_refusal 100 part)
form_refusal (call.Filters part) = part_refusal 1_000 part
form_refusal (call.Boards part) = part_refusal 1_000 part
form_refusal (call.Sprints part) = part_refusal 1_000 part
form_refusal _ = None

-- the caller by place
abbrev pub user_of : Machine → List ℕ → ℕ
user_of m caller = known_place caller m.setup.users

-- what the call of somebody of that name means
unfoldable pub meaning : Machine → List ℕ → Call → Meaning
meaning m caller c =
    unless (form_refusal c) (unless (caller_refusal m caller) (meaning_for m (user_of m caller) c))

unfoldable pub reply_of : Machine → List ℕ → Call → Reply
reply_of m caller c = reply_to (meaning m caller c)

unfoldable pub next_of : Machine → List ℕ → Call → Machine
next_of m caller c = next_after (meaning m caller c) m

-- how often at most a call asks whether a query holds of an issue, where so many kept verdicts end up to a moment
unfoldable pub evaluations : (ℕ → ℕ) → Machine → List ℕ → Call → ℕ
evaluations ended m caller c = allowance ended (meaning m caller c) m

-- a call is performed as the abstract tracker performs it
unfoldable pub IsStep : Machine → List ℕ → Call → Reply → Machine → Type 0
IsStep old caller c result new = Performs (meaning old caller c) old result new
