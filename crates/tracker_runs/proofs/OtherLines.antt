-- A line that isn't accepted as a create, a move, a start or a step leaves the ranks.
use Rattle.std.proofs.Common.{◌≡◌, ℕ, List, false, Result, Ok, Err, refl}
use Rattle.tracker_calls.specs.declared.call.Call.{Call}
use Rattle.tracker_calls.specs.declared.call.Call.TheVariants as call
use Rattle.tracker_calls.specs.declared.reply.Answer.{Answer}
use Rattle.tracker_calls.specs.declared.cause.Cause.{Cause}
use Rattle.call_lines.specs.Asked.{line_of}
use Rattle.tracker_machine.specs.Machine.{Machine}
use Rattle.tracker_machine.specs.Effect.{Effect, applied}
use Rattle.tracker_machine.specs.Effect.Effect.{NewMoment, NewIssue, NewGroup, NewRank, NewBalance, NewRanks, NewSprint, NewState, NewFilter, NoFilter, NewBoard, NoBoard, NewMembers}
use Rattle.tracker_machine.specs.Meaning.{Meaning, unless, reply_to, next_after}
use Rattle.tracker_machine.specs.Meaning.Meaning.{Refuses, Tells, Finds, Makes}
use Rattle.tracker_machine.specs.Checks.{caller_refusal}
use Rattle.tracker_machine.specs.Step.{meaning, meaning_for, form_refusal, user_of, reply_of, next_of}
use Rattle.tracker_runs.specs.Run.{asked_reply, asked_next}
use Rattle.tracker_runs.specs.RankLaws.{IsAccepted, changes_ranks, asks_to_change_ranks, LeavesRanks, OthersLeaveRanks}
use Rattle.tracker_runs.proofs.Plain.{IsPlain, unless_plain, edit_plain, transition_plain, tick_plain, show_plain, history_plain, search_plain, list_plain, ranks_plain, save_filter_plain, drop_filter_plain, filter_plain, make_board_plain, drop_board_plain, board_plain, make_sprint_plain, start_sprint_plain, close_sprint_plain, set_group_plain, burndown_plain}

effect_leaves : (a : Answer) (effect : Effect) (m : Machine) → IsPlain (Makes a effect) → LeavesRanks m (applied effect m)
unfolding applied
effect_leaves a (NewMoment to) m plain = record { order = refl; balance = refl }
effect_leaves a (NewIssue h rank external) m plain = absurd plain
effect_leaves a (NewGroup place group) m plain = record { order = refl; balance = refl }
effect_leaves a (NewRank issue rank) m plain = absurd plain
effect_leaves a (NewBalance balance) m plain = absurd plain
effect_leaves a (NewRanks moves) m plain = absurd plain
effect_leaves a (NewSprint name) m plain = record { order = refl; balance = refl }
effect_leaves a (NewState sprint state) m plain = record { order = refl; balance = refl }
effect_leaves a (NewFilter f) m plain = record { order = refl; balance = refl }
effect_leaves a (NoFilter filter_no) m plain = record { order = refl; balance = refl }
effect_leaves a (NewBoard b) m plain = record { order = refl; balance = refl }
effect_leaves a (NoBoard board_no) m plain = record { order = refl; balance = refl }
effect_leaves a (NewMembers group members) m plain = record { order = refl; balance = refl }

-- what a call means leaves the ranks where it is refused, and where its effect changes none
meant_leaves : (due : Meaning) (m : Machine) → (IsAccepted (reply_to due) → IsPlain due) → LeavesRanks m (next_after due m)
meant_leaves (Refuses r) m plain = record { order = refl; balance = refl }
meant_leaves (Tells a) m plain = record { order = refl; balance = refl }
meant_leaves (Finds a) m plain = record { order = refl; balance = refl }
meant_leaves (Makes a effect) m plain = effect_leaves a effect m (plain tt)

call_plain : (m : Machine) (user : ℕ) (c : Call) → changes_ranks c ≡ false → IsPlain (meaning_for m user c)
unfolding meaning_for
call_plain m user (call.Create project issue_type summary given external) other = absurd (cc)
call_plain m user (call.Edit issue given) other = edit_plain m user issue given
call_plain m user (call.Transition issue transition given) other = transition_plain m user issue transition given
call_plain m user (call.Tick to) other = tick_plain m to
call_plain m user (call.Show issue) other = show_plain m user issue
call_plain m user (call.History issue part) other = history_plain m user issue part
call_plain m user (call.Search jql part) other = search_plain m user jql part
call_plain m user (call.MoveBefore issue beside) other = absurd (cc)
call_plain m user (call.MoveAfter issue beside) other = absurd (cc)
call_plain m user (call.Ranks part) other = ranks_plain m user part
call_plain m user call.RebalanceStart other = absurd (cc)
call_plain m user (call.RebalanceStep count) other = absurd (cc)
call_plain m user call.Balance other = tt
call_plain m user (call.SaveFilter name jql) other = save_filter_plain m user name jql
call_plain m user (call.DropFilter filter_no) other = drop_filter_plain m user filter_no
call_plain m user (call.Filter filter_no part) other = filter_plain m user filter_no part
call_plain m user (call.MakeBoard name filter_no) other = make_board_plain m user name filter_no
call_plain m user (call.DropBoard board_no) other = drop_board_plain m user board_no
call_plain m user (call.Board board_no part) other = board_plain m user board_no part
call_plain m user (call.MakeSprint name) other = make_sprint_plain m user name
call_plain m user (call.StartSprint sprint) other = start_sprint_plain m user sprint
call_plain m user (call.CloseSprint sprint) other = close_sprint_plain m user sprint
call_plain m user (call.SetGroup group members) other = set_group_plain m user group members
call_plain m user (call.Burndown sprint part) other = burndown_plain m user sprint part
call_plain m user (call.List jql fields part) other = list_plain m user jql fields part
call_plain m user (call.Filters part) other = tt
call_plain m user (call.Boards part) other = tt
call_plain m user (call.Sprints part) other = tt
call_plain m user call.Describe other = tt

meaning_plain : (m : Machine) (user : List ℕ) (c : Call) → changes_ranks c ≡ false → IsPlain (meaning m user c)
unfolding meaning
meaning_plain m user c other =
    unless_plain (form_refusal c) (unless (caller_refusal m user) (meaning_for m (user_of m user) c))
    (unless_plain (caller_refusal m user) (meaning_for m (user_of m user) c) (call_plain m (user_of m user) c other))

asked_leaves : (m : Machine) (asked : Result (List ℕ × Call) Cause) → (IsAccepted (asked_reply m asked) → asks_to_change_ranks asked ≡ false)
    → LeavesRanks m (asked_next m asked)
unfolding reply_of next_of
asked_leaves m (Ok asked) other =
    meant_leaves (meaning m asked.0 asked.1) m (λ accepted. meaning_plain m asked.0 asked.1 (other accepted))
asked_leaves m (Err r) other = record { order = refl; balance = refl }

pub others_leave_ranks : OthersLeaveRanks
others_leave_ranks m line other = asked_leaves m (line_of line) other
