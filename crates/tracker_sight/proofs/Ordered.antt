-- No call but a create and a move changes the order of issues.
use Rattle.std.proofs.Common.{◌≡◌, ℕ, Bool, true, false, List, [], Option, Some, None, Result, Ok, Err, refl, subst, sym}
use Rattle.std.specs.Prelude.{unwrap_or, if◌then◌else◌}
use Rattle.field_values.specs.declared.numbers.IssueNo.{IssueNo}
use Rattle.fields.specs.SetupParts.{names_in}
use Rattle.change_history.specs.History.{History}
use Rattle.rank_strings.specs.Rank.{RankParts}
use Rattle.board.specs.declared.place.Place.{Place}
use Rattle.board.specs.declared.place.Place.TheVariants.{Before, After}
use Rattle.board.specs.Moved.{Sides}
use Rattle.board.specs.Issues.{issues_in}
use Rattle.rank_balancer.specs.declared.balance.Balance.{Balance}
use Rattle.rank_balancer.specs.declared.balance.Balance.TheVariants.{Idle, Moving}
use Rattle.rank_balancer.specs.Balance.{IsMoving, from_of, to_of}
use Rattle.rank_balancer.specs.Step.{Move, after_moves}
use Rattle.rank_balancer.specs.Planned.{planned}
use Rattle.tracker_ranks.proofs.Keeping.{steps_keep_ranks, plans_are_picks}
use Rattle.tracker_calls.specs.declared.call.Call.{Call}
use Rattle.tracker_calls.specs.declared.call.Call.TheVariants as call
use Rattle.tracker_calls.specs.declared.given.GivenField.{GivenField}
use Rattle.tracker_calls.specs.declared.reply.Answer.{Answer}
use Rattle.tracker_calls.specs.declared.cause.Cause.{Cause}
use Rattle.tracker_machine.specs.Machine.{Machine}
use Rattle.tracker_machine.specs.Known.{history_named}
use Rattle.tracker_machine.specs.Tracker.{HasRanks}
use Rattle.tracker_machine.specs.Checks.{caller_refusal}
use Rattle.tracker_machine.specs.Effect.{Effect}
use Rattle.tracker_machine.specs.Effect.Effect.{NewMoment, NewIssue, NewGroup, NewRank, NewBalance, NewRanks, NewSprint, NewState, NewFilter, NoFilter, NewBoard, NoBoard, NewMembers}
use Rattle.tracker_machine.specs.Meaning.{Meaning, unless}
use Rattle.tracker_machine.specs.Meaning.Meaning.{Refuses, Tells, Finds, Makes}
use Rattle.tracker_machine.specs.Rank.{with_given, last_rank, moved_rank, has_rank}
use Rattle.tracker_machine.specs.Create.{create_refusal, issue_called, is_created_as, called_before, new_issue_refusal, create_wants, created, create_or_tell, spelled_key}
use Rattle.tracker_machine.specs.Wanted.{changes_of}
use Rattle.tracker_machine.specs.Move.{move_meaning, move_refusal, move_answer, moved_beside, newly_ranked}
use Rattle.tracker_machine.specs.Rebalance.{started, stepped, with_planned}
use Rattle.tracker_machine.specs.Step.{meaning, meaning_for, form_refusal, user_of}
use Rattle.tracker_runs.proofs.Plain.{IsPlain, edit_plain, transition_plain, tick_plain, show_plain, history_plain, search_plain, list_plain, ranks_plain, save_filter_plain, drop_filter_plain, filter_plain, make_board_plain, drop_board_plain, board_plain, make_sprint_plain, start_sprint_plain, close_sprint_plain, set_group_plain, burndown_plain}

-- the moves of a step of a rebalancing leave the order of issues
abbrev pub LeavesOrder : Machine → Effect → Type 0
LeavesOrder m (NewRanks moves) = issues_in (after_moves m.order moves) ≡ issues_in m.order
LeavesOrder m _ = Unit {0}

abbrev pub MeansOrder : Machine → Meaning → Type 0
MeansOrder m (Makes a effect) = LeavesOrder m effect
MeansOrder m _ = Unit {0}

module _ (m : Machine) where
  unless_leaves : (r : Option Cause) (due : Meaning) → MeansOrder m due → MeansOrder m (unless r due)
  unless_leaves None due leaves = leaves
  unless_leaves (Some r) due leaves = tt

  given_leaves : (given : Result RankParts Sides) (due : RankParts → Meaning) → ((rank : RankParts) → MeansOrder m (due rank)) → MeansOrder m (with_given given due)
  given_leaves (Ok rank) due leaves = leaves rank
  given_leaves (Err sides) due leaves = tt

  plain_effect : (effect : Effect) (a : Answer) → IsPlain (Makes a effect) → LeavesOrder m effect
  plain_effect (NewMoment to) a plain = tt
  plain_effect (NewIssue h rank external) a plain = tt
  plain_effect (NewGroup place group) a plain = tt
  plain_effect (NewRank issue rank) a plain = tt
  plain_effect (NewBalance balance) a plain = tt
  plain_effect (NewRanks moves) a plain = absurd plain
  plain_effect (NewSprint name) a plain = tt
  plain_effect (NewState sprint state) a plain = tt
  plain_effect (NewFilter f) a plain = tt
  plain_effect (NoFilter filter_no) a plain = tt
  plain_effect (NewBoard b) a plain = tt
  plain_effect (NoBoard board_no) a plain = tt
  plain_effect (NewMembers group members) a plain = tt

  plain_leaves : (due : Meaning) → IsPlain due → MeansOrder m due
  plain_leaves (Refuses r) plain = tt
  plain_leaves (Tells a) plain = tt
  plain_leaves (Finds a) plain = tt
  plain_leaves (Makes a effect) plain = plain_effect effect a plain

  called_leaves : (b : Bool) (external : List ℕ) (h : History) → MeansOrder m (called_before b external h)
  called_leaves true external h = tt
  called_leaves false external h = tt

  create_leaves : (user : ℕ) (project issue_type summary : List ℕ) (given : List GivenField) (external : Option (List ℕ)) (called : Option History)
      → MeansOrder m (create_or_tell m user project issue_type summary given external called)
  create_leaves user project issue_type summary given external None =
      let due : RankParts → Meaning = created m user project external (changes_of (names_in m.setup) (create_wants m.setup user issue_type summary given)) in
      unless_leaves (new_issue_refusal m user issue_type summary given) (with_given (last_rank m) due) (given_leaves (last_rank m) due (λ rank. tt))
  create_leaves user project issue_type summary given external (Some h) = called_leaves (is_created_as m project issue_type summary h) (unwrap_or external []) h

  ranked_leaves : (b : Bool) (name : List ℕ) (issue : IssueNo) (rank : RankParts)
      → MeansOrder m (if b then Tells (move_answer name rank) else Makes (move_answer name rank) (NewRank issue rank))
  ranked_leaves true name issue rank = tt
  ranked_leaves false name issue rank = tt

  moved_leaves : (name : List ℕ) (place : IssueNo → Place) (h o : Option History) → MeansOrder m (moved_beside m name place h o)
  moved_leaves name place None o = tt
  moved_leaves name place (Some h) None = tt
  moved_leaves name place (Some h) (Some o) =
      given_leaves (moved_rank m h.no (place o.no)) (newly_ranked m name h.no) (λ rank. ranked_leaves (has_rank m.order h.no rank) name h.no rank)

  move_leaves : (user : ℕ) (issue other : List ℕ) (place : IssueNo → Place) → MeansOrder m (move_meaning m user issue other place)
  move_leaves user issue other place =
      let due : Meaning = moved_beside m issue place (history_named m issue) (history_named m other) in
      unless_leaves (move_refusal m user issue other) due (moved_leaves issue place (history_named m issue) (history_named m other))

  started_leaves : (b : Balance) → MeansOrder m (started b)
  started_leaves (Idle bucket) = tt
  started_leaves (Moving from to) = tt

  stepped_leaves : (b : Balance) (count : ℕ) → m.balance ≡ b → HasRanks m → MeansOrder m (stepped m.order b count)
  stepped_leaves (Idle bucket) count is has = tt
  stepped_leaves (Moving from to) count is has = by (planned m.order from to count) refl
    where
      by : (moves : Result (List Move) Sides) → planned m.order from to count ≡ moves → MeansOrder m (with_planned m.order from moves)
      by (Err sides) are = tt
      by (Ok moves) are =
          (steps_keep_ranks m.order m.balance moves has.ranked (subst IsMoving (sym is) tt)
          (plans_are_picks m.order m.balance count moves has.ranked (subst IsMoving (sym is) tt)
          (subst (λ b. planned m.order (from_of b) (to_of b) count ≡ Ok moves) (sym is) are))).issues

  call_leaves : (user : ℕ) (c : Call) → HasRanks m → MeansOrder m (meaning_for m user c)
  unfolding meaning_for
  call_leaves user (call.Create project issue_type summary given external) has =
      unless_leaves (create_refusal m user project given) (create_or_tell m user (spelled_key m project) issue_type summary given external (issue_called m external))
      (create_leaves user (spelled_key m project) issue_type summary given external (issue_called m external))
  call_leaves user (call.Edit issue given) has = plain_leaves _ (edit_plain m user issue given)
  call_leaves user (call.Transition issue transition given) has = plain_leaves _ (transition_plain m user issue transition given)
  call_leaves user (call.Tick to) has = plain_leaves _ (tick_plain m to)
  call_leaves user (call.Show issue) has = plain_leaves _ (show_plain m user issue)
  call_leaves user (call.History issue part) has = plain_leaves _ (history_plain m user issue part)
  call_leaves user (call.Search jql part) has = plain_leaves _ (search_plain m user jql part)
  call_leaves user (call.MoveBefore issue other) has = move_leaves user issue other Before
  call_leaves user (call.MoveAfter issue other) has = move_leaves user issue other After
  call_leaves user (call.Ranks part) has = plain_leaves _ (ranks_plain m user part)
  call_leaves user call.RebalanceStart has = unless_leaves _ (started m.balance) (started_leaves m.balance)
  call_leaves user (call.RebalanceStep count) has = unless_leaves _ (stepped m.order m.balance count) (stepped_leaves m.balance count refl has)
  call_leaves user call.Balance has = tt
  call_leaves user (call.SaveFilter name jql) has = plain_leaves _ (save_filter_plain m user name jql)
  call_leaves user (call.DropFilter filter_no) has = plain_leaves _ (drop_filter_plain m user filter_no)
  call_leaves user (call.Filter filter_no part) has = plain_leaves _ (filter_plain m user filter_no part)
  call_leaves user (call.MakeBoard name filter_no) has = plain_leaves _ (make_board_plain m user name filter_no)
  call_leaves user (call.DropBoard board_no) has = plain_leaves _ (drop_board_plain m user board_no)
  call_leaves user (call.Board board_no part) has = plain_leaves _ (board_plain m user board_no part)
  call_leaves user (call.MakeSprint name) has = plain_leaves _ (make_sprint_plain m user name)
  call_leaves user (call.StartSprint sprint) has = plain_leaves _ (start_sprint_plain m user sprint)
  call_leaves user (call.CloseSprint sprint) has = plain_leaves _ (close_sprint_plain m user sprint)
  call_leaves user (call.SetGroup group members) has = plain_leaves _ (set_group_plain m user group members)
  call_leaves user (call.Burndown sprint part) has = plain_leaves _ (burndown_plain m user sprint part)
  call_leaves user (call.List jql fields part) has = plain_leaves _ (list_plain m user jql fields part)
  call_leaves user (call.Filters part) has = tt
  call_leaves user (call.Boards part) has = tt
  call_leaves user (call.Sprints part) has = tt
  call_leaves user call.Describe has = tt

pub meaning_leaves : (m : Machine) (caller : List ℕ) (c : Call) → HasRanks m → MeansOrder m (meaning m caller c)
unfolding meaning
meaning_leaves m caller c has =
    unless_leaves m (form_refusal c) (unless (caller_refusal m caller) (meaning_for m (user_of m caller) c))
    (unless_leaves m (caller_refusal m caller) (meaning_for m (user_of m caller) c) (call_leaves m (user_of m caller) c has))
