-- Calls that are about no issue lead from trackers that seem alike to a user to trackers that seem alike.
use Rattle.std.proofs.Common.{◌≡◌, ℕ, ◌+◌, ◌==◌, Bool, true, false, List, filter, Option, Some, None, option_map, Result, Ok, Err, refl, sym, ◌∙◌, ap, ap₂, subst}
use Rattle.std.specs.Prelude.{unwrap_or, decimal, if◌then◌else◌}
use Rattle.std.proofs.lemmas.Bool.{true≢false}
use Rattle.std.proofs.lemmas.Option.{same_Some, none-some}
use Rattle.rising_numbers.specs.ByNumber.{put_by_number, without_number}
use Rattle.field_values.specs.declared.numbers.BoardNo.{BoardNo}
use Rattle.field_values.specs.declared.numbers.FilterNo.{FilterNo}
use Rattle.field_values.specs.declared.numbers.GroupNo.{GroupNo}
use Rattle.field_values.specs.declared.numbers.IssueNo.{IssueNo}
use Rattle.field_values.specs.declared.numbers.SprintNo.{SprintNo}
use Rattle.field_values.specs.declared.numbers.UserNo.{UserNo}
use Rattle.field_values.specs.declared.rules.Permission.TheVariants as permission
use Rattle.change_history.specs.History.{History}
use Rattle.external_ids.specs.declared.external_id.ExternalId.{ExternalId}
use Rattle.board.specs.Order.{Pair}
use Rattle.board.specs.Issues.{issues_in}
use Rattle.board.specs.declared.board.Board.{Board}
use Rattle.rank_balancer.specs.declared.balance.Balance.{Balance}
use Rattle.sprints.specs.declared.sprint.Sprint.{Sprint}
use Rattle.sprints.specs.declared.state.SprintState.{SprintState}
use Rattle.sprints.specs.declared.state.SprintState.TheVariants.{Future, Active, Closed}
use Rattle.sprints.specs.Sprint.{state_of}
use Rattle.sprints.specs.State.{after_start, after_close}
use Rattle.jql_bound.specs.declared.context.Phase.{Phase}
use Rattle.jql_bound.specs.declared.context.Phase.TheVariants as phase
use Rattle.tracker_calls.specs.declared.call.Call.{Call}
use Rattle.tracker_calls.specs.declared.call.Call.TheVariants as call
use Rattle.tracker_calls.specs.declared.reply.Answer.{Answer}
use Rattle.tracker_calls.specs.declared.reply.Answer.TheVariants as answer
use Rattle.tracker_calls.specs.declared.cause.Cause.{Cause}
use Rattle.tracker_calls.specs.declared.cause.Cause.TheVariants as cause
use Rattle.tracker_calls.specs.declared.cause.Thing.TheVariants as thing
use Rattle.tracker_machine.specs.Machine.{Machine}
use Rattle.tracker_machine.specs.Known.{known_place}
use Rattle.tracker_machine.specs.Checks.{or_then, unless_known, caller_refusal, permission_refusal}
use Rattle.tracker_machine.specs.Effect.{Effect, applied, regrouped}
use Rattle.tracker_machine.specs.Effect.Effect.{NewMoment, NewIssue, NewGroup, NewRank, NewBalance, NewRanks, NewSprint, NewState, NewFilter, NoFilter, NewBoard, NoBoard, NewMembers}
use Rattle.tracker_machine.specs.Meaning.{Meaning, unless, reply_to, next_after}
use Rattle.tracker_machine.specs.Meaning.Meaning.{Refuses, Tells, Finds, Makes}
use Rattle.tracker_machine.specs.Query.{Query, asked}
use Rattle.tracker_machine.specs.Saved.{SavedFilter, filter_number, board_number, without_boards_of}
use Rattle.tracker_machine.specs.SprintRules.{phase_of, in_state, with_future}
use Rattle.tracker_machine.specs.Filters.{filters_refusal, filter_for, is_kept, save_answer, saved, save_filter_meaning, owner_refusal, drop_filter_refusal, filter_numbered}
use Rattle.tracker_machine.specs.Boards.{make_board_refusal, made_board, drop_board_refusal}
use Rattle.tracker_machine.specs.Members.{group_names, set_group_refusal, set_group_meaning, members_answer, regroups, has_members, users_named}
use Rattle.tracker_machine.specs.Sprints.{told_phase, turned, next_sprint, make_sprint_refusal, make_sprint_meaning}
use Rattle.tracker_machine.specs.Tick.{tick_refusal, ticked}
use Rattle.tracker_machine.specs.Step.{meaning, meaning_for, form_refusal, user_of, reply_of, next_of}
use Rattle.tracker_sight.specs.Sight.{sees, has_number, numbers_by_rank, phases, sprint_names, SeemAlike}
use Rattle.tracker_sight.specs.Readers.{is_setting, SeesNoMore}
use Rattle.tracker_sight.proofs.Lists.{filter_within, any_of_filtered}
use Rattle.tracker_sight.proofs.Told.{varied, agreeing, answers_tell_of_the_seen}
use Rattle.tracker_sight.proofs.Phases.{as_many, as_far, more_phases, more_names, phases_in_state, names_in_state}

-- ---- a user who sees less

module _ (p q : History → Bool) (less : (h : History) → p h ≡ true → q h ≡ true) where
  less_seen : (hs others : List History) → filter q others ≡ filter q hs → filter p others ≡ filter p hs
  less_seen hs others same = filter_within p q less others ∙ ap (filter p) same ∙ sym (filter_within p q less hs)

  less_ranked_in : (hs : List History) (order : List Pair) → numbers_by_rank (filter p hs) order ≡ filter (λ i. has_number (filter p (filter q hs)) i.0) (numbers_by_rank (filter q hs) order)
  less_ranked_in hs order =
      ap (λ (some : List History). numbers_by_rank some order) (filter_within p q less hs)
      ∙ filter_within (λ (i : IssueNo). has_number (filter p (filter q hs)) i.0) (λ i. has_number (filter q hs) i.0)
      (λ i found. any_of_filtered (λ (h : History). h.no.0 == i.0) p (filter q hs) found) (issues_in order)

  less_ranked : (hs others : List History) (order other : List Pair) → filter q others ≡ filter q hs
      → numbers_by_rank (filter q others) other ≡ numbers_by_rank (filter q hs) order → numbers_by_rank (filter p others) other ≡ numbers_by_rank (filter p hs) order
  less_ranked hs others order other same ranks =
      less_ranked_in others other
      ∙ ap₂ (λ (some : List History) (is : List IssueNo). filter (λ i. has_number (filter p some) i.0) is) same ranks
      ∙ sym (less_ranked_in hs order)

-- ---- how far sprints are

abbrev is_future : Phase → Bool
is_future phase.Future = true
is_future _ = false

abbrev is_active : Phase → Bool
is_active phase.Active = true
is_active _ = false

-- ---- what comes of the call of anybody

module _ (user : ℕ) (m : Machine) (text : List ℕ) (change : ℕ) (hs : List History) (externals : List ExternalId) (order : List Pair) (balance : Balance) (sprints : List Sprint)
    (far : phases sprints ≡ phases m.sprints) (names : sprint_names sprints ≡ sprint_names m.sprints)
    (same : filter (sees m.setup user) hs ≡ filter (sees m.setup user) m.histories)
    (ranks : numbers_by_rank (filter (sees m.setup user) hs) order ≡ numbers_by_rank (filter (sees m.setup user) m.histories) m.order) where
  abbrev new : Machine
  new = varied m text change hs externals order balance sprints

  -- where the first of two meanings doesn't let the user see more, the two lead to trackers that seem alike
  abbrev LeadOn : Meaning → Meaning → Type 0
  LeadOn one other = SeesNoMore user m.setup (next_after one m).setup → SeemAlike user (next_after one m) (next_after other new)

  as_they_are : SeemAlike user m new
  as_they_are = record { setup = refl; moment = refl; filters = refl; boards = refl; sprints = far; names = names; issues = same; ranks = ranks }

  unless_lead : (r : Option Cause) (one other : Meaning) → LeadOn one other → LeadOn (unless r one) (unless r other)
  unless_lead None one other lead = lead
  unless_lead (Some r) one other lead = λ less. as_they_are

  -- another moment, other filters and other boards
  set_alike : (moment : ℕ) (filters : List SavedFilter) (boards : List Board)
      → SeemAlike user (record m { moment = moment; filters = filters; boards = boards }) (record new { moment = moment; filters = filters; boards = boards })
  set_alike moment filters boards = record { setup = refl; moment = refl; filters = refl; boards = refl; sprints = far; names = names; issues = same; ranks = ranks }

  sprints_alike : (ss ts : List Sprint) → phases ss ≡ phases ts → sprint_names ss ≡ sprint_names ts → SeemAlike user (record m { sprints = ts }) (record new { sprints = ss })
  sprints_alike ss ts far names = record { setup = refl; moment = refl; filters = refl; boards = refl; sprints = far; names = names; issues = same; ranks = ranks }

  tick_leads : (to : ℕ) → LeadOn (ticked m to) (ticked new to)
  unfolding applied
  tick_leads to = by (to == m.moment)
    where
      by : (b : Bool)
          → LeadOn (if b then Tells (answer.Tick to) else Makes (answer.Tick to) (NewMoment to)) (if b then Tells (answer.Tick to) else Makes (answer.Tick to) (NewMoment to))
      by true = λ less. as_they_are
      by false = λ less. set_alike to m.filters m.boards

  saved_leads : (v : ℕ) (name jql : List ℕ) (query : Result Query Cause) → LeadOn (saved m v name jql query) (saved new v name jql query)
  unfolding applied
  saved_leads v name jql (Err r) = λ less. as_they_are
  saved_leads v name jql (Ok query) = by (save_answer m v name query) (save_answer new v name query) (is_kept m v name jql)
    where
      kept : SavedFilter
      kept = filter_for m v name jql

      by : (a a_new : Answer) (b : Bool) → LeadOn (if b then Finds a else Makes a (NewFilter kept)) (if b then Finds a_new else Makes a_new (NewFilter kept))
      by a a_new true = λ less. as_they_are
      by a a_new false = λ less. set_alike m.moment (put_by_number filter_number kept m.filters) m.boards

  owner_same : (v : ℕ) (o : Option SavedFilter) → owner_refusal new v o ≡ owner_refusal m v o
  owner_same v None = refl
  owner_same v (Some f) = refl

  drop_leads : (v : ℕ) (filter_no : FilterNo)
      → LeadOn (unless (drop_filter_refusal m v filter_no) (Makes (answer.DropFilter filter_no) (NoFilter filter_no))) (unless (drop_filter_refusal new v filter_no) (Makes (answer.DropFilter filter_no) (NoFilter filter_no)))
  unfolding applied
  drop_leads v filter_no =
      rw (owner_same v (filter_numbered m filter_no))
      (unless_lead (drop_filter_refusal m v filter_no) (Makes (answer.DropFilter filter_no) (NoFilter filter_no)) (Makes (answer.DropFilter filter_no) (NoFilter filter_no))
      (λ less. set_alike m.moment (without_number filter_number filter_no.0 m.filters) (without_boards_of filter_no m.boards)))

  made_leads : (name : List ℕ) (filter_no : FilterNo) → LeadOn (made_board m name filter_no) (made_board new name filter_no)
  unfolding applied
  made_leads name filter_no = λ less. set_alike m.moment m.filters (put_by_number board_number _ m.boards)

  board_leads : (board_no : BoardNo) → LeadOn (Makes (answer.DropBoard board_no) (NoBoard board_no)) (Makes (answer.DropBoard board_no) (NoBoard board_no))
  unfolding applied
  board_leads board_no = λ less. set_alike m.moment m.filters (without_number board_number board_no.0 m.boards)

  -- ---- sprints

  sprint_leads : (v : ℕ) (name : List ℕ) → LeadOn (make_sprint_meaning m v name) (make_sprint_meaning new v name)
  unfolding applied
  sprint_leads v name =
      rw (as_many sprints m.sprints far)
      (unless_lead (make_sprint_refusal m v) (Makes (answer.MakeSprint (next_sprint m)) (NewSprint name)) (Makes (answer.MakeSprint (next_sprint m)) (NewSprint name))
      (λ less. sprints_alike (with_future sprints name) (with_future m.sprints name) (more_phases sprints m.sprints name far) (more_names sprints m.sprints name names)))

  state_leads : (n : ℕ) (one other : SprintState) → phase_of other ≡ phase_of one
      → SeemAlike user (record m { sprints = in_state m.sprints n one }) (record new { sprints = in_state sprints n other })
  state_leads n one other fits =
      sprints_alike (in_state sprints n other) (in_state m.sprints n one) (phases_in_state sprints m.sprints n other one far fits)
      (names_in_state sprints n other ∙ names ∙ sym (names_in_state m.sprints n one))

  -- what starts or closes a sprint of a state, and one that is as far: the replies, and what comes of it
  abbrev TurnAlike : Meaning → Meaning → Type 0
  TurnAlike one other = (reply_to other ≡ reply_to one) × LeadOn one other

  refused_alike : (sprint : SprintNo) (one other : SprintState) → told_phase other ≡ told_phase one → TurnAlike (turned sprint one None) (turned sprint other None)
  refused_alike sprint one other fits = (ap (λ p. reply_to (Refuses (cause.SprintIs p))) fits, λ less. as_they_are)

  started : (sprint : SprintNo) (one other : SprintState) → phase_of other ≡ phase_of one
      → TurnAlike (turned sprint one (after_start one m.moment m.change)) (turned sprint other (after_start other m.moment change))
  unfolding applied
  started sprint Future Future fits = (refl, λ less. state_leads sprint.0 (Active m.moment m.change) (Active m.moment change) refl)
  started sprint Future (Active at number) fits = absurd (true≢false (ap is_future (sym fits)))
  started sprint Future (Closed at number end_at end_number) fits = absurd (true≢false (ap is_future (sym fits)))
  started sprint (Active at number) Future fits = absurd (true≢false (ap is_future fits))
  started sprint (Active at number) (Active other_at other_number) fits = refused_alike sprint (Active at number) (Active other_at other_number) refl
  started sprint (Active at number) (Closed other_at other_number end_at end_number) fits = absurd (true≢false (ap is_active (sym fits)))
  started sprint (Closed at number end_at end_number) Future fits = absurd (true≢false (ap is_future fits))
  started sprint (Closed at number end_at end_number) (Active other_at other_number) fits = absurd (true≢false (ap is_active fits))
  started sprint (Closed at number end_at end_number) (Closed other_at other_number other_end other_end_number) fits =
      refused_alike sprint (Closed at number end_at end_number) (Closed other_at other_number other_end other_end_number) refl

  closed : (sprint : SprintNo) (one other : SprintState) → phase_of other ≡ phase_of one
      → TurnAlike (turned sprint one (after_close one m.moment m.change)) (turned sprint other (after_close other m.moment change))
  unfolding applied
  closed sprint Future Future fits = refused_alike sprint Future Future refl
  closed sprint Future (Active at number) fits = absurd (true≢false (ap is_future (sym fits)))
  closed sprint Future (Closed at number end_at end_number) fits = absurd (true≢false (ap is_future (sym fits)))
  closed sprint (Active at number) Future fits = absurd (true≢false (ap is_future fits))
  closed sprint (Active at number) (Active other_at other_number) fits =
      (refl, λ less. state_leads sprint.0 (Closed at number m.moment m.change) (Closed other_at other_number m.moment change) refl)
  closed sprint (Active at number) (Closed other_at other_number end_at end_number) fits = absurd (true≢false (ap is_active (sym fits)))
  closed sprint (Closed at number end_at end_number) Future fits = absurd (true≢false (ap is_future fits))
  closed sprint (Closed at number end_at end_number) (Active other_at other_number) fits = absurd (true≢false (ap is_active fits))
  closed sprint (Closed at number end_at end_number) (Closed other_at other_number other_end other_end_number) fits =
      refused_alike sprint (Closed at number end_at end_number) (Closed other_at other_number other_end other_end_number) refl

  unless_turn : (r : Option Cause) (one other : Meaning) → TurnAlike one other → TurnAlike (unless r one) (unless r other)
  unless_turn None one other turn = turn
  unless_turn (Some c) one other turn = (refl, λ less. as_they_are)

  -- a sprint of that number is there in both, as far, or in neither
  module _ (v : ℕ) (sprint : SprintNo) (turn : SprintState → ℕ → ℕ → Option SprintState)
      (turns : (one other : SprintState) → phase_of other ≡ phase_of one → TurnAlike (turned sprint one (turn one m.moment m.change)) (turned sprint other (turn other m.moment change))) where
    abbrev due : Machine → Option SprintState → Meaning
    due n o =
        unless (or_then (unless_known o (cause.Unknown thing.Sprint (decimal sprint.0))) (permission_refusal m v permission.Plan None))
        (turned sprint (unwrap_or o Future) (turn (unwrap_or o Future) n.moment n.change))

    due_alike : (o p : Option SprintState) → option_map phase_of p ≡ option_map phase_of o → TurnAlike (due m o) (due new p)
    due_alike None None fits = (refl, λ less. as_they_are)
    due_alike None (Some other) fits = absurd (none-some _ (sym fits))
    due_alike (Some one) None fits = absurd (none-some _ fits)
    due_alike (Some one) (Some other) fits =
        unless_turn (permission_refusal m v permission.Plan None) _ _ (turns one other (same_Some (phase_of other) (phase_of one) fits))

    turn_alike : TurnAlike (due m (state_of m.sprints sprint.0)) (due new (state_of sprints sprint.0))
    turn_alike = due_alike (state_of m.sprints sprint.0) (state_of sprints sprint.0) (as_far sprints m.sprints sprint.0 far)

  -- ---- groups

  regroups_leads : (place : ℕ) (members : List UserNo) → LeadOn (regroups m.setup place members) (regroups m.setup place members)
  unfolding applied
  regroups_leads place members = by (has_members m.setup place members)
    where
      group : GroupNo
      group = record { 0 = place + 1 }

      a : Answer
      a = members_answer m.setup place members

      by : (b : Bool) → LeadOn (if b then Tells a else Makes a (NewMembers group members)) (if b then Tells a else Makes a (NewMembers group members))
      by true = λ less. as_they_are
      by false = λ less. record {
        setup = refl;
        moment = refl;
        filters = refl;
        boards = refl;
        sprints = far;
        names = names;
        issues = less_seen (sees (regrouped m.setup group members) user) (sees m.setup user) less m.histories hs same;
        ranks = less_ranked (sees (regrouped m.setup group members) user) (sees m.setup user) less m.histories hs m.order order same ranks;
      }

  -- ---- each call

  for_lead : (v : ℕ) (c : Call) → is_setting c ≡ true → LeadOn (meaning_for m v c) (meaning_for new v c)
  unfolding meaning_for save_filter_meaning set_group_meaning
  for_lead v (call.Tick to) is = unless_lead (tick_refusal m to) (ticked m to) (ticked new to) (tick_leads to)
  for_lead v (call.SaveFilter name jql) is =
      unless_lead (filters_refusal m v name) (saved m v name jql (asked m.setup v jql)) (saved new v name jql (asked m.setup v jql)) (saved_leads v name jql (asked m.setup v jql))
  for_lead v (call.DropFilter filter_no) is = drop_leads v filter_no
  for_lead v (call.MakeBoard name filter_no) is =
      unless_lead (make_board_refusal m v filter_no) (made_board m name filter_no) (made_board new name filter_no) (made_leads name filter_no)
  for_lead v (call.DropBoard board_no) is = unless_lead (drop_board_refusal m v board_no) (Makes (answer.DropBoard board_no) (NoBoard board_no)) (Makes (answer.DropBoard board_no) (NoBoard board_no)) (board_leads board_no)
  for_lead v (call.MakeSprint name) is = sprint_leads v name
  for_lead v (call.StartSprint sprint) is = (turn_alike v sprint after_start (started sprint)).1
  for_lead v (call.CloseSprint sprint) is = (turn_alike v sprint after_close (closed sprint)).1
  for_lead v (call.SetGroup group members) is =
      unless_lead (set_group_refusal m v group members) (regroups m.setup (known_place group (group_names m.setup)) (users_named m.setup members))
      (regroups m.setup (known_place group (group_names m.setup)) (users_named m.setup members)) (regroups_leads (known_place group (group_names m.setup)) (users_named m.setup members))
  for_lead v (call.Create project issue_type summary given external) is = absurd (true≢false (sym is))
  for_lead v (call.Edit issue given) is = absurd (true≢false (sym is))
  for_lead v (call.Transition issue transition given) is = absurd (true≢false (sym is))
  for_lead v (call.Show issue) is = absurd (true≢false (sym is))
  for_lead v (call.History issue part) is = absurd (true≢false (sym is))
  for_lead v (call.Search jql part) is = absurd (true≢false (sym is))
  for_lead v (call.MoveBefore issue other) is = absurd (true≢false (sym is))
  for_lead v (call.MoveAfter issue other) is = absurd (true≢false (sym is))
  for_lead v (call.Ranks part) is = absurd (true≢false (sym is))
  for_lead v call.RebalanceStart is = absurd (true≢false (sym is))
  for_lead v (call.RebalanceStep count) is = absurd (true≢false (sym is))
  for_lead v call.Balance is = absurd (true≢false (sym is))
  for_lead v (call.Filter filter_no part) is = absurd (true≢false (sym is))
  for_lead v (call.Board board_no part) is = absurd (true≢false (sym is))
  for_lead v (call.Burndown sprint part) is = absurd (true≢false (sym is))
  for_lead v (call.List jql fields part) is = absurd (true≢false (sym is))
  for_lead v (call.Filters part) is = absurd (true≢false (sym is))
  for_lead v (call.Boards part) is = absurd (true≢false (sym is))
  for_lead v (call.Sprints part) is = absurd (true≢false (sym is))
  for_lead v call.Describe is = absurd (true≢false (sym is))

  lead_on : (caller : List ℕ) (c : Call) → is_setting c ≡ true → LeadOn (meaning m caller c) (meaning new caller c)
  unfolding meaning
  lead_on caller c is =
      unless_lead (form_refusal c) (unless (caller_refusal m caller) (meaning_for m (user_of m caller) c)) (unless (caller_refusal m caller) (meaning_for new (user_of m caller) c))
      (unless_lead (caller_refusal m caller) (meaning_for m (user_of m caller) c) (meaning_for new (user_of m caller) c) (for_lead (user_of m caller) c is))

  -- ---- replies on sprints

  sprint_reply : (v : ℕ) (name : List ℕ) → reply_to (make_sprint_meaning new v name) ≡ reply_to (make_sprint_meaning m v name)
  sprint_reply v name = rw (as_many sprints m.sprints far) refl

  unless_reply : (r : Option Cause) (one other : Meaning) → reply_to other ≡ reply_to one → reply_to (unless r other) ≡ reply_to (unless r one)
  unless_reply None one other is = is
  unless_reply (Some c) one other is = refl

  reply_on : (caller : List ℕ) (c : Call) → reply_to (meaning_for new (user_of m caller) c) ≡ reply_to (meaning_for m (user_of m caller) c)
      → reply_to (meaning new caller c) ≡ reply_to (meaning m caller c)
  unfolding meaning
  reply_on caller c is =
      unless_reply (form_refusal c) (unless (caller_refusal m caller) (meaning_for m (user_of m caller) c)) (unless (caller_refusal m caller) (meaning_for new (user_of m caller) c))
      (unless_reply (caller_refusal m caller) (meaning_for m (user_of m caller) c) (meaning_for new (user_of m caller) c) is)

  make_reply : (caller name : List ℕ) → reply_to (meaning new caller (call.MakeSprint name)) ≡ reply_to (meaning m caller (call.MakeSprint name))
  unfolding meaning_for
  make_reply caller name = reply_on caller (call.MakeSprint name) (sprint_reply (user_of m caller) name)

  start_reply : (caller : List ℕ) (sprint : SprintNo) → reply_to (meaning new caller (call.StartSprint sprint)) ≡ reply_to (meaning m caller (call.StartSprint sprint))
  unfolding meaning_for
  start_reply caller sprint = reply_on caller (call.StartSprint sprint) (turn_alike (user_of m caller) sprint after_start (started sprint)).0

  close_reply : (caller : List ℕ) (sprint : SprintNo) → reply_to (meaning new caller (call.CloseSprint sprint)) ≡ reply_to (meaning m caller (call.CloseSprint sprint))
  unfolding meaning_for
  close_reply caller sprint = reply_on caller (call.CloseSprint sprint) (turn_alike (user_of m caller) sprint after_close (closed sprint)).0

-- ---- two trackers that seem alike

pub settings_lead : (user : ℕ) (m other : Machine) (caller : List ℕ) (c : Call) → SeemAlike user m other → is_setting c ≡ true
    → SeesNoMore user m.setup (next_of m caller c).setup → SeemAlike user (next_of m caller c) (next_of other caller c)
unfolding next_of
settings_lead user m other caller c a is less =
    subst (λ (o : Machine). SeemAlike user (next_after (meaning m caller c) m) (next_after (meaning o caller c) o)) (sym (agreeing (sees m.setup user) m other a))
    (lead_on user m other.text other.change other.histories other.externals other.order other.balance other.sprints a.sprints a.names a.issues a.ranks caller c is less)

-- the caller is told the same
module _ (m other : Machine) (caller : List ℕ) (a : SeemAlike (user_of m caller) m other) where
  abbrev alike : Machine
  alike = varied m other.text other.change other.histories other.externals other.order other.balance other.sprints

  told_by : (c : Call) → reply_to (meaning alike caller c) ≡ reply_to (meaning m caller c) → reply_of other caller c ≡ reply_of m caller c
  unfolding reply_of
  told_by c same = ap (λ (o : Machine). reply_to (meaning o caller c)) (agreeing (sees m.setup (user_of m caller)) m other a) ∙ same

  told_as : (c : Call) → meaning other caller c ≡ meaning m caller c → reply_of other caller c ≡ reply_of m caller c
  unfolding reply_of
  told_as c same = ap reply_to same

  pub settings_tell : (c : Call) → is_setting c ≡ true → reply_of other caller c ≡ reply_of m caller c
  settings_tell (call.MakeSprint name) is =
      told_by (call.MakeSprint name)
      (make_reply (user_of m caller) m other.text other.change other.histories other.externals other.order other.balance other.sprints a.sprints a.names a.issues a.ranks caller name)
  settings_tell (call.StartSprint sprint) is =
      told_by (call.StartSprint sprint)
      (start_reply (user_of m caller) m other.text other.change other.histories other.externals other.order other.balance other.sprints a.sprints a.names a.issues a.ranks caller sprint)
  settings_tell (call.CloseSprint sprint) is =
      told_by (call.CloseSprint sprint)
      (close_reply (user_of m caller) m other.text other.change other.histories other.externals other.order other.balance other.sprints a.sprints a.names a.issues a.ranks caller sprint)
  settings_tell (call.Tick to) is = told_as (call.Tick to) (answers_tell_of_the_seen m other caller (call.Tick to) a refl)
  settings_tell (call.SaveFilter name jql) is = told_as (call.SaveFilter name jql) (answers_tell_of_the_seen m other caller (call.SaveFilter name jql) a refl)
  settings_tell (call.DropFilter filter_no) is = told_as (call.DropFilter filter_no) (answers_tell_of_the_seen m other caller (call.DropFilter filter_no) a refl)
  settings_tell (call.MakeBoard name filter_no) is = told_as (call.MakeBoard name filter_no) (answers_tell_of_the_seen m other caller (call.MakeBoard name filter_no) a refl)
  settings_tell (call.DropBoard board_no) is = told_as (call.DropBoard board_no) (answers_tell_of_the_seen m other caller (call.DropBoard board_no) a refl)
  settings_tell (call.SetGroup group members) is = told_as (call.SetGroup group members) (answers_tell_of_the_seen m other caller (call.SetGroup group members) a refl)
  settings_tell _ is = absurd (true≢false (sym is))

-- ---- users stay

users_after : (m : Machine) (effect : Effect) → (applied effect m).setup.users ≡ m.setup.users
unfolding applied
users_after m (NewMoment to) = refl
users_after m (NewIssue h rank external) = refl
users_after m (NewGroup place group) = refl
users_after m (NewRank issue rank) = refl
users_after m (NewBalance balance) = refl
users_after m (NewRanks moves) = refl
users_after m (NewSprint name) = refl
users_after m (NewState sprint state) = refl
users_after m (NewFilter f) = refl
users_after m (NoFilter filter_no) = refl
users_after m (NewBoard b) = refl
users_after m (NoBoard board_no) = refl
users_after m (NewMembers group members) = refl

users_then : (m : Machine) (due : Meaning) → (next_after due m).setup.users ≡ m.setup.users
users_then m (Refuses c) = refl
users_then m (Tells a) = refl
users_then m (Finds a) = refl
users_then m (Makes a effect) = users_after m effect

pub users_stay : (m : Machine) (caller : List ℕ) (c : Call) → (next_of m caller c).setup.users ≡ m.setup.users
unfolding next_of
users_stay m caller c = users_then m (meaning m caller c)
