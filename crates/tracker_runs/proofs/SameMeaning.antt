-- Calls that don't ask for ranks mean the same in trackers that differ in ranks alone.
use Rattle.std.proofs.Common.{◌≡◌, ℕ, ◌∷◌, [], List, Option, Some, None, Result, Ok, Err, refl, ap}
use Rattle.field_values.specs.declared.numbers.BoardNo.{BoardNo}
use Rattle.field_values.specs.declared.numbers.FilterNo.{FilterNo}
use Rattle.field_values.specs.declared.numbers.SprintNo.{SprintNo}
use Rattle.field_values.specs.declared.rules.Permission.{Permission}
use Rattle.field_values.specs.declared.rules.Permission.TheVariants as permission
use Rattle.field_values.specs.declared.parts.Transition.{Transition}
use Rattle.change_history.specs.declared.change.Change.{Change}
use Rattle.change_history.specs.History.{History}
use Rattle.board.specs.Order.{Pair}
use Rattle.rank_balancer.specs.declared.balance.Balance.{Balance}
use Rattle.tracker_calls.specs.declared.call.Part.{Part}
use Rattle.tracker_calls.specs.declared.given.GivenField.{GivenField}
use Rattle.tracker_calls.specs.declared.reply.Answer.{Answer}
use Rattle.tracker_calls.specs.declared.cause.Cause.{Cause}
use Rattle.tracker_machine.specs.Machine.{Machine}
use Rattle.tracker_machine.specs.Known.{place_of_issue, history_named}
use Rattle.tracker_machine.specs.Access.{access_refusal}
use Rattle.tracker_machine.specs.Group.{grouped, grouped_at}
use Rattle.tracker_machine.specs.Edit.{edit_meaning, edit_news, set_changes}
use Rattle.tracker_machine.specs.Transition.{transition_meaning, transition_named, transition_news, condition_refusal, validator_refusal}
use Rattle.tracker_machine.specs.Show.{show_meaning, show_answer_of}
use Rattle.tracker_machine.specs.Entries.{history_meaning, history_answer_of}
use Rattle.tracker_machine.specs.Move.{move_refusal}
use Rattle.tracker_machine.specs.Query.{Query, asked}
use Rattle.tracker_machine.specs.Saved.{SavedFilter}
use Rattle.tracker_machine.specs.Search.{found}
use Rattle.tracker_machine.specs.Meaning.{unless}
use Rattle.tracker_machine.specs.Filters.{filters_refusal, saved, save_filter_meaning, owner_refusal, drop_filter_meaning, filter_numbered}
use Rattle.tracker_machine.specs.Boards.{make_board_meaning, drop_board_meaning}
use Rattle.tracker_machine.specs.Members.{set_group_meaning}
use Rattle.tracker_machine.specs.Sprints.{make_sprint_meaning, start_sprint_meaning, close_sprint_meaning, burndown_answer, burndown_meaning}
use Rattle.tracker_runs.proofs.Alike.{reranked}

module _ (m : Machine) (order : List Pair) (balance : Balance) where
  abbrev new : Machine
  new = reranked m order balance

  access_same : (caller : ℕ) (p : Permission) (o : Option History) → access_refusal new caller p o ≡ access_refusal m caller p o
  access_same caller p None = refl
  access_same caller p (Some h) = refl

  grouped_same : (to_answer : Option ℕ → Answer) (caller place : ℕ) (h : History) (changes : List Change)
      → grouped to_answer new caller place h changes ≡ grouped to_answer m caller place h changes
  grouped_same to_answer caller place h [] = refl
  grouped_same to_answer caller place h (c ∷ cs) = refl

  grouped_at_same : (to_answer : Option ℕ → Answer) (caller : ℕ) (place : Option ℕ) (h : Option History) (changes : List Change)
      → grouped_at to_answer new caller place h changes ≡ grouped_at to_answer m caller place h changes
  grouped_at_same to_answer caller None h changes = refl
  grouped_at_same to_answer caller (Some place) None changes = refl
  grouped_at_same to_answer caller (Some place) (Some h) changes = grouped_same to_answer caller place h changes

  edit_news_same : (given : List GivenField) (o : Option History) → edit_news new given o ≡ edit_news m given o
  edit_news_same given None = refl
  edit_news_same given (Some h) = refl

  condition_same : (caller : ℕ) (o : Option History) (t : Option Transition) → condition_refusal new caller o t ≡ condition_refusal m caller o t
  condition_same caller None t = refl
  condition_same caller (Some h) None = refl
  condition_same caller (Some h) (Some t) = refl

  validator_same : (caller : ℕ) (inputs : List Change) (o : Option History) (t : Option Transition)
      → validator_refusal new caller inputs o t ≡ validator_refusal m caller inputs o t
  validator_same caller inputs None t = refl
  validator_same caller inputs (Some h) None = refl
  validator_same caller inputs (Some h) (Some t) = refl

  transition_news_same : (caller : ℕ) (given : List GivenField) (o : Option History) (t : Option Transition)
      → transition_news new caller given o t ≡ transition_news m caller given o t
  transition_news_same caller given None t = refl
  transition_news_same caller given (Some h) None = refl
  transition_news_same caller given (Some h) (Some t) = refl

  show_answer_same : (o : Option History) → show_answer_of new o ≡ show_answer_of m o
  show_answer_same None = refl
  show_answer_same (Some h) = refl

  history_answer_same : (part : Part) (o : Option History) → history_answer_of new part o ≡ history_answer_of m part o
  history_answer_same part None = refl
  history_answer_same part (Some h) = refl

  -- ---- calls

  pub edit_same : (caller : ℕ) (issue : List ℕ) (given : List GivenField) → edit_meaning new caller issue given ≡ edit_meaning m caller issue given
  edit_same caller issue given =
      rw (
        access_same caller permission.Browse (history_named m issue),
        access_same caller permission.Edit (history_named m issue),
        edit_news_same given (history_named m issue),
        grouped_at_same _ caller (place_of_issue issue m.histories) (history_named m issue) (edit_news m given (history_named m issue)),
      ) refl

  pub transition_same : (caller : ℕ) (issue transition : List ℕ) (given : List GivenField)
      → transition_meaning new caller issue transition given ≡ transition_meaning m caller issue transition given
  transition_same caller issue transition given =
      let h : Option History = history_named m issue in
      let t : Option Transition = transition_named m transition in
      rw (
        access_same caller permission.Browse h,
        access_same caller permission.Transition h,
        condition_same caller h t,
        validator_same caller (set_changes m given) h t,
        transition_news_same caller given h t,
        grouped_at_same _ caller (place_of_issue issue m.histories) h (transition_news m caller given h t),
      ) refl

  pub show_same : (caller : ℕ) (issue : List ℕ) → show_meaning new caller issue ≡ show_meaning m caller issue
  show_same caller issue = rw (access_same caller permission.Browse (history_named m issue), show_answer_same (history_named m issue)) refl

  pub history_same : (caller : ℕ) (issue : List ℕ) (part : Part) → history_meaning new caller issue part ≡ history_meaning m caller issue part
  history_same caller issue part = rw (access_same caller permission.Browse (history_named m issue), history_answer_same part (history_named m issue)) refl

  pub move_refusal_same : (caller : ℕ) (issue other : List ℕ) → move_refusal new caller issue other ≡ move_refusal m caller issue other
  move_refusal_same caller issue other =
      rw (
        access_same caller permission.Browse (history_named m issue),
        access_same caller permission.Rank (history_named m issue),
        access_same caller permission.Browse (history_named m other),
      ) refl

  -- ---- filters and boards

  saved_same : (caller : ℕ) (name text : List ℕ) (query : Result Query Cause) → saved new caller name text query ≡ saved m caller name text query
  unfolding found
  saved_same caller name text (Err r) = refl
  saved_same caller name text (Ok query) = refl

  pub save_filter_same : (caller : ℕ) (name text : List ℕ) → save_filter_meaning new caller name text ≡ save_filter_meaning m caller name text
  unfolding save_filter_meaning
  save_filter_same caller name text = ap (unless (filters_refusal m caller name)) (saved_same caller name text (asked m.setup caller text))

  owner_same : (caller : ℕ) (o : Option SavedFilter) → owner_refusal new caller o ≡ owner_refusal m caller o
  owner_same caller None = refl
  owner_same caller (Some f) = refl

  pub drop_filter_same : (caller : ℕ) (filter_no : FilterNo) → drop_filter_meaning new caller filter_no ≡ drop_filter_meaning m caller filter_no
  drop_filter_same caller filter_no = rw (owner_same caller (filter_numbered m filter_no)) refl

  pub make_board_same : (caller : ℕ) (name : List ℕ) (filter_no : FilterNo) → make_board_meaning new caller name filter_no ≡ make_board_meaning m caller name filter_no
  make_board_same caller name filter_no = refl

  pub drop_board_same : (caller : ℕ) (board_no : BoardNo) → drop_board_meaning new caller board_no ≡ drop_board_meaning m caller board_no
  drop_board_same caller board_no = refl

  -- ---- sprints

  pub make_sprint_same : (caller : ℕ) (name : List ℕ) → make_sprint_meaning new caller name ≡ make_sprint_meaning m caller name
  make_sprint_same caller name = refl

  pub start_sprint_same : (caller : ℕ) (sprint : SprintNo) → start_sprint_meaning new caller sprint ≡ start_sprint_meaning m caller sprint
  start_sprint_same caller sprint = refl

  pub close_sprint_same : (caller : ℕ) (sprint : SprintNo) → close_sprint_meaning new caller sprint ≡ close_sprint_meaning m caller sprint
  close_sprint_same caller sprint = refl

  pub burndown_same : (caller : ℕ) (sprint : SprintNo) (part : Part) → burndown_meaning new caller sprint part ≡ burndown_meaning m caller sprint part
  unfolding burndown_answer
  burndown_same caller sprint part = refl

  -- ---- groups

  pub set_group_same : (caller : ℕ) (group : List ℕ) (names : List (List ℕ)) → set_group_meaning new caller group names ≡ set_group_meaning m caller group names
  unfolding set_group_meaning
  set_group_same caller group names = refl
