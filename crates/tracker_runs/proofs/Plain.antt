-- Calls whose effects change no rank.
use Rattle.std.proofs.Common.{◌≡◌, ℕ, ◌==◌, Bool, true, false, List, [], ◌∷◌, ◌+◌, slice_get, set, Option, Some, None, Result, Ok, Err, refl, sym, subst, arith}
use Rattle.std.specs.Prelude.{if◌then◌else◌}
use Rattle.std.specs.Option.{option_map_or}
use Rattle.std.proofs.lemmas.List.{length-set}
use Rattle.field_values.specs.declared.numbers.BoardNo.{BoardNo}
use Rattle.field_values.specs.declared.numbers.FilterNo.{FilterNo}
use Rattle.field_values.specs.declared.numbers.SprintNo.{SprintNo}
use Rattle.field_values.specs.declared.numbers.UserNo.{UserNo}
use Rattle.field_values.specs.declared.rules.Permission.TheVariants as permission
use Rattle.change_history.specs.declared.change.Change.{Change}
use Rattle.change_history.specs.declared.entry.Group.{Group}
use Rattle.change_history.specs.History.{History}
use Rattle.board.specs.declared.board.Board.{Board}
use Rattle.sprints.specs.declared.state.SprintState.{SprintState}
use Rattle.sprints.specs.State.{after_start, after_close}
use Rattle.tracker_work.specs.Seen.{state_in}
use Rattle.tracker_calls.specs.declared.call.Part.{Part}
use Rattle.tracker_calls.specs.declared.given.GivenField.{GivenField}
use Rattle.tracker_calls.specs.declared.reply.Answer.{Answer}
use Rattle.tracker_calls.specs.declared.reply.Answer.TheVariants as answer
use Rattle.tracker_calls.specs.declared.cause.Cause.{Cause}
use Rattle.tracker_machine.specs.Machine.{Machine}
use Rattle.tracker_machine.specs.Known.{place_of_issue, history_named, known_place}
use Rattle.tracker_machine.specs.Tracker.{RunsFrom, HasRanks}
use Rattle.tracker_machine.specs.Effect.{Effect, applied, longer, with_group}
use Rattle.tracker_machine.specs.Effect.Effect.{NewMoment, NewIssue, NewGroup, NewRank, NewBalance, NewRanks, NewSprint, NewState, NewFilter, NoFilter, NewBoard, NoBoard, NewMembers}
use Rattle.tracker_machine.specs.Meaning.{Meaning, unless, next_after}
use Rattle.tracker_machine.specs.Meaning.Meaning.{Refuses, Tells, Finds, Makes}
use Rattle.tracker_machine.specs.Create.{called_before}
use Rattle.tracker_machine.specs.Members.{group_names, users_named, has_members, members_answer, set_group_refusal, regroups, set_group_meaning}
use Rattle.tracker_machine.specs.Group.{grouped, grouped_at}
use Rattle.tracker_machine.specs.Edit.{edit_meaning, edit_refusal, edit_answer, edit_news}
use Rattle.tracker_machine.specs.Transition.{transition_meaning, transition_refusal, transition_answer, transition_news, transition_named}
use Rattle.tracker_machine.specs.Tick.{tick_meaning, tick_refusal, ticked}
use Rattle.tracker_machine.specs.Checks.{permission_refusal}
use Rattle.tracker_machine.specs.Sprints.{make_sprint_refusal, next_sprint, make_sprint_meaning, plan_sprint_refusal, turned, start_sprint_meaning, close_sprint_meaning, burndown_answer, burndown_meaning}
use Rattle.tracker_machine.specs.Show.{show_meaning, show_refusal, show_answer_of}
use Rattle.tracker_machine.specs.Entries.{history_meaning, history_refusal, history_answer_of}
use Rattle.tracker_machine.specs.Ranks.{ranks_meaning, ranks_answer}
use Rattle.tracker_machine.specs.Query.{Query, asked}
use Rattle.tracker_machine.specs.Search.{search_meaning, searched}
use Rattle.tracker_machine.specs.IssueList.{list_meaning, fields_refusal, issues_listed, wanted_fields}
use Rattle.tracker_machine.specs.Saved.{SavedFilter}
use Rattle.tracker_machine.specs.Filters.{filters_refusal, filter_for, is_kept, save_answer, saved, save_filter_meaning, drop_filter_refusal, drop_filter_meaning, filter_numbered, filter_told, filter_meaning}
use Rattle.tracker_machine.specs.Boards.{make_board_refusal, made_board, make_board_meaning, drop_board_refusal, drop_board_meaning, board_numbered, board_told, board_meaning}
use Rattle.tracker_machine.proofs.Tracker.{stays}

-- ---- what a call means

abbrev IsPlainEffect : Effect → Type 0
IsPlainEffect (NewMoment to) = Unit {0}
IsPlainEffect (NewIssue h rank external) = ⊥
IsPlainEffect (NewGroup place group) = Unit {0}
IsPlainEffect (NewRank issue rank) = ⊥
IsPlainEffect (NewBalance balance) = ⊥
IsPlainEffect (NewRanks moves) = ⊥
IsPlainEffect (NewSprint name) = Unit {0}
IsPlainEffect (NewState sprint state) = Unit {0}
IsPlainEffect (NewFilter f) = Unit {0}
IsPlainEffect (NoFilter filter_no) = Unit {0}
IsPlainEffect (NewBoard b) = Unit {0}
IsPlainEffect (NoBoard board_no) = Unit {0}
IsPlainEffect (NewMembers group members) = Unit {0}

abbrev pub IsPlain : Meaning → Type 0
IsPlain (Refuses r) = Unit {0}
IsPlain (Tells a) = Unit {0}
IsPlain (Finds a) = Unit {0}
IsPlain (Makes a effect) = IsPlainEffect effect

pub unless_plain : (r : Option Cause) (due : Meaning) → IsPlain due → IsPlain (unless r due)
unless_plain None due plain = plain
unless_plain (Some r) due plain = tt

-- ---- calls

-- an issue that was created before
pub called_plain : (same : Bool) (external : List ℕ) (h : History) → IsPlain (called_before same external h)
called_plain true external h = tt
called_plain false external h = tt

grouped_plain : (to_answer : Option ℕ → Answer) (m : Machine) (caller place : ℕ) (h : History) (changes : List Change) → IsPlain (grouped to_answer m caller place h changes)
grouped_plain to_answer m caller place h [] = tt
grouped_plain to_answer m caller place h (c ∷ cs) = tt

grouped_at_plain : (to_answer : Option ℕ → Answer) (m : Machine) (caller : ℕ) (place : Option ℕ) (h : Option History) (changes : List Change)
    → IsPlain (grouped_at to_answer m caller place h changes)
grouped_at_plain to_answer m caller None h changes = tt
grouped_at_plain to_answer m caller (Some place) None changes = tt
grouped_at_plain to_answer m caller (Some place) (Some h) changes = grouped_plain to_answer m caller place h changes

pub edit_plain : (m : Machine) (caller : ℕ) (issue : List ℕ) (given : List GivenField) → IsPlain (edit_meaning m caller issue given)
edit_plain m caller issue given =
    unless_plain (edit_refusal m caller issue given)
    (grouped_at (edit_answer issue) m caller (place_of_issue issue m.histories) (history_named m issue) (edit_news m given (history_named m issue)))
    (grouped_at_plain (edit_answer issue) m caller (place_of_issue issue m.histories) (history_named m issue) (edit_news m given (history_named m issue)))

pub transition_plain : (m : Machine) (caller : ℕ) (issue transition : List ℕ) (given : List GivenField) → IsPlain (transition_meaning m caller issue transition given)
transition_plain m caller issue transition given =
    let changes : List Change = transition_news m caller given (history_named m issue) (transition_named m transition) in
    unless_plain (transition_refusal m caller issue transition given)
    (grouped_at (transition_answer issue) m caller (place_of_issue issue m.histories) (history_named m issue) changes)
    (grouped_at_plain (transition_answer issue) m caller (place_of_issue issue m.histories) (history_named m issue) changes)

pub tick_plain : (m : Machine) (to : ℕ) → IsPlain (tick_meaning m to)
tick_plain m to = unless_plain (tick_refusal m to) (ticked m to) (by (to == m.moment))
  where
    by : (there : Bool) → IsPlain (if there then Tells (answer.Tick to) else Makes (answer.Tick to) (NewMoment to))
    by true = tt
    by false = tt

pub search_plain : (m : Machine) (caller : ℕ) (jql : List ℕ) (part : Part) → IsPlain (search_meaning m caller jql part)
unfolding search_meaning
search_plain m caller jql part = by (asked m.setup caller jql)
  where
    by : (query : Result Query Cause) → IsPlain (searched m caller part query)
    by (Err r) = tt
    by (Ok query) = tt

listed_plain : (m : Machine) (caller : ℕ) (numbers : List ℕ) (part : Part) (query : Result Query Cause) → IsPlain (issues_listed m caller numbers part query)
listed_plain m caller numbers part (Err r) = tt
listed_plain m caller numbers part (Ok query) = tt

pub list_plain : (m : Machine) (caller : ℕ) (jql : List ℕ) (fields : Option (List (List ℕ))) (part : Part) → IsPlain (list_meaning m caller jql fields part)
unfolding list_meaning
list_plain m caller jql fields part =
    let numbers : List ℕ = wanted_fields m.setup.field fields in
    unless_plain (fields_refusal m.setup.field fields) (issues_listed m caller numbers part (asked m.setup caller jql)) (listed_plain m caller numbers part (asked m.setup caller jql))

pub show_plain : (m : Machine) (caller : ℕ) (issue : List ℕ) → IsPlain (show_meaning m caller issue)
show_plain m caller issue = unless_plain (show_refusal m caller issue) (Tells (show_answer_of m (history_named m issue))) tt

pub history_plain : (m : Machine) (caller : ℕ) (issue : List ℕ) (part : Part) → IsPlain (history_meaning m caller issue part)
history_plain m caller issue part = unless_plain (history_refusal m caller issue) (Tells (history_answer_of m part (history_named m issue))) tt

pub ranks_plain : (m : Machine) (caller : ℕ) (part : Part) → IsPlain (ranks_meaning m caller part)
ranks_plain m caller part = unless_plain (permission_refusal m caller permission.Administer None) (Tells (ranks_answer m part)) tt

pub save_filter_plain : (m : Machine) (caller : ℕ) (name text : List ℕ) → IsPlain (save_filter_meaning m caller name text)
unfolding save_filter_meaning
save_filter_plain m caller name text =
    unless_plain (filters_refusal m caller name) (saved m caller name text (asked m.setup caller text)) (by (asked m.setup caller text))
  where
    by_kept : (query : Query) (b : Bool)
        → IsPlain (if b then Finds (save_answer m caller name query) else Makes (save_answer m caller name query) (NewFilter (filter_for m caller name text)))
    by_kept query true = tt
    by_kept query false = tt

    by : (query : Result Query Cause) → IsPlain (saved m caller name text query)
    by (Err r) = tt
    by (Ok query) = by_kept query (is_kept m caller name text)

pub drop_filter_plain : (m : Machine) (caller : ℕ) (filter_no : FilterNo) → IsPlain (drop_filter_meaning m caller filter_no)
drop_filter_plain m caller filter_no =
    unless_plain (drop_filter_refusal m caller filter_no) (Makes (answer.DropFilter filter_no) (NoFilter filter_no)) tt

pub filter_plain : (m : Machine) (caller : ℕ) (filter_no : FilterNo) (part : Part) → IsPlain (filter_meaning m caller filter_no part)
unfolding filter_meaning
filter_plain m caller filter_no part = by (filter_numbered m filter_no)
  where
    by : (o : Option SavedFilter) → IsPlain (filter_told m caller filter_no part o)
    by None = tt
    by (Some f) = tt

pub make_board_plain : (m : Machine) (caller : ℕ) (name : List ℕ) (filter_no : FilterNo) → IsPlain (make_board_meaning m caller name filter_no)
make_board_plain m caller name filter_no = unless_plain (make_board_refusal m caller filter_no) (made_board m name filter_no) tt

pub drop_board_plain : (m : Machine) (caller : ℕ) (board_no : BoardNo) → IsPlain (drop_board_meaning m caller board_no)
drop_board_plain m caller board_no =
    unless_plain (drop_board_refusal m caller board_no) (Makes (answer.DropBoard board_no) (NoBoard board_no)) tt

pub board_plain : (m : Machine) (caller : ℕ) (board_no : BoardNo) (part : Part) → IsPlain (board_meaning m caller board_no part)
unfolding board_meaning
board_plain m caller board_no part = by (board_numbered m board_no)
  where
    by : (o : Option Board) → IsPlain (board_told m caller board_no part o)
    by None = tt
    by (Some b) = tt

pub make_sprint_plain : (m : Machine) (caller : ℕ) (name : List ℕ) → IsPlain (make_sprint_meaning m caller name)
make_sprint_plain m caller name =
    unless_plain (make_sprint_refusal m caller) (Makes (answer.MakeSprint (next_sprint m)) (NewSprint name)) tt

turned_plain : (sprint : SprintNo) (kept : SprintState) (o : Option SprintState) → IsPlain (turned sprint kept o)
turned_plain sprint kept None = tt
turned_plain sprint kept (Some next) = tt

pub start_sprint_plain : (m : Machine) (caller : ℕ) (sprint : SprintNo) → IsPlain (start_sprint_meaning m caller sprint)
start_sprint_plain m caller sprint =
    let kept : SprintState = state_in m.sprints sprint.0 in
    let next : Option SprintState = after_start kept m.moment m.change in
    unless_plain (plan_sprint_refusal m caller sprint) (turned sprint kept next) (turned_plain sprint kept next)

pub close_sprint_plain : (m : Machine) (caller : ℕ) (sprint : SprintNo) → IsPlain (close_sprint_meaning m caller sprint)
close_sprint_plain m caller sprint =
    let kept : SprintState = state_in m.sprints sprint.0 in
    let next : Option SprintState = after_close kept m.moment m.change in
    unless_plain (plan_sprint_refusal m caller sprint) (turned sprint kept next) (turned_plain sprint kept next)

pub set_group_plain : (m : Machine) (caller : ℕ) (group : List ℕ) (names : List (List ℕ)) → IsPlain (set_group_meaning m caller group names)
unfolding set_group_meaning
set_group_plain m caller group names =
    let place : ℕ = known_place group (group_names m.setup) in
    let members : List UserNo = users_named m.setup names in
    unless_plain (set_group_refusal m caller group names) (regroups m.setup place members) (by place members (has_members m.setup place members))
  where
    by : (place : ℕ) (members : List UserNo) (there : Bool) → IsPlain (if there then Tells (members_answer m.setup place members)
        else Makes (members_answer m.setup place members) (NewMembers (record { 0 = place + 1 }) members))
    by place members true = tt
    by place members false = tt

pub burndown_plain : (m : Machine) (caller : ℕ) (sprint : SprintNo) (part : Part) → IsPlain (burndown_meaning m caller sprint part)
burndown_plain m caller sprint part = unless_plain (plan_sprint_refusal m caller sprint) (Tells (burndown_answer m sprint part)) tt

-- ---- ranks stay

group_keeps : (m : Machine) (place : ℕ) (group : Group) → HasRanks m → HasRanks (with_group m place group)
group_keeps m place group has = by (slice_get m.histories place) refl
  where
    by : (o : Option History) → slice_get m.histories place ≡ o
        → HasRanks (record m { change = m.change + 1; histories = option_map_or (λ h. set m.histories place (longer h group.entries)) o m.histories })
    by None at = record { numbers = has.numbers; each = has.each; ranked = has.ranked }
    by (Some h) at = record {
      numbers = subst (RunsFrom 1) (sym (stays (λ g. g.no.0) m.histories place h (longer h group.entries) at refl)) has.numbers;
      each = omega (arith, length-set m.histories place (longer h group.entries), has.each);
      ranked = has.ranked;
    }

effect_keeps : (effect : Effect) (m : Machine) → IsPlainEffect effect → HasRanks m → HasRanks (applied effect m)
unfolding applied
effect_keeps (NewMoment to) m plain has = record { numbers = has.numbers; each = has.each; ranked = has.ranked }
effect_keeps (NewIssue h rank external) m plain has = absurd plain
effect_keeps (NewGroup place group) m plain has = group_keeps m place group has
effect_keeps (NewRank issue rank) m plain has = absurd plain
effect_keeps (NewBalance balance) m plain has = absurd plain
effect_keeps (NewRanks moves) m plain has = absurd plain
effect_keeps (NewSprint name) m plain has = record { numbers = has.numbers; each = has.each; ranked = has.ranked }
effect_keeps (NewState sprint state) m plain has = record { numbers = has.numbers; each = has.each; ranked = has.ranked }
effect_keeps (NewFilter f) m plain has = record { numbers = has.numbers; each = has.each; ranked = has.ranked }
effect_keeps (NoFilter filter_no) m plain has = record { numbers = has.numbers; each = has.each; ranked = has.ranked }
effect_keeps (NewBoard b) m plain has = record { numbers = has.numbers; each = has.each; ranked = has.ranked }
effect_keeps (NoBoard board_no) m plain has = record { numbers = has.numbers; each = has.each; ranked = has.ranked }
effect_keeps (NewMembers group members) m plain has = record { numbers = has.numbers; each = has.each; ranked = has.ranked }

pub plain_keeps : (due : Meaning) (m : Machine) → IsPlain due → HasRanks m → HasRanks (next_after due m)
plain_keeps (Refuses r) m plain has = has
plain_keeps (Tells a) m plain has = has
plain_keeps (Finds a) m plain has = has
plain_keeps (Makes a effect) m plain has = effect_keeps effect m plain has
