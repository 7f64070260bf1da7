-- By what each call may change the lists of filters.
use Rattle.std.proofs.Common.{◌≡◌, ◌≢◌, ℕ, zero, suc, ◌+◌, ◌==◌, map, option_map, IfSome, Bool, true, false, List, [], ◌∷◌, ◌++◌, length, slice_get, Option, Some, None, Result, Ok, Err, if◌then◌else◌, refl, sym, ◌∙◌, ap, subst, arith, length-append}
use Rattle.std.specs.Prelude.{option_and_then}
use Rattle.std.specs.Str.{bytes_eq}
use Rattle.std.proofs.lemmas.Bool.Decides.{nat_tests}
use Rattle.field_values.specs.declared.numbers.BoardNo.{BoardNo}
use Rattle.field_values.specs.declared.numbers.FilterNo.{FilterNo}
use Rattle.field_values.specs.declared.numbers.IssueNo.{IssueNo}
use Rattle.field_values.specs.declared.rules.Permission.TheVariants as permission
use Rattle.fields.specs.SetupParts.{names_in}
use Rattle.change_history.specs.declared.change.Change.{Change}
use Rattle.change_history.specs.declared.entry.Group.{Group}
use Rattle.change_history.specs.History.{History}
use Rattle.rank_strings.specs.Rank.{RankParts}
use Rattle.rising_numbers.specs.ByNumber.{by_number}
use Rattle.rising_numbers.proofs.ByNumber.{put_other, without_other}
use Rattle.list_changes.specs.declared.changed.Changed.{Changed}
use Rattle.list_changes.specs.declared.changed.Changed.TheVariants as changed
use Rattle.list_changes.specs.Differ.{DifferAt}
use Rattle.tracker_calls.specs.declared.call.Call.{Call}
use Rattle.tracker_calls.specs.declared.call.Call.TheVariants as call
use Rattle.tracker_calls.specs.declared.given.GivenField.{GivenField}
use Rattle.tracker_calls.specs.declared.reply.Answer.{Answer}
use Rattle.tracker_calls.specs.declared.reply.Answer.TheVariants as answer
use Rattle.tracker_calls.specs.declared.reply.Reply.{Reply}
use Rattle.tracker_calls.specs.declared.reply.Reply.TheVariants as reply
use Rattle.tracker_calls.specs.declared.cause.Cause.{Cause}
use Rattle.tracker_machine.specs.Machine.{Machine}
use Rattle.tracker_machine.specs.Known.{history_named, place_of_issue}
use Rattle.tracker_machine.specs.Effect.{Effect, applied, with_filter, without_filter, with_group, with_issue}
use Rattle.tracker_machine.specs.Effect.Effect.{NewMoment, NewIssue, NewGroup, NewRank, NewBalance, NewRanks, NewSprint, NewState, NewFilter, NoFilter, NewBoard, NoBoard, NewMembers}
use Rattle.tracker_machine.specs.Saved.{SavedFilter, filter_number}
use Rattle.tracker_machine.specs.Meaning.{Meaning, unless, reply_to, next_after}
use Rattle.tracker_machine.specs.Meaning.Meaning.{Refuses, Tells, Finds, Makes}
use Rattle.tracker_machine.specs.Checks.{caller_refusal, permission_refusal}
use Rattle.tracker_machine.specs.Show.{show_answer_of, show_refusal}
use Rattle.tracker_machine.specs.Entries.{history_answer_of, history_refusal}
use Rattle.tracker_machine.specs.Ranks.{ranks_answer}
use Rattle.tracker_machine.specs.Sprints.{burndown_answer, plan_sprint_refusal}
use Rattle.tracker_machine.specs.Overviews.{boards_meaning, filters_meaning, sprints_meaning}
use Rattle.tracker_machine.specs.Describe.{describe_meaning}
use Rattle.tracker_machine.specs.Step.{IsStep, form_refusal, meaning, meaning_for, user_of}
use Rattle.tracker_calls.specs.declared.call.Part.{Part}
use Rattle.board.specs.declared.board.Board.{Board}
use Rattle.board.specs.declared.place.Place.{Place}
use Rattle.board.specs.Moved.{Sides}
use Rattle.board.specs.Order.{Pair}
use Rattle.rank_balancer.specs.declared.balance.Balance.{Balance}
use Rattle.rank_balancer.specs.declared.balance.Balance.TheVariants.{Idle, Moving}
use Rattle.rank_balancer.specs.Planned.{planned}
use Rattle.rank_balancer.specs.Step.{Move}
use Rattle.tracker_machine.specs.Query.{Query, asked}
use Rattle.tracker_machine.specs.Rank.{has_rank, last_rank, moved_rank, with_given}
use Rattle.tracker_machine.specs.Move.{move_answer, move_meaning, move_refusal, moved_beside, newly_ranked}
use Rattle.tracker_machine.specs.Rebalance.{balance_meaning, started, stepped, with_planned}
use Rattle.tracker_machine.specs.Search.{search_meaning, searched}
use Rattle.tracker_machine.specs.IssueList.{fields_refusal, issues_listed, list_meaning, wanted_fields}
use Rattle.tracker_machine.specs.Boards.{board_meaning, board_numbered, board_told, drop_board_refusal, made_board, make_board_refusal}
use Rattle.tracker_machine.specs.Create.{called_before, create_meaning, create_or_tell, create_refusal, create_wants, created, is_created_as, issue_called, new_issue_refusal, spelled_key}
use Rattle.tracker_machine.specs.Edit.{edit_answer, edit_meaning, edit_news, edit_refusal}
use Rattle.tracker_machine.specs.Transition.{transition_answer, transition_meaning, transition_named, transition_news, transition_refusal}
use Rattle.tracker_machine.specs.Wanted.{changes_of}
use Rattle.tracker_machine.specs.Group.{grouped, grouped_at, next_group}
use Rattle.tracker_machine.specs.Filters.{drop_filter_meaning, drop_filter_refusal, filter_for, filters_refusal, is_kept, save_answer, save_filter_meaning, saved, filter_meaning, filter_numbered, filter_told}
use Rattle.filter_lists.specs.Listed.{listed, lists}
use Rattle.filter_lists.specs.Events.{CallsChangeLists, ListsMayChange, changed_at, changed_by, changed_by_answer, changed_by_create, place_in}
use Rattle.filter_lists.proofs.Effects.{group_differs, issue_differs, length-listed, same_at}

-- which change is told, by how many issues there are then and by the answer
abbrev Teller : Type 0
Teller = ℕ → Answer → Changed

-- what a call means changes lists as is told
abbrev IsTold : Machine → Teller → Meaning → Type 0
IsTold m told (Refuses r) = Unit {0}
IsTold m told (Tells a) = ListsMayChange (told (length m.histories) a) m m
IsTold m told (Finds a) = ListsMayChange (told (length m.histories) a) m m
IsTold m told (Makes a effect) =
    ListsMayChange (told (length (applied effect m).histories) a) m (applied effect m)

unless_told : (m : Machine) (told : Teller) (r : Option Cause) (due : Meaning) → IsTold m told due → IsTold m told (unless r due)
unless_told m told None due is = is
unless_told m told (Some r) due is = tt

-- ---- calls that may change anything

abbrev anything : Teller
anything n a = changed.Anything

told_anything : (m : Machine) (due : Meaning) → IsTold m anything due
told_anything m (Refuses r) = tt
told_anything m (Tells a) = λ user filter_no. tt
told_anything m (Finds a) = λ user filter_no. tt
told_anything m (Makes a effect) = λ user filter_no. tt

-- ---- calls that change ranks or boards, or nothing

abbrev nothing : Teller
nothing n a = changed.Nothing

-- an effect on which no list stands
abbrev IsQuiet : Effect → Type 0
IsQuiet (NewMoment to) = ⊥
IsQuiet (NewIssue h rank external) = ⊥
IsQuiet (NewGroup place group) = ⊥
IsQuiet (NewRank issue rank) = Unit {0}
IsQuiet (NewBalance balance) = Unit {0}
IsQuiet (NewRanks moves) = Unit {0}
IsQuiet (NewSprint name) = ⊥
IsQuiet (NewState sprint state) = ⊥
IsQuiet (NewFilter f) = ⊥
IsQuiet (NoFilter filter_no) = ⊥
IsQuiet (NewBoard b) = Unit {0}
IsQuiet (NoBoard board_no) = Unit {0}
IsQuiet (NewMembers group members) = ⊥

abbrev MeansQuiet : Meaning → Type 0
MeansQuiet (Refuses r) = Unit {0}
MeansQuiet (Tells a) = Unit {0}
MeansQuiet (Finds a) = Unit {0}
MeansQuiet (Makes a effect) = IsQuiet effect

quiet_lists : (m : Machine) (effect : Effect) → IsQuiet effect → (user filter_no : ℕ) → listed (applied effect m) user filter_no ≡ listed m user filter_no
unfolding applied listed
quiet_lists m (NewMoment to) quiet user filter_no = absurd quiet
quiet_lists m (NewIssue h rank external) quiet user filter_no = absurd quiet
quiet_lists m (NewGroup place group) quiet user filter_no = absurd quiet
quiet_lists m (NewRank issue rank) quiet user filter_no = refl
quiet_lists m (NewBalance balance) quiet user filter_no = refl
quiet_lists m (NewRanks moves) quiet user filter_no = refl
quiet_lists m (NewSprint name) quiet user filter_no = absurd quiet
quiet_lists m (NewState sprint state) quiet user filter_no = absurd quiet
quiet_lists m (NewFilter f) quiet user filter_no = absurd quiet
quiet_lists m (NoFilter f) quiet user filter_no = absurd quiet
quiet_lists m (NewBoard b) quiet user filter_no = refl
quiet_lists m (NoBoard board_no) quiet user filter_no = refl
quiet_lists m (NewMembers group members) quiet user filter_no = absurd quiet

told_nothing : (m : Machine) (due : Meaning) → MeansQuiet due → IsTold m nothing due
told_nothing m (Refuses r) quiet = tt
told_nothing m (Tells a) quiet = λ user filter_no. refl
told_nothing m (Finds a) quiet = λ user filter_no. refl
told_nothing m (Makes a effect) quiet = quiet_lists m effect quiet

-- ---- create

abbrev create_teller : Machine → Teller
create_teller m n a = changed_by_create (length m.histories) n

create_same : (m : Machine) → ListsMayChange (changed_by_create (length m.histories) (length m.histories)) m m
create_same m =
    let same : (length m.histories == length m.histories) ≡ true = grind (arith, nat_tests) in
    subst (λ (b : Bool). ListsMayChange (if b then changed.Nothing else changed.Issue (length m.histories)) m m) (sym same) (λ user filter_no. refl)

create_new : (m : Machine) (h : History) (rank : RankParts) (external : Option (List ℕ))
    → ListsMayChange (changed_by_create (length m.histories) (length (applied (NewIssue h rank external) m).histories)) m (applied (NewIssue h rank external) m)
unfolding applied
create_new m h rank external =
    let other : (length (m.histories ++ h ∷ []) == length m.histories) ≡ false = grind (arith, nat_tests, length-append m.histories (h ∷ [])) in
    subst (λ (b : Bool). ListsMayChange (if b then changed.Nothing else changed.Issue (length m.histories)) m (with_issue m h rank external)) (sym other)
    (issue_differs m h rank external)

called_told : (m : Machine) (same : Bool) (external : List ℕ) (h : History) → IsTold m (create_teller m) (called_before same external h)
called_told m true external h = create_same m
called_told m false external h = tt

ranked_told : (m : Machine) (rank : Result RankParts Sides) (caller : ℕ) (project : List ℕ) (external : Option (List ℕ)) (changes : List Change)
    → IsTold m (create_teller m) (with_given rank (created m caller project external changes))
ranked_told m (Ok rank) caller project external changes = create_new m _ rank external
ranked_told m (Err sides) caller project external changes = tt

create_or_told : (m : Machine) (caller : ℕ) (project issue_type summary : List ℕ) (given : List GivenField) (external : Option (List ℕ)) (o : Option History)
    → IsTold m (create_teller m) (create_or_tell m caller project issue_type summary given external o)
create_or_told m caller project issue_type summary given external None =
    unless_told m (create_teller m) (new_issue_refusal m caller issue_type summary given) _
    (ranked_told m (last_rank m) caller project external (changes_of (names_in m.setup) (create_wants m.setup caller issue_type summary given)))
create_or_told m caller project issue_type summary given external (Some h) = called_told m (is_created_as m project issue_type summary h) _ h

create_told : (m : Machine) (caller : ℕ) (project issue_type summary : List ℕ) (given : List GivenField) (external : Option (List ℕ))
    → IsTold m (create_teller m) (create_meaning m caller project issue_type summary given external)
create_told m caller project issue_type summary given external =
    unless_told m (create_teller m) (create_refusal m caller project given) _
    (create_or_told m caller (spelled_key m project) issue_type summary given external (issue_called m external))

-- ---- edit and transition

abbrev group_teller : Option ℕ → Teller
group_teller place n a = changed_at place

grouped_told : (to_answer : Option ℕ → Answer) (m : Machine) (caller place : ℕ) (h : History) (changes : List Change) → slice_get m.histories place ≡ Some h
    → IsTold m (group_teller (Some place)) (grouped to_answer m caller place h changes)
unfolding applied
grouped_told to_answer m caller place h [] there = λ user filter_no. same_at m place h user filter_no there
grouped_told to_answer m caller place h (c ∷ cs) there = λ user filter_no. group_differs m place (next_group m caller h (c ∷ cs)) h user filter_no there

-- an issue that is named is there
named_there : (name : List ℕ) (hs : List History) → IfSome (place_of_issue name hs) (λ place. (h : History) × (slice_get hs place ≡ Some h))
named_there name [] = tt
named_there name (h ∷ hs) = by (bytes_eq h.key name) (place_of_issue name hs) (named_there name hs)
  where
    by : (own : Bool) (o : Option ℕ) → IfSome o (λ place. (g : History) × (slice_get hs place ≡ Some g))
        → IfSome (if own then Some 0 else option_map suc o) (λ place. (g : History) × (slice_get (h ∷ hs) place ≡ Some g))
    by true o there = (h, refl)
    by false None there = tt
    by false (Some place) there = there

grouped_at_told : (to_answer : Option ℕ → Answer) (m : Machine) (caller : ℕ) (place : Option ℕ) (changes : List Change)
    → IfSome place (λ k. (h : History) × (slice_get m.histories k ≡ Some h))
    → IsTold m (group_teller place) (grouped_at to_answer m caller place (option_and_then (λ k. slice_get m.histories k) place) changes)
grouped_at_told to_answer m caller None changes there = λ user filter_no. refl
grouped_at_told to_answer m caller (Some place) changes there =
    subst (λ (o : Option History). IsTold m (group_teller (Some place)) (grouped_at to_answer m caller (Some place) o changes)) (sym there.1)
    (grouped_told to_answer m caller place there.0 changes there.1)

edit_told : (m : Machine) (caller : ℕ) (issue : List ℕ) (given : List GivenField) → IsTold m (group_teller (place_of_issue issue m.histories)) (edit_meaning m caller issue given)
edit_told m caller issue given =
    let place : Option ℕ = place_of_issue issue m.histories in
    unless_told m (group_teller place) (edit_refusal m caller issue given) _
    (grouped_at_told (edit_answer issue) m caller place (edit_news m given (history_named m issue)) (named_there issue m.histories))

transition_told : (m : Machine) (caller : ℕ) (issue transition : List ℕ) (given : List GivenField)
    → IsTold m (group_teller (place_of_issue issue m.histories)) (transition_meaning m caller issue transition given)
transition_told m caller issue transition given =
    let place : Option ℕ = place_of_issue issue m.histories in
    unless_told m (group_teller place) (transition_refusal m caller issue transition given) _
    (grouped_at_told (transition_answer issue) m caller place (transition_news m caller given (history_named m issue) (transition_named m transition)) (named_there issue m.histories))

-- ---- filters

abbrev answer_teller : Teller
answer_teller n a = changed_by_answer a

filter_put : (m : Machine) (f : SavedFilter) → ListsMayChange (changed.Filter f.no) m (with_filter m f)
unfolding listed
filter_put m f user filter_no other =
    ap (λ o. map (lists m user o) m.histories) (put_other filter_number filter_no f m.filters (λ same. other (sym same)))

filter_gone : (m : Machine) (number : FilterNo) → ListsMayChange (changed.Filter number) m (without_filter m number)
unfolding listed
filter_gone m number user filter_no other =
    ap (λ o. map (lists m user o) m.histories) (without_other filter_number number.0 filter_no m.filters (λ same. other (sym same)))

saved_told : (m : Machine) (caller : ℕ) (name text : List ℕ) (query : Result Query Cause) → IsTold m answer_teller (saved m caller name text query)
unfolding applied
saved_told m caller name text (Err r) = tt
saved_told m caller name text (Ok query) = by (is_kept m caller name text)
  where
    by : (kept : Bool) → IsTold m answer_teller (if kept then Finds (save_answer m caller name query) else Makes (save_answer m caller name query) (NewFilter (filter_for m caller name text)))
    by true = λ user filter_no other. refl
    by false = filter_put m (filter_for m caller name text)

save_filter_told : (m : Machine) (caller : ℕ) (name text : List ℕ) → IsTold m answer_teller (save_filter_meaning m caller name text)
unfolding save_filter_meaning
save_filter_told m caller name text = unless_told m answer_teller (filters_refusal m caller name) _ (saved_told m caller name text (asked m.setup caller text))

drop_filter_told : (m : Machine) (caller : ℕ) (filter_no : FilterNo) → IsTold m answer_teller (drop_filter_meaning m caller filter_no)
unfolding applied
drop_filter_told m caller filter_no = unless_told m answer_teller (drop_filter_refusal m caller filter_no) _ (filter_gone m filter_no)

-- ---- calls that change no list

unless_quiet : (r : Option Cause) (due : Meaning) → MeansQuiet due → MeansQuiet (unless r due)
unless_quiet None due quiet = quiet
unless_quiet (Some r) due quiet = tt

tells_told : (m : Machine) (r : Option Cause) (a : Answer) → IsTold m nothing (unless r (Tells a))
tells_told m None a = λ user filter_no. refl
tells_told m (Some c) a = tt

search_quiet : (m : Machine) (caller : ℕ) (jql : List ℕ) (part : Part) → MeansQuiet (search_meaning m caller jql part)
unfolding search_meaning
search_quiet m caller jql part = by (asked m.setup caller jql)
  where
    by : (query : Result Query Cause) → MeansQuiet (searched m caller part query)
    by (Err r) = tt
    by (Ok query) = tt

list_quiet : (m : Machine) (caller : ℕ) (jql : List ℕ) (fields : Option (List (List ℕ))) (part : Part) → MeansQuiet (list_meaning m caller jql fields part)
unfolding list_meaning
list_quiet m caller jql fields part = unless_quiet (fields_refusal m.setup.field fields) _ (by (wanted_fields m.setup.field fields) (asked m.setup caller jql))
  where
    by : (numbers : List ℕ) (query : Result Query Cause) → MeansQuiet (issues_listed m caller numbers part query)
    by numbers (Err r) = tt
    by numbers (Ok query) = tt

newly_quiet : (m : Machine) (name : List ℕ) (issue : IssueNo) (rank : RankParts) → MeansQuiet (newly_ranked m name issue rank)
newly_quiet m name issue rank = by (has_rank m.order issue rank)
  where
    by : (there : Bool) → MeansQuiet (if there then Tells (move_answer name rank) else Makes (move_answer name rank) (NewRank issue rank))
    by true = tt
    by false = tt

moved_quiet : (m : Machine) (issue : List ℕ) (place : IssueNo → Place) (one other : Option History) → MeansQuiet (moved_beside m issue place one other)
moved_quiet m issue place None other = tt
moved_quiet m issue place (Some h) None = tt
moved_quiet m issue place (Some h) (Some g) = by (moved_rank m h.no (place g.no))
  where
    by : (rank : Result RankParts Sides) → MeansQuiet (with_given rank (newly_ranked m issue h.no))
    by (Ok rank) = newly_quiet m issue h.no rank
    by (Err sides) = tt

move_quiet : (m : Machine) (caller : ℕ) (issue other : List ℕ) (place : IssueNo → Place) → MeansQuiet (move_meaning m caller issue other place)
move_quiet m caller issue other place = unless_quiet (move_refusal m caller issue other) _ (moved_quiet m issue place (history_named m issue) (history_named m other))

filter_quiet : (m : Machine) (caller : ℕ) (filter_no : FilterNo) (part : Part) → MeansQuiet (filter_meaning m caller filter_no part)
unfolding filter_meaning
filter_quiet m caller filter_no part = by (filter_numbered m filter_no)
  where
    by : (o : Option SavedFilter) → MeansQuiet (filter_told m caller filter_no part o)
    by None = tt
    by (Some f) = tt

board_quiet : (m : Machine) (caller : ℕ) (board_no : BoardNo) (part : Part) → MeansQuiet (board_meaning m caller board_no part)
unfolding board_meaning
board_quiet m caller board_no part = by (board_numbered m board_no)
  where
    by : (o : Option Board) → MeansQuiet (board_told m caller board_no part o)
    by None = tt
    by (Some b) = tt

started_quiet : (balance : Balance) → MeansQuiet (started balance)
started_quiet (Idle bucket) = tt
started_quiet (Moving from to) = tt

stepped_quiet : (order : List Pair) (balance : Balance) (count : ℕ) → MeansQuiet (stepped order balance count)
stepped_quiet order (Idle bucket) count = tt
stepped_quiet order (Moving from to) count = by (planned order from to count)
  where
    by : (moves : Result (List Move) Sides) → MeansQuiet (with_planned order from moves)
    by (Ok moves) = tt
    by (Err sides) = tt

-- ---- each call

abbrev teller : Machine → Call → Teller
teller m c n a = changed_by c (place_in m c) (length m.histories) n a

call_told : (m : Machine) (user : ℕ) (c : Call) → IsTold m (teller m c) (meaning_for m user c)
unfolding meaning_for
call_told m user (call.Create project issue_type summary given external) = create_told m user project issue_type summary given external
call_told m user (call.Edit issue given) = edit_told m user issue given
call_told m user (call.Transition issue transition given) = transition_told m user issue transition given
call_told m user (call.Tick to) = told_anything m _
call_told m user (call.Show issue) = tells_told m (show_refusal m user issue) (show_answer_of m (history_named m issue))
call_told m user (call.History issue part) = tells_told m (history_refusal m user issue) (history_answer_of m part (history_named m issue))
call_told m user (call.Search jql part) = told_nothing m _ (search_quiet m user jql part)
call_told m user (call.MoveBefore issue other) = told_nothing m _ (move_quiet m user issue other Place.Before)
call_told m user (call.MoveAfter issue other) = told_nothing m _ (move_quiet m user issue other Place.After)
call_told m user (call.Ranks part) = tells_told m (permission_refusal m user permission.Administer None) (ranks_answer m part)
call_told m user call.RebalanceStart = told_nothing m _ (unless_quiet _ _ (started_quiet m.balance))
call_told m user (call.RebalanceStep count) = told_nothing m _ (unless_quiet _ _ (stepped_quiet m.order m.balance count))
call_told m user call.Balance = told_nothing m (balance_meaning m) tt
call_told m user (call.SaveFilter name jql) = save_filter_told m user name jql
call_told m user (call.DropFilter filter_no) = drop_filter_told m user filter_no
call_told m user (call.Filter filter_no part) = told_nothing m _ (filter_quiet m user filter_no part)
call_told m user (call.MakeBoard name filter_no) = told_nothing m _ (unless_quiet (make_board_refusal m user filter_no) (made_board m name filter_no) tt)
call_told m user (call.DropBoard board_no) = told_nothing m _ (unless_quiet (drop_board_refusal m user board_no) (Makes (answer.DropBoard board_no) (NoBoard board_no)) tt)
call_told m user (call.Board board_no part) = told_nothing m _ (board_quiet m user board_no part)
call_told m user (call.MakeSprint name) = told_anything m _
call_told m user (call.StartSprint sprint) = told_anything m _
call_told m user (call.CloseSprint sprint) = told_anything m _
call_told m user (call.SetGroup group members) = told_anything m _
call_told m user (call.Burndown sprint part) = tells_told m (plan_sprint_refusal m user sprint) (burndown_answer m sprint part)
call_told m user (call.List jql fields part) = told_nothing m _ (list_quiet m user jql fields part)
call_told m user (call.Filters part) = told_nothing m (filters_meaning m user part) tt
call_told m user (call.Boards part) = told_nothing m (boards_meaning m part) tt
call_told m user (call.Sprints part) = told_nothing m (sprints_meaning m part) tt
call_told m user call.Describe = told_nothing m (describe_meaning m user) tt

meaning_told : (m : Machine) (caller : List ℕ) (c : Call) → IsTold m (teller m c) (meaning m caller c)
unfolding meaning
meaning_told m caller c =
    unless_told m (teller m c) (form_refusal c) _
    (unless_told m (teller m c) (caller_refusal m caller) _ (call_told m (user_of m caller) c))

-- ---- a step

same_ok : (b a : Answer) → reply.Ok b ≡ reply.Ok a → b ≡ a
same_ok b a same = ap answered_of same
  where
    answered_of : Reply → Answer
    answered_of (reply.Ok x) = x
    answered_of (reply.Refused r) = b

step_told : (m : Machine) (told : Teller) (due : Meaning) (a : Answer) (new : Machine) → IsTold m told due → reply_to due ≡ reply.Ok a → new ≡ next_after due m
    → ListsMayChange (told (length new.histories) a) m new
step_told m told (Refuses r) a new is reply next = absurd (cc)
step_told m told (Tells b) a new is reply next =
    subst (λ (x : Machine). ListsMayChange (told (length x.histories) a) m x) (sym next)
    (subst (λ (x : Answer). ListsMayChange (told (length m.histories) x) m m) (same_ok b a reply) is)
step_told m told (Finds b) a new is reply next =
    subst (λ (x : Machine). ListsMayChange (told (length x.histories) a) m x) (sym next)
    (subst (λ (x : Answer). ListsMayChange (told (length m.histories) x) m m) (same_ok b a reply) is)
step_told m told (Makes b effect) a new is reply next =
    subst (λ (x : Machine). ListsMayChange (told (length x.histories) a) m x) (sym next)
    (subst (λ (x : Answer). ListsMayChange (told (length (applied effect m).histories) x) m (applied effect m)) (same_ok b a reply) is)

pub calls_change_lists : CallsChangeLists
unfolding IsStep
calls_change_lists old caller c (reply.Ok a) new step = step_told old (teller old c) (meaning old caller c) a new (meaning_told old caller c) step.0 step.1
calls_change_lists old caller c (reply.Refused r) new step = λ user filter_no. ap (λ (m : Machine). listed m user filter_no) step.1
