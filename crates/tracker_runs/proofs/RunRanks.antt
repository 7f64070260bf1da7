-- After any lines each issue has one rank, which no other one has.
use Rattle.std.proofs.Common.{◌≡◌, ℕ, ◌+◌, Bool, true, false, List, [], ◌∷◌, length, Option, Some, None, Result, Ok, Err, bytes_eq, refl, sym, ◌∙◌, subst, arith}
use Rattle.std.specs.Prelude.{unwrap_or, if◌then◌else◌}
use Rattle.std.proofs.lemmas.List.{length-append}
use Rattle.field_values.specs.declared.numbers.IssueNo.{IssueNo}
use Rattle.change_history.specs.declared.change.Change.{Change}
use Rattle.change_history.specs.History.{History}
use Rattle.rank_strings.specs.Rank.{RankParts}
use Rattle.board.specs.declared.place.Place.{Place}
use Rattle.board.specs.declared.place.Place.TheVariants.{Before, After}
use Rattle.board.specs.Place.{named_by}
use Rattle.board.specs.Moved.{Sides}
use Rattle.board.proofs.Issues.{places_go_by_issues}
use Rattle.rank_balancer.specs.declared.balance.Balance.{Balance}
use Rattle.rank_balancer.specs.declared.balance.Balance.TheVariants.{Idle, Moving}
use Rattle.rank_balancer.specs.Balance.{IsMoving, from_of, to_of}
use Rattle.rank_balancer.specs.Step.{Move, after_moves}
use Rattle.rank_balancer.specs.Planned.{planned}
use Rattle.tracker_ranks.specs.Ranked.{IsRanked, AreNumbered}
use Rattle.tracker_ranks.proofs.Given.{length-moved}
use Rattle.tracker_ranks.proofs.Keeping.{no_issue_is_ranked, numbers_are_ranked, new_issues_go_last, moves_change_one_rank, starts_keep_ranks, steps_keep_ranks, plans_are_picks}
use Rattle.fields.specs.SetupParts.{names_in}
use Rattle.tracker_calls.specs.declared.call.Call.{Call}
use Rattle.tracker_calls.specs.declared.call.Call.TheVariants as call
use Rattle.tracker_calls.specs.declared.given.GivenField.{GivenField}
use Rattle.tracker_calls.specs.declared.cause.Cause.{Cause}
use Rattle.call_lines.specs.Asked.{line_of}
use Rattle.tracker_machine.specs.Machine.{Machine}
use Rattle.tracker_machine.specs.Known.{history_named}
use Rattle.tracker_machine.specs.Tracker.{HasRanks}
use Rattle.tracker_machine.specs.Effect.{applied, with_issue, with_new_rank, with_moves}
use Rattle.tracker_machine.specs.Effect.Effect.{NewRank}
use Rattle.tracker_machine.specs.Meaning.{Meaning, unless, next_after}
use Rattle.tracker_machine.specs.Meaning.Meaning.{Tells, Makes}
use Rattle.tracker_machine.specs.Rank.{with_given, last_rank, moved_rank, has_rank}
use Rattle.tracker_machine.specs.Create.{create_refusal, issue_called, is_created_as, called_before, new_issue_refusal, create_wants, created, create_or_tell, spelled_key}
use Rattle.tracker_machine.specs.Wanted.{changes_of}
use Rattle.tracker_machine.specs.Move.{move_meaning, move_refusal, move_answer, moved_beside, newly_ranked}
use Rattle.tracker_machine.specs.Rebalance.{started, stepped, with_planned}
use Rattle.tracker_machine.specs.Step.{meaning, meaning_for, form_refusal, next_of, user_of}
use Rattle.tracker_machine.specs.Checks.{caller_refusal}
use Rattle.tracker_runs.specs.Run.{Mark, plain, memory, keeper, asked_next, marked_next}
use Rattle.tracker_runs.specs.RankLaws.{TrackersHaveRanks, NewTrackersHaveRanks, RunsKeepRanks}
use Rattle.tracker_machine.proofs.Tracker.{runs_on}
use Rattle.tracker_machine.specs.Describe.{describe_meaning}
use Rattle.tracker_machine.specs.Overviews.{filters_meaning, boards_meaning, sprints_meaning}
use Rattle.tracker_runs.proofs.Plain.{plain_keeps, called_plain, edit_plain, transition_plain, tick_plain, show_plain, history_plain, search_plain, list_plain, ranks_plain, save_filter_plain, drop_filter_plain, filter_plain, make_board_plain, drop_board_plain, board_plain, make_sprint_plain, start_sprint_plain, close_sprint_plain, set_group_plain, burndown_plain}
use Rattle.tracker_machine.proofs.Placed.{apart, are_numbered}

-- each issue has its rank after what a call means
abbrev Keeps : Machine → Meaning → Type 0
Keeps m due = HasRanks (next_after due m)

pub unless_keeps : (m : Machine) (r : Option Cause) (due : Meaning) → HasRanks m → Keeps m due → Keeps m (unless r due)
unless_keeps m None due has keeps = keeps
unless_keeps m (Some r) due has keeps = has

if_keeps : (m : Machine) (b : Bool) (one other : Meaning) → Keeps m one → Keeps m other → Keeps m (if b then one else other)
if_keeps m true one other first second = first
if_keeps m false one other first second = second

-- what comes of a rank that is given, or not
given_keeps : (m : Machine) (given : Result RankParts Sides) (due : RankParts → Meaning) → HasRanks m → ((rank : RankParts) → given ≡ Ok rank → Keeps m (due rank))
    → Keeps m (with_given given due)
given_keeps m (Ok rank) due has keeps = keeps rank refl
given_keeps m (Err sides) due has keeps = has

-- ---- a new issue

issue_keeps : (m : Machine) (h : History) (rank : RankParts) (external : Option (List ℕ)) → HasRanks m → h.no.0 ≡ length m.histories + 1 → last_rank m ≡ Ok rank
    → HasRanks (with_issue m h rank external)
issue_keeps m h rank external has number given = record {
  numbers = runs_on 1 m.histories h has.numbers (omega (arith, number));
  each = omega (arith, length-append m.order ((rank, h.no) ∷ []), length-append m.histories (h ∷ []), has.each);
  ranked = (new_issues_go_last m.order m.balance h.no rank has.ranked (record { number = omega (arith, number, has.each); given = given })).ranked;
}

created_keeps : (m : Machine) (caller : ℕ) (project : List ℕ) (external : Option (List ℕ)) (changes : List Change) → HasRanks m
    → Keeps m (with_given (last_rank m) (created m caller project external changes))
unfolding applied
created_keeps m caller project external changes has =
    given_keeps m (last_rank m) (created m caller project external changes) has (λ rank given. issue_keeps m _ rank external has refl given)

-- an issue that has the external id already is told, or refuses the call
create_keeps : (m : Machine) (caller : ℕ) (project issue_type summary : List ℕ) (given : List GivenField) (external : Option (List ℕ)) (called : Option History) → HasRanks m
    → Keeps m (create_or_tell m caller project issue_type summary given external called)
create_keeps m caller project issue_type summary given external None has =
    let changes : List Change = changes_of (names_in m.setup) (create_wants m.setup caller issue_type summary given) in
    unless_keeps m (new_issue_refusal m caller issue_type summary given) (with_given (last_rank m) (created m caller project external changes)) has
    (created_keeps m caller project external changes has)
create_keeps m caller project issue_type summary given external (Some h) has =
    let same : Bool = is_created_as m project issue_type summary h in
    plain_keeps (called_before same (unwrap_or external []) h) m (called_plain same (unwrap_or external []) h) has

-- ---- a move

rank_keeps : (m : Machine) (issue : IssueNo) (place : Place) (rank : RankParts) → HasRanks m → AreNumbered (length m.order) (Some issue) place → moved_rank m issue place ≡ Ok rank
    → HasRanks (with_new_rank m issue rank)
rank_keeps m issue place rank has numbered given =
    let there = numbers_are_ranked m.order m.balance (Some issue) place has.ranked numbered in
    record {
      numbers = has.numbers;
      each = omega (arith, length-moved m.order issue rank has.ranked.order there.issue_there, has.each);
      ranked = (moves_change_one_rank m.order m.balance issue place rank has.ranked numbered given).ranked;
    }

pub ranked_keeps : (m : Machine) (name : List ℕ) (issue : IssueNo) (place : Place) (rank : RankParts) → HasRanks m → AreNumbered (length m.order) (Some issue) place
    → moved_rank m issue place ≡ Ok rank → Keeps m (newly_ranked m name issue rank)
unfolding applied
ranked_keeps m name issue place rank has numbered given =
    if_keeps m (has_rank m.order issue rank) (Tells (move_answer name rank)) (Makes (move_answer name rank) (NewRank issue rank)) has
    (rank_keeps m issue place rank has numbered given)

moved_keeps : (m : Machine) (issue other : List ℕ) (place : IssueNo → Place) (h o : Option History) → HasRanks m → ((no : IssueNo) → named_by (place no) ≡ Some no)
    → bytes_eq other issue ≡ false → history_named m issue ≡ h → history_named m other ≡ o → Keeps m (moved_beside m issue place h o)
moved_keeps m issue other place None o has named apart here there = has
moved_keeps m issue other place (Some h) None has named apart here there = has
moved_keeps m issue other place (Some h) (Some o) has named apart here there =
    given_keeps m (moved_rank m h.no (place o.no)) (newly_ranked m issue h.no) has
    (λ rank given. ranked_keeps m issue h.no (place o.no) rank has (are_numbered m has issue other h o apart here there (place o.no) (named o.no)) given)

move_keeps : (m : Machine) (caller : ℕ) (issue other : List ℕ) (place : IssueNo → Place) → HasRanks m → ((no : IssueNo) → named_by (place no) ≡ Some no)
    → bytes_eq other issue ≡ false → Keeps m (move_meaning m caller issue other place)
move_keeps m caller issue other place has named apart =
    unless_keeps m (move_refusal m caller issue other) (moved_beside m issue place (history_named m issue) (history_named m other)) has
    (moved_keeps m issue other place (history_named m issue) (history_named m other) has named apart refl refl)

-- ---- a rebalancing

started_keeps : (m : Machine) (b : Balance) → m.balance ≡ b → HasRanks m → Keeps m (started b)
unfolding applied
started_keeps m (Moving from to) is has = has
started_keeps m (Idle bucket) is has =
    record { numbers = has.numbers; each = has.each; ranked = starts_keep_ranks m.order (Idle bucket) (subst (IsRanked m.order) is has.ranked) }

moves_keep : (m : Machine) (count : ℕ) (moves : List Move) → HasRanks m → IsMoving m.balance → planned m.order (from_of m.balance) (to_of m.balance) count ≡ Ok moves
    → HasRanks (with_moves m moves)
moves_keep m count moves has moving are =
    let kept = steps_keep_ranks m.order m.balance moves has.ranked moving (plans_are_picks m.order m.balance count moves has.ranked moving are) in
    record {
      numbers = has.numbers;
      each = (places_go_by_issues (after_moves m.order moves) m.order kept.issues).count ∙ has.each;
      ranked = kept.ranked;
    }

stepped_keeps : (m : Machine) (b : Balance) (count : ℕ) → m.balance ≡ b → HasRanks m → Keeps m (stepped m.order b count)
unfolding applied
stepped_keeps m (Idle bucket) count is has = has
stepped_keeps m (Moving from to) count is has = by (planned m.order from to count) refl
  where
    by : (moves : Result (List Move) Sides) → planned m.order from to count ≡ moves → Keeps m (with_planned m.order from moves)
    by (Err sides) are = has
    by (Ok moves) are =
        moves_keep m count moves has (subst IsMoving (sym is) tt) (subst (λ b. planned m.order (from_of b) (to_of b) count ≡ Ok moves) (sym is) are)

-- ---- each call

call_keeps : (m : Machine) (user : ℕ) (c : Call) → HasRanks m → form_refusal c ≡ None → Keeps m (meaning_for m user c)
unfolding meaning_for form_refusal
call_keeps m user (call.Create project issue_type summary given external) has form =
    unless_keeps m (create_refusal m user project given) (create_or_tell m user (spelled_key m project) issue_type summary given external (issue_called m external)) has
    (create_keeps m user (spelled_key m project) issue_type summary given external (issue_called m external) has)
call_keeps m user (call.Edit issue given) has form = plain_keeps _ m (edit_plain m user issue given) has
call_keeps m user (call.Transition issue transition given) has form = plain_keeps _ m (transition_plain m user issue transition given) has
call_keeps m user (call.Tick to) has form = plain_keeps _ m (tick_plain m to) has
call_keeps m user (call.Show issue) has form = plain_keeps _ m (show_plain m user issue) has
call_keeps m user (call.History issue part) has form = plain_keeps _ m (history_plain m user issue part) has
call_keeps m user (call.Search jql part) has form = plain_keeps _ m (search_plain m user jql part) has
call_keeps m user (call.MoveBefore issue other) has form = move_keeps m user issue other Before has (λ no. refl) (apart issue other form)
call_keeps m user (call.MoveAfter issue other) has form = move_keeps m user issue other After has (λ no. refl) (apart issue other form)
call_keeps m user (call.Ranks part) has form = plain_keeps _ m (ranks_plain m user part) has
call_keeps m user call.RebalanceStart has form = unless_keeps m _ (started m.balance) has (started_keeps m m.balance refl has)
call_keeps m user (call.RebalanceStep count) has form = unless_keeps m _ (stepped m.order m.balance count) has (stepped_keeps m m.balance count refl has)
call_keeps m user call.Balance has form = has
call_keeps m user (call.SaveFilter name jql) has form = plain_keeps _ m (save_filter_plain m user name jql) has
call_keeps m user (call.DropFilter filter_no) has form = plain_keeps _ m (drop_filter_plain m user filter_no) has
call_keeps m user (call.Filter filter_no part) has form = plain_keeps _ m (filter_plain m user filter_no part) has
call_keeps m user (call.MakeBoard name filter_no) has form = plain_keeps _ m (make_board_plain m user name filter_no) has
call_keeps m user (call.DropBoard board_no) has form = plain_keeps _ m (drop_board_plain m user board_no) has
call_keeps m user (call.Board board_no part) has form = plain_keeps _ m (board_plain m user board_no part) has
call_keeps m user (call.MakeSprint name) has form = plain_keeps _ m (make_sprint_plain m user name) has
call_keeps m user (call.StartSprint sprint) has form = plain_keeps _ m (start_sprint_plain m user sprint) has
call_keeps m user (call.CloseSprint sprint) has form = plain_keeps _ m (close_sprint_plain m user sprint) has
call_keeps m user (call.SetGroup group members) has form = plain_keeps _ m (set_group_plain m user group members) has
call_keeps m user (call.Burndown sprint part) has form = plain_keeps _ m (burndown_plain m user sprint part) has
call_keeps m user (call.List jql fields part) has form = plain_keeps _ m (list_plain m user jql fields part) has
call_keeps m user (call.Filters part) has form = plain_keeps (filters_meaning m user part) m tt has
call_keeps m user (call.Boards part) has form = plain_keeps (boards_meaning m part) m tt has
call_keeps m user (call.Sprints part) has form = plain_keeps (sprints_meaning m part) m tt has
call_keeps m user call.Describe has form = plain_keeps (describe_meaning m user) m tt has

pub next_keeps : (m : Machine) (caller : List ℕ) (c : Call) → HasRanks m → HasRanks (next_of m caller c)
unfolding next_of meaning
next_keeps m caller c has = by (form_refusal c) refl
  where
    by : (form : Option Cause) → form_refusal c ≡ form → Keeps m (unless form (unless (caller_refusal m caller) (meaning_for m (user_of m caller) c)))
    by (Some r) is = has
    by None is = unless_keeps m (caller_refusal m caller) (meaning_for m (user_of m caller) c) has (call_keeps m (user_of m caller) c has is)

-- ---- each line

pub asked_keeps : (m : Machine) (asked : Result (List ℕ × Call) Cause) → HasRanks m → HasRanks (asked_next m asked)
asked_keeps m (Ok asked) has = next_keeps m asked.0 asked.1 has
asked_keeps m (Err r) has = has

marked_keeps : (m : Machine) (line : List ℕ) (mark : Mark) → HasRanks m → HasRanks (marked_next m line mark)
marked_keeps m line plain has = asked_keeps m (line_of line) has
marked_keeps m line memory has = has
marked_keeps m line keeper has = has

pub runs_keep_ranks : RunsKeepRanks
runs_keep_ranks m [] has = has
runs_keep_ranks m (x ∷ xs) has = runs_keep_ranks (marked_next m x.line x.mark) xs (marked_keeps m x.line x.mark has)

pub trackers_have_ranks : TrackersHaveRanks
trackers_have_ranks m is = record { numbers = is.numbers; each = is.each; ranked = is.ranked }

pub new_trackers_have_ranks : NewTrackersHaveRanks
new_trackers_have_ranks text setup = record { numbers = tt; each = refl; ranked = no_issue_is_ranked 0 (omega arith) }
