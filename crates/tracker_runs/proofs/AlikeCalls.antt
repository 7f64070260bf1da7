-- Each call but those that rebalance goes alike in two trackers that differ in ranks alone.
use Rattle.std.proofs.Common.{◌≡◌, ℕ, ◌+◌, ◌∷◌, ◌++◌, [], List, Bool, true, false, length, map, Option, Some, None, Result, Ok, Err, bytes_eq, refl, sym, ◌∙◌, ap, ap₂, subst}
use Rattle.std.specs.Prelude.{unwrap_or, if◌then◌else◌}
use mathlib.Core.Path.{fun_ext}
use Rattle.std.proofs.lemmas.List.{map-append}
use Rattle.std.specs.Option.{option_map_or}
use Rattle.std.specs.Ordering.{is_lt, nat_cmp}
use Rattle.field_values.specs.declared.numbers.BoardNo.{BoardNo}
use Rattle.field_values.specs.declared.numbers.FilterNo.{FilterNo}
use Rattle.field_values.specs.declared.numbers.IssueNo.{IssueNo}
use Rattle.field_values.specs.Parts.{Parts}
use Rattle.change_history.specs.declared.change.Change.{Change}
use Rattle.change_history.specs.History.{History}
use Rattle.rank_strings.specs.Rank.{RankParts}
use Rattle.board.specs.declared.board.Board.{Board}
use Rattle.board.specs.declared.place.Place.{Place}
use Rattle.board.specs.declared.place.Place.TheVariants.{Before, After}
use Rattle.board.specs.Order.{Pair}
use Rattle.board.specs.Place.{named_by}
use Rattle.board.specs.Issues.{issues_in, issues_moved, HaveSamePlaces}
use Rattle.board.proofs.Issues.{places_go_by_issues}
use Rattle.jql_bound.specs.declared.order.OrderKey.{OrderKey}
use Rattle.jql_meaning.specs.Order.{issue_cmp}
use Rattle.rank_balancer.specs.declared.balance.Balance.{Balance}
use Rattle.tracker_ranks.specs.Ranked.{AreNumbered, with_last}
use Rattle.tracker_calls.specs.Part.{part_of}
use Rattle.fields.specs.SetupParts.{names_in}
use Rattle.tracker_calls.specs.declared.call.Call.{Call}
use Rattle.tracker_calls.specs.declared.call.Call.TheVariants as call
use Rattle.tracker_calls.specs.declared.call.Part.{Part}
use Rattle.tracker_calls.specs.declared.given.GivenField.{GivenField}
use Rattle.tracker_calls.specs.declared.reply.Answer.TheVariants as answer
use Rattle.tracker_calls.specs.declared.cause.Cause.{Cause}
use Rattle.tracker_calls.specs.declared.reply.Reply.TheVariants as reply
use Rattle.tracker_machine.specs.Machine.{Machine}
use Rattle.tracker_machine.specs.Known.{history_named}
use Rattle.tracker_machine.specs.Tracker.{HasRanks}
use Rattle.tracker_machine.specs.Listing.{in_order}
use Rattle.tracker_machine.specs.Effect.{applied}
use Rattle.tracker_machine.specs.Effect.Effect.{NewRank}
use Rattle.tracker_machine.specs.Meaning.{Meaning, unless, reply_to, next_after}
use Rattle.tracker_machine.specs.Meaning.Meaning.{Refuses, Tells, Finds, Makes}
use Rattle.tracker_machine.specs.Rank.{with_given, last_rank, moved_rank, has_rank}
use Rattle.tracker_machine.specs.Create.{create_refusal, issue_called, is_created_as, called_before, new_issue_refusal, create_wants, created, create_or_tell, spelled_key}
use Rattle.tracker_machine.specs.Wanted.{changes_of}
use Rattle.tracker_machine.specs.Move.{move_meaning, move_refusal, move_answer, moved_beside, newly_ranked}
use Rattle.tracker_machine.specs.Ranks.{ranks_answer}
use Rattle.tracker_machine.specs.Rebalance.{balance_answer}
use Rattle.tracker_machine.specs.Query.{Query, asked}
use Rattle.tracker_machine.specs.Search.{comes_before, found, listed, search_answer, searched, search_meaning}
use Rattle.tracker_machine.specs.IssueList.{fields_refusal, list_answer, list_meaning, listed_issue, issues_listed, wanted_fields}
use Rattle.tracker_machine.specs.Overviews.{filters_meaning, boards_meaning, sprints_meaning}
use Rattle.tracker_machine.specs.Describe.{describe_meaning}
use Rattle.tracker_machine.specs.Saved.{SavedFilter, saved_query}
use Rattle.tracker_machine.specs.Filters.{filter_numbered, shown, filter_answer, filter_told, filter_meaning}
use Rattle.tracker_machine.specs.Boards.{by_rank, board_issues, board_numbered, columns_from, board_answer, board_told, board_meaning}
use Rattle.tracker_machine.specs.Checks.{caller_refusal}
use Rattle.tracker_machine.specs.Step.{meaning, meaning_for, form_refusal, user_of}
use Rattle.tracker_runs.specs.RankLaws.{MovesOneIssue, rebalances, without_ranks}
use Rattle.tracker_runs.proofs.Plain.{IsPlain, called_plain, edit_plain, transition_plain, tick_plain, show_plain, history_plain, save_filter_plain, drop_filter_plain, make_board_plain, drop_board_plain, make_sprint_plain, start_sprint_plain, close_sprint_plain, set_group_plain, burndown_plain}
use Rattle.tracker_machine.proofs.Placed.{apart, are_numbered}
use Rattle.tracker_runs.proofs.MovedIssue.{moves_are_of_one_issue}
use Rattle.tracker_runs.proofs.Alike.{reranked, GoesAlike, AreAlike, plain_alike, tells_alike, unless_alike, given_alike}
use Rattle.tracker_runs.proofs.SameMeaning.{edit_same, transition_same, show_same, history_same, move_refusal_same, save_filter_same, drop_filter_same, make_board_same, drop_board_same, make_sprint_same, start_sprint_same, close_sprint_same, burndown_same, set_group_same}

-- whichever of two meanings it is, the reply is that of either
ranked_reply : (m : Machine) (name : List ℕ) (issue : IssueNo) (rank : RankParts) → reply_to (newly_ranked m name issue rank) ≡ reply.Ok (move_answer name rank)
ranked_reply m name issue rank = by (has_rank m.order issue rank)
  where
    by : (b : Bool) → reply_to (if b then Tells (move_answer name rank) else Makes (move_answer name rank) (NewRank issue rank)) ≡ reply.Ok (move_answer name rank)
    by true = refl
    by false = refl

module _ (m : Machine) (order : List Pair) (balance : Balance) (has : HasRanks m) (has_too : HasRanks (reranked m order balance)) (same : issues_in m.order ≡ issues_in order) where
  abbrev new : Machine
  new = reranked m order balance

  abbrev Alike : Meaning → Meaning → Type 0
  Alike due other = AreAlike m order balance due other

  places : HaveSamePlaces m.order order
  places = places_go_by_issues m.order order same

  -- ---- a new issue goes last in both

  created_alike : (caller : ℕ) (project : List ℕ) (external : Option (List ℕ)) (changes : List Change) (rank another : RankParts)
      → GoesAlike m order balance (created m caller project external changes rank) (created new caller project external changes another)
  unfolding applied
  created_alike caller project external changes rank another =
      let no : IssueNo = record { 0 = length m.histories + 1 } in
      record {
        replies = refl;
        next_order = with_last order no another;
        next_balance = balance;
        next = refl;
        issues = map-append (λ (p : Pair). p.1) m.order ((rank, no) ∷ [])
            ∙ ap (λ (is : List IssueNo). is ++ no ∷ []) same ∙ sym (map-append (λ (p : Pair). p.1) order ((another, no) ∷ []));
      }

  -- one that has the external id already is told, or refuses the call, in both
  create_alike : (caller : ℕ) (project issue_type summary : List ℕ) (given : List GivenField) (external : Option (List ℕ)) (called : Option History)
      → Alike (create_or_tell m caller project issue_type summary given external called) (create_or_tell new caller project issue_type summary given external called)
  create_alike caller project issue_type summary given external None =
      let changes : List Change = changes_of (names_in m.setup) (create_wants m.setup caller issue_type summary given) in
      unless_alike m order balance same (new_issue_refusal m caller issue_type summary given)
      (with_given (last_rank m) (created m caller project external changes)) (with_given (last_rank new) (created new caller project external changes))
      (given_alike m order balance same (last_rank m) (last_rank new) (created m caller project external changes) (created new caller project external changes)
      (λ rank another given_one given_two room more. created_alike caller project external changes rank another))
  create_alike caller project issue_type summary given external (Some h) =
      let as_this_one : Bool = is_created_as m project issue_type summary h in
      λ room more. plain_alike m order balance same (called_before as_this_one (unwrap_or external []) h) (called_plain as_this_one (unwrap_or external []) h)

  -- ---- a move takes its issue to the same place in both

  ranked_alike : (name : List ℕ) (h : History) (place : Place) (rank another : RankParts) → AreNumbered (length m.order) (Some h.no) place
      → moved_rank m h.no place ≡ Ok rank → moved_rank new h.no place ≡ Ok another
      → GoesAlike m order balance (newly_ranked m name h.no rank) (newly_ranked new name h.no another)
  ranked_alike name h place rank another numbered given given_too =
      let one : MovesOneIssue m (next_after (newly_ranked m name h.no rank) m) h.no place = moves_are_of_one_issue m name h place rank has numbered given in
      let numbered_too : AreNumbered (length order) (Some h.no) place = subst (λ n. AreNumbered n (Some h.no) place) places.count numbered in
      let two : MovesOneIssue new (next_after (newly_ranked new name h.no another) new) h.no place =
      moves_are_of_one_issue new name h place another has_too numbered_too given_too in
      let there : List Pair = (next_after (newly_ranked new name h.no another) new).order in
      record {
        replies = ap without_ranks (ranked_reply m name h.no rank) ∙ sym (ap without_ranks (ranked_reply new name h.no another));
        next_order = there;
        next_balance = balance;
        next = two.rest ∙ sym (ap (λ n. reranked n there balance) one.rest);
        issues = one.issues ∙ ap (issues_moved h.no place) same ∙ sym two.issues;
      }

  moved_alike : (issue other : List ℕ) (place : IssueNo → Place) (h o : Option History) → ((no : IssueNo) → named_by (place no) ≡ Some no)
      → bytes_eq other issue ≡ false → history_named m issue ≡ h → history_named m other ≡ o → Alike (moved_beside m issue place h o) (moved_beside new issue place h o)
  moved_alike issue other place None o named apart here there = λ room more. tells_alike m order balance same _ _ refl
  moved_alike issue other place (Some h) None named apart here there = λ room more. tells_alike m order balance same _ _ refl
  moved_alike issue other place (Some h) (Some o) named apart here there =
      given_alike m order balance same (moved_rank m h.no (place o.no)) (moved_rank new h.no (place o.no)) (newly_ranked m issue h.no) (newly_ranked new issue h.no)
      (λ rank another given given_too room more. ranked_alike issue h (place o.no) rank another
      (are_numbered m has issue other h o apart here there (place o.no) (named o.no)) given given_too)

  move_alike : (caller : ℕ) (issue other : List ℕ) (place : IssueNo → Place) → ((no : IssueNo) → named_by (place no) ≡ Some no)
      → bytes_eq other issue ≡ false → Alike (move_meaning m caller issue other place) (move_meaning new caller issue other place)
  move_alike caller issue other place named apart =
      let due : Meaning = moved_beside new issue place (history_named m issue) (history_named m other) in
      subst (λ r. Alike (move_meaning m caller issue other place) (unless r due)) (sym (move_refusal_same m order balance caller issue other))
      (unless_alike m order balance same (move_refusal m caller issue other) (moved_beside m issue place (history_named m issue) (history_named m other)) due
      (moved_alike issue other place (history_named m issue) (history_named m other) named apart refl refl))

  -- ---- a search goes by places

  before_same : (setup : Parts) (keys : List OrderKey) → comes_before setup keys m.order ≡ comes_before setup keys order
  before_same setup keys =
      fun_ext (λ one. fun_ext (λ other.
      ap₂ (λ i j. is_lt (issue_cmp setup keys (nat_cmp i j) one other)) (places.before one.no.0) (places.before other.no.0)))

  answer_same : (caller : ℕ) (part : Part) (query : Query) → search_answer new caller part query ≡ search_answer m caller part query
  unfolding found listed
  answer_same caller part query =
      sym (ap (λ before. answer.Search (map (λ h. h.key) (part_of part (in_order before (found m caller query.condition)))) (length (found m caller query.condition)))
      (before_same m.setup query.keys))

  search_alike : (caller : ℕ) (jql : List ℕ) (part : Part) → Alike (search_meaning m caller jql part) (search_meaning new caller jql part)
  unfolding search_meaning
  search_alike caller jql part = by (asked m.setup caller jql)
    where
      by : (query : Result Query Cause) → Alike (searched m caller part query) (searched new caller part query)
      by (Err r) = λ room more. plain_alike m order balance same (Refuses r) tt
      by (Ok query) =
          subst (λ a. Alike (Finds (search_answer m caller part query)) (Finds a)) (sym (answer_same caller part query))
          (λ room more. plain_alike m order balance same (Finds (search_answer m caller part query)) tt)

  list_answer_same : (caller : ℕ) (numbers : List ℕ) (part : Part) (query : Query) → list_answer new caller numbers part query ≡ list_answer m caller numbers part query
  unfolding found listed
  list_answer_same caller numbers part query =
      sym (ap (λ before. answer.List (map (listed_issue m.setup numbers) (part_of part (in_order before (found m caller query.condition)))) (length (found m caller query.condition)))
      (before_same m.setup query.keys))

  listed_alike : (caller : ℕ) (numbers : List ℕ) (part : Part) (query : Result Query Cause) → Alike (issues_listed m caller numbers part query) (issues_listed new caller numbers part query)
  listed_alike caller numbers part (Err r) = λ room more. plain_alike m order balance same (Refuses r) tt
  listed_alike caller numbers part (Ok query) =
      subst (λ a. Alike (Finds (list_answer m caller numbers part query)) (Finds a)) (sym (list_answer_same caller numbers part query))
      (λ room more. plain_alike m order balance same (Finds (list_answer m caller numbers part query)) tt)

  list_alike : (caller : ℕ) (jql : List ℕ) (fields : Option (List (List ℕ))) (part : Part) → Alike (list_meaning m caller jql fields part) (list_meaning new caller jql fields part)
  unfolding list_meaning
  list_alike caller jql fields part =
      let numbers : List ℕ = wanted_fields m.setup.field fields in
      unless_alike m order balance same (fields_refusal m.setup.field fields)
      (issues_listed m caller numbers part (asked m.setup caller jql)) (issues_listed new caller numbers part (asked m.setup caller jql))
      (listed_alike caller numbers part (asked m.setup caller jql))

  -- ---- a filter and a board go by places too

  filter_answer_same : (caller : ℕ) (part : Part) (f : SavedFilter) → filter_answer new caller part f ≡ filter_answer m caller part f
  unfolding found listed shown
  filter_answer_same caller part f =
      sym (ap (λ before. answer.Filter (map (λ h. h.key) (part_of part (in_order before (shown m caller f)))) (length (shown m caller f)))
      (before_same m.setup (saved_query m.setup f).keys))

  filter_alike : (caller : ℕ) (filter_no : FilterNo) (part : Part) → Alike (filter_meaning m caller filter_no part) (filter_meaning new caller filter_no part)
  unfolding filter_meaning
  filter_alike caller filter_no part = by (filter_numbered m filter_no)
    where
      by : (o : Option SavedFilter) → Alike (filter_told m caller filter_no part o) (filter_told new caller filter_no part o)
      by None = λ room more. plain_alike m order balance same (filter_told m caller filter_no part None) tt
      by (Some f) =
          subst (λ a. Alike (Tells (filter_answer m caller part f)) (Tells a)) (sym (filter_answer_same caller part f))
          (λ room more. plain_alike m order balance same (Tells (filter_answer m caller part f)) tt)

  by_rank_same : (histories : List History) → by_rank m.order histories ≡ by_rank order histories
  unfolding by_rank
  by_rank_same histories =
      ap (λ before. in_order before histories)
      (fun_ext (λ (one : History). fun_ext (λ (other : History). ap₂ (λ i j. is_lt (nat_cmp i j)) (places.before one.no.0) (places.before other.no.0))))

  issues_same : (caller : ℕ) (b : Board) → board_issues new caller b ≡ board_issues m caller b
  unfolding shown
  issues_same caller b = by (filter_numbered m b.filter)
    where
      by : (o : Option SavedFilter) → option_map_or (shown new caller) o [] ≡ option_map_or (shown m caller) o []
      by None = refl
      by (Some f) = refl

  board_answer_same : (caller : ℕ) (part : Part) (b : Board) → board_answer new caller part b ≡ board_answer m caller part b
  board_answer_same caller part b =
      ap (λ issues. answer.Board (columns_from 0 m.setup.status (part_of part (by_rank order issues))) (length issues)) (issues_same caller b)
      ∙ sym (ap (λ listed. answer.Board (columns_from 0 m.setup.status (part_of part listed)) (length (board_issues m caller b))) (by_rank_same (board_issues m caller b)))

  board_alike : (caller : ℕ) (board_no : BoardNo) (part : Part) → Alike (board_meaning m caller board_no part) (board_meaning new caller board_no part)
  unfolding board_meaning
  board_alike caller board_no part = by (board_numbered m board_no)
    where
      by : (o : Option Board) → Alike (board_told m caller board_no part o) (board_told new caller board_no part o)
      by None = λ room more. plain_alike m order balance same (board_told m caller board_no part None) tt
      by (Some b) =
          subst (λ a. Alike (Tells (board_answer m caller part b)) (Tells a)) (sym (board_answer_same caller part b))
          (λ room more. plain_alike m order balance same (Tells (board_answer m caller part b)) tt)

  -- ---- each call

  same_alike : (due other : Meaning) → other ≡ due → IsPlain due → Alike due other
  same_alike due other is plain = subst (Alike due) (sym is) (λ room more. plain_alike m order balance same due plain)

  call_alike : (user : ℕ) (c : Call) → form_refusal c ≡ None → rebalances c ≡ false → Alike (meaning_for m user c) (meaning_for new user c)
  unfolding meaning_for form_refusal
  call_alike user (call.Create project issue_type summary given external) form other =
      let key : List ℕ = spelled_key m project in
      let called : Option History = issue_called m external in
      unless_alike m order balance same (create_refusal m user project given)
      (create_or_tell m user key issue_type summary given external called) (create_or_tell new user key issue_type summary given external called)
      (create_alike user key issue_type summary given external called)
  call_alike user (call.Edit issue given) form other = same_alike _ _ (edit_same m order balance user issue given) (edit_plain m user issue given)
  call_alike user (call.Transition issue transition given) form other =
      same_alike _ _ (transition_same m order balance user issue transition given) (transition_plain m user issue transition given)
  call_alike user (call.Tick to) form other = same_alike _ _ refl (tick_plain m to)
  call_alike user (call.Show issue) form other = same_alike _ _ (show_same m order balance user issue) (show_plain m user issue)
  call_alike user (call.History issue part) form other = same_alike _ _ (history_same m order balance user issue part) (history_plain m user issue part)
  call_alike user (call.Search jql part) form other = search_alike user jql part
  call_alike user (call.MoveBefore issue other_issue) form other = move_alike user issue other_issue Before (λ no. refl) (apart issue other_issue form)
  call_alike user (call.MoveAfter issue other_issue) form other = move_alike user issue other_issue After (λ no. refl) (apart issue other_issue form)
  call_alike user (call.Ranks part) form other =
      unless_alike m order balance same _ (Tells (ranks_answer m part)) (Tells (ranks_answer new part)) (λ room more. tells_alike m order balance same _ _ refl)
  call_alike user call.RebalanceStart form other = absurd (cc)
  call_alike user (call.RebalanceStep count) form other = absurd (cc)
  call_alike user call.Balance form other = λ room more. tells_alike m order balance same (balance_answer m) (balance_answer new) refl
  call_alike user (call.SaveFilter name jql) form other = same_alike _ _ (save_filter_same m order balance user name jql) (save_filter_plain m user name jql)
  call_alike user (call.DropFilter filter_no) form other = same_alike _ _ (drop_filter_same m order balance user filter_no) (drop_filter_plain m user filter_no)
  call_alike user (call.Filter filter_no part) form other = filter_alike user filter_no part
  call_alike user (call.MakeBoard name filter_no) form other =
      same_alike _ _ (make_board_same m order balance user name filter_no) (make_board_plain m user name filter_no)
  call_alike user (call.DropBoard board_no) form other = same_alike _ _ (drop_board_same m order balance user board_no) (drop_board_plain m user board_no)
  call_alike user (call.Board board_no part) form other = board_alike user board_no part
  call_alike user (call.MakeSprint name) form other = same_alike _ _ (make_sprint_same m order balance user name) (make_sprint_plain m user name)
  call_alike user (call.StartSprint sprint) form other = same_alike _ _ (start_sprint_same m order balance user sprint) (start_sprint_plain m user sprint)
  call_alike user (call.CloseSprint sprint) form other = same_alike _ _ (close_sprint_same m order balance user sprint) (close_sprint_plain m user sprint)
  call_alike user (call.SetGroup group members) form other = same_alike _ _ (set_group_same m order balance user group members) (set_group_plain m user group members)
  call_alike user (call.Burndown sprint part) form other = same_alike _ _ (burndown_same m order balance user sprint part) (burndown_plain m user sprint part)
  call_alike user (call.List jql fields part) form other = list_alike user jql fields part
  call_alike user (call.Filters part) form other = same_alike (filters_meaning m user part) (filters_meaning new user part) refl tt
  call_alike user (call.Boards part) form other = same_alike (boards_meaning m part) (boards_meaning new part) refl tt
  call_alike user (call.Sprints part) form other = same_alike (sprints_meaning m part) (sprints_meaning new part) refl tt
  call_alike user call.Describe form other = same_alike (describe_meaning m user) (describe_meaning new user) refl tt

  pub meaning_alike : (caller : List ℕ) (c : Call) → rebalances c ≡ false → Alike (meaning m caller c) (meaning new caller c)
  unfolding meaning
  meaning_alike caller c other = by (form_refusal c) refl
    where
      by : (form : Option Cause) → form_refusal c ≡ form
          → Alike (unless form (unless (caller_refusal m caller) (meaning_for m (user_of m caller) c))) (unless form (unless (caller_refusal new caller) (meaning_for new (user_of new caller) c)))
      by (Some r) is = λ room more. plain_alike m order balance same (Refuses r) tt
      by None is = unless_alike m order balance same (caller_refusal m caller) _ _ (call_alike (user_of m caller) c is other)
