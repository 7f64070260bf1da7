-- What comes of an effect is another tracker.
use Rattle.std.proofs.Common.{◌≡◌, ◌≢◌, ℕ, zero, suc, ◌+◌, ◌-◌, ◌≤◌, ◌<◌, ◌==◌, nat_le, min, Bool, true, false, ◌&&◌, ◌⊎◌, List, [], ◌∷◌, ◌++◌, length, slice_get, Option, Some, None, Result, Ok, Err, option_map, option_and_then, refl, sym, ap, ◌∙◌, subst, inl, inr, arith}
use Rattle.std.specs.Prelude.{if◌then◌else◌, unwrap_or, decimal, slice_set, MatchResult}
use Rattle.std.specs.Cmp.Lexicographic.{pointwise}
use Rattle.std.specs.Option.{option_map_or}
use Rattle.std.specs.Ordering.{eq_by_cmp, is_eq}
use Rattle.std.specs.Str.{bytes_eq}
use Rattle.std.proofs.lemmas.Bool.{cases_Bool, true≢false}
use Rattle.std.proofs.lemmas.Bool.Decides.{nat_tests}
use Rattle.std.proofs.lemmas.Cmp.{tied_itself}
use Rattle.std.proofs.lemmas.List.{length-append, length-map}
use Rattle.std.proofs.lemmas.Option.{none-some, same_Some, slice_get_past}
use Rattle.std.proofs.lemmas.Slice.Eq.{bytes_eq-Decides}
use Rattle.field_values.specs.declared.numbers.BoardNo.{BoardNo}
use Rattle.field_values.specs.declared.numbers.FilterNo.{FilterNo}
use Rattle.field_values.specs.declared.numbers.GroupNo.{GroupNo}
use Rattle.field_values.specs.declared.numbers.IssueNo.{IssueNo}
use Rattle.field_values.specs.declared.numbers.SprintNo.{SprintNo}
use Rattle.field_values.specs.declared.numbers.UserNo.{UserNo}
use Rattle.field_values.specs.declared.rules.Permission.TheVariants as permission
use Rattle.field_values.specs.declared.parts.Group.{Group as UserGroup}
use Rattle.field_values.specs.GroupMembers.{with_members}
use Rattle.field_forms.specs.Names.{place_named}
use Rattle.field_forms.proofs.Fits.{named_inside}
use Rattle.fields.specs.SetupParts.{names_in}
use Rattle.rising_numbers.specs.ByNumber.{RiseFrom, by_number, put_by_number, without_number, free_from}
use Rattle.rising_numbers.proofs.ByNumber.{above, put_own, without_own}
use Rattle.rising_numbers.proofs.Free.{least_free}
use Rattle.change_history.specs.declared.change.Change.{Change}
use Rattle.change_history.specs.declared.entry.Group.{Group}
use Rattle.change_history.proofs.Cells.{set_there}
use Rattle.change_history.specs.History.{History}
use Rattle.rank_strings.specs.Rank.{RankParts, rank_cmp}
use Rattle.rank_strings.specs.Total.{rank_cmp-total}
use Rattle.board.specs.Moved.{Sides}
use Rattle.board.specs.Order.{Pair, rank_in}
use Rattle.board.specs.declared.board.Board.{Board}
use Rattle.board.specs.declared.place.Place.{Place}
use Rattle.board.specs.declared.place.Place.TheVariants.{Before, After}
use Rattle.rank_balancer.specs.declared.balance.Balance.{Balance}
use Rattle.rank_balancer.specs.declared.balance.Balance.TheVariants.{Idle, Moving}
use Rattle.rank_balancer.specs.Balance.{Agrees, next_bucket, from_of, to_of}
use Rattle.rank_balancer.specs.Planned.{planned}
use Rattle.rank_balancer.specs.Step.{Move, IsStep as IsRankStep, IsStuck, after_move, after_moves, balance_after, left_in}
use Rattle.rank_balancer.proofs.Keeps.{picks_keep_all}
use Rattle.rank_balancer.proofs.Planned.{step_is_computed_law}
use Rattle.sprints.specs.declared.sprint.Sprint.{Sprint}
use Rattle.sprints.specs.declared.state.SprintState.{SprintState}
use Rattle.sprints.specs.declared.state.SprintState.TheVariants.{Future, Active, Closed}
use Rattle.sprints.specs.Sprint.{future, sprint_of, state_of}
use Rattle.sprints.specs.State.{after_start, after_close}
use Rattle.tracker_ranks.proofs.Given.{gives_one_rank}
use Rattle.tracker_work.specs.Seen.{state_in}
use Rattle.tracker_calls.specs.declared.call.Call.{Call}
use Rattle.tracker_calls.specs.declared.call.Call.TheVariants as call
use Rattle.tracker_calls.specs.declared.call.Part.{Part}
use Rattle.tracker_calls.specs.declared.given.GivenField.{GivenField}
use Rattle.tracker_calls.specs.declared.reply.Answer.{Answer}
use Rattle.tracker_calls.specs.declared.reply.Answer.TheVariants as answer
use Rattle.tracker_calls.specs.declared.cause.Cause.{Cause}
use Rattle.tracker_calls.specs.declared.cause.Cause.TheVariants as cause
use Rattle.tracker_calls.specs.declared.cause.Thing.TheVariants as thing
use Rattle.tracker_machine.specs.Machine.{Machine}
use Rattle.tracker_machine.specs.Known.{place_of_issue, history_named, known_place}
use Rattle.tracker_machine.specs.Checks.{or_then, unless_known, only_if, permission_refusal, caller_refusal, count_refusal}
use Rattle.tracker_machine.specs.Effect.{applied}
use Rattle.tracker_machine.specs.Effect.Effect.{NewMoment, NewIssue, NewGroup, NewRank, NewBalance, NewRanks, NewSprint, NewState, NewFilter, NoFilter, NewBoard, NoBoard, NewMembers}
use Rattle.tracker_machine.specs.Meaning.{Meaning, HasEffect, next_after, unless}
use Rattle.tracker_machine.specs.Meaning.Meaning.{Refuses, Tells, Finds, Makes}
use Rattle.tracker_machine.specs.Create.{create_meaning, create_refusal, issue_called, is_created_as, called_before, new_issue_refusal, create_wants, created, create_or_tell, spelled_key}
use Rattle.tracker_machine.specs.Wanted.{changes_of}
use Rattle.tracker_machine.specs.Members.{group_names, users_named, has_members, members_answer, stranger_refusal, set_group_refusal, regroups, set_group_meaning}
use Rattle.tracker_machine.specs.Group.{grouped_at}
use Rattle.tracker_machine.specs.Edit.{edit_meaning, edit_refusal, edit_answer, edit_news}
use Rattle.tracker_machine.specs.Transition.{transition_meaning, transition_refusal, transition_answer, transition_news, transition_named}
use Rattle.tracker_machine.specs.Tick.{tick_meaning, tick_refusal, ticked}
use Rattle.tracker_machine.specs.Rank.{with_given, last_rank, moved_rank, has_rank}
use Rattle.tracker_machine.specs.Move.{move_meaning, move_refusal, move_answer, moved_beside, newly_ranked}
use Rattle.tracker_machine.specs.Rebalance.{rebalance_start_meaning, rebalance_step_meaning, started, stepped, with_planned}
use Rattle.tracker_machine.specs.Sprints.{make_sprint_refusal, next_sprint, make_sprint_meaning, unless_sprint, plan_sprint_refusal, turned, start_sprint_meaning, close_sprint_meaning, burndown_answer}
use Rattle.tracker_machine.specs.SprintRules.{in_state}
use Rattle.tracker_machine.specs.Show.{show_refusal, show_answer_of}
use Rattle.tracker_machine.specs.Entries.{history_refusal, history_answer_of}
use Rattle.tracker_machine.specs.Ranks.{ranks_answer}
use Rattle.tracker_machine.specs.Query.{Query, asked}
use Rattle.tracker_machine.specs.IssueList.{fields_refusal, list_meaning, issues_listed, wanted_fields}
use Rattle.tracker_machine.specs.Search.{search_meaning, searched}
use Rattle.tracker_machine.specs.Saved.{SavedFilter, filter_number, board_number, filter_named, is_named}
use Rattle.tracker_machine.specs.Filters.{filters_refusal, filter_for, is_kept, number_for, save_answer, saved, save_filter_meaning, unless_filter, owner_refusal, drop_filter_refusal, drop_filter_meaning, filter_numbered, filter_told, filter_meaning}
use Rattle.tracker_machine.specs.Boards.{unless_board, make_board_refusal, made_board, make_board_meaning, next_board, drop_board_refusal, drop_board_meaning, board_numbered, board_told, board_meaning}
use Rattle.tracker_machine.specs.Step.{meaning, meaning_for, form_refusal, user_of, next_of, IsStep}
use Rattle.tracker_machine.specs.Tracker.{IsTracker}
use Rattle.tracker_machine.proofs.Settled.{at_place}
use Rattle.tracker_machine.proofs.SprintRules.{found_is_there, state_there, turned_there}
use Rattle.tracker_sight.specs.Effects.{EffectsChangeTheTracker, KeepersFailChangesAlone}
use Rattle.tracker_sight.proofs.Allowed.{first_none, then_none, is_met, known}

-- ---- lists that have changed

members_there : (groups : List UserGroup) (k : ℕ) (members : List UserNo) (g : UserGroup) → slice_get groups k ≡ Some g
    → slice_get (with_members groups k members) k ≡ Some (record { name = g.name; members = members })
members_there [] k members g there = absurd (none-some g there)
members_there (x ∷ groups) zero members g there =
    ap (λ (h : UserGroup). Some (record { name = h.name; members = members })) (same_Some x g there)
members_there (x ∷ groups) (suc k) members g there = members_there groups k members g there

same_members : (members : List UserNo) → pointwise (λ one other. one.0 == other.0) members members ≡ true
same_members [] = refl
same_members (user ∷ members) =
    let itself : (user.0 == user.0) ≡ true = grind (arith, nat_tests) in
    ap (λ (b : Bool). b && pointwise (λ one other. one.0 == other.0) members members) itself ∙ same_members members

-- the filter that is found by its name is the one of its number
named_numbered : (owner : UserNo) (name : List ℕ) (least : ℕ) (fs : List SavedFilter) (g : SavedFilter) → RiseFrom filter_number least fs
    → filter_named owner name fs ≡ Some g → by_number filter_number g.no.0 fs ≡ Some g
named_numbered owner name least [] g rise is = absurd (none-some g is)
named_numbered owner name least (f ∷ fs) g rise is =
    by (is_named owner name f) is (named_numbered owner name (f.no.0 + 1) fs g rise.1)
  where
    by : (b : Bool) → (if b then Some f else filter_named owner name fs) ≡ Some g
        → (filter_named owner name fs ≡ Some g → by_number filter_number g.no.0 fs ≡ Some g) → by_number filter_number g.no.0 (f ∷ fs) ≡ Some g
    by true same rest =
        let number : f.no.0 ≡ g.no.0 = ap filter_number (same_Some f g same) in
        let test : (f.no.0 == g.no.0) ≡ true = grind (arith, nat_tests) in
        rw test same
    by false same rest =
        let later : f.no.0 + 1 ≤ g.no.0 = above filter_number (f.no.0 + 1) g.no.0 g fs rise.1 (rest same) in
        let test : (f.no.0 == g.no.0) ≡ false = grind (arith, nat_tests) in
        rw test (rest same)

module _ (m : Machine) where
  -- ---- effects

  moment_changes : (to : ℕ) → to ≢ m.moment → applied (NewMoment to) m ≢ m
  unfolding applied
  moment_changes to differ same = differ (ap (λ (n : Machine). n.moment) same)

  issue_changes : (h : History) (rank : RankParts) (external : Option (List ℕ)) → applied (NewIssue h rank external) m ≢ m
  unfolding applied
  issue_changes h rank external same =
      let number : m.change + 1 ≡ m.change = ap (λ (n : Machine). n.change) same in
      absurd (omega (arith, number))

  group_changes : (place : ℕ) (group : Group) → applied (NewGroup place group) m ≢ m
  unfolding applied
  group_changes place group same =
      let number : m.change + 1 ≡ m.change = ap (λ (n : Machine). n.change) same in
      absurd (omega (arith, number))

  rank_changes : (issue : IssueNo) (rank : RankParts) → has_rank m.order issue rank ≡ false → applied (NewRank issue rank) m ≢ m
  unfolding applied
  rank_changes issue rank other same =
      let order : after_move m.order (issue, rank) ≡ m.order = ap (λ (n : Machine). n.order) same in
      let own : rank_in m.order issue.0 ≡ Some rank = ap (λ (ps : List Pair). rank_in ps issue.0) (sym order) ∙ (gives_one_rank m.order (issue, rank)).own in
      let has : has_rank m.order issue rank ≡ true =
      ap (λ (o : Option RankParts). option_map_or (λ one. eq_by_cmp rank_cmp one rank) o false) own ∙ ap is_eq (tied_itself rank_cmp-total rank) in
      true≢false (sym has ∙ other)

  balance_changes : (bucket : ℕ) → m.balance ≡ Idle bucket → applied (NewBalance (Moving bucket (next_bucket bucket))) m ≢ m
  unfolding applied
  balance_changes bucket is same =
      let no : Moving bucket (next_bucket bucket) ≡ Idle bucket = ap (λ (n : Machine). n.balance) same ∙ is in cc

  -- a step that moves no rank ends the rebalancing
  ranks_change : (from to count : ℕ) (moves : List Move) → IsTracker m → m.balance ≡ Moving from to → 1 ≤ count
      → IsRankStep m.order from to count moves → applied (NewRanks moves) m ≢ m
  unfolding applied
  ranks_change from to count moves tracker is some step same =
      let order : after_moves m.order moves ≡ m.order = ap (λ (n : Machine). n.order) same in
      let agrees : Agrees m.order (Moving from to) = subst (Agrees m.order) is tracker.ranked.agrees in
      let fewer : left_in from (after_moves m.order moves) + length moves ≡ left_in from m.order =
      (picks_keep_all m.order from to moves tracker.ranked.order agrees step.picks).fewer in
      let as_many : left_in from (after_moves m.order moves) ≡ left_in from m.order = ap (left_in from) order in
      let size : length moves ≡ min count (left_in from m.order) = step.count in
      let none : left_in from (after_moves m.order moves) ≡ 0 = omega (arith, fewer, as_many, size, some) in
      let test : (left_in from (after_moves m.order moves) == 0) ≡ true = grind (arith, nat_tests) in
      let idle : balance_after (after_moves m.order moves) from to ≡ Idle to = rw test refl in
      let kept : balance_after (after_moves m.order moves) from to ≡ Moving from to =
      ap (λ (b : Balance). balance_after (after_moves m.order moves) (from_of b) (to_of b)) (sym is) ∙ ap (λ (n : Machine). n.balance) same ∙ is in
      let no : Idle to ≡ Moving from to = sym idle ∙ kept in cc

  sprint_changes : (name : List ℕ) → applied (NewSprint name) m ≢ m
  unfolding applied
  sprint_changes name same =
      let size : length (m.sprints ++ future name ∷ []) ≡ length m.sprints = ap (λ (n : Machine). length n.sprints) same in
      absurd (omega (arith, size, length-append m.sprints (future name ∷ [])))

  state_changes : (sprint : SprintNo) (s : Sprint) (next : SprintState) → sprint_of m.sprints sprint.0 ≡ Some s → next ≢ s.state
      → applied (NewState sprint next) m ≢ m
  unfolding applied
  state_changes sprint s next is differ same =
      let put : slice_set m.sprints (sprint.0 - 1) (record s { state = next }) ≡ m.sprints =
      sym (turned_there m.sprints sprint.0 s next is) ∙ ap (λ (n : Machine). n.sprints) same in
      let at = (found_is_there m.sprints sprint.0 s is).1 in
      let one : Some (record s { state = next }) ≡ Some s =
      sym (set_there m.sprints (sprint.0 - 1) (record s { state = next }) s at) ∙ ap (λ (ss : List Sprint). slice_get ss (sprint.0 - 1)) put ∙ at in
      differ (ap (λ (t : Sprint). t.state) (same_Some (record s { state = next }) s one))

  filter_changes : (f : SavedFilter) → by_number filter_number f.no.0 m.filters ≢ Some f → applied (NewFilter f) m ≢ m
  unfolding applied
  filter_changes f other same =
      other (ap (by_number filter_number f.no.0) (sym (ap (λ (n : Machine). n.filters) same)) ∙ put_own filter_number f m.filters)

  filter_goes : (filter_no : FilterNo) (f : SavedFilter) → IsTracker m → filter_numbered m filter_no ≡ Some f → applied (NoFilter filter_no) m ≢ m
  unfolding applied
  filter_goes filter_no f tracker is same =
      none-some f (sym (without_own filter_number 1 filter_no.0 m.filters tracker.saved.rising)
      ∙ ap (by_number filter_number filter_no.0) (ap (λ (n : Machine). n.filters) same) ∙ is)

  board_changes : (b : Board) → by_number board_number b.no.0 m.boards ≡ None → applied (NewBoard b) m ≢ m
  unfolding applied
  board_changes b none same =
      none-some b (sym none ∙ ap (by_number board_number b.no.0) (sym (ap (λ (n : Machine). n.boards) same)) ∙ put_own board_number b m.boards)

  board_goes : (board_no : BoardNo) (b : Board) → IsTracker m → board_numbered m board_no ≡ Some b → applied (NoBoard board_no) m ≢ m
  unfolding applied
  board_goes board_no b tracker is same =
      none-some b (sym (without_own board_number 1 board_no.0 m.boards tracker.saved.rising_boards)
      ∙ ap (by_number board_number board_no.0) (ap (λ (n : Machine). n.boards) same) ∙ is)

  members_change : (place : ℕ) (g : UserGroup) (members : List UserNo) → slice_get m.setup.group place ≡ Some g → g.members ≢ members
      → applied (NewMembers (record { 0 = place + 1 }) members) m ≢ m
  unfolding applied
  members_change place g members there differ same =
      let back : place + 1 - 1 ≡ place = omega arith in
      let groups : with_members m.setup.group place members ≡ m.setup.group =
      ap (λ (k : ℕ). with_members m.setup.group k members) (sym back) ∙ ap (λ (n : Machine). n.setup.group) same in
      let one : Some g ≡ Some (record { name = g.name; members = members }) =
      sym there ∙ ap (λ (gs : List UserGroup). slice_get gs place) (sym groups) ∙ members_there m.setup.group place members g there in
      differ (ap (λ (h : UserGroup). h.members) (same_Some g (record { name = g.name; members = members }) one))

  -- ---- what calls mean

  -- what a call means changes the tracker, if it has an effect
  abbrev pub Changes : Meaning → Type 0
  Changes (Refuses r) = Unit {0}
  Changes (Tells a) = Unit {0}
  Changes (Finds a) = Unit {0}
  Changes (Makes a effect) = applied effect m ≢ m

  unless_changes : (o : Option Cause) (due : Meaning) → (o ≡ None → Changes due) → Changes (unless o due)
  unless_changes None due f = f refl
  unless_changes (Some r) due f = tt

  grouped_changes : (user : ℕ) (to_answer : Option ℕ → Answer) (place : Option ℕ) (o : Option History) (changes : List Change)
      → Changes (grouped_at to_answer m user place o changes)
  grouped_changes user to_answer None o changes = tt
  grouped_changes user to_answer (Some k) None changes = tt
  grouped_changes user to_answer (Some k) (Some h) [] = tt
  grouped_changes user to_answer (Some k) (Some h) (c ∷ cs) = group_changes k _

  called_changes : (b : Bool) (external : List ℕ) (h : History) → Changes (called_before b external h)
  called_changes true external h = tt
  called_changes false external h = tt

  module _ (user : ℕ) where
    new_issue_changes : (key : List ℕ) (external : Option (List ℕ)) (changes : List Change) (given : Result RankParts Sides)
        → Changes (with_given given (created m user key external changes))
    new_issue_changes key external changes (Err sides) = tt
    new_issue_changes key external changes (Ok rank) = issue_changes _ rank external

    begun_changes : (key issue_type summary : List ℕ) (given : List GivenField) (external : Option (List ℕ)) (called : Option History)
        → Changes (create_or_tell m user key issue_type summary given external called)
    begun_changes key issue_type summary given external (Some h) =
        called_changes (is_created_as m key issue_type summary h) (unwrap_or external []) h
    begun_changes key issue_type summary given external None =
        let changes : List Change = changes_of (names_in m.setup) (create_wants m.setup user issue_type summary given) in
        unless_changes (new_issue_refusal m user issue_type summary given) (with_given (last_rank m) (created m user key external changes))
        (λ none. new_issue_changes key external changes (last_rank m))

    create_changes : (project issue_type summary : List ℕ) (given : List GivenField) (external : Option (List ℕ))
        → Changes (create_meaning m user project issue_type summary given external)
    create_changes project issue_type summary given external =
        unless_changes (create_refusal m user project given)
        (create_or_tell m user (spelled_key m project) issue_type summary given external (issue_called m external))
        (λ none. begun_changes (spelled_key m project) issue_type summary given external (issue_called m external))

    edit_changes : (issue : List ℕ) (given : List GivenField) → Changes (edit_meaning m user issue given)
    edit_changes issue given =
        let found : Option History = history_named m issue in
        let due : Meaning = grouped_at (edit_answer issue) m user (place_of_issue issue m.histories) found (edit_news m given found) in
        unless_changes (edit_refusal m user issue given) due
        (λ none. grouped_changes user (edit_answer issue) (place_of_issue issue m.histories) found (edit_news m given found))

    transition_changes : (issue transition : List ℕ) (given : List GivenField) → Changes (transition_meaning m user issue transition given)
    transition_changes issue transition given =
        let found : Option History = history_named m issue in
        let news : List Change = transition_news m user given found (transition_named m transition) in
        unless_changes (transition_refusal m user issue transition given)
        (grouped_at (transition_answer issue) m user (place_of_issue issue m.histories) found news)
        (λ none. grouped_changes user (transition_answer issue) (place_of_issue issue m.histories) found news)

    -- ---- ranks

    moved_changes : (name : List ℕ) (place : IssueNo → Place) (o p : Option History) → Changes (moved_beside m name place o p)
    moved_changes name place None p = tt
    moved_changes name place (Some h) None = tt
    moved_changes name place (Some h) (Some g) = by (moved_rank m h.no (place g.no))
      where
        by_rank : (rank : RankParts) (b : Bool) → has_rank m.order h.no rank ≡ b
            → Changes (if b then Tells (move_answer name rank) else Makes (move_answer name rank) (NewRank h.no rank))
        by_rank rank true is = tt
        by_rank rank false is = rank_changes h.no rank is

        by : (given_rank : Result RankParts Sides) → Changes (with_given given_rank (newly_ranked m name h.no))
        by (Err sides) = tt
        by (Ok rank) = by_rank rank (has_rank m.order h.no rank) refl

    move_changes : (issue other : List ℕ) (place : IssueNo → Place) → Changes (move_meaning m user issue other place)
    move_changes issue other place =
        unless_changes (move_refusal m user issue other) (moved_beside m issue place (history_named m issue) (history_named m other))
        (λ none. moved_changes issue place (history_named m issue) (history_named m other))

    start_changes : Changes (rebalance_start_meaning m user)
    start_changes = unless_changes (permission_refusal m user permission.Administer None) (started m.balance) (λ none. by m.balance refl)
      where
        by : (b : Balance) → m.balance ≡ b → Changes (started b)
        by (Idle bucket) is = balance_changes bucket is
        by (Moving from to) is = tt

    step_changes : (count : ℕ) → IsTracker m → 1 ≤ count → Changes (rebalance_step_meaning m user count)
    step_changes count tracker some =
        unless_changes (permission_refusal m user permission.Administer None) (stepped m.order m.balance count) (λ none. by m.balance refl)
      where
        by_planned : (from to : ℕ) → m.balance ≡ Moving from to → (given : Result (List Move) Sides)
            → MatchResult given (IsRankStep m.order from to count) (λ sides. IsStuck m.order from to count sides.0 sides.1)
            → Changes (with_planned m.order from given)
        by_planned from to is (Ok moves) step = ranks_change from to count moves tracker is some step
        by_planned from to is (Err sides) stuck = tt

        by : (b : Balance) → m.balance ≡ b → Changes (stepped m.order b count)
        by (Idle bucket) is = tt
        by (Moving from to) is =
            by_planned from to is (planned m.order from to count)
            (step_is_computed_law m.order from to count tracker.ranked.order (subst (Agrees m.order) is tracker.ranked.agrees))

    -- ---- filters and boards

    -- a filter that is kept under its number is the caller's of that name, with that text
    kept_already : (name text : List ℕ) → IsTracker m → is_kept m user name text ≡ false
        → by_number filter_number (number_for m user name).0 m.filters ≢ Some (filter_for m user name text)
    kept_already name text tracker new is = by (filter_named (record { 0 = user }) name m.filters) refl
      where
        by : (o : Option SavedFilter) → filter_named (record { 0 = user }) name m.filters ≡ o → ⊥
        by None none =
            let number : (number_for m user name).0 ≡ free_from filter_number 1 m.filters =
            ap (λ (o : Option SavedFilter). (option_map_or (λ f. f.no) o (record { 0 = free_from filter_number 1 m.filters })).0) none in
            let free = (least_free filter_number 1 m.filters tracker.saved.rising).free in
            none-some (filter_for m user name text) (sym free ∙ ap (λ (n : ℕ). by_number filter_number n m.filters) (sym number) ∙ is)
        by (Some g) found =
            let number : (number_for m user name).0 ≡ g.no.0 =
            ap (λ (o : Option SavedFilter). (option_map_or (λ f. f.no) o (record { 0 = free_from filter_number 1 m.filters })).0) found in
            let one : Some g ≡ Some (filter_for m user name text) =
            sym (named_numbered (record { 0 = user }) name 1 m.filters g tracker.saved.rising found)
            ∙ ap (λ (n : ℕ). by_number filter_number n m.filters) (sym number) ∙ is in
            let same : g.text ≡ text = ap (λ (f : SavedFilter). f.text) (same_Some g (filter_for m user name text) one) in
            let kept : is_kept m user name text ≡ true =
            ap (λ (o : Option SavedFilter). option_map_or (λ f. bytes_eq f.text text) o false) found ∙ (bytes_eq-Decides g.text text).1 same in
            true≢false (sym kept ∙ new)

    save_filter_changes : (name text : List ℕ) → IsTracker m → Changes (save_filter_meaning m user name text)
    unfolding save_filter_meaning
    save_filter_changes name text tracker =
        unless_changes (filters_refusal m user name) (saved m user name text (asked m.setup user text)) (λ none. by (asked m.setup user text))
      where
        by_kept : (query : Query) (b : Bool) → is_kept m user name text ≡ b
            → Changes (if b then Finds (save_answer m user name query) else Makes (save_answer m user name query) (NewFilter (filter_for m user name text)))
        by_kept query true is = tt
        by_kept query false is = filter_changes (filter_for m user name text) (kept_already name text tracker is)

        by : (query : Result Query Cause) → Changes (saved m user name text query)
        by (Err r) = tt
        by (Ok query) = by_kept query (is_kept m user name text) refl

    drop_filter_changes : (filter_no : FilterNo) → IsTracker m → Changes (drop_filter_meaning m user filter_no)
    drop_filter_changes filter_no tracker =
        unless_changes (drop_filter_refusal m user filter_no) (Makes (answer.DropFilter filter_no) (NoFilter filter_no))
        (λ none. let there = known (filter_numbered m filter_no) (cause.Unknown thing.Filter (decimal filter_no.0))
        (first_none (unless_filter m filter_no) (owner_refusal m user (filter_numbered m filter_no)) none) in
        filter_goes filter_no there.0 tracker there.1)

    make_board_changes : (name : List ℕ) (filter_no : FilterNo) → IsTracker m → Changes (make_board_meaning m user name filter_no)
    make_board_changes name filter_no tracker =
        unless_changes (make_board_refusal m user filter_no) (made_board m name filter_no)
        (λ none. board_changes (record { no = next_board m; name = name; filter = filter_no })
        (least_free board_number 1 m.boards tracker.saved.rising_boards).free)

    drop_board_changes : (board_no : BoardNo) → IsTracker m → Changes (drop_board_meaning m user board_no)
    drop_board_changes board_no tracker =
        unless_changes (drop_board_refusal m user board_no) (Makes (answer.DropBoard board_no) (NoBoard board_no))
        (λ none. let there = known (board_numbered m board_no) (cause.Unknown thing.Board (decimal board_no.0))
        (first_none (unless_board m board_no) (permission_refusal m user permission.Plan None) none) in
        board_goes board_no there.0 tracker there.1)

    -- ---- sprints and groups

    make_sprint_changes : (name : List ℕ) → Changes (make_sprint_meaning m user name)
    make_sprint_changes name =
        unless_changes (make_sprint_refusal m user) (Makes (answer.MakeSprint (next_sprint m)) (NewSprint name)) (λ none. sprint_changes name)

    turned_changes : (sprint : SprintNo) (o : Option SprintState) → plan_sprint_refusal m user sprint ≡ None
        → ((next : SprintState) → o ≡ Some next → next ≢ state_in m.sprints sprint.0) → Changes (turned sprint (state_in m.sprints sprint.0) o)
    turned_changes sprint None passed differ = tt
    turned_changes sprint (Some next) passed differ = by (sprint_of m.sprints sprint.0) refl
        (known (state_of m.sprints sprint.0) (cause.Unknown thing.Sprint (decimal sprint.0))
        (first_none (unless_sprint m sprint) (permission_refusal m user permission.Plan None) passed))
      where
        by : (o : Option Sprint) → sprint_of m.sprints sprint.0 ≡ o → (x : SprintState) × (state_of m.sprints sprint.0 ≡ Some x)
            → applied (NewState sprint next) m ≢ m
        by None none there = absurd (none-some there.0 (sym (ap (option_map (λ (s : Sprint). s.state)) none) ∙ there.1))
        by (Some s) found there =
            state_changes sprint s next found (λ same. differ next refl (same ∙ sym (state_there m.sprints sprint.0 s found)))

    start_differs : (kept : SprintState) (at change : ℕ) (next : SprintState) → after_start kept at change ≡ Some next → next ≢ kept
    start_differs Future at change next is same = let no : Active at change ≡ Future = same_Some (Active at change) next is ∙ same in cc
    start_differs (Active _ _) at change next is same = absurd (none-some next is)
    start_differs (Closed _ _ _ _) at change next is same = absurd (none-some next is)

    close_differs : (kept : SprintState) (at change : ℕ) (next : SprintState) → after_close kept at change ≡ Some next → next ≢ kept
    close_differs Future at change next is same = absurd (none-some next is)
    close_differs (Active start_at start_change) at change next is same =
        let no : Closed start_at start_change at change ≡ Active start_at start_change = same_Some (Closed start_at start_change at change) next is ∙ same in cc
    close_differs (Closed _ _ _ _) at change next is same = absurd (none-some next is)

    start_sprint_changes : (sprint : SprintNo) → Changes (start_sprint_meaning m user sprint)
    start_sprint_changes sprint =
        let kept : SprintState = state_in m.sprints sprint.0 in
        unless_changes (plan_sprint_refusal m user sprint) (turned sprint kept (after_start kept m.moment m.change))
        (λ none. turned_changes sprint (after_start kept m.moment m.change) none (start_differs kept m.moment m.change))

    close_sprint_changes : (sprint : SprintNo) → Changes (close_sprint_meaning m user sprint)
    close_sprint_changes sprint =
        let kept : SprintState = state_in m.sprints sprint.0 in
        unless_changes (plan_sprint_refusal m user sprint) (turned sprint kept (after_close kept m.moment m.change))
        (λ none. turned_changes sprint (after_close kept m.moment m.change) none (close_differs kept m.moment m.change))

    set_group_changes : (group : List ℕ) (names : List (List ℕ)) → Changes (set_group_meaning m user group names)
    unfolding set_group_meaning
    set_group_changes group names =
        let place : ℕ = known_place group (group_names m.setup) in
        let members : List UserNo = users_named m.setup names in
        let unknown : Option Cause = unless_known (place_named group (group_names m.setup)) (cause.Unknown thing.Group group) in
        let rest : Option Cause = or_then (stranger_refusal m.setup.users names) (permission_refusal m user permission.Administer None) in
        unless_changes (set_group_refusal m user group names) (regroups m.setup place members)
        (λ none. let there = known (place_named group (group_names m.setup)) (cause.Unknown thing.Group group) (first_none unknown rest none) in
        let inside : there.0 < length m.setup.group = subst (λ n. there.0 < n) (length-map m.setup.group (λ (g : UserGroup). g.name))
        (named_inside (group_names m.setup) group there.0 there.1) in
        let same : place ≡ there.0 = ap (λ (o : Option ℕ). unwrap_or o 0) there.1 in
        by place members (subst (λ n. n < length m.setup.group) (sym same) inside) (slice_get m.setup.group place) refl (has_members m.setup place members) refl)
      where
        by : (place : ℕ) (members : List UserNo) → place < length m.setup.group → (o : Option UserGroup) → slice_get m.setup.group place ≡ o
            → (b : Bool) → has_members m.setup place members ≡ b → Changes (if b then Tells (members_answer m.setup place members)
            else Makes (members_answer m.setup place members) (NewMembers (record { 0 = place + 1 }) members))
        by place members inside o is true has = tt
        by place members inside None is false has = let found = at_place m.setup.group place inside in absurd (none-some found.0 (sym is ∙ found.1))
        by place members inside (Some g) is false has = members_change place g members is (λ same. true≢false
            (sym (ap (λ (o : Option UserGroup). option_map_or (λ g. pointwise (λ one other. one.0 == other.0) g.members members) o false) is
            ∙ ap (λ (xs : List UserNo). pointwise (λ one other. one.0 == other.0) xs members) same ∙ same_members members) ∙ has))

    -- ---- calls that do nothing, and ticks

    tick_changes : (to : ℕ) → Changes (tick_meaning m to)
    tick_changes to = unless_changes (tick_refusal m to) (ticked m to) (λ none. by (to == m.moment) refl)
      where
        by : (b : Bool) → (to == m.moment) ≡ b → Changes (if b then Tells (answer.Tick to) else Makes (answer.Tick to) (NewMoment to))
        by true is = tt
        by false is = moment_changes to (λ same. let test : (to == m.moment) ≡ true = grind (arith, nat_tests) in true≢false (sym test ∙ is))

    search_changes : (jql : List ℕ) (part : Part) → Changes (search_meaning m user jql part)
    unfolding search_meaning
    search_changes jql part = by (asked m.setup user jql)
      where
        by : (query : Result Query Cause) → Changes (searched m user part query)
        by (Err r) = tt
        by (Ok query) = tt

    listed_changes : (numbers : List ℕ) (part : Part) (query : Result Query Cause) → Changes (issues_listed m user numbers part query)
    listed_changes numbers part (Err r) = tt
    listed_changes numbers part (Ok query) = tt

    list_changes : (jql : List ℕ) (fields : Option (List (List ℕ))) (part : Part) → Changes (list_meaning m user jql fields part)
    unfolding list_meaning
    list_changes jql fields part =
        let numbers : List ℕ = wanted_fields m.setup.field fields in
        unless_changes (fields_refusal m.setup.field fields) (issues_listed m user numbers part (asked m.setup user jql))
        (λ none. listed_changes numbers part (asked m.setup user jql))

    told_filter_changes : (filter_no : FilterNo) (part : Part) → Changes (filter_meaning m user filter_no part)
    unfolding filter_meaning
    told_filter_changes filter_no part = by (filter_numbered m filter_no)
      where
        by : (o : Option SavedFilter) → Changes (filter_told m user filter_no part o)
        by None = tt
        by (Some f) = tt

    told_board_changes : (board_no : BoardNo) (part : Part) → Changes (board_meaning m user board_no part)
    unfolding board_meaning
    told_board_changes board_no part = by (board_numbered m board_no)
      where
        by : (o : Option Board) → Changes (board_told m user board_no part o)
        by None = tt
        by (Some b) = tt

    call_changes : (c : Call) → IsTracker m → form_refusal c ≡ None → Changes (meaning_for m user c)
    unfolding meaning_for form_refusal
    call_changes (call.Create project issue_type summary given external) tracker form = create_changes project issue_type summary given external
    call_changes (call.Edit issue given) tracker form = edit_changes issue given
    call_changes (call.Transition issue transition given) tracker form = transition_changes issue transition given
    call_changes (call.Tick to) tracker form = tick_changes to
    call_changes (call.Show issue) tracker form =
        unless_changes (show_refusal m user issue) (Tells (show_answer_of m (history_named m issue))) (λ none. tt)
    call_changes (call.History issue part) tracker form =
        unless_changes (history_refusal m user issue) (Tells (history_answer_of m part (history_named m issue))) (λ none. tt)
    call_changes (call.Search jql part) tracker form = search_changes jql part
    call_changes (call.MoveBefore issue other) tracker form = move_changes issue other Before
    call_changes (call.MoveAfter issue other) tracker form = move_changes issue other After
    call_changes (call.Ranks part) tracker form =
        unless_changes (permission_refusal m user permission.Administer None) (Tells (ranks_answer m part)) (λ none. tt)
    call_changes call.RebalanceStart tracker form = start_changes
    call_changes (call.RebalanceStep count) tracker form =
        let some : (nat_le 1 count && nat_le count 1_000) ≡ true = is_met (nat_le 1 count && nat_le count 1_000) _ form in
        step_changes count tracker (grind (arith, nat_tests, some))
    call_changes call.Balance tracker form = tt
    call_changes (call.SaveFilter name jql) tracker form = save_filter_changes name jql tracker
    call_changes (call.DropFilter filter_no) tracker form = drop_filter_changes filter_no tracker
    call_changes (call.Filter filter_no part) tracker form = told_filter_changes filter_no part
    call_changes (call.MakeBoard name filter_no) tracker form = make_board_changes name filter_no tracker
    call_changes (call.DropBoard board_no) tracker form = drop_board_changes board_no tracker
    call_changes (call.Board board_no part) tracker form = told_board_changes board_no part
    call_changes (call.MakeSprint name) tracker form = make_sprint_changes name
    call_changes (call.StartSprint sprint) tracker form = start_sprint_changes sprint
    call_changes (call.CloseSprint sprint) tracker form = close_sprint_changes sprint
    call_changes (call.SetGroup group members) tracker form = set_group_changes group members
    call_changes (call.Burndown sprint part) tracker form =
        unless_changes (plan_sprint_refusal m user sprint) (Tells (burndown_answer m sprint part)) (λ none. tt)
    call_changes (call.List jql fields part) tracker form = list_changes jql fields part
    call_changes (call.Filters part) tracker form = tt
    call_changes (call.Boards part) tracker form = tt
    call_changes (call.Sprints part) tracker form = tt
    call_changes call.Describe tracker form = tt

  meaning_changes : (caller : List ℕ) (c : Call) → IsTracker m → Changes (meaning m caller c)
  unfolding meaning
  meaning_changes caller c tracker =
      unless_changes (form_refusal c) (unless (caller_refusal m caller) (meaning_for m (user_of m caller) c))
      (λ form. unless_changes (caller_refusal m caller) (meaning_for m (user_of m caller) c) (λ there. call_changes (user_of m caller) c tracker form))

  effective : (due : Meaning) → Changes due → HasEffect due → next_after due m ≢ m
  effective (Refuses r) changes has = absurd has
  effective (Tells a) changes has = absurd has
  effective (Finds a) changes has = absurd has
  effective (Makes a effect) changes has = changes

pub effects_change_the_tracker : EffectsChangeTheTracker
unfolding next_of
effects_change_the_tracker m caller c tracker has = effective m (meaning m caller c) (meaning_changes m caller c tracker) has

pub keepers_fail_changes_alone : KeepersFailChangesAlone
unfolding IsStep
keepers_fail_changes_alone m new caller c tracker step = effects_change_the_tracker m caller c tracker step.0
