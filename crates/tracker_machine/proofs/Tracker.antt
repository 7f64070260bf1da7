-- What holds of every tracker holds after each change.
use Rattle.std.proofs.Common.{◌≡◌, ℕ, zero, suc, ◌+◌, ◌<◌, ◌≤◌, List, [], ◌∷◌, ◌++◌, length, slice_get, set, map, bytes_eq, Option, Some, None, refl, sym, ap, ◌∙◌, subst, arith, inl}
use Rattle.std.specs.Prelude.{◌-◌, if◌then◌else◌, sum_by}
use Rattle.std.specs.List.{All}
use Rattle.std.specs.Option.{option_map_or}
use Rattle.std.proofs.lemmas.List.{length-append, length-set}
use Rattle.std.proofs.lemmas.List.Sums.{sum_by_push}
use Rattle.std.proofs.lemmas.List.Elements.{All-push, All-set}
use Rattle.std.proofs.lemmas.Option.{get_or_from_slice_get}
use Rattle.std.proofs.Math.Seq.{map-set_same}
use Rattle.rising_numbers.specs.ByNumber.{put_by_number, without_number}
use Rattle.field_values.specs.declared.numbers.GroupNo.{GroupNo}
use Rattle.field_values.specs.declared.numbers.UserNo.{UserNo}
use Rattle.field_values.specs.Parts.{Parts}
use Rattle.field_values.specs.Years.{last_second}
use Rattle.field_values.proofs.Members.{same_length}
use Rattle.field_forms.specs.Known.{Names}
use Rattle.change_history.specs.declared.entry.Entry.{Entry}
use Rattle.change_history.specs.declared.entry.Group.{Group}
use Rattle.change_history.specs.History.{History, MayAdd}
use Rattle.fields.specs.SetupParts.{names_in}
use Rattle.field_values.specs.declared.numbers.IssueNo.{IssueNo}
use Rattle.tracker_limits.specs.Limits.{most_entries, most_text_bytes}
use Rattle.rank_strings.specs.Rank.{RankParts}
use Rattle.board.specs.Order.{Pair}
use Rattle.board.specs.declared.board.Board.{Board}
use Rattle.board.proofs.Issues.{places_go_by_issues}
use Rattle.rank_balancer.specs.declared.balance.Balance.{Balance}
use Rattle.rank_balancer.specs.declared.balance.Balance.TheVariants.{Idle}
use Rattle.rank_balancer.specs.Balance.{IsMoving, after_start, from_of, to_of}
use Rattle.rank_balancer.specs.Step.{Move, ArePicks, after_move, after_moves}
use Rattle.tracker_ranks.specs.Ranked.{IsRanked, IsGiven, IsNext, balance_moved}
use Rattle.tracker_ranks.proofs.Given.{length-moved}
use Rattle.tracker_ranks.proofs.Keeping.{no_issue_is_ranked, numbers_are_ranked, new_issues_go_last, moves_change_one_rank, starts_keep_ranks, steps_keep_ranks}
use Rattle.tracker_machine.specs.Machine.{Machine}
use Rattle.sprints.specs.declared.sprint.Sprint.{Sprint}
use Rattle.tracker_machine.specs.SprintRules.{with_future, in_state, BringsSprints, AreSprints}
use Rattle.tracker_machine.specs.Saved.{SavedFilter, filter_number, board_number, without_boards_of, AreSaved}
use Rattle.tracker_machine.specs.Effect.{Effect, applied, IsAllowed, with_external, with_issue, longer, with_group, with_new_rank, with_balance, with_moves, with_group_members, MayName, MayHave}
use Rattle.tracker_machine.specs.Effect.Effect.{NewMoment, NewIssue, NewGroup, NewRank, NewBalance, NewRanks, NewSprint, NewState, NewFilter, NoFilter, NewBoard, NoBoard, NewMembers}
use Rattle.fields.specs.Naming.{name_at, key_of}
use Rattle.change_history.specs.Key.{project_of}
use Rattle.tracker_machine.specs.Known.{project_keys, issues_of}
use Rattle.tracker_machine.specs.Checks.{entries_kept, bytes_kept, entry_bytes}
use Rattle.tracker_machine.specs.Tracker.{AllEntriesFit, AllSmall, IsSettled, RunsFrom, RisesAbove, IsNextKey, AreKeyed, AreExternals, HaveUsers, IsTracker, MayOpen, MayGroup}
use Rattle.tracker_machine.proofs.Totals.{history_bytes-more, bytes_kept-push, bytes_kept-set, entries_kept-push, entries_kept-set}
use Rattle.tracker_machine.proofs.Chronicle.{chronicle_next, chronicle_later, chronicle_nil, change_pushed, change_added, groups_more, groups_kept-push, groups_kept-set}
use Rattle.tracker_machine.proofs.Saved.{no_filters, filter_saved, filter_dropped, board_made, board_dropped}
use Rattle.tracker_machine.proofs.SprintRules.{no_sprints, sprints_later, sprints_push, sprint_made, sprint_turned, sprints_grown}
use Rattle.tracker_machine.proofs.Externals.{no_externals, externals_more}
use Rattle.tracker_machine.proofs.Regrouped.{names_regrouped, saved_regrouped, keyed_regrouped, have_users_set}
use Rattle.tracker_machine.proofs.Settled.{at_place, from_found, all_settled_later, settled_new, settled_added, settled_at}

-- ---- lists with one more

pub runs_on : (first : ℕ) (hs : List History) (h : History) → RunsFrom first (map (λ h. h.no.0) hs) → h.no.0 ≡ first + length hs → RunsFrom first (map (λ h. h.no.0) (hs ++ h ∷ []))
runs_on first [] h run is = (omega (arith, is), tt)
runs_on first (g ∷ gs) h run is = (run.0, runs_on (first + 1) gs h run.1 (omega (arith, is)))

rises_on : (low : ℕ) (hs : List History) (h : History) → RisesAbove low (map (λ h. h.change) hs) → low < h.change → ((k : ℕ) (g : History) → slice_get hs k ≡ Some g → g.change < h.change)
    → RisesAbove low (map (λ h. h.change) (hs ++ h ∷ []))
rises_on low [] h rise less below = (less, tt)
rises_on low (g ∷ gs) h rise less below = (rise.0, rises_on g.change gs h rise.1 (below 0 g refl) (λ k i at. below (suc k) i at))

keyed_on : (setup : Parts) (before hs : List History) (h : History) → AreKeyed setup before hs → IsNextKey setup (before ++ hs) h.key → AreKeyed setup before (hs ++ h ∷ [])
keyed_on setup before [] h keyed is = (subst (λ gs. IsNextKey setup gs h.key) (nothing_more before) is, tt) where
  nothing_more : (gs : List History) → gs ++ [] ≡ gs
  nothing_more [] = refl
  nothing_more (g ∷ gs) = ap (λ (is : List History). g ∷ is) (nothing_more gs)
keyed_on setup before (g ∷ gs) h keyed is = (keyed.0, keyed_on setup (before ++ g ∷ []) gs h keyed.1 (subst (λ is. IsNextKey setup is h.key) (one_by_one before gs) is)) where
  one_by_one : (xs ys : List History) → xs ++ g ∷ ys ≡ (xs ++ g ∷ []) ++ ys
  one_by_one [] ys = refl
  one_by_one (x ∷ xs) ys = ap (λ (is : List History). x ∷ is) (one_by_one xs ys)

-- ---- lists with another at a place

-- what an issue keeps from its creation stays
pub stays : {A : Type 0} (f : History → A) (hs : List History) (k : ℕ) (old new : History) → slice_get hs k ≡ Some old → f new ≡ f old → map f (set hs k new) ≡ map f hs
stays f hs k old new at same = map-set_same f hs k new old (same ∙ ap f (sym (get_or_from_slice_get hs k old old at)))

next_key_alike : (setup : Parts) (before after : List History) (key : List ℕ) → ((p : List ℕ) → issues_of p after ≡ issues_of p before) → IsNextKey setup before key → IsNextKey setup after key
next_key_alike setup before after key same (place, there, is) =
    (place, there, is ∙ ap (λ n. key_of (name_at (project_keys setup) place) (n + 1)) (sym (same (name_at (project_keys setup) place))))

-- one issue counts as another of its key does
counts_alike : (before after : List History) (g h : History) → ((p : List ℕ) → issues_of p after ≡ issues_of p before) → g.key ≡ h.key → (p : List ℕ) → issues_of p (after ++ g ∷ []) ≡ issues_of p (before ++ h ∷ [])
counts_alike before after g h same key p =
    let count : List ℕ → ℕ = λ k. if bytes_eq (project_of k) p then 1 else 0 in
    omega (arith, same p, sum_by_push (λ (i : History). count i.key) after g, sum_by_push (λ (i : History). count i.key) before h, ap count key)

keyed_alike : (setup : Parts) (before after hs : List History) → ((p : List ℕ) → issues_of p after ≡ issues_of p before) → AreKeyed setup before hs → AreKeyed setup after hs
keyed_alike setup before after [] same keyed = tt
keyed_alike setup before after (h ∷ hs) same keyed =
    (next_key_alike setup before after h.key same keyed.0, keyed_alike setup (before ++ h ∷ []) (after ++ h ∷ []) hs (counts_alike before after h h same refl) keyed.1)

abbrev key_at : Option History → List ℕ
key_at None = []
key_at (Some h) = h.key

keyed_set : (setup : Parts) (before hs : List History) (k : ℕ) (old new : History) → slice_get hs k ≡ Some old → new.key ≡ old.key → AreKeyed setup before hs → AreKeyed setup before (set hs k new)
keyed_set setup before [] k old new at same keyed = absurd (cc)
keyed_set setup before (h ∷ hs) zero old new at same keyed =
    let key : new.key ≡ h.key = same ∙ sym (ap key_at at) in
    (subst (λ key. IsNextKey setup before key) (sym key) keyed.0, keyed_alike setup (before ++ h ∷ []) (before ++ new ∷ []) hs (counts_alike before before new h (λ p. refl) key) keyed.1)
keyed_set setup before (h ∷ hs) (suc k) old new at same keyed = (keyed.0, keyed_set setup (before ++ h ∷ []) hs k old new at same keyed.1)

-- ---- a new tracker

pub tracker_opening : (text : List ℕ) (setup : Parts) (moment : ℕ) → moment ≤ last_second → HaveUsers (length setup.users) setup.group → length setup.group ≤ 100
    → IsTracker (record { text = text; setup = setup; moment = moment; change = 0; histories = []; externals = []; order = []; balance = Idle 0; sprints = []; filters = []; boards = [] })
tracker_opening text setup moment timely users few = record {
  few_issues = omega arith;
  few_entries = omega arith;
  few_bytes = omega arith;
  timely = timely;
  numbers = tt;
  each = refl;
  ranked = no_issue_is_ranked 0 (omega arith);
  keys = tt;
  externals = no_externals 0;
  members = users;
  few_groups = few;
  numbered = omega arith;
  rising = tt;
  chronicle = chronicle_nil moment 0;
  settled = λ k d in'. absurd (omega (arith, in'));
  sprints = no_sprints moment 0;
  saved = no_filters setup;
}

-- ---- the moment

pub tracker_later : (m : Machine) (now : ℕ) → m.moment ≤ now → now ≤ last_second → IsTracker m → IsTracker (record m { moment = now })
tracker_later m now later timely is = record {
  few_issues = is.few_issues;
  few_entries = is.few_entries;
  few_bytes = is.few_bytes;
  timely = timely;
  numbers = is.numbers;
  each = is.each;
  ranked = is.ranked;
  keys = is.keys;
  externals = is.externals;
  members = is.members;
  few_groups = is.few_groups;
  numbered = is.numbered;
  rising = is.rising;
  chronicle = chronicle_later m.histories m.moment now m.change later is.chronicle;
  settled = all_settled_later (names_in m.setup) m.moment now m.change m.change m.histories later (omega arith) is.settled;
  sprints = sprints_later m.moment m.change m.sprints m.histories is.sprints now m.change later (omega arith);
  saved = is.saved;
}

-- ---- an issue

pub tracker_push : (m : Machine) (h : History) (rank : RankParts) (external : Option (List ℕ)) → IsTracker m → MayOpen m h → IsNext m.order m.balance h.no rank
    → MayName m.externals external → IsTracker (with_issue m h rank external)
tracker_push m h rank external is may next named = record {
  few_issues = omega (arith, length-append m.histories (h ∷ []), may.few);
  few_entries = omega (arith, entries_kept-push m.histories h, is.few_entries, ap (λ (es : List Entry). length es) may.entries);
  few_bytes = omega (arith, bytes_kept-push m.histories h, may.light);
  timely = is.timely;
  numbers = runs_on 1 m.histories h is.numbers (omega (arith, may.no));
  each = omega (arith, length-append m.order ((rank, h.no) ∷ []), length-append m.histories (h ∷ []), is.each);
  ranked = (new_issues_go_last m.order m.balance h.no rank is.ranked next).ranked;
  keys = keyed_on m.setup [] m.histories h is.keys may.key;
  externals = subst (λ issues. AreExternals issues (with_external m.externals h.no external)) (sym (length-append m.histories (h ∷ [])))
      (externals_more (length m.histories) m.externals h.no external is.externals may.no named);
  members = is.members;
  few_groups = is.few_groups;
  numbered = omega (arith, groups_kept-push m.histories h, length-append m.histories (h ∷ []), is.numbered);
  rising = rises_on 0 m.histories h is.rising (omega (arith, may.change))
      (λ k g at. omega (arith, may.change, (is.chronicle.known k g.change g.at (g, at, inl (refl, refl))).1));
  chronicle = chronicle_next m.histories (m.histories ++ h ∷ []) m.moment m.change (length m.histories) is.chronicle
      (change_pushed m.histories h m.moment m.change may.change may.at may.entries);
  settled = All-push (IsSettled (names_in m.setup) m.moment (m.change + 1)) m.histories h
      (all_settled_later (names_in m.setup) m.moment m.moment m.change (m.change + 1) m.histories (omega arith) (omega arith) is.settled)
      (settled_new (names_in m.setup) m.moment (m.change + 1) h may.at may.change may.entries may.fitting may.listed may.opened may.author);
  sprints = sprints_push m.moment m.change m.sprints m.histories is.sprints (m.change + 1) h (omega arith) may.entries may.sprints;
  saved = is.saved;
}

-- ---- a group

pub tracker_add : (m : Machine) (k : ℕ) (h : History) (author : UserNo) (es : List Entry) → IsTracker m → slice_get m.histories k ≡ Some h
    → MayAdd h (m.change + 1) m.moment author es → AllEntriesFit (names_in m.setup) es → AllSmall es
    → BringsSprints (length m.sprints) es → author.0 < length m.setup.users
    → entries_kept m.histories + length es ≤ most_entries → bytes_kept m.histories + sum_by entry_bytes es ≤ most_text_bytes
    → IsTracker (record m { change = m.change + 1; histories = set m.histories k (record h { entries = h.entries ++ es }) })
tracker_add m k h author es is at may fit small brings user few light =
    let new : History = record h { entries = h.entries ++ es } in
    let total = entries_kept-set m.histories k h new at in
    let more = length-append h.entries es in
    let same = length-set m.histories k new in
    record {
      few_issues = omega (arith, same, is.few_issues);
      few_entries = omega (arith, total, more, few);
      few_bytes = omega (arith, bytes_kept-set m.histories k h new at, history_bytes-more h es, light);
      timely = is.timely;
      numbers = subst (RunsFrom 1) (sym (stays (λ h. h.no.0) m.histories k h new at refl)) is.numbers;
      each = omega (arith, same, is.each);
      ranked = is.ranked;
      keys = keyed_set m.setup [] m.histories k h new at refl is.keys;
      externals = subst (λ issues. AreExternals issues m.externals) (sym same) is.externals;
      members = is.members;
      few_groups = is.few_groups;
      numbered = omega (arith, same, is.numbered, groups_kept-set m.histories k h new at, groups_more h (m.change + 1) m.moment author es may);
      rising = subst (RisesAbove 0) (sym (stays (λ h. h.change) m.histories k h new at refl)) is.rising;
      chronicle = chronicle_next m.histories (set m.histories k new) m.moment m.change k is.chronicle (change_added m.histories k h m.moment m.change author es at may.group);
      settled = All-set (IsSettled (names_in m.setup) m.moment (m.change + 1)) m.histories k new
          (settled_added (names_in m.setup) m.moment m.change (m.change + 1) h author es may fit small user (settled_at (names_in m.setup) m.moment m.change m.histories k h at is.settled))
          (all_settled_later (names_in m.setup) m.moment m.moment m.change (m.change + 1) m.histories (omega arith) (omega arith) is.settled);
      sprints = sprints_grown m.moment m.change (m.change + 1) m.sprints m.histories k h es (omega arith) at brings is.sprints;
      saved = is.saved;
    }

-- ---- ranks

-- as many issues in another order, which are ranked too
with_order : (m : Machine) (order : List Pair) (balance : Balance) → IsTracker m → length order ≡ length m.order → IsRanked order balance
    → IsTracker (record m { order = order; balance = balance })
with_order m order balance is same ranked = record {
  few_issues = is.few_issues;
  few_entries = is.few_entries;
  few_bytes = is.few_bytes;
  timely = is.timely;
  numbers = is.numbers;
  each = omega (arith, same, is.each);
  ranked = ranked;
  keys = is.keys;
  externals = is.externals;
  members = is.members;
  few_groups = is.few_groups;
  numbered = is.numbered;
  rising = is.rising;
  chronicle = is.chronicle;
  settled = is.settled;
  sprints = is.sprints;
  saved = is.saved;
}

pub tracker_ranked : (m : Machine) (issue : IssueNo) (rank : RankParts) → IsTracker m → IsGiven m.order m.balance issue rank
    → IsTracker (with_new_rank m issue rank)
tracker_ranked m issue rank is given =
    let there = numbers_are_ranked m.order m.balance (Some issue) given.place is.ranked given.named in
    with_order m (after_move m.order (issue, rank)) m.balance is (length-moved m.order issue rank is.ranked.order there.issue_there)
    (moves_change_one_rank m.order m.balance issue given.place rank is.ranked given.named given.given).ranked

pub tracker_started : (m : Machine) (balance : Balance) → IsTracker m → after_start m.balance ≡ Some balance → IsTracker (with_balance m balance)
tracker_started m balance is start =
    with_order m m.order balance is refl
    (from_found (after_start m.balance) balance (IsRanked m.order) start (starts_keep_ranks m.order m.balance is.ranked))

pub tracker_stepped : (m : Machine) (moves : List Move) → IsTracker m → IsMoving m.balance → ArePicks m.order (from_of m.balance) (to_of m.balance) moves
    → IsTracker (with_moves m moves)
tracker_stepped m moves is moving picks =
    let kept = steps_keep_ranks m.order m.balance moves is.ranked moving picks in
    with_order m (after_moves m.order moves) (balance_moved m.order m.balance moves) is
    (places_go_by_issues (after_moves m.order moves) m.order kept.issues).count kept.ranked

-- ---- sprints

with_sprints : (m : Machine) (sprints : List Sprint) → IsTracker m → AreSprints m.moment m.change sprints m.histories → IsTracker (record m { sprints = sprints })
with_sprints m sprints is are = record {
  few_issues = is.few_issues;
  few_entries = is.few_entries;
  few_bytes = is.few_bytes;
  timely = is.timely;
  numbers = is.numbers;
  each = is.each;
  ranked = is.ranked;
  keys = is.keys;
  externals = is.externals;
  members = is.members;
  few_groups = is.few_groups;
  numbered = is.numbered;
  rising = is.rising;
  chronicle = is.chronicle;
  settled = is.settled;
  sprints = are;
  saved = is.saved;
}

-- ---- filters and boards

with_saved : (m : Machine) (filters : List SavedFilter) (boards : List Board) → IsTracker m → AreSaved m.setup filters boards
    → IsTracker (record m { filters = filters; boards = boards })
with_saved m filters boards is saved = record {
  few_issues = is.few_issues;
  few_entries = is.few_entries;
  few_bytes = is.few_bytes;
  timely = is.timely;
  numbers = is.numbers;
  each = is.each;
  ranked = is.ranked;
  keys = is.keys;
  externals = is.externals;
  members = is.members;
  few_groups = is.few_groups;
  numbered = is.numbered;
  rising = is.rising;
  chronicle = is.chronicle;
  settled = is.settled;
  sprints = is.sprints;
  saved = saved;
}

-- ---- members

pub tracker_regrouped : (m : Machine) (group : GroupNo) (members : List UserNo) → IsTracker m → MayHave m.setup group members
    → IsTracker (with_group_members m group members)
tracker_regrouped m group members is may = record {
  few_issues = is.few_issues;
  few_entries = is.few_entries;
  few_bytes = is.few_bytes;
  timely = is.timely;
  numbers = is.numbers;
  each = is.each;
  ranked = is.ranked;
  keys = keyed_regrouped m.setup group members [] m.histories is.keys;
  externals = is.externals;
  members = have_users_set (length m.setup.users) m.setup.group (group.0 - 1) members may.listed is.members;
  few_groups = omega (arith, same_length m.setup.group (group.0 - 1) members, is.few_groups);
  numbered = is.numbered;
  rising = is.rising;
  chronicle = is.chronicle;
  settled = subst (λ (names : Names). All (IsSettled names m.moment m.change) m.histories) (sym (names_regrouped m.setup group members)) is.settled;
  sprints = is.sprints;
  saved = saved_regrouped m.setup group members m.filters m.boards is.saved;
}

-- ---- each effect

-- a group that may be added to an issue that is there
group_applied : (m : Machine) (place : ℕ) (g : Group) (h : History) → IsTracker m → MayGroup m place g → slice_get m.histories place ≡ Some h → IsTracker (with_group m place g)
group_applied m place g h is may at =
    let added : MayAdd h g.change g.at g.author g.entries = from_found (slice_get m.histories place) h (λ h. MayAdd h g.change g.at g.author g.entries) at may.group in
    let now : MayAdd h (m.change + 1) m.moment g.author g.entries =
    subst (λ n. MayAdd h n m.moment g.author g.entries) may.change (subst (λ n. MayAdd h g.change n g.author g.entries) may.at added) in
    subst (λ o. IsTracker (record m { change = m.change + 1; histories = option_map_or (λ i. set m.histories place (longer i g.entries)) o m.histories })) (sym at)
    (tracker_add m place h g.author g.entries is at now may.fitting may.small may.sprints may.author may.few may.light)

pub tracker_applied : (effect : Effect) (m : Machine) → IsAllowed effect m → IsTracker m → IsTracker (applied effect m)
unfolding applied IsAllowed
tracker_applied (NewMoment to) m may is = tracker_later m to may.0 may.1 is
tracker_applied (NewIssue h rank external) m may is = tracker_push m h rank external is may.0 may.1 may.2
tracker_applied (NewGroup place g) m may is = let found = at_place m.histories place may.there in group_applied m place g found.0 is may found.1
tracker_applied (NewRank issue rank) m may is = tracker_ranked m issue rank is may
tracker_applied (NewBalance balance) m may is = tracker_started m balance is may
tracker_applied (NewRanks moves) m may is = tracker_stepped m moves is may.0 may.1
tracker_applied (NewSprint name) m may is =
    with_sprints m (with_future m.sprints name) is (sprint_made m.moment m.change m.sprints m.histories is.sprints name may)
tracker_applied (NewState sprint state) m may is =
    with_sprints m (in_state m.sprints sprint.0 state) is (sprint_turned m.moment m.change m.sprints m.histories is.sprints sprint state may)
tracker_applied (NewFilter f) m may is =
    with_saved m (put_by_number filter_number f m.filters) m.boards is (filter_saved m.setup m.filters m.boards is.saved f may)
tracker_applied (NoFilter filter_no) m may is =
    with_saved m (without_number filter_number filter_no.0 m.filters) (without_boards_of filter_no m.boards) is
    (filter_dropped m.setup m.filters m.boards is.saved filter_no)
tracker_applied (NewBoard b) m may is =
    with_saved m m.filters (put_by_number board_number b m.boards) is (board_made m.setup m.filters m.boards is.saved b may)
tracker_applied (NoBoard board_no) m may is =
    with_saved m m.filters (without_number board_number board_no.0 m.boards) is (board_dropped m.setup m.filters m.boards is.saved board_no)
tracker_applied (NewMembers group members) m may is = tracker_regrouped m group members is may
