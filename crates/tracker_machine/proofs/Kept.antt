-- An effect's operations keep what the effect does.
use Rattle.std.proofs.Common.{◌≡◌, ℕ, zero, suc, ◌+◌, ◌-◌, ◌<◌, ◌≤◌, ◌^◌, ◌==◌, ◌&&◌, ◌≢◌, Bool, true, false, List, [], ◌∷◌, ◌++◌, length, slice_get, set, map, filter, Option, Some, None, option_map, refl, sym, ap, ◌∙◌, subst, arith, inl, inr, append-nil, eq-eqb}
use Rattle.std.specs.Prelude.{if◌then◌else◌}
use Rattle.std.specs.List.{All, find}
use Rattle.std.specs.Option.{option_or, option_map_or}
use Rattle.std.proofs.lemmas.Bool.{eqb-true, cases_Bool}
use Rattle.std.proofs.lemmas.List.Elements.{All-nil, All-cons, All-head, All-tail, filter-append}
use Rattle.std.proofs.lemmas.Option.{same_Some}
use mathlib.Core.Path.{fun_ext}
use Rattle.rising_numbers.specs.ByNumber.{by_number, put_by_number, without_number}
use Rattle.field_values.specs.declared.numbers.BoardNo.{BoardNo}
use Rattle.field_values.specs.declared.numbers.FieldNo.{FieldNo}
use Rattle.field_values.specs.declared.numbers.FilterNo.{FilterNo}
use Rattle.field_values.specs.declared.numbers.GroupNo.{GroupNo}
use Rattle.field_values.specs.declared.numbers.IssueNo.{IssueNo}
use Rattle.field_values.specs.declared.numbers.SprintNo.{SprintNo}
use Rattle.field_values.specs.declared.numbers.UserNo.{UserNo}
use Rattle.field_values.specs.declared.value.Value.{Value}
use Rattle.field_values.specs.declared.parts.Group.{Group as UserGroup}
use Rattle.field_values.specs.GroupMembers.{with_members}
use Rattle.field_values.specs.Parts.{Parts}
use Rattle.external_ids.specs.declared.external_id.ExternalId.{ExternalId}
use Rattle.external_ids.specs.Ids.{external_number}
use Rattle.fields.specs.SetupParts.{names_in}
use Rattle.change_history.specs.declared.entry.Entry.{Entry}
use Rattle.change_history.specs.declared.entry.Group.{Group}
use Rattle.change_history.specs.History.{History, present, AreGroupEntries, MayAdd}
use Rattle.field_forms.specs.Known.{Names}
use Rattle.tracker_limits.specs.Limits.{most_issues}
use Rattle.board.specs.declared.board.Board.{Board}
use Rattle.sprints.specs.declared.sprint.Sprint.{Sprint}
use Rattle.sprints.specs.declared.state.SprintState.{SprintState}
use Rattle.sprints.specs.Sprint.{IsThere, future, sprint_of}
use Rattle.rank_strings.specs.Rank.{RankParts}
use Rattle.rank_balancer.specs.Step.{Move}
use Rattle.tracker_ranks.specs.Ranked.{IsNext, with_last}
use Rattle.tracker_keeper.specs.declared.part.Part.{Part}
use Rattle.tracker_keeper.specs.Parts.{part_number}
use Rattle.tracker_keeper.specs.declared.row.RowOp.{RowOp}
use Rattle.tracker_keeper.specs.declared.row.RowOp.TheVariants.{Drop}
use Rattle.tracker_keeper.specs.Rows.{no_rows, with_ops, number_of}
use Rattle.tracker_machine.specs.Machine.{Machine, opening}
use Rattle.tracker_machine.specs.Chronicle.{HasEntry}
use Rattle.tracker_machine.specs.Tracker.{RunsFrom, IsTracker, MayOpen, MayGroup}
use Rattle.tracker_machine.specs.Saved.{SavedFilter, filter_number, board_number, is_board_of, IsFilter, IsBoard}
use Rattle.tracker_machine.specs.SprintRules.{with_future}
use Rattle.tracker_machine.specs.Effect.{Effect, applied, IsAllowed, with_issue, longer, with_group, with_state, without_filter, without_board, with_group_members, MayHave}
use Rattle.tracker_machine.specs.Effect.Effect.{NewMoment, NewIssue, NewGroup, NewRank, NewBalance, NewRanks, NewSprint, NewState, NewFilter, NoFilter, NewBoard, NoBoard, NewMembers}
use Rattle.tracker_machine.specs.Kept.{Kind, kind_of, lone, part_in, sprint_part, filter_part, board_part, external_part, members_part, members_numbered, external_parts, members_from, board_drops, drops_of, setup_part, present_part, issue_part, group_part, rank_part, issue_numbered, entries_of_change, group_of, issue_group, group_numbered, rank_numbered, sprint_numbered, part_at, rows_of, put_parts, group_parts, rank_parts, state_parts, parts_of, ops_of, all_members, opening_parts, opening_ops, migrating_parts, migrating_ops}
use Rattle.tracker_machine.proofs.Puts.{with_at, with_part, with_parts, texts, parts_put, part_dropped, part_set, lone_new, lone_kind, issue_kind, group_kind, rank_kind, external_kind, sprint_kind, filter_kind, board_kind, members_kind, issue_kinds, ranked_kinds, kinds_before, saved_kinds, later_kinds, planned_kinds, other_kinds, present_set}
use Rattle.tracker_machine.proofs.MemberRows.{members_changed, members_put, over_none}
use Rattle.tracker_machine.proofs.Regrouped.{names_regrouped}
use Rattle.tracker_machine.proofs.Ranks.{IsNumbered, moves_are_numbered}
use Rattle.tracker_machine.proofs.RankRows.{rank_added, rank_applied, balance_applied, moves_applied}
use Rattle.tracker_machine.proofs.Saved.{all_found, all_filter, found_there}
use Rattle.tracker_machine.proofs.SavedRows.{part_put, part_without, boards_dropped, others_left}
use Rattle.tracker_machine.proofs.SprintRules.{sprint_there}
use Rattle.tracker_machine.proofs.SprintRows.{sprint_added, sprint_changed, no_sprint_numbered}
use Rattle.tracker_machine.proofs.Settled.{at_place, from_found}
use Rattle.tracker_machine.proofs.Chronicle.{few_groups}

-- ---- an issue more

-- an issue found among those with one more behind them
found_pushed : (test : History → Bool) (hs : List History) (h : History)
    → option_map issue_part (find test (hs ++ h ∷ [])) ≡ option_or (option_map issue_part (find test hs)) (if test h then Some (issue_part h) else None)
found_pushed test [] h = elim (cases_Bool (test h)) [ inl is ↦ rw is refl | inr no? ↦ rw no? refl ]
found_pushed test (g ∷ gs) h = elim (cases_Bool (test g)) [ inl is ↦ rw is refl | inr no? ↦ rw no? (found_pushed test gs h) ]

-- numbers that run on end below the next one
none_numbered : (first : ℕ) (hs : List History) (number : ℕ) → RunsFrom first (map (λ h. h.no.0) hs) → number ≡ first + length hs → issue_numbered hs number ≡ None
none_numbered first [] number run is = refl
none_numbered first (g ∷ gs) number run is = elim (cases_Bool (g.no.0 == number)) [
  | inl same ↦ absurd (omega (arith, eqb-true g.no.0 number same, run.0, is))
  | inr other ↦ rw other (none_numbered (first + 1) gs number run.1 (omega (arith, is)))
]

pub issue_found : (hs : List History) (h : History) (n : ℕ) → RunsFrom 1 (map (λ h. h.no.0) hs) → h.no.0 ≡ length hs + 1
    → option_map issue_part (issue_numbered (hs ++ h ∷ []) n) ≡ (if h.no.0 == n then Some (issue_part h) else option_map issue_part (issue_numbered hs n))
issue_found hs h n run is = elim (cases_Bool (h.no.0 == n)) [
  | inl same ↦ rw (found_pushed (λ g. g.no.0 == n) hs h, none_numbered 1 hs n run (omega (arith, eqb-true h.no.0 n same, is)), same) refl
  | inr other ↦ rw (found_pushed (λ g. g.no.0 == n) hs h, other) (or_none (option_map issue_part (issue_numbered hs n)))
] where
  or_none : (o : Option Part) → option_or o None ≡ o
  or_none None = refl
  or_none (Some p) = refl

-- an issue that opens has no change group
no_group_more : (hs : List History) (h : History) (n : ℕ) → h.entries ≡ [] → group_numbered (hs ++ h ∷ []) n ≡ group_numbered hs n
no_group_more [] h n none = rw none refl
no_group_more (g ∷ gs) h n none = ap (option_or (issue_group n g)) (no_group_more gs h n none)

-- ---- a change group more

-- issues stand as they were created
issue_stays : (hs : List History) (place : ℕ) (h : History) (es : List Entry) (n : ℕ) → slice_get hs place ≡ Some h
    → option_map issue_part (issue_numbered (set hs place (longer h es)) n) ≡ option_map issue_part (issue_numbered hs n)
issue_stays [] place h es n at = refl
issue_stays (g ∷ gs) zero h es n at = subst (λ (i : History). option_map issue_part (issue_numbered (longer i es ∷ gs) n) ≡ option_map issue_part (issue_numbered (g ∷ gs) n)) (same_Some g h at)
    (elim (cases_Bool (g.no.0 == n)) [ inl is ↦ rw is refl | inr no? ↦ rw no? refl ])
issue_stays (g ∷ gs) (suc place) h es n at = elim (cases_Bool (g.no.0 == n)) [ inl is ↦ rw is refl | inr no? ↦ rw no? (issue_stays gs place h es n at) ]

-- where no entry is of a change, none is found
none_of : (n : ℕ) (es : List Entry) → ((at : ℕ) → HasEntry es n at → ⊥) → entries_of_change n es ≡ []
none_of n [] none = refl
none_of n (e ∷ es) none = elim (cases_Bool (e.change == n)) [
  | inl same ↦ absurd (none e.at (inl (eqb-true e.change n same, refl)))
  | inr other ↦ rw other (none_of n es (λ at has. none at (inr has)))
]

-- the entries of a group are all of its change
all_of : (values : FieldNo → Value) (low change at : ℕ) (author : UserNo) (es : List Entry) → AreGroupEntries values low change at author es → entries_of_change change es ≡ es
all_of values low change at author [] group = refl
all_of values low change at author (e ∷ es) group =
    rw (eq-eqb e.change change group.1) (ap (λ (others : List Entry). e ∷ others) (all_of values (e.field.0 + 1) change at author es group.6))

-- and of no other
none_other : (values : FieldNo → Value) (low change at : ℕ) (author : UserNo) (es : List Entry) (n : ℕ) → (change == n) ≡ false → AreGroupEntries values low change at author es
    → entries_of_change n es ≡ []
none_other values low change at author [] n other group = refl
none_other values low change at author (e ∷ es) n other group =
    rw (ap (λ k. k == n) group.1 ∙ other) (none_other values (e.field.0 + 1) change at author es n other group.6)

-- they are the group
group_by : (g : Group) (e : Entry) (es : List Entry) → g.entries ≡ e ∷ es → e.change ≡ g.change → e.at ≡ g.at → e.author ≡ g.author → group_of (e ∷ es) ≡ Some g
group_by g e es is change at author =
    subst (λ k. Some (record { change = k; at = e.at; author = e.author; entries = e ∷ es }) ≡ Some g) (sym change)
    (subst (λ k. Some (record { change = g.change; at = k; author = e.author; entries = e ∷ es }) ≡ Some g) (sym at)
    (subst (λ (u : UserNo). Some (record { change = g.change; at = g.at; author = u; entries = e ∷ es }) ≡ Some g) (sym author)
    (subst (λ (xs : List Entry). Some (record { change = g.change; at = g.at; author = g.author; entries = xs }) ≡ Some g) is refl)))

group_is : (values : FieldNo → Value) (low : ℕ) (g : Group) → 0 < length g.entries → AreGroupEntries values low g.change g.at g.author g.entries → group_of g.entries ≡ Some g
group_is values low g some group = by_entries g.entries refl some group where
  by_entries : (es : List Entry) → g.entries ≡ es → 0 < length es → AreGroupEntries values low g.change g.at g.author es → group_of es ≡ Some g
  by_entries [] is more are = absurd (omega (arith, more))
  by_entries (e ∷ es) is more are = group_by g e es is are.1 are.2 are.3

abbrev pub AreOf : History → Group → Type 0
AreOf h g = MayAdd h g.change g.at g.author g.entries

-- the issue has the group
group_there : (h : History) (g : Group) → entries_of_change g.change h.entries ≡ [] → AreOf h g → issue_group g.change (longer h g.entries) ≡ Some (group_part h g)
group_there h g none may =
    rw (filter-append (λ (e : Entry). e.change == g.change) h.entries g.entries, none, all_of (present h) 0 g.change g.at g.author g.entries may.group, group_is (present h) 0 g may.some may.group) refl

-- and the groups that it had
groups_stay : (h : History) (g : Group) (n : ℕ) → (g.change == n) ≡ false → AreOf h g → issue_group n (longer h g.entries) ≡ issue_group n h
groups_stay h g n other may =
    rw (filter-append (λ (e : Entry). e.change == n) h.entries g.entries, none_other (present h) 0 g.change g.at g.author g.entries n other may.group, append-nil (entries_of_change n h.entries)) refl

abbrev pub HasNone : ℕ → List History → Type 0
HasNone change hs = (k : ℕ) (h : History) → slice_get hs k ≡ Some h → entries_of_change change h.entries ≡ []

pub group_found : (hs : List History) (place : ℕ) (h : History) (g : Group) → slice_get hs place ≡ Some h → HasNone g.change hs → AreOf h g
    → group_numbered (set hs place (longer h g.entries)) g.change ≡ Some (group_part h g)
group_found [] place h g at none may = absurd (cc)
group_found (x ∷ xs) zero h g at none may = rw (group_there h g (none 0 h at) may) refl
group_found (x ∷ xs) (suc place) h g at none may = rw (none 0 x refl) (group_found xs place h g at (λ k i there. none (suc k) i there) may)

others_found : (hs : List History) (place : ℕ) (h : History) (g : Group) (n : ℕ) → slice_get hs place ≡ Some h → (g.change == n) ≡ false → AreOf h g
    → group_numbered (set hs place (longer h g.entries)) n ≡ group_numbered hs n
others_found [] place h g n at other may = refl
others_found (x ∷ xs) zero h g n at other may =
    ap (λ o. option_or o (group_numbered xs n)) (groups_stay h g n other may ∙ ap (λ (i : History). issue_group n i) (sym (same_Some x h at)))
others_found (x ∷ xs) (suc place) h g n at other may = ap (option_or (issue_group n x)) (others_found xs place h g n at other may)

groups_found : (hs : List History) (place : ℕ) (h : History) (g : Group) (n : ℕ) → slice_get hs place ≡ Some h → HasNone g.change hs → AreOf h g
    → group_numbered (set hs place (longer h g.entries)) n ≡ (if g.change == n then Some (group_part h g) else group_numbered hs n)
groups_found hs place h g n at none may = elim (cases_Bool (g.change == n)) [
  | inl same ↦ rw same (subst (λ k. group_numbered (set hs place (longer h g.entries)) k ≡ Some (group_part h g)) (eqb-true g.change n same) (group_found hs place h g at none may))
  | inr other ↦ rw other (others_found hs place h g n at other may)
]

-- the next change is of no issue yet
pub next_is_none : (m : Machine) (change : ℕ) → IsTracker m → change ≡ m.change + 1 → HasNone change m.histories
next_is_none m change is next k h at = none_of change h.entries (λ moment has.
    let known = is.chronicle.known k change moment (h, at, inr has) in omega (arith, known.1, next))

-- ---- the law

-- the parts after a group of an issue that is there
group_applied : (m : Machine) (place : ℕ) (g : Group) (h : History) → IsTracker m → MayGroup m place g → slice_get m.histories place ≡ Some h → (k n : ℕ)
    → part_at (with_group m place g) k n ≡ with_parts (present_part (with_group m place g) ∷ group_parts m.histories place g) (part_at m) k n
unfolding part_at
group_applied m place g h is may at k n =
    let added : AreOf h g = from_found (slice_get m.histories place) h (λ i. AreOf i g) at may.group in
    let setup : Part = setup_part m in
    let now : Part = present_part (with_group m place g) in
    let later : List History = set m.histories place (longer h g.entries) in
    rw at
    (ap (λ (o : Option Part). part_in (lone_kind 1 setup ∷ lone_kind 2 now ∷ kind_of 3 (λ i. o) ∷ group_kind later ∷ rank_kind m.order ∷ planned_kinds m) k n)
    (issue_stays m.histories place h g.entries n at)
    ∙ (part_set (lone_kind 1 setup ∷ lone_kind 2 now ∷ issue_kind m.histories ∷ []) (rank_kind m.order ∷ planned_kinds m) 4 g.change
    (group_numbered m.histories) (group_numbered later) (Some (group_part h g)) k n refl (groups_found m.histories place h g n at (next_is_none m g.change is may.change) added)
    ∙ ap (λ (o : Option Part). if (4 == k) && (g.change == n) then Some (group_part h g) else o) (present_set setup (present_part m) now (other_kinds m) k n)))

-- the parts after a new issue without an external id
issue_applied : (m : Machine) (h : History) (rank : RankParts) → IsTracker m → MayOpen m h → IsNext m.order m.balance h.no rank → (k n : ℕ)
    → part_at (with_issue m h rank None) k n ≡ with_parts (present_part (with_issue m h rank None) ∷ issue_part h ∷ rank_part h.no rank ∷ []) (part_at m) k n
unfolding part_at
issue_applied m h rank is may next k n =
    let setup : Part = setup_part m in
    let now : Part = present_part (with_issue m h rank None) in
    let later : List History = m.histories ++ h ∷ [] in
    part_set (lone_kind 1 setup ∷ lone_kind 2 now ∷ issue_kind later ∷ group_kind later ∷ []) (planned_kinds m) 5 h.no.0
    (rank_numbered m.order) (rank_numbered (with_last m.order h.no rank)) (Some (rank_part h.no rank)) k n refl (rank_added m.order m.balance h.no rank n is.ranked next)
    ∙ ap (λ (o : Option Part). if (5 == k) && (h.no.0 == n) then Some (rank_part h.no rank) else o)
    (part_set (lone_kind 1 setup ∷ lone_kind 2 now ∷ []) (group_kind later ∷ rank_kind m.order ∷ planned_kinds m) 3 h.no.0
    (λ i. option_map issue_part (issue_numbered m.histories i)) (λ i. option_map issue_part (issue_numbered later i)) (Some (issue_part h)) k n refl
    (issue_found m.histories h n is.numbers may.no)
    ∙ ap (λ (o : Option Part). if (3 == k) && (h.no.0 == n) then Some (issue_part h) else o)
    (ap (λ (o : Option Part). part_in (lone_kind 1 setup ∷ lone_kind 2 now ∷ issue_kind m.histories ∷ kind_of 4 (λ i. o) ∷ rank_kind m.order ∷ planned_kinds m) k n)
    (no_group_more m.histories h n may.entries)
    ∙ present_set setup (present_part m) now (other_kinds m) k n))

-- external ids' parts
abbrev external_ids_parts : List ExternalId → ℕ → Option Part
external_ids_parts ids n = option_map external_part (by_number external_number n ids)

-- an external id is put behind all else of its issue
external_applied : (m : Machine) (h : History) (rank : RankParts) (id : List ℕ) (k n : ℕ)
    → part_at (with_issue m h rank (Some id)) k n ≡ with_part (external_part (record { no = h.no; id = id })) (part_at (with_issue m h rank None)) k n
unfolding part_at
external_applied m h rank id k n =
    let e : ExternalId = record { no = h.no; id = id } in
    part_set (issue_kinds (with_issue m h rank None)) (later_kinds m) 6 h.no.0
    (external_ids_parts m.externals) (external_ids_parts (put_by_number external_number e m.externals)) (Some (external_part e)) k n refl
    (part_put external_number external_part e m.externals n)

-- the parts after a new issue
issue_comes : (m : Machine) (h : History) (rank : RankParts) (external : Option (List ℕ)) → IsTracker m → MayOpen m h → IsNext m.order m.balance h.no rank → (k n : ℕ)
    → part_at (with_issue m h rank external) k n
    ≡ with_parts (present_part (with_issue m h rank external) ∷ issue_part h ∷ rank_part h.no rank ∷ external_parts h.no external) (part_at m) k n
issue_comes m h rank None is may next k n = issue_applied m h rank is may next k n
issue_comes m h rank (Some id) is may next k n =
    let e : Part = external_part (record { no = h.no; id = id }) in
    external_applied m h rank id k n
    ∙ ap (λ (parts : ℕ → ℕ → Option Part). with_part e parts k n) (fun_ext (λ i. fun_ext (λ j. issue_applied m h rank is may next i j)))

-- the parts after a group gets other members
members_applied : (m : Machine) (group : GroupNo) (members : List UserNo) → MayHave m.setup group members → (k n : ℕ)
    → part_at (with_group_members m group members) k n ≡ with_part (members_part group members) (part_at m) k n
unfolding part_at
members_applied m group members may k n =
    part_set (kinds_before m ++ filter_kind m.filters ∷ board_kind m.boards ∷ []) [] 10 group.0
    (members_numbered m.setup.group) (members_numbered (with_members m.setup.group (group.0 - 1) members)) (Some (members_part group members)) k n refl
    (members_changed m.setup.group group members n may.from_one may.there)

-- the parts after a sprint that is there comes to another state
state_applied : (m : Machine) (sprint : SprintNo) (state : SprintState) (s : Sprint) → IsThere m.sprints sprint.0 → sprint_of m.sprints sprint.0 ≡ Some s → (k n : ℕ)
    → part_at (with_state m sprint state) k n ≡ with_parts (state_parts m.sprints sprint state) (part_at m) k n
unfolding part_at
state_applied m sprint state s there at k n =
    let new : Sprint = record s { state = state } in
    rw at
    (part_set (ranked_kinds m) (saved_kinds m) 7 sprint.0 (sprint_numbered m.sprints) (sprint_numbered (set m.sprints (sprint.0 - 1) new)) (Some (sprint_part sprint new)) k n refl
    (sprint_changed m.sprints sprint new n there))

-- the parts of filters and of boards
abbrev filter_parts : List SavedFilter → ℕ → Option Part
filter_parts filters n = option_map filter_part (by_number filter_number n filters)

abbrev board_parts : List Board → ℕ → Option Part
board_parts boards n = option_map board_part (by_number board_number n boards)

-- the effect ends nothing
abbrev PutsParts : Effect → Type 0
PutsParts (NoFilter filter_no) = ⊥
PutsParts (NoBoard board_no) = ⊥
PutsParts _ = Unit {0}

-- the parts after an effect that puts some are those before it, with these
parts_applied : (e : Effect) (m : Machine) → IsAllowed e m → IsTracker m → PutsParts e → (k n : ℕ) → part_at (applied e m) k n ≡ with_parts (parts_of e m) (part_at m) k n
unfolding applied IsAllowed part_at parts_of
parts_applied (NewMoment to) m may is puts k n = present_set (setup_part m) (present_part m) (present_part (record m { moment = to })) (other_kinds m) k n
parts_applied (NewIssue h rank external) m may is puts k n = issue_comes m h rank external is may.0 may.1 k n
parts_applied (NewGroup place g) m may is puts k n =
    let found = at_place m.histories place may.there in group_applied m place g found.0 is may found.1 k n
parts_applied (NewRank issue rank) m may is puts k n = rank_applied m issue rank k n
parts_applied (NewBalance balance) m may is puts k n = balance_applied m balance k n
parts_applied (NewRanks moves) m may is puts k n = ap (λ (parts : ℕ → ℕ → Option Part). parts k n) (moves_applied m moves)
parts_applied (NewSprint name) m may is puts k n =
    let number : SprintNo = record { 0 = length m.sprints + 1 } in
    part_set (ranked_kinds m) (saved_kinds m) 7 number.0 (sprint_numbered m.sprints) (sprint_numbered (with_future m.sprints name)) (Some (sprint_part number (future name))) k n refl
    (sprint_added m.sprints (future name) n)
parts_applied (NewState sprint state) m may is puts k n =
    let found = sprint_there m.sprints sprint.0 may.there in state_applied m sprint state found.0 may.there found.2 k n
parts_applied (NewFilter f) m may is puts k n =
    part_set (kinds_before m) (board_kind m.boards ∷ members_kind m.setup.group ∷ []) 8 f.no.0 (filter_parts m.filters) (filter_parts (put_by_number filter_number f m.filters)) (Some (filter_part f)) k n refl
    (part_put filter_number filter_part f m.filters n)
parts_applied (NewBoard b) m may is puts k n =
    part_set (kinds_before m ++ filter_kind m.filters ∷ []) (members_kind m.setup.group ∷ []) 9 b.no.0 (board_parts m.boards) (board_parts (put_by_number board_number b m.boards)) (Some (board_part b)) k n refl
    (part_put board_number board_part b m.boards n)
parts_applied (NoFilter filter_no) m may is puts k n = absurd puts
parts_applied (NoBoard board_no) m may is puts k n = absurd puts
parts_applied (NewMembers group members) m may is puts k n = members_applied m group members may k n

-- who is in a group isn't among the names
names_stay : (e : Effect) (m : Machine) → names_in (applied e m).setup ≡ names_in m.setup
unfolding applied
names_stay (NewMoment to) m = refl
names_stay (NewIssue h rank external) m = refl
names_stay (NewGroup place g) m = refl
names_stay (NewRank issue rank) m = refl
names_stay (NewBalance balance) m = refl
names_stay (NewRanks moves) m = refl
names_stay (NewSprint name) m = refl
names_stay (NewState sprint state) m = refl
names_stay (NewFilter f) m = refl
names_stay (NoFilter filter_no) m = refl
names_stay (NewBoard b) m = refl
names_stay (NoBoard board_no) m = refl
names_stay (NewMembers group members) m = names_regrouped m.setup group members

-- the rows after it are those before it, with what it puts
rows_put : (e : Effect) (m : Machine) → IsAllowed e m → IsTracker m → PutsParts e → rows_of (applied e m) ≡ with_ops (put_parts m.setup (parts_of e m)) (rows_of m)
unfolding rows_of
rows_put e m may is puts =
    ap (λ names. texts names (part_at (applied e m))) (names_stay e m)
    ∙ (ap (texts (names_in m.setup)) (fun_ext (λ k. fun_ext (λ n. parts_applied e m may is puts k n)))
    ∙ sym (parts_put (names_in m.setup) (parts_of e m) (part_at m)))

-- the kinds before boards where a filter is gone
abbrev kinds_without : Machine → FilterNo → List Kind
kinds_without m filter_no = kinds_before m ++ filter_kind (without_number filter_number filter_no.0 m.filters) ∷ []

filter_gone : (m : Machine) (filter_no : FilterNo) → IsTracker m → (k n : ℕ)
    → part_in (kinds_without m filter_no ++ board_kind m.boards ∷ members_kind m.setup.group ∷ []) k n ≡ with_at 8 filter_no.0 None (part_at m) k n
unfolding part_at
filter_gone m filter_no is k n =
    part_set (kinds_before m) (board_kind m.boards ∷ members_kind m.setup.group ∷ []) 8 filter_no.0 (filter_parts m.filters) (filter_parts (without_number filter_number filter_no.0 m.filters)) None k n refl
    (part_without filter_number filter_part 1 filter_no.0 m.filters n is.saved.rising)

board_gone : (m : Machine) (board_no : BoardNo) → IsTracker m → (k n : ℕ) → part_at (without_board m board_no) k n ≡ with_at 9 board_no.0 None (part_at m) k n
unfolding part_at
board_gone m board_no is k n =
    part_set (kinds_before m ++ filter_kind m.filters ∷ []) (members_kind m.setup.group ∷ []) 9 board_no.0 (board_parts m.boards) (board_parts (without_number board_number board_no.0 m.boards)) None k n refl
    (part_without board_number board_part 1 board_no.0 m.boards n is.saved.rising_boards)

-- a filter's row is dropped, and then those of its boards
filter_rows : (m : Machine) (filter_no : FilterNo) → IsTracker m → rows_of (without_filter m filter_no) ≡ with_ops (Drop 8 filter_no.0 ∷ board_drops filter_no m.boards) (rows_of m)
unfolding rows_of part_at
filter_rows m filter_no is =
    let names : Names = names_in m.setup in
    let before : List Kind = kinds_without m filter_no in
    let after : List Kind = members_kind m.setup.group ∷ [] in
    let gone : List Board = filter (is_board_of filter_no) m.boards in
    ap (λ (parts : ℕ → Option Part). texts names (part_in (before ++ kind_of 9 parts ∷ after))) (sym (fun_ext (λ n. others_left filter_no m.boards n is.saved.rising_boards)))
    ∙ (sym (boards_dropped names before after gone (board_parts m.boards) refl)
    ∙ ap (with_ops (board_drops filter_no m.boards))
    (ap (texts names) (fun_ext (λ k. fun_ext (λ n. filter_gone m filter_no is k n))) ∙ sym (part_dropped names 8 filter_no.0 (part_at m))))

board_rows : (m : Machine) (board_no : BoardNo) → IsTracker m → rows_of (without_board m board_no) ≡ with_ops (Drop 9 board_no.0 ∷ []) (rows_of m)
unfolding rows_of
board_rows m board_no is =
    ap (texts (names_in m.setup)) (fun_ext (λ k. fun_ext (λ n. board_gone m board_no is k n))) ∙ sym (part_dropped (names_in m.setup) 9 board_no.0 (part_at m))

-- the rows after an effect are the rows before it, with its operations
pub rows_applied : (e : Effect) (m : Machine) → IsAllowed e m → IsTracker m → rows_of (applied e m) ≡ with_ops (ops_of e m) (rows_of m)
unfolding ops_of drops_of applied
rows_applied (NewMoment to) m may is = rows_put (NewMoment to) m may is tt
rows_applied (NewIssue h rank external) m may is = rows_put (NewIssue h rank external) m may is tt
rows_applied (NewGroup place g) m may is = rows_put (NewGroup place g) m may is tt
rows_applied (NewRank issue rank) m may is = rows_put (NewRank issue rank) m may is tt
rows_applied (NewBalance balance) m may is = rows_put (NewBalance balance) m may is tt
rows_applied (NewRanks moves) m may is = rows_put (NewRanks moves) m may is tt
rows_applied (NewSprint name) m may is = rows_put (NewSprint name) m may is tt
rows_applied (NewState sprint state) m may is = rows_put (NewState sprint state) m may is tt
rows_applied (NewFilter f) m may is = rows_put (NewFilter f) m may is tt
rows_applied (NoFilter filter_no) m may is = filter_rows m filter_no is
rows_applied (NewBoard b) m may is = rows_put (NewBoard b) m may is tt
rows_applied (NoBoard board_no) m may is = board_rows m board_no is
rows_applied (NewMembers group members) m may is = rows_put (NewMembers group members) m may is tt

-- ---- a new tracker

abbrev AreEmpty : ℕ → List Kind → Type 0
AreEmpty n [] = Unit {0}
AreEmpty n (x ∷ xs) = (x.parts n ≡ None) × AreEmpty n xs

none_in : (xs : List Kind) (k n : ℕ) → AreEmpty n xs → part_in xs k n ≡ None
none_in [] k n empty = refl
none_in (x ∷ xs) k n empty = by (k == x.kind) (none_in xs k n empty.1)
  where
    by : (b : Bool) → part_in xs k n ≡ None → (if b then x.parts n else part_in xs k n) ≡ None
    by true rest = empty.0
    by false rest = rest

abbrev no_parts : ℕ → Option Part
no_parts n = None

-- the kinds of a new tracker before members
abbrev opening_kinds : Part → Part → List Kind
opening_kinds first now =
    lone_kind 1 first ∷ lone_kind 2 now ∷ issue_kind [] ∷ group_kind [] ∷ rank_kind [] ∷ external_kind [] ∷ sprint_kind [] ∷ filter_kind [] ∷ board_kind [] ∷ []

-- the parts of a new tracker without members are its setup and where it stands
standing_are : (first now : Part) (k n : ℕ)
    → part_in (opening_kinds first now ++ kind_of 10 no_parts ∷ []) k n ≡ with_at 2 0 (Some now) (with_at 1 0 (Some first) (λ i j. None)) k n
standing_are first now k n =
    let others : List Kind =
    issue_kind [] ∷ group_kind [] ∷ rank_kind [] ∷ external_kind [] ∷ sprint_kind [] ∷ filter_kind [] ∷ board_kind [] ∷ kind_of 10 no_parts ∷ [] in
    part_set (lone_kind 1 first ∷ []) others 2 0 no_parts (lone now) (Some now) k n refl (lone_new now n)
    ∙ ap (λ (o : Option Part). if (2 == k) && (0 == n) then Some now else o)
    (part_set [] (kind_of 2 no_parts ∷ others) 1 0 no_parts (lone first) (Some first) k n refl (lone_new first n)
    ∙ ap (λ (o : Option Part). if (1 == k) && (0 == n) then Some first else o)
    (none_in (kind_of 1 no_parts ∷ kind_of 2 no_parts ∷ others) k n (refl, (refl, (refl, (refl, (refl, (refl, (no_sprint_numbered n, (refl, (refl, (refl, tt))))))))))))

-- with its members they are all
opening_are : (text : List ℕ) (setup : Parts) → part_at (opening text setup) ≡ with_parts (opening_parts (opening text setup)) (λ i j. None)
unfolding part_at
opening_are text setup =
    let first : Part = setup_part (opening text setup) in
    let now : Part = present_part (opening text setup) in
    ap (λ (parts : ℕ → Option Part). part_in (opening_kinds first now ++ kind_of 10 parts ∷ [])) (sym (fun_ext (λ n. over_none setup.group no_parts n refl)))
    ∙ (sym (members_put (opening_kinds first now) [] 1 setup.group no_parts refl)
    ∙ ap (with_parts (members_from 1 setup.group)) (fun_ext (λ k. fun_ext (λ n. standing_are first now k n))))

-- the rows of a new tracker are its setup's, its moment's and its groups'
pub rows_opening : (text : List ℕ) (setup : Parts) → with_ops (opening_ops (opening text setup)) no_rows ≡ rows_of (opening text setup)
unfolding rows_of opening_ops
rows_opening text setup =
    parts_put (names_in setup) (opening_parts (opening text setup)) (λ k n. None)
    ∙ sym (ap (texts (names_in setup)) (opening_are text setup))

-- ---- numbers of rows

abbrev IsSmallOp : RowOp → Type 0
IsSmallOp op = number_of op < 2 ^ 63

one_op : (op : RowOp) → IsSmallOp op → All IsSmallOp (op ∷ [])
one_op op small = All-cons IsSmallOp op [] small (All-nil IsSmallOp)

two_ops : (op other : RowOp) → IsSmallOp op → IsSmallOp other → All IsSmallOp (op ∷ other ∷ [])
two_ops op other small smaller = All-cons IsSmallOp op (other ∷ []) small (one_op other smaller)

-- one part more is put
part_op : (setup : Parts) (p : Part) (ps : List Part) → part_number p < 2 ^ 63 → All IsSmallOp (put_parts setup ps) → All IsSmallOp (put_parts setup (p ∷ ps))
part_op setup p ps small others = All-cons IsSmallOp _ _ small others

group_ops : (m : Machine) (place : ℕ) (g : Group) (h : History) → IsTracker m → g.change ≡ m.change + 1 → slice_get m.histories place ≡ Some h
    → All IsSmallOp (put_parts m.setup (present_part (with_group m place g) ∷ group_parts m.histories place g))
group_ops m place g h is next at =
    subst (λ o. All IsSmallOp (put_parts m.setup (present_part (with_group m place g) ∷ option_map_or (λ i. group_part i g ∷ []) o []))) (sym at)
    (two_ops _ _ (omega arith) (omega (arith, next, is.numbered, is.few_issues, few_groups m.histories, is.few_entries)))

-- a new issue, maybe with an external id
external_op : (setup : Parts) (issue : IssueNo) (external : Option (List ℕ)) → issue.0 < 2 ^ 63 → All IsSmallOp (put_parts setup (external_parts issue external))
external_op setup issue None small = All-nil IsSmallOp
external_op setup issue (Some id) small = one_op _ small

issue_ops : (m : Machine) (h : History) (rank : RankParts) (external : Option (List ℕ)) → MayOpen m h
    → All IsSmallOp (put_parts m.setup (present_part (with_issue m h rank external) ∷ issue_part h ∷ rank_part h.no rank ∷ external_parts h.no external))
issue_ops m h rank external may =
    let number : h.no.0 < 2 ^ 63 = omega (arith, may.no, may.few) in
    part_op m.setup (present_part (with_issue m h rank external)) (issue_part h ∷ rank_part h.no rank ∷ external_parts h.no external) (omega arith)
    (part_op m.setup (issue_part h) (rank_part h.no rank ∷ external_parts h.no external) number
    (part_op m.setup (rank_part h.no rank) (external_parts h.no external) number (external_op m.setup h.no external number)))

-- the ranks that moves give
rank_ops : (setup : Parts) (count : ℕ) (moves : List Move) → count ≤ most_issues → All (IsNumbered count) moves → All IsSmallOp (put_parts setup (rank_parts moves))
rank_ops setup count [] few numbered = All-nil IsSmallOp
rank_ops setup count (move ∷ moves) few numbered =
    let here = All-head (IsNumbered count) move moves numbered in
    All-cons IsSmallOp _ _ (omega (arith, here.0, few)) (rank_ops setup count moves few (All-tail (IsNumbered count) move moves numbered))

-- a sprint in another state
state_ops : (m : Machine) (sprint : SprintNo) (state : SprintState) (s : Sprint) → IsTracker m → IsThere m.sprints sprint.0 → sprint_of m.sprints sprint.0 ≡ Some s
    → All IsSmallOp (put_parts m.setup (state_parts m.sprints sprint state))
state_ops m sprint state s is there at =
    subst (λ o. All IsSmallOp (put_parts m.setup (option_map_or (λ x. sprint_part sprint (record x { state = state }) ∷ []) o []))) (sym at)
    (one_op _ (omega (arith, there.1, is.sprints.few)))

-- what is there has its number
filter_there : (m : Machine) (filter_no : FilterNo) → by_number filter_number filter_no.0 m.filters ≢ None
    → (f : SavedFilter) × (f.no.0 ≡ filter_no.0) × (by_number filter_number filter_no.0 m.filters ≡ Some f)
filter_there m filter_no there = found_there filter_number filter_no.0 m.filters there

board_there : (m : Machine) (board_no : BoardNo) → by_number board_number board_no.0 m.boards ≢ None
    → (b : Board) × (b.no.0 ≡ board_no.0) × (by_number board_number board_no.0 m.boards ≡ Some b)
board_there m board_no there = found_there board_number board_no.0 m.boards there

board_drops_small : (fs : List SavedFilter) (bs : List Board) → All (IsBoard fs) bs → All IsSmallOp (map (λ b. Drop 9 (board_number b)) bs)
board_drops_small fs [] all = All-nil IsSmallOp
board_drops_small fs (b ∷ bs) all =
    let here = All-head (IsBoard fs) b bs all in
    All-cons IsSmallOp _ _ (omega (arith, here.small)) (board_drops_small fs bs (All-tail (IsBoard fs) b bs all))

-- each number is one that a table can hold
pub ops_small : (e : Effect) (m : Machine) → IsAllowed e m → IsTracker m → All (λ op. number_of op < 2 ^ 63) (ops_of e m)
unfolding ops_of parts_of drops_of IsAllowed
ops_small (NewMoment to) m may is = one_op _ (omega arith)
ops_small (NewIssue h rank external) m may is = issue_ops m h rank external may.0
ops_small (NewGroup place g) m may is = let found = at_place m.histories place may.there in group_ops m place g found.0 is may.change found.1
ops_small (NewRank issue rank) m may is = one_op _ (omega (arith, may.named.issue, is.each, is.few_issues))
ops_small (NewBalance balance) m may is = one_op _ (omega arith)
ops_small (NewRanks moves) m may is =
    All-cons IsSmallOp _ _ (omega arith)
    (rank_ops m.setup (length m.order) moves (omega (arith, is.each, is.few_issues)) (moves_are_numbered m.order m.balance moves is.ranked may.0 may.1))
ops_small (NewSprint name) m may is = one_op _ (omega (arith, may.few))
ops_small (NewState sprint state) m may is =
    let found = sprint_there m.sprints sprint.0 may.there in state_ops m sprint state found.0 is may.there found.2
ops_small (NewFilter f) m may is = one_op _ (omega (arith, may.filter.small))
ops_small (NoFilter filter_no) m may is =
    let found = filter_there m filter_no may in
    All-cons IsSmallOp _ _ (omega (arith, found.1, (all_found filter_number (IsFilter m.setup) filter_no.0 found.0 m.filters found.2 is.saved.each).small))
    (board_drops_small m.filters (filter (is_board_of filter_no) m.boards)
    (all_filter (IsBoard m.filters) (IsBoard m.filters) (is_board_of filter_no) m.boards (λ b passes on. on) is.saved.each_board))
ops_small (NewBoard b) m may is = one_op _ (omega (arith, may.board.small))
ops_small (NoBoard board_no) m may is =
    let found = board_there m board_no may in
    one_op _ (omega (arith, found.1, (all_found board_number (IsBoard m.filters) board_no.0 found.0 m.boards found.2 is.saved.each_board).small))
ops_small (NewMembers group members) m may is = one_op _ (omega (arith, may.there, is.few_groups))

-- so are those of a new tracker
members_small : (setup : Parts) (first : ℕ) (groups : List UserGroup) → first + length groups ≤ 101 → All IsSmallOp (put_parts setup (members_from first groups))
members_small setup first [] few = All-nil IsSmallOp
members_small setup first (g ∷ gs) few = All-cons IsSmallOp _ _ (omega (arith, few)) (members_small setup (first + 1) gs (omega (arith, few)))

pub opening_small : (m : Machine) → length m.setup.group ≤ 100 → All (λ op. number_of op < 2 ^ 63) (opening_ops m)
unfolding opening_ops
opening_small m few =
    part_op m.setup (setup_part m) (migrating_parts m) (omega arith)
    (part_op m.setup (present_part m) (all_members m) (omega arith) (members_small m.setup 1 m.setup.group (omega (arith, few))))

-- and those that make rows of the second format
pub migrating_small : (m : Machine) → IsTracker m → All (λ op. number_of op < 2 ^ 63) (migrating_ops m)
unfolding migrating_ops
migrating_small m is = part_op m.setup (present_part m) (all_members m) (omega arith) (members_small m.setup 1 m.setup.group (omega (arith, is.few_groups)))
