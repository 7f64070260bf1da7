-- Each part of a tracker is one that may be kept, of the kind and the number that it is kept under.
use Rattle.std.proofs.Common.{◌≡◌, ℕ, zero, suc, ◌+◌, ◌<◌, ◌≤◌, ◌^◌, ◌==◌, ◌&&◌, Bool, true, false, List, [], ◌∷◌, ◌++◌, length, slice_get, set, map, Option, Some, None, option_map, unwrap_or, is_some, bytes_eq, refl, sym, ap, ◌∙◌, subst, arith, inl, inr, lt-ltb, ne_eqb, eq-eqb}
use Rattle.std.specs.Prelude.{if◌then◌else◌}
use Rattle.std.specs.List.{All, list_all}
use Rattle.std.specs.Option.{option_or, option_map_or}
use Rattle.std.proofs.lemmas.Bool.{eqb-true, cases_Bool, and_parts}
use Rattle.std.proofs.lemmas.List.{length-append, length-map}
use Rattle.std.proofs.lemmas.List.Elements.{All-nil, All-cons, All-head, All-tail}
use Rattle.std.proofs.lemmas.List.Sums.{sum_by-cons}
use Rattle.std.proofs.lemmas.Option.{same_Some, none-some}
use Rattle.rising_numbers.specs.ByNumber.{by_number}
use Rattle.rising_numbers.proofs.ByNumber.{above}
use Rattle.field_values.specs.declared.numbers.FieldNo.{FieldNo}
use Rattle.field_values.specs.declared.numbers.GroupNo.{GroupNo}
use Rattle.field_values.specs.declared.numbers.IssueNo.{IssueNo}
use Rattle.field_values.specs.declared.numbers.SprintNo.{SprintNo}
use Rattle.field_values.specs.declared.numbers.UserNo.{UserNo}
use Rattle.field_values.specs.declared.value.Value.{Value}
use Rattle.field_values.specs.declared.value.Value.TheVariants as value
use Rattle.field_values.specs.declared.parts.Group.{Group as UserGroup}
use Rattle.field_values.specs.GroupMembers.{is_user_list}
use Rattle.field_values.specs.Parts.{Parts}
use Rattle.external_ids.specs.declared.external_id.ExternalId.{ExternalId}
use Rattle.external_ids.specs.Ids.{external_number}
use Rattle.rank_strings.specs.Rank.{RankParts}
use Rattle.jql_meaning.specs.Surroundings.{numbered}
use Rattle.field_forms.specs.declared.form.Form.{Form}
use Rattle.field_forms.specs.Known.{Names, form_of, choices_of, fits, fits_form}
use Rattle.tracker_limits.specs.Limits.{most_issues}
use Rattle.fields.specs.SetupParts.{names_in}
use Rattle.fields.specs.Naming.{name_at, key_of, field_numbers}
use Rattle.change_history.specs.declared.change.Change.{Change}
use Rattle.change_history.specs.declared.entry.Entry.{Entry}
use Rattle.change_history.specs.declared.entry.Group.{Group}
use Rattle.change_history.specs.History.{History, MayAdd, opening_value, put_value, AreChanges, AreInOrder, FollowEachOther}
use Rattle.sprints.specs.declared.sprint.Sprint.{Sprint}
use Rattle.sprints.specs.declared.state.SprintState.{SprintState}
use Rattle.sprints.specs.declared.state.SprintState.TheVariants.{Future, Active, Closed}
use Rattle.sprints.specs.Sprint.{IsThere, future, sprint_of}
use Rattle.board.specs.declared.board.Board.{Board}
use Rattle.tracker_ranks.specs.Ranked.{IsNext}
use Rattle.tracker_ranks.proofs.Keeping.{new_issues_go_last}
use Rattle.tracker_keeper.specs.declared.part.Part.{Part}
use Rattle.tracker_keeper.specs.Forms.{IsNumber, is_small, is_filled, may_hold, are_among, are_opening, IsIssueKey, IsGroupEntry, IsStamp, HasStamps}
use Rattle.tracker_keeper.specs.Kept.{part_keys, IsSetupText, IsPart, IsPartAt}
use Rattle.tracker_machine.specs.Machine.{Machine, opening}
use Rattle.change_history.specs.Key.{project_of}
use Rattle.tracker_machine.specs.Known.{project_keys, issues_of}
use Rattle.tracker_machine.specs.Chronicle.{HasEntry}
use Rattle.tracker_machine.specs.Tracker.{Holds, AllEntriesHold, AllEntriesFit, AllSmall, AreByUsers, IsSettled, RunsFrom, IsNextKey, AreKeyed, IsExternalOf, HaveUsers, IsTracker, MayOpen, MayGroup}
use Rattle.tracker_machine.specs.SprintRules.{IsTimely, IsSprint}
use Rattle.tracker_machine.specs.Saved.{SavedFilter, filter_number, board_number, IsFilter, IsBoard}
use Rattle.tracker_machine.specs.Effect.{Effect, applied, IsAllowed, MayName, with_issue, longer, with_group, with_new_rank, with_balance, with_moves, with_sprint, with_state}
use Rattle.tracker_machine.specs.Effect.Effect.{NewMoment, NewIssue, NewGroup, NewRank, NewBalance, NewRanks, NewSprint, NewState, NewFilter, NoFilter, NewBoard, NoBoard, NewMembers}
use Rattle.tracker_machine.specs.Kept.{Kind, lone, part_in, kinds, sprint_part, filter_part, board_part, external_part, members_part, members_numbered, external_parts, members_from, all_members, setup_part, present_part, issue_part, group_part, rank_part, issue_numbered, entries_of_change, group_of, issue_group, group_numbered, sprint_numbered, part_at, group_parts, rank_parts, state_parts, parts_of, opening_parts, migrating_parts}
use Rattle.tracker_machine.proofs.Chronicle.{few_groups}
use Rattle.tracker_machine.proofs.Puts.{saved_kinds, planned_kinds, other_kinds}
use Rattle.tracker_machine.proofs.Saved.{all_found, found_number, found_there}
use Rattle.tracker_machine.proofs.SprintRules.{sprint_there, found_is_there, turned_there, sprint_is}
use Rattle.tracker_machine.proofs.SprintRows.{last_sprint, sprint_put}
use Rattle.tracker_machine.proofs.Settled.{at_place, from_found, settled_at}
use Rattle.tracker_machine.proofs.MemberRows.{group_numbered_there, group_has_users}
use Rattle.tracker_machine.proofs.Tracker.{tracker_applied}
use Rattle.tracker_machine.proofs.Kept.{issue_found, group_found, next_is_none}
use Rattle.tracker_machine.proofs.Ranks.{moves_are_numbered, balance_may_be_kept}
use Rattle.tracker_machine.proofs.KeepableRanks.{number_kept, rank_part_kept, new_rank_kept, ranks_kept}

-- ---- values

known_form : (f : Form → Bool) (o : Option Form) → option_map_or f o false ≡ true → is_some o ≡ true
known_form f None e = absurd (cc)
known_form f (Some form) e = refl

-- a field that may hold a value is there
field_known : (names : Names) (n : ℕ) (v : Value) → fits names n v ≡ true → is_some (form_of names.fields n) ≡ true
unfolding fits
field_known names n v fit = known_form (fits_form n (choices_of names n) v) (form_of names.fields n) fit

pub fitting_may_stand : (names : Names) (n : ℕ) (v : Value) → fits names n v ≡ true → is_small v ≡ true → may_hold names n v ≡ true
fitting_may_stand names n value.Empty fit small = field_known names n value.Empty fit
fitting_may_stand names n (value.Text text) fit small = rw fit refl
fitting_may_stand names n (value.Number z) fit small = rw fit refl
fitting_may_stand names n (value.Choice choice) fit small = rw fit refl
fitting_may_stand names n (value.User user) fit small = rw fit refl
fitting_may_stand names n (value.Date day) fit small = rw fit refl
fitting_may_stand names n (value.Set choices) fit small = rw fit refl
fitting_may_stand names n (value.Labels labels) fit small = rw fit refl
fitting_may_stand names n (value.Sprint sprint) fit small = rw (fit, small) refl

-- what a field holds may stand there, where the field may hold something
held_may_stand : (names : Names) (f : FieldNo) (v other : Value) → Holds names f v → fits names f.0 other ≡ true → is_small v ≡ true → may_hold names f.0 v ≡ true
held_may_stand names f v other (inl empty) fit small = subst (λ w. may_hold names f.0 w ≡ true) (sym empty) (field_known names f.0 other fit)
held_may_stand names f v other (inr own) fit small = fitting_may_stand names f.0 v own small

-- ---- sprints' numbers

abbrev AllAreSmall : (FieldNo → Value) → Type 0
AllAreSmall values = (f : FieldNo) → is_small (values f) ≡ true

chosen_small : (b : Bool) (v w : Value) → is_small v ≡ true → is_small w ≡ true → is_small (if b then v else w) ≡ true
chosen_small true v w one other = one
chosen_small false v w one other = other

may_hold_small : (names : Names) (n : ℕ) (v : Value) → may_hold names n v ≡ true → is_small v ≡ true
may_hold_small names n value.Empty may = refl
may_hold_small names n (value.Text text) may = refl
may_hold_small names n (value.Number z) may = refl
may_hold_small names n (value.Choice choice) may = refl
may_hold_small names n (value.User user) may = refl
may_hold_small names n (value.Date day) may = refl
may_hold_small names n (value.Set choices) may = refl
may_hold_small names n (value.Labels labels) may = refl
may_hold_small names n (value.Sprint sprint) may = (and_parts (fits names n (value.Sprint sprint)) (is_small (value.Sprint sprint)) may).1

abbrev may_open : Names → Change → Bool
may_open names c = is_filled c.to && may_hold names c.field.0 c.to

opening_small : (names : Names) (cs : List Change) → list_all (may_open names) cs ≡ true → AllAreSmall (opening_value cs)
opening_small names [] all f = refl
opening_small names (c ∷ cs) all f =
    let here = and_parts (may_open names c) (list_all (may_open names) cs) all in
    chosen_small (c.field.0 == f.0) c.to (opening_value cs f) (may_hold_small names c.field.0 c.to (and_parts (is_filled c.to) (may_hold names c.field.0 c.to) here.0).1)
    (opening_small names cs here.1 f)

listed_small : (names : Names) (cs : List Change) → are_opening names cs ≡ true → AllAreSmall (opening_value cs)
listed_small names cs listed = opening_small names cs (and_parts (list_all (may_open names) cs) (are_among (field_numbers names.fields) cs) listed).0

-- ---- entries

-- both sides of each may stand in its field
abbrev AllMayStand : Names → List Entry → Type 0
AllMayStand names [] = Unit {0}
AllMayStand names (e ∷ es) = (may_hold names e.field.0 e.from ≡ true) × (may_hold names e.field.0 e.to ≡ true) × AllMayStand names es

entries_may_stand : (names : Names) (values : FieldNo → Value) (es : List Entry) → AllAreSmall values → AreChanges values es → AllEntriesHold names es → AllEntriesFit names es → AllSmall es
    → AllMayStand names es
entries_may_stand names values [] before changes hold fit small = tt
entries_may_stand names values (e ∷ es) before changes hold fit small = (
  held_may_stand names e.field e.from e.to hold.0 fit.0 (ap is_small changes.0 ∙ before e.field),
  fitting_may_stand names e.field.0 e.to fit.0 small.0,
  entries_may_stand names (put_value values e) es (λ f. chosen_small (e.field.0 == f.0) e.to (values f) small.0 (before f)) changes.2 hold.2 fit.1 small.1,
)

settled_may_stand : (names : Names) (moment change : ℕ) (h : History) → IsSettled names moment change h → AllMayStand names h.entries
settled_may_stand names moment change h is =
    entries_may_stand names (opening_value h.opening) h.entries (listed_small names h.opening is.listed) is.history.changes is.held is.fit is.small

chosen_stand : (names : Names) (n : ℕ) (es : List Entry) → AllMayStand names es → AllMayStand names (entries_of_change n es)
chosen_stand names n [] may = tt
chosen_stand names n (e ∷ es) may = elim (cases_Bool (e.change == n)) [
  | inl same ↦ rw same (may.0, may.1, chosen_stand names n es may.2)
  | inr other ↦ rw other (chosen_stand names n es may.2)
]

chosen_by_users : (users n : ℕ) (es : List Entry) → AreByUsers users es → AreByUsers users (entries_of_change n es)
chosen_by_users users n [] by = tt
chosen_by_users users n (e ∷ es) by = elim (cases_Bool (e.change == n)) [
  | inl same ↦ rw same (by.0, chosen_by_users users n es by.1)
  | inr other ↦ rw other (chosen_by_users users n es by.1)
]

-- ---- one change has one moment and one author

abbrev AreAlike : ℕ → ℕ → UserNo → List Entry → Type 0
AreAlike change at author [] = Unit {0}
AreAlike change at author (e ∷ es) = (e.change ≡ change) × (e.at ≡ at) × (e.author ≡ author) × AreAlike change at author es

abbrev IsOneChange : ℕ → List Entry → Type 0
IsOneChange n [] = Unit {0}
IsOneChange n (e ∷ es) = (e.change ≡ n) × AreAlike n e.at e.author es

-- behind a later change there is none of it
none_later : (n : ℕ) (last : Entry) (es : List Entry) → n < last.change → FollowEachOther last es → entries_of_change n es ≡ []
none_later n last [] later follow = refl
none_later n last (e ∷ es) later follow =
    let more : n < e.change = elim follow.0 [ inl same ↦ omega (arith, later, same.0) | inr next ↦ omega (arith, later, next.0) ] in
    rw (ne_eqb e.change n (λ is. omega (arith, is, more))) (none_later n e es more follow.1)

alike_behind : (last : Entry) (es : List Entry) → FollowEachOther last es → AreAlike last.change last.at last.author (entries_of_change last.change es)
alike_behind last [] follow = tt
alike_behind last (e ∷ es) follow = elim follow.0 [
  | inl same ↦ rw (eq-eqb e.change last.change same.0) (same.0, same.1, same.2, alike same.0 same.1 same.2 (alike_behind e es follow.1))
  | inr next ↦ rw (ne_eqb e.change last.change (λ is. omega (arith, is, next.0)), none_later last.change e es next.0 follow.1) tt
] where
  alike : e.change ≡ last.change → e.at ≡ last.at → e.author ≡ last.author → AreAlike e.change e.at e.author (entries_of_change e.change es)
      → AreAlike last.change last.at last.author (entries_of_change last.change es)
  alike change at author behind =
      subst (λ (u : UserNo). AreAlike last.change last.at u (entries_of_change last.change es)) author
      (subst (λ t. AreAlike last.change t e.author (entries_of_change last.change es)) at
      (subst (λ k. AreAlike k e.at e.author (entries_of_change k es)) change behind))

abbrev FollowEach : List Entry → Type 0
FollowEach [] = Unit {0}
FollowEach (e ∷ es) = FollowEachOther e es

follow_each : (e : Entry) (es : List Entry) → FollowEachOther e es → FollowEach es
follow_each e [] follow = tt
follow_each e (f ∷ fs) follow = follow.1

one_change_of : (n : ℕ) (es : List Entry) → FollowEach es → IsOneChange n (entries_of_change n es)
one_change_of n [] follow = tt
one_change_of n (e ∷ es) follow = elim (cases_Bool (e.change == n)) [
  | inl same ↦ rw same (eqb-true e.change n same, subst (λ k. AreAlike k e.at e.author (entries_of_change k es)) (eqb-true e.change n same) (alike_behind e es follow))
  | inr other ↦ rw other (one_change_of n es (follow_each e es follow))
]

one_change : (n change at : ℕ) (es : List Entry) → AreInOrder change at es → IsOneChange n (entries_of_change n es)
one_change n change at [] order = tt
one_change n change at (e ∷ es) order = one_change_of n (e ∷ es) order.2

-- ---- a change group

group_entries : (names : Names) (n at : ℕ) (author : UserNo) (es : List Entry) → AreAlike n at author es → AllMayStand names es → All (IsGroupEntry names n at author) es
group_entries names n at author [] alike may = All-nil (IsGroupEntry names n at author)
group_entries names n at author (e ∷ es) alike may =
    All-cons (IsGroupEntry names n at author) e es
    (record { change_is = alike.0; at_is = alike.1; author_is = alike.2; from = may.0; to = may.1 })
    (group_entries names n at author es alike.3 may.2)

has_entry : (n : ℕ) (es : List Entry) (e : Entry) (others : List Entry) → entries_of_change n es ≡ e ∷ others → HasEntry es n e.at
has_entry n [] e others is = absurd (cc)
has_entry n (x ∷ xs) e others is = elim (cases_Bool (x.change == n)) [
  | inl same ↦ inl (eqb-true x.change n same, ap first_at (rw same at is))
  | inr other ↦ inr (has_entry n xs e others (rw other at is))
] where
  first_at : List Entry → ℕ
  first_at [] = 0
  first_at (e ∷ es) = e.at

-- the change of an issue at a place has a number from 1 to the last one, and isn't later than now
few_changes : (m : Machine) → IsTracker m → m.change < 2 ^ 32
few_changes m is = omega (arith, is.numbered, few_groups m.histories, is.few_entries, is.few_issues)

module _ (m : Machine) (is : IsTracker m) (k : ℕ) (h : History) (there : slice_get m.histories k ≡ Some h) (numbered : IsNumber h.no.0) where
  settled : IsSettled (names_in m.setup) m.moment m.change h
  settled = settled_at (names_in m.setup) m.moment m.change m.histories k h there is.settled

  group_kept : (n : ℕ) (es : List Entry) (p : Part) → entries_of_change n h.entries ≡ es → option_map (group_part h) (group_of es) ≡ Some p → IsPartAt m.setup 4 n p
  unfolding IsPart
  group_kept n [] p es_is e = absurd (none-some p e)
  group_kept n (e ∷ es) p es_is p_is =
      let known = is.chronicle.known k n e.at (h, there, inr (has_entry n h.entries e es es_is)) in
      let one : IsOneChange n (e ∷ es) = subst (IsOneChange n) es_is (one_change n h.change h.at h.entries settled.history.order) in
      let by : AreByUsers (length m.setup.users) (e ∷ es) = subst (AreByUsers (length m.setup.users)) es_is (chosen_by_users (length m.setup.users) n h.entries settled.authors) in
      let may : AllMayStand (names_in m.setup) (e ∷ es) = subst (AllMayStand (names_in m.setup)) es_is (chosen_stand (names_in m.setup) n h.entries (settled_may_stand (names_in m.setup) m.moment m.change h settled)) in
      let alike : AreAlike e.change e.at e.author (e ∷ es) = (refl, refl, refl, subst (λ c. AreAlike c e.at e.author es) (sym one.0) one.1) in
      subst (IsPartAt m.setup 4 n) (same_Some _ p p_is) (record {
        is_part = record {
          numbered = numbered;
          counted = (omega (arith, known.0, one.0), omega (arith, known.1, one.0, few_changes m is));
          timely = omega (arith, known.2, is.timely);
          authored = lt-ltb e.author.0 (length m.setup.users) by.0;
          each = group_entries (names_in m.setup) e.change e.at e.author (e ∷ es) alike may;
        };
        kind_is = refl;
        number_is = one.0;
      })

  issue_kept : IsIssueKey (part_keys m.setup) h.key → IsPartAt m.setup 3 h.no.0 (issue_part h)
  unfolding IsPart
  issue_kept keyed =
      let known = is.chronicle.known k h.change h.at (h, there, inl (refl, refl)) in
      record {
        is_part = record {
          numbered = numbered;
          keyed = keyed;
          counted = (known.0, omega (arith, known.1, few_changes m is));
          timely = omega (arith, known.2, is.timely);
          authored = lt-ltb h.author.0 (length m.setup.users) settled.author;
          opened = settled.listed;
        };
        kind_is = refl;
        number_is = refl;
      }

-- ---- issues by their places

pub number_at : (first : ℕ) (hs : List History) (k : ℕ) (h : History) → RunsFrom first (map (λ h. h.no.0) hs) → slice_get hs k ≡ Some h → (h.no.0 ≡ first + k) × (k < length hs)
number_at first [] k h run at = absurd (cc)
number_at first (g ∷ gs) zero h run at = (omega (arith, ap (λ (i : History). i.no.0) (same_Some g h at), run.0), omega arith)
number_at first (g ∷ gs) (suc k) h run at = let behind = number_at (first + 1) gs k h run.1 at in (omega (arith, behind.0), omega (arith, behind.1))

is_number_at : (m : Machine) (k : ℕ) (h : History) → IsTracker m → slice_get m.histories k ≡ Some h → IsNumber h.no.0
is_number_at m k h is at = let own = number_at 1 m.histories k h is.numbers at in (omega (arith, own.0), omega (arith, own.0, own.1, is.few_issues))

one_or_none : (b : Bool) → (if b then 1 else 0) ≤ 1
one_or_none true = omega arith
one_or_none false = omega arith

few_issues_of : (p : List ℕ) (hs : List History) → issues_of p hs ≤ length hs
few_issues_of p [] = omega arith
few_issues_of p (h ∷ hs) =
    omega (arith, sum_by-cons (λ (i : History). if bytes_eq (project_of i.key) p then 1 else 0) h hs, one_or_none (bytes_eq (project_of h.key) p), few_issues_of p hs)

next_key_formed : (setup : Parts) (before : List History) (key : List ℕ) → length before ≤ most_issues → IsNextKey setup before key → IsIssueKey (part_keys setup) key
next_key_formed setup before key few (place, inside, is) =
    let found = at_place (part_keys setup) place (omega (arith, inside, length-map setup.project (λ p. p.key))) in
    record {
      place = place;
      project = found.0;
      there = found.1;
      number = issues_of (name_at (project_keys setup) place) before + 1;
      is_number = (omega arith, omega (arith, few, few_issues_of (name_at (project_keys setup) place) before));
      key_is = is ∙ ap (λ o. key_of (unwrap_or o []) (issues_of (name_at (project_keys setup) place) before + 1)) found.1;
    }

key_formed : (setup : Parts) (before hs : List History) (k : ℕ) (h : History) → length before + length hs ≤ most_issues → AreKeyed setup before hs → slice_get hs k ≡ Some h
    → IsIssueKey (part_keys setup) h.key
key_formed setup before [] k h few keyed at = absurd (cc)
key_formed setup before (g ∷ gs) zero h few keyed at =
    subst (λ (i : History). IsIssueKey (part_keys setup) i.key) (same_Some g h at) (next_key_formed setup before g.key (omega (arith, few)) keyed.0)
key_formed setup before (g ∷ gs) (suc k) h few keyed at =
    key_formed setup (before ++ g ∷ []) gs k h (omega (arith, few, length-append before (g ∷ []))) keyed.1 at

-- ---- what is found by number

-- the issue of a number stands at a place and has it
issue_at : (hs : List History) (n : ℕ) (h : History) → issue_numbered hs n ≡ Some h → (k : ℕ) × (slice_get hs k ≡ Some h) × (h.no.0 ≡ n)
issue_at [] n h is = absurd (none-some h is)
issue_at (g ∷ gs) n h is = elim (cases_Bool (g.no.0 == n)) [
  | inl same ↦ let own : Some g ≡ Some h = rw same at is in (0, own, sym (ap (λ (i : History). i.no.0) (same_Some g h own)) ∙ eqb-true g.no.0 n same)
  | inr other ↦ let behind = issue_at gs n h (rw other at is) in (suc behind.0, behind.1, behind.2)
]

-- so does the one that has a change group
group_at : (hs : List History) (n : ℕ) (p : Part) → group_numbered hs n ≡ Some p → (k : ℕ) × (h : History) × (slice_get hs k ≡ Some h) × (issue_group n h ≡ Some p)
group_at [] n p is = absurd (none-some p is)
group_at (g ∷ gs) n p is = by_own (group_at gs n p) (issue_group n g) refl is where
  by_own : (group_numbered gs n ≡ Some p → (k : ℕ) × (h : History) × (slice_get gs k ≡ Some h) × (issue_group n h ≡ Some p)) → (o : Option Part) → issue_group n g ≡ o → option_or o (group_numbered gs n) ≡ Some p → (k : ℕ) × (h : History) × (slice_get (g ∷ gs) k ≡ Some h) × (issue_group n h ≡ Some p)
  by_own later None own more = let behind = later more in (suc behind.0, behind.1, behind.2, behind.3)
  by_own later (Some q) own more = (0, g, refl, own ∙ more)

-- ---- each part

issue_part_kept : (m : Machine) (n : ℕ) (p : Part) → IsTracker m → option_map issue_part (issue_numbered m.histories n) ≡ Some p → IsPartAt m.setup 3 n p
issue_part_kept m n p is p_is = by_found (issue_numbered m.histories n) refl p_is where
  by_found : (o : Option History) → issue_numbered m.histories n ≡ o → option_map issue_part o ≡ Some p → IsPartAt m.setup 3 n p
  by_found None found more = absurd (none-some p more)
  by_found (Some h) found more =
      let own = issue_at m.histories n h found in
      let kept = issue_kept m is own.0 h own.1 (is_number_at m own.0 h is own.1) (key_formed m.setup [] m.histories own.0 h (omega (arith, is.few_issues)) is.keys own.1) in
      subst (IsPartAt m.setup 3 n) (same_Some (issue_part h) p more) (subst (λ j. IsPartAt m.setup 3 j (issue_part h)) own.2 kept)

group_part_kept : (m : Machine) (n : ℕ) (p : Part) → IsTracker m → group_numbered m.histories n ≡ Some p → IsPartAt m.setup 4 n p
group_part_kept m n p is p_is =
    let own = group_at m.histories n p p_is in
    group_kept m is own.0 own.1 own.2 (is_number_at m own.0 own.1 is own.2) n (entries_of_change n own.1.entries) p refl own.3

present_kept : (m : Machine) → IsTracker m → IsPartAt m.setup 2 0 (present_part m)
unfolding IsPart
present_kept m is = record {
  is_part = record { balanced = balance_may_be_kept m.order m.balance is.ranked.agrees; stamped = record { timely = omega (arith, is.timely); counted = omega (arith, few_changes m is) } };
  kind_is = refl;
  number_is = refl;
}

setup_kept : (m : Machine) → IsSetupText m.text → IsPartAt m.setup 1 0 (setup_part m)
unfolding IsPart
setup_kept m read = record { is_part = read; kind_is = refl; number_is = refl }

-- the lone part of a kind has number 0
lone_kept : (setup : Parts) (kind n : ℕ) (own p : Part) → IsPartAt setup kind 0 own → lone own n ≡ Some p → IsPartAt setup kind n p
lone_kept setup kind n own p kept is = by (n == 0) refl is
  where
    by : (b : Bool) → (n == 0) ≡ b → (if b then Some own else None) ≡ Some p → IsPartAt setup kind n p
    by true first same = subst (λ i. IsPartAt setup kind i p) (sym (eqb-true n 0 first)) (subst (IsPartAt setup kind 0) (same_Some own p same) kept)
    by false other same = absurd (none-some p same)

-- a moment that isn't later than now, and a number that isn't above the last one, are a stamp
stamp_kept : (m : Machine) (at change : ℕ) → IsTracker m → at ≤ m.moment → change ≤ m.change → IsStamp at change
stamp_kept m at change is timely earlier = record { timely = omega (arith, timely, is.timely); counted = omega (arith, earlier, few_changes m is) }

stamps_kept : (m : Machine) (state : SprintState) → IsTracker m → IsTimely m.moment m.change state → HasStamps state
stamps_kept m Future is timely = tt
stamps_kept m (Active at change) is timely = stamp_kept m at change is timely.0 timely.1
stamps_kept m (Closed start_at start_change at change) is timely = (
  stamp_kept m start_at start_change is (omega (arith, timely.0, timely.2)) (omega (arith, timely.1, timely.3)),
  stamp_kept m at change is timely.2 timely.3,
)

sprint_kept : (m : Machine) (sprint : SprintNo) (s : Sprint) → IsTracker m → IsThere m.sprints sprint.0 → IsSprint m.moment m.change s → IsPart m.setup (sprint_part sprint s)
unfolding IsPart
sprint_kept m sprint s is there own =
    record { numbered = (there.0, omega (arith, there.1, is.sprints.few)); named = own.named; stamped = stamps_kept m s.state is own.timely }

sprint_part_kept : (m : Machine) (n : ℕ) (p : Part) → IsTracker m → sprint_numbered m.sprints n ≡ Some p → IsPartAt m.setup 7 n p
sprint_part_kept m n p is p_is = by_found (sprint_of m.sprints n) refl p_is where
  by_found : (o : Option Sprint) → sprint_of m.sprints n ≡ o → option_map (sprint_part (record { 0 = n })) o ≡ Some p → IsPartAt m.setup 7 n p
  by_found None found more = absurd (none-some p more)
  by_found (Some s) found more =
      let there = found_is_there m.sprints n s found in
      let own = sprint_is m.moment m.change m.sprints m.histories is.sprints n s there.1 in
      let kept = sprint_kept m (record { 0 = n }) s is there.0 own in
      subst (IsPartAt m.setup 7 n) (same_Some (sprint_part (record { 0 = n }) s) p more) (record { is_part = kept; kind_is = refl; number_is = refl })

-- a sprint that comes to another state
state_kept : (m : Machine) (sprint : SprintNo) (state : SprintState) (s : Sprint) → IsTracker m → IsTracker (with_state m sprint state) → IsThere m.sprints sprint.0
    → sprint_of m.sprints sprint.0 ≡ Some s → All (IsPart m.setup) (state_parts m.sprints sprint state)
state_kept m sprint state s is next there at =
    let new : Sprint = record s { state = state } in
    let turned = turned_there m.sprints sprint.0 s state at in
    let own = sprint_part_kept (with_state m sprint state) sprint.0 (sprint_part sprint new) next
    (subst (λ ss. sprint_numbered ss sprint.0 ≡ Some (sprint_part sprint new)) (sym turned) (ap (option_map (sprint_part sprint)) (sprint_put m.sprints sprint.0 new there))) in
    subst (λ o. All (IsPart m.setup) (option_map_or (λ x. sprint_part sprint (record x { state = state }) ∷ []) o [])) (sym at)
    (All-cons (IsPart m.setup) (sprint_part sprint new) [] own.is_part (All-nil (IsPart m.setup)))

filter_kept : (setup : Parts) (f : SavedFilter) → 1 ≤ f.no.0 → IsFilter setup f → IsPart setup (filter_part f)
unfolding IsPart
filter_kept setup f positive is =
    record { numbered = (positive, is.small); owned = lt-ltb f.owner.0 (length setup.users) is.owned; named = is.named }

filter_part_kept : (m : Machine) (n : ℕ) (p : Part) → IsTracker m → option_map filter_part (by_number filter_number n m.filters) ≡ Some p → IsPartAt m.setup 8 n p
filter_part_kept m n p is p_is = by_found (by_number filter_number n m.filters) refl p_is where
  by_found : (o : Option SavedFilter) → by_number filter_number n m.filters ≡ o → option_map filter_part o ≡ Some p → IsPartAt m.setup 8 n p
  by_found None found more = absurd (none-some p more)
  by_found (Some f) found more =
      let number = found_number filter_number n f m.filters found in
      let low = above filter_number 1 n f m.filters is.saved.rising found in
      let kept = filter_kept m.setup f (omega (arith, low, number)) (all_found filter_number (IsFilter m.setup) n f m.filters found is.saved.each) in
      subst (IsPartAt m.setup 8 n) (same_Some (filter_part f) p more) (record { is_part = kept; kind_is = refl; number_is = number })

-- a board's filter is there, so that its number is small
board_kept : (m : Machine) (b : Board) → IsTracker m → 1 ≤ b.no.0 → IsBoard m.filters b → IsPart m.setup (board_part b)
unfolding IsPart
board_kept m b is positive on =
    let f = found_there filter_number b.filter.0 m.filters on.there in
    let small = (all_found filter_number (IsFilter m.setup) b.filter.0 f.0 m.filters f.2 is.saved.each).small in
    record { numbered = (positive, on.small); named = on.named; small = omega (arith, small, f.1) }

board_part_kept : (m : Machine) (n : ℕ) (p : Part) → IsTracker m → option_map board_part (by_number board_number n m.boards) ≡ Some p → IsPartAt m.setup 9 n p
board_part_kept m n p is p_is = by_found (by_number board_number n m.boards) refl p_is where
  by_found : (o : Option Board) → by_number board_number n m.boards ≡ o → option_map board_part o ≡ Some p → IsPartAt m.setup 9 n p
  by_found None found more = absurd (none-some p more)
  by_found (Some b) found more =
      let number = found_number board_number n b m.boards found in
      let low = above board_number 1 n b m.boards is.saved.rising_boards found in
      let kept = board_kept m b is (omega (arith, low, number)) (all_found board_number (IsBoard m.filters) n b m.boards found is.saved.each_board) in
      subst (IsPartAt m.setup 9 n) (same_Some (board_part b) p more) (record { is_part = kept; kind_is = refl; number_is = number })

-- each part of each of these kinds may be kept
abbrev AreKept : Parts → ℕ → Part → List Kind → Type 0
AreKept setup n p [] = Unit {0}
AreKept setup n p (x ∷ xs) = (x.parts n ≡ Some p → IsPartAt setup x.kind n p) × AreKept setup n p xs

found_kept : (setup : Parts) (k n : ℕ) (p : Part) (xs : List Kind) → AreKept setup n p xs → part_in xs k n ≡ Some p → IsPartAt setup k n p
found_kept setup k n p [] are is = absurd (none-some p is)
found_kept setup k n p (x ∷ xs) are is = by (k == x.kind) refl is (found_kept setup k n p xs are.1)
  where
    by : (b : Bool) → (k == x.kind) ≡ b → (if b then x.parts n else part_in xs k n) ≡ Some p → (part_in xs k n ≡ Some p → IsPartAt setup k n p) → IsPartAt setup k n p
    by true same found rest = subst (λ i. IsPartAt setup i n p) (sym (eqb-true k x.kind same)) (are.0 found)
    by false other found rest = rest found

-- ---- external ids and members

external_kept : (m : Machine) (e : ExternalId) → IsTracker m → 1 ≤ e.no.0 → IsExternalOf (length m.histories) e → IsPart m.setup (external_part e)
unfolding IsPart
external_kept m e is positive own = record { numbered = (positive, omega (arith, own.there, is.few_issues)); formed = own.formed }

external_part_kept : (m : Machine) (n : ℕ) (p : Part) → IsTracker m → option_map external_part (by_number external_number n m.externals) ≡ Some p → IsPartAt m.setup 6 n p
external_part_kept m n p is p_is = by_found (by_number external_number n m.externals) refl p_is where
  by_found : (o : Option ExternalId) → by_number external_number n m.externals ≡ o → option_map external_part o ≡ Some p → IsPartAt m.setup 6 n p
  by_found None found more = absurd (none-some p more)
  by_found (Some e) found more =
      let number = found_number external_number n e m.externals found in
      let low = above external_number 1 n e m.externals is.externals.rising found in
      let own = all_found external_number (IsExternalOf (length m.histories)) n e m.externals found is.externals.each in
      let kept = external_kept m e is (omega (arith, low, number)) own in
      subst (IsPartAt m.setup 6 n) (same_Some (external_part e) p more) (record { is_part = kept; kind_is = refl; number_is = number })

members_kept : (setup : Parts) (group : GroupNo) (members : List UserNo) → 1 ≤ group.0 → group.0 ≤ length setup.group
    → is_user_list (length setup.users) members ≡ true → IsPart setup (members_part group members)
unfolding IsPart
members_kept setup group members positive there listed =
    record { from_one = positive; there = omega (arith, there, length-map setup.group (λ g. g.name)); listed = listed }

members_part_kept : (setup : Parts) (n : ℕ) (p : Part) → HaveUsers (length setup.users) setup.group → members_numbered setup.group n ≡ Some p → IsPartAt setup 10 n p
members_part_kept setup n p users p_is = by_found (numbered setup.group n) refl p_is where
  by_found : (o : Option UserGroup) → numbered setup.group n ≡ o → option_map (λ g. members_part (record { 0 = n }) g.members) o ≡ Some p → IsPartAt setup 10 n p
  by_found None found more = absurd (none-some p more)
  by_found (Some g) found more =
      let there = group_numbered_there setup.group n g found in
      let listed = group_has_users (length setup.users) setup.group n g users found in
      let kept = members_kept setup (record { 0 = n }) g.members there.0 there.1 listed in
      subst (IsPartAt setup 10 n) (same_Some (members_part (record { 0 = n }) g.members) p more) (record { is_part = kept; kind_is = refl; number_is = refl })

-- the members of all groups, from a number on
all_members_kept : (setup : Parts) (first : ℕ) (groups : List UserGroup) → 1 ≤ first → first + length groups ≤ length setup.group + 1
    → HaveUsers (length setup.users) groups → All (IsPart setup) (members_from first groups)
all_members_kept setup first [] positive few users = All-nil (IsPart setup)
all_members_kept setup first (g ∷ gs) positive few users =
    let holds : UserGroup → Type 0 = λ x. is_user_list (length setup.users) x.members ≡ true in
    All-cons (IsPart setup) (members_part (record { 0 = first }) g.members) (members_from (first + 1) gs)
    (members_kept setup (record { 0 = first }) g.members positive (omega (arith, few)) (All-head holds g gs users))
    (all_members_kept setup (first + 1) gs (omega (arith, positive)) (omega (arith, few)) (All-tail holds g gs users))

pub part_kept : (m : Machine) (k n : ℕ) (p : Part) → IsSetupText m.text → IsTracker m → part_at m k n ≡ Some p → IsPartAt m.setup k n p
unfolding part_at
part_kept m k n p read is p_is =
    let saved : AreKept m.setup n p (saved_kinds m) =
    (filter_part_kept m n p is, (board_part_kept m n p is, (members_part_kept m.setup n p is.members, tt))) in
    let planned : AreKept m.setup n p (planned_kinds m) = (external_part_kept m n p is, (sprint_part_kept m n p is, saved)) in
    let others : AreKept m.setup n p (other_kinds m) = (issue_part_kept m n p is, (group_part_kept m n p is, (rank_part_kept m n p is, planned))) in
    found_kept m.setup k n p (kinds m)
    (lone_kept m.setup 1 n (setup_part m) p (setup_kept m read), (lone_kept m.setup 2 n (present_part m) p (present_kept m is), others)) p_is

-- ---- the parts that are put

-- the issue and the group that come are those of their numbers
issue_comes : (m : Machine) (h : History) → IsTracker m → MayOpen m h → option_map issue_part (issue_numbered (m.histories ++ h ∷ []) h.no.0) ≡ Some (issue_part h)
issue_comes m h is may = issue_found m.histories h h.no.0 is.numbers may.no ∙ chosen (h.no.0 == h.no.0) (eq-eqb h.no.0 h.no.0 refl) where
  chosen : (b : Bool) → b ≡ true → (if b then Some (issue_part h) else option_map issue_part (issue_numbered m.histories h.no.0)) ≡ Some (issue_part h)
  chosen true same = refl
  chosen false same = absurd (cc)

abbrev AllKept : Parts → List Part → Type 0
AllKept setup ps = All (IsPart setup) ps

one_part : (setup : Parts) (p : Part) → IsPart setup p → AllKept setup (p ∷ [])
one_part setup p kept = All-cons (IsPart setup) p [] kept (All-nil (IsPart setup))

two_parts : (setup : Parts) (p q : Part) → IsPart setup p → IsPart setup q → AllKept setup (p ∷ q ∷ [])
two_parts setup p q kept also = All-cons (IsPart setup) p (q ∷ []) kept (one_part setup q also)

group_kept_at : (m : Machine) (place : ℕ) (g : Group) (h : History) → IsTracker m → IsTracker (with_group m place g) → MayGroup m place g → slice_get m.histories place ≡ Some h
    → AllKept m.setup (present_part (with_group m place g) ∷ group_parts m.histories place g)
group_kept_at m place g h is next may at =
    let added : MayAdd h g.change g.at g.author g.entries = from_found (slice_get m.histories place) h (λ i. MayAdd i g.change g.at g.author g.entries) at may.group in
    let found : group_numbered (set m.histories place (longer h g.entries)) g.change ≡ Some (group_part h g) = group_found m.histories place h g at (next_is_none m g.change is may.change) added in
    let new : Machine = record m { change = m.change + 1; histories = set m.histories place (longer h g.entries) } in
    let grown_is : IsTracker new =
    subst (λ o. IsTracker (record m { change = m.change + 1; histories = option_map_or (λ i. set m.histories place (longer i g.entries)) o m.histories })) at next in
    let kept = group_part_kept new g.change (group_part h g) grown_is found in
    let present = present_kept (with_group m place g) next in
    subst (λ o. AllKept m.setup (present_part (with_group m place g) ∷ option_map_or (λ i. group_part i g ∷ []) o [])) (sym at)
    (two_parts m.setup (present_part (with_group m place g)) (group_part h g) present.is_part kept.is_part)

-- an issue that comes, maybe with an external id
external_parts_kept : (setup : Parts) (issue : IssueNo) (ids : List ExternalId) (external : Option (List ℕ)) → IsNumber issue.0 → MayName ids external
    → AllKept setup (external_parts issue external)
unfolding IsPart
external_parts_kept setup issue ids None number may = All-nil (IsPart setup)
external_parts_kept setup issue ids (Some id) number may =
    one_part setup (external_part (record { no = issue; id = id })) (record { numbered = number; formed = may.0 })

issue_parts_kept : (m : Machine) (h : History) (rank : RankParts) (external : Option (List ℕ)) → IsTracker m → IsTracker (with_issue m h rank external)
    → MayOpen m h → IsNext m.order m.balance h.no rank → MayName m.externals external
    → AllKept m.setup (present_part (with_issue m h rank external) ∷ issue_part h ∷ rank_part h.no rank ∷ external_parts h.no external)
issue_parts_kept m h rank external is next may given named =
    let new : Machine = with_issue m h rank external in
    let now = present_kept new next in
    let own = issue_part_kept new h.no.0 (issue_part h) next (issue_comes m h is may) in
    let there = new_issues_go_last m.order m.balance h.no rank is.ranked given in
    let number : IsNumber h.no.0 = (omega (arith, may.no), omega (arith, may.no, may.few)) in
    let last = new_rank_kept m new h.no rank next (sym there.there) number in
    All-cons (IsPart m.setup) (present_part new) (issue_part h ∷ rank_part h.no rank ∷ external_parts h.no external) now.is_part
    (All-cons (IsPart m.setup) (issue_part h) (rank_part h.no rank ∷ external_parts h.no external) own.is_part
    (All-cons (IsPart m.setup) (rank_part h.no rank) (external_parts h.no external) last
    (external_parts_kept m.setup h.no m.externals external number named)))

pub parts_kept : (e : Effect) (m : Machine) → IsAllowed e m → IsTracker m → All (IsPart m.setup) (parts_of e m)
unfolding applied IsAllowed parts_of
parts_kept (NewMoment to) m may is =
    let now = present_kept (record m { moment = to }) (tracker_applied (NewMoment to) m may is) in
    one_part m.setup (present_part (record m { moment = to })) now.is_part
parts_kept (NewIssue h rank external) m may is = issue_parts_kept m h rank external is (tracker_applied (NewIssue h rank external) m may is) may.0 may.1 may.2
parts_kept (NewGroup place g) m may is =
    let found = at_place m.histories place may.there in
    group_kept_at m place g found.0 is (tracker_applied (NewGroup place g) m may is) may found.1
parts_kept (NewRank issue rank) m may is =
    one_part m.setup (rank_part issue rank)
    (new_rank_kept m (with_new_rank m issue rank) issue rank (tracker_applied (NewRank issue rank) m may is) refl (number_kept m issue.0 is may.named.issue))
parts_kept (NewBalance balance) m may is =
    let now = present_kept (with_balance m balance) (tracker_applied (NewBalance balance) m may is) in
    one_part m.setup (present_part (with_balance m balance)) now.is_part
parts_kept (NewRanks moves) m may is =
    let now = present_kept (with_moves m moves) (tracker_applied (NewRanks moves) m may is) in
    All-cons (IsPart m.setup) (present_part (with_moves m moves)) (rank_parts moves) now.is_part
    (ranks_kept m moves is (moves_are_numbered m.order m.balance moves is.ranked may.0 may.1))
parts_kept (NewSprint name) m may is =
    let number : SprintNo = record { 0 = length m.sprints + 1 } in
    let next : IsTracker (with_sprint m name) = tracker_applied (NewSprint name) m may is in
    let own = sprint_part_kept (with_sprint m name) number.0 (sprint_part number (future name)) next (ap (option_map (sprint_part number)) (last_sprint m.sprints (future name))) in
    one_part m.setup (sprint_part number (future name)) own.is_part
parts_kept (NewState sprint state) m may is =
    let found = sprint_there m.sprints sprint.0 may.there in
    state_kept m sprint state found.0 is (tracker_applied (NewState sprint state) m may is) may.there found.2
parts_kept (NewFilter f) m may is = one_part m.setup (filter_part f) (filter_kept m.setup f may.positive may.filter)
parts_kept (NoFilter filter_no) m may is = All-nil (IsPart m.setup)
parts_kept (NewBoard b) m may is = one_part m.setup (board_part b) (board_kept m b is may.positive may.board)
parts_kept (NoBoard board_no) m may is = All-nil (IsPart m.setup)
parts_kept (NewMembers group members) m may is =
    one_part m.setup (members_part group members) (members_kept m.setup group members may.from_one may.there may.listed)

-- where a new tracker stands
opening_present_kept : (text : List ℕ) (setup : Parts) → IsPart setup (present_part (opening text setup))
unfolding IsPart
opening_present_kept text setup = record { balanced = refl; stamped = record { timely = omega arith; counted = omega arith } }

pub opening_kept : (text : List ℕ) (setup : Parts) → IsSetupText text → HaveUsers (length setup.users) setup.group → All (IsPart setup) (opening_parts (opening text setup))
opening_kept text setup read users =
    let first = setup_kept (opening text setup) read in
    All-cons (IsPart setup) (setup_part (opening text setup)) (migrating_parts (opening text setup)) first.is_part
    (All-cons (IsPart setup) (present_part (opening text setup)) (all_members (opening text setup)) (opening_present_kept text setup)
    (all_members_kept setup 1 setup.group (omega arith) (omega arith) users))

-- what rows of the first format lack
pub migrating_kept : (m : Machine) → IsTracker m → All (IsPart m.setup) (migrating_parts m)
migrating_kept m is =
    All-cons (IsPart m.setup) (present_part m) (all_members m) (present_kept m is).is_part
    (all_members_kept m.setup 1 m.setup.group (omega arith) (omega arith) is.members)
