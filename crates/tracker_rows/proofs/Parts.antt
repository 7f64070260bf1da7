-- The parts of a tracker in the making, as one more is read.
use Rattle.std.proofs.Common.{◌≡◌, ℕ, zero, suc, ◌+◌, ◌-◌, ◌≤◌, ◌==◌, inl, inr, false, List, [], ◌∷◌, ◌++◌, length, slice_get, set, map, Option, Some, option_map, refl, sym, ap, ◌∙◌, subst, append-nil, eqb-true}
use Rattle.std.specs.Prelude.{if◌then◌else◌}
use Rattle.std.specs.Option.{option_or}
use Rattle.std.proofs.lemmas.Bool.{cases_Bool}
use Rattle.std.proofs.lemmas.List.Elements.{filter-append}
use Rattle.std.proofs.lemmas.Option.{same_Some}
use Rattle.rising_numbers.specs.ByNumber.{by_number, put_by_number}
use Rattle.field_values.specs.declared.numbers.FieldNo.{FieldNo}
use Rattle.field_values.specs.declared.numbers.GroupNo.{GroupNo}
use Rattle.field_values.specs.declared.numbers.IssueNo.{IssueNo}
use Rattle.field_values.specs.declared.numbers.SprintNo.{SprintNo}
use Rattle.field_values.specs.declared.numbers.UserNo.{UserNo}
use Rattle.field_values.specs.declared.value.Value.{Value}
use Rattle.field_values.specs.GroupMembers.{with_members}
use Rattle.change_history.specs.declared.entry.Entry.{Entry}
use Rattle.change_history.specs.declared.entry.Group.{Group}
use Rattle.change_history.specs.History.{History, present, AreGroupEntries}
use Rattle.external_ids.specs.declared.external_id.ExternalId.{ExternalId}
use Rattle.external_ids.specs.Ids.{external_number}
use Rattle.rank_strings.specs.Rank.{RankParts}
use Rattle.rank_balancer.specs.Step.{after_move}
use Rattle.board.specs.declared.board.Board.{Board}
use Rattle.sprints.specs.declared.sprint.Sprint.{Sprint}
use Rattle.tracker_keeper.specs.declared.part.Format.{Format}
use Rattle.tracker_keeper.specs.declared.part.Part.{Part}
use Rattle.tracker_machine.specs.Machine.{Machine}
use Rattle.tracker_machine.specs.Chronicle.{HasEntry}
use Rattle.tracker_machine.specs.Saved.{SavedFilter, filter_number, board_number}
use Rattle.tracker_machine.specs.Effect.{longer, grown, with_new_rank, with_filter, with_board, with_group_members}
use Rattle.tracker_machine.specs.Tracker.{RunsFrom}
use Rattle.tracker_machine.specs.Kept.{Kind, kind_of, part_in, issue_part, group_part, rank_part, external_part, sprint_part, filter_part, board_part, members_part, issue_numbered, entries_of_change, issue_group, group_numbered, rank_numbered, sprint_numbered}
use Rattle.tracker_machine.proofs.Kept.{AreOf, HasNone, issue_found, group_found}
use Rattle.tracker_machine.proofs.Puts.{with_part, part_set, issue_kind, group_kind}
use Rattle.tracker_machine.proofs.RankRows.{rank_moved}
use Rattle.tracker_machine.proofs.SavedRows.{part_put}
use Rattle.tracker_machine.proofs.SprintRows.{sprint_added}
use Rattle.tracker_rows.proofs.Told.{members_to, told_kinds, told_at, first_kinds, kinds_behind, members_told}

-- ---- an issue

no_group_more : (hs : List History) (h : History) (n : ℕ) → h.entries ≡ [] → group_numbered (hs ++ h ∷ []) n ≡ group_numbered hs n
no_group_more [] h n none = rw none refl
no_group_more (g ∷ gs) h n none = ap (option_or (issue_group n g)) (no_group_more gs h n none)

pub issue_joined : (format : Format) (told : ℕ) (m : Machine) (h : History) (k n : ℕ) → RunsFrom 1 (map (λ h. h.no.0) m.histories) → h.no.0 ≡ length m.histories + 1 → h.entries ≡ []
    → told_at format told (record m { histories = m.histories ++ h ∷ [] }) k n ≡ with_part (issue_part h) (told_at format told m) k n
unfolding told_at
issue_joined format told m h k n numbers next none =
    let kinds : List Kind = told_kinds format told m in
    let later : List History = m.histories ++ h ∷ [] in
    ap (λ (o : Option Part). part_in (first_kinds 2 kinds ++ issue_kind later ∷ kind_of 4 (λ i. o) ∷ kinds_behind 4 kinds) k n)
    (no_group_more m.histories h n none)
    ∙ part_set (first_kinds 2 kinds) (kinds_behind 3 kinds) 3 h.no.0
    (λ i. option_map issue_part (issue_numbered m.histories i)) (λ i. option_map issue_part (issue_numbered later i)) (Some (issue_part h)) k n refl
    (issue_found m.histories h n numbers next)

-- ---- a group

issue_stays : (hs : List History) (place : ℕ) (h : History) (es : List Entry) (n : ℕ) → slice_get hs place ≡ Some h
    → option_map issue_part (issue_numbered (set hs place (longer h es)) n) ≡ option_map issue_part (issue_numbered hs n)
issue_stays [] place h es n at = refl
issue_stays (g ∷ gs) zero h es n at = subst (λ (i : History). option_map issue_part (issue_numbered (longer i es ∷ gs) n) ≡ option_map issue_part (issue_numbered (g ∷ gs) n)) (same_Some g h at)
    (elim (cases_Bool (g.no.0 == n)) [ inl is ↦ rw is refl | inr no? ↦ rw no? refl ])
issue_stays (g ∷ gs) (suc place) h es n at = elim (cases_Bool (g.no.0 == n)) [ inl is ↦ rw is refl | inr no? ↦ rw no? (issue_stays gs place h es n at) ]

-- where no entry is of a change, none is found
pub none_of_change : (n : ℕ) (es : List Entry) → ((at : ℕ) → HasEntry es n at → ⊥) → entries_of_change n es ≡ []
none_of_change n [] none = refl
none_of_change n (e ∷ es) none = elim (cases_Bool (e.change == n)) [
  | inl same ↦ absurd (none e.at (inl (eqb-true e.change n same, refl)))
  | inr other ↦ rw other (none_of_change n es (λ at has. none at (inr has)))
]

none_other : (values : FieldNo → Value) (low change at : ℕ) (author : UserNo) (es : List Entry) (n : ℕ) → (change == n) ≡ false → AreGroupEntries values low change at author es
    → entries_of_change n es ≡ []
none_other values low change at author [] n other group = refl
none_other values low change at author (e ∷ es) n other group =
    rw (ap (λ k. k == n) group.1 ∙ other) (none_other values (e.field.0 + 1) change at author es n other group.6)

groups_stay : (h : History) (g : Group) (n : ℕ) → (g.change == n) ≡ false → AreOf h g → issue_group n (longer h g.entries) ≡ issue_group n h
groups_stay h g n other may =
    rw (filter-append (λ (e : Entry). e.change == n) h.entries g.entries, none_other (present h) 0 g.change g.at g.author g.entries n other may.group, append-nil (entries_of_change n h.entries)) refl

others_found : (hs : List History) (place : ℕ) (h : History) (g : Group) (n : ℕ) → slice_get hs place ≡ Some h → (g.change == n) ≡ false → AreOf h g
    → group_numbered (set hs place (longer h g.entries)) n ≡ group_numbered hs n
others_found [] place h g n at other may = refl
others_found (x ∷ xs) zero h g n at other may =
    ap (λ o. option_or o (group_numbered xs n)) (groups_stay h g n other may ∙ ap (λ (i : History). issue_group n i) (sym (same_Some x h at)))
others_found (x ∷ xs) (suc place) h g n at other may = ap (option_or (issue_group n x)) (others_found xs place h g n at other may)

groups_found : (hs : List History) (place : ℕ) (h : History) (g : Group) (n : ℕ) → slice_get hs place ≡ Some h → HasNone g.change hs → AreOf h g
    → group_numbered (set hs place (longer h g.entries)) n ≡ (if g.change == n then Some (group_part h g) else group_numbered hs n)
groups_found hs place h g n at none may = elim (cases_Bool (g.change == n)) [
  | inl same ↦ rw same (subst (λ k. group_numbered (set hs place (longer h g.entries)) k ≡ Some (group_part h g)) (eqb-true g.change n same) (group_found hs place h g at none may))
  | inr other ↦ rw other (others_found hs place h g n at other may)
]

pub group_joined : (format : Format) (told : ℕ) (m : Machine) (place : ℕ) (h : History) (g : Group) (k n : ℕ) → slice_get m.histories place ≡ Some h → HasNone g.change m.histories → AreOf h g
    → told_at format told (record m { histories = grown m.histories place g.entries }) k n ≡ with_part (group_part h g) (told_at format told m) k n
unfolding told_at
group_joined format told m place h g k n at none may =
    let kinds : List Kind = told_kinds format told m in
    let later : List History = set m.histories place (longer h g.entries) in
    rw at
    (ap (λ (o : Option Part). part_in (first_kinds 2 kinds ++ kind_of 3 (λ i. o) ∷ group_kind later ∷ kinds_behind 4 kinds) k n)
    (issue_stays m.histories place h g.entries n at)
    ∙ part_set (first_kinds 3 kinds) (kinds_behind 4 kinds) 4 g.change
    (group_numbered m.histories) (group_numbered later) (Some (group_part h g)) k n refl (groups_found m.histories place h g n at none may))

-- ---- each other part

module _ (format : Format) (told : ℕ) (m : Machine) where
  abbrev kinds : List Kind
  kinds = told_kinds format told m

  pub rank_joined : (issue : IssueNo) (rank : RankParts) (k n : ℕ) → told_at format told (with_new_rank m issue rank) k n
      ≡ with_part (rank_part issue rank) (told_at format told m) k n
  unfolding told_at
  rank_joined issue rank k n =
      part_set (first_kinds 4 kinds) (kinds_behind 5 kinds) 5 issue.0 (rank_numbered m.order) (rank_numbered (after_move m.order (issue, rank)))
      (Some (rank_part issue rank)) k n refl (rank_moved m.order issue rank n)

  abbrev ids : List ExternalId → ℕ → Option Part
  ids externals n = option_map external_part (by_number external_number n externals)

  pub external_joined : (e : ExternalId) (k n : ℕ) → told_at format told (record m { externals = put_by_number external_number e m.externals }) k n
      ≡ with_part (external_part e) (told_at format told m) k n
  unfolding told_at
  external_joined e k n =
      part_set (first_kinds 5 kinds) (kinds_behind 6 kinds) 6 e.no.0 (ids m.externals) (ids (put_by_number external_number e m.externals))
      (Some (external_part e)) k n refl (part_put external_number external_part e m.externals n)

  pub sprint_joined : (sprint_no : SprintNo) (s : Sprint) (k n : ℕ) → sprint_no.0 ≡ length m.sprints + 1
      → told_at format told (record m { sprints = m.sprints ++ s ∷ [] }) k n ≡ with_part (sprint_part sprint_no s) (told_at format told m) k n
  unfolding told_at
  sprint_joined sprint_no s k n next =
      let number : SprintNo = record { 0 = length m.sprints + 1 } in
      let before : List Kind = first_kinds 6 kinds in
      let after : List Kind = kinds_behind 7 kinds in
      subst (λ j. part_in (before ++ kind_of 7 (sprint_numbered (m.sprints ++ s ∷ [])) ∷ after) k n
      ≡ with_part (sprint_part (record { 0 = j }) s) (part_in (before ++ kind_of 7 (sprint_numbered m.sprints) ∷ after)) k n) (sym next)
      (part_set before after 7 number.0 (sprint_numbered m.sprints) (sprint_numbered (m.sprints ++ s ∷ [])) (Some (sprint_part number s)) k n refl
      (sprint_added m.sprints s n))

  abbrev filter_parts : List SavedFilter → ℕ → Option Part
  filter_parts filters n = option_map filter_part (by_number filter_number n filters)

  pub filter_joined : (f : SavedFilter) (k n : ℕ) → told_at format told (with_filter m f) k n ≡ with_part (filter_part f) (told_at format told m) k n
  unfolding told_at
  filter_joined f k n =
      part_set (first_kinds 7 kinds) (kinds_behind 8 kinds) 8 f.no.0 (filter_parts m.filters) (filter_parts (put_by_number filter_number f m.filters))
      (Some (filter_part f)) k n refl (part_put filter_number filter_part f m.filters n)

  abbrev board_parts : List Board → ℕ → Option Part
  board_parts boards n = option_map board_part (by_number board_number n boards)

  pub board_joined : (b : Board) (k n : ℕ) → told_at format told (with_board m b) k n ≡ with_part (board_part b) (told_at format told m) k n
  unfolding told_at
  board_joined b k n =
      part_set (first_kinds 8 kinds) (kinds_behind 9 kinds) 9 b.no.0 (board_parts m.boards) (board_parts (put_by_number board_number b m.boards))
      (Some (board_part b)) k n refl (part_put board_number board_part b m.boards n)

  -- the next group
  pub members_joined : (group : GroupNo) (members : List UserNo) (k n : ℕ) → group.0 ≡ told + 1 → group.0 ≤ length m.setup.group
      → told_at format (told + 1) (with_group_members m group members) k n ≡ with_part (members_part group members) (told_at format told m) k n
  unfolding told_at
  members_joined group members k n next there =
      part_set (first_kinds 9 kinds) [] 10 group.0 (members_to told m.setup.group) (members_to (told + 1) (with_members m.setup.group (group.0 - 1) members))
      (Some (members_part group members)) k n refl (members_told m.setup.group told group members n next there)
