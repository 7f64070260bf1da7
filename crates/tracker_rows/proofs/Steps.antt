-- What holds of a tracker in the making holds as one more row is read, and its parts are those before it with that one.
use Rattle.std.proofs.Common.{◌≡◌, ℕ, ◌+◌, ◌-◌, ◌<◌, ◌≤◌, inl, inr, List, [], ◌∷◌, ◌++◌, length, slice_get, map, Option, Some, None, IfSome, refl, sym, ap, ◌∙◌, subst, arith}
use Rattle.std.specs.Prelude.{slice_set}
use Rattle.std.specs.List.{All}
use Rattle.std.specs.Option.{option_map_or}
use Rattle.std.proofs.lemmas.List.{length-append, length-set, length-map}
use Rattle.std.proofs.lemmas.List.Elements.{All-push, All-weaker}
use Rattle.std.proofs.lemmas.Option.{none-some}
use Rattle.rising_numbers.specs.ByNumber.{by_number}
use Rattle.field_values.specs.declared.numbers.FieldNo.{FieldNo}
use Rattle.field_values.specs.declared.numbers.GroupNo.{GroupNo}
use Rattle.field_values.specs.declared.numbers.IssueNo.{IssueNo}
use Rattle.field_values.specs.declared.numbers.SprintNo.{SprintNo}
use Rattle.field_values.specs.declared.numbers.UserNo.{UserNo}
use Rattle.field_values.specs.declared.value.Value.{Value}
use Rattle.field_values.specs.declared.parts.Group.{Group as UserGroup}
use Rattle.field_values.specs.GroupMembers.{with_members}
use Rattle.field_values.proofs.Members.{same_length}
use Rattle.fields.specs.SetupParts.{names_in}
use Rattle.external_ids.specs.declared.external_id.ExternalId.{ExternalId}
use Rattle.external_ids.specs.Ids.{external_number}
use Rattle.change_history.specs.declared.change.Change.{Change}
use Rattle.change_history.specs.declared.entry.Entry.{Entry}
use Rattle.change_history.specs.declared.entry.Group.{Group}
use Rattle.change_history.specs.History.{History, present, AreGroupEntries}
use Rattle.rank_strings.specs.Rank.{RankParts, IsRank}
use Rattle.board.specs.declared.board.Board.{Board}
use Rattle.sprints.specs.declared.sprint.Sprint.{Sprint}
use Rattle.tracker_keeper.specs.declared.row.Row.{Row}
use Rattle.tracker_keeper.specs.declared.part.Format.{Format}
use Rattle.tracker_keeper.specs.declared.part.Format.TheVariants.{First, Second}
use Rattle.tracker_keeper.specs.declared.part.Part.{Part}
use Rattle.tracker_keeper.specs.declared.part.Part.TheVariants as part
use Rattle.tracker_keeper.specs.Forms.{IsNumber, IsIssuePart, IsGroupPart, IsExternalPart, IsSprintPart, IsFilterPart, IsBoardPart, IsMembersPart}
use Rattle.tracker_keeper.specs.Parts.{part_kind, part_number}
use Rattle.tracker_keeper.specs.Kept.{IsPart}
use Rattle.tracker_machine.specs.Machine.{Machine}
use Rattle.tracker_machine.specs.Chronicle.{HasEntry}
use Rattle.tracker_machine.specs.Known.{project_keys}
use Rattle.tracker_machine.specs.Effect.{longer, grown, with_external, with_new_rank, with_filter, with_board, with_group_members}
use Rattle.tracker_machine.specs.Saved.{SavedFilter, board_number, MaySave, MayMake}
use Rattle.tracker_machine.specs.SprintRules.{IsSprint}
use Rattle.tracker_machine.proofs.Keepable.{number_at}
use Rattle.tracker_machine.proofs.Puts as puts
use Rattle.tracker_machine.proofs.Regrouped.{saved_regrouped}
use Rattle.tracker_machine.proofs.Saved.{all_put, filter_saved, board_made}
use Rattle.tracker_rows.specs.Listed.{OpenInRows, ChangeInRows, HasSprintsOf}
use Rattle.tracker_rows.specs.Gathered.{opened, joined, told_with, due}
use Rattle.tracker_rows.specs.Gathered.Gathered.{Stands}
use Rattle.tracker_rows.specs.Rules.{MayBeIssue, MayBeGroupOf, MayBeRank, MayBeExternal, MayBeSprint, MayBeFilter, MayBeBoard, MayJoin}
use Rattle.tracker_rows.proofs.Told.{told_at}
use Rattle.tracker_rows.proofs.Externals.{externals_more, external_read}
use Rattle.tracker_rows.proofs.Fits.{user_of}
use Rattle.tracker_rows.proofs.Issues.{IsLater, issue_read, group_read, may_add, issues_regrouped}
use Rattle.tracker_rows.proofs.Ranks.{length-ranked, rank_read}
use Rattle.tracker_rows.proofs.Making.{IsUpTo, IsBefore, up_to_later, less_of_kind, IsInMaking, next_rank, next_members, groups_pushed, groups_put, boards_put}
use Rattle.tracker_rows.proofs.Parts.{issue_joined, none_of_change, group_joined, rank_joined, external_joined, sprint_joined, filter_joined, board_joined, members_joined}

-- all of it is up to any place behind
pub making_later : (rows : List Row) (format : Format) (told : ℕ) (m : Machine) (changes kind number k n : ℕ) → IsInMaking rows format told m changes kind number → IsBefore kind number k n
    → IsInMaking rows format told m changes k n
making_later rows format told m changes kind number k n is before = record {
  counted = is.counted;
  timely = is.timely;
  issues = is.issues;
  ranked = is.ranked;
  few_ranks = is.few_ranks;
  last_rank = λ some. up_to_later 5 (length m.order) kind number k n (is.last_rank some) before;
  groups = λ place h c a there has. up_to_later 4 c kind number k n (is.groups place h c a there has) before;
  externals = is.externals;
  last_external = All-weaker (λ e. IsUpTo 6 e.no.0 kind number) (λ e. IsUpTo 6 e.no.0 k n) (λ e up. up_to_later 6 e.no.0 kind number k n up before) m.externals
      is.last_external;
  few_sprints = is.few_sprints;
  sprints = is.sprints;
  saved = is.saved;
  boards = λ b there. up_to_later 9 b kind number k n (is.boards b there) before;
  few_told = is.few_told;
  last_told = λ some. up_to_later 10 told kind number k n (is.last_told some) before;
  first = is.first;
}

-- ---- each part

-- a creation and a group are a change more
abbrev pub changes_by : Part → ℕ
changes_by (part.Issue issue key change at author values) = 1
changes_by (part.Group issue group) = 1
changes_by _ = 0

more_none : (rows : List Row) (format : Format) (told : ℕ) (m : Machine) (changes k j : ℕ) → IsInMaking rows format told m changes k j → IsInMaking rows format told m (changes + 0) k j
more_none rows format told m changes k j made = subst (λ c. IsInMaking rows format told m c k j) (omega arith) made

module _ (rows : List Row) (format : Format) (told : ℕ) (m : Machine) (changes kind number : ℕ) (is : IsInMaking rows format told m changes kind number) where
  -- ---- an issue

  issue_step : (issue : IssueNo) (key : List ℕ) (change at : ℕ) (author : UserNo) (values : List Change) → MayBeIssue m (opened issue key change at author values)
      → IsIssuePart (names_in m.setup) (project_keys m.setup) issue.0 key change at author values → OpenInRows rows values → IsBefore kind number 3 issue.0
      → IsInMaking rows format told (record m { histories = m.histories ++ opened issue key change at author values ∷ [] }) (changes + 1) 3 issue.0
  issue_step issue key change at author values may form named before =
      let now = making_later rows format told m changes kind number 3 issue.0 is before in
      let more = length-append m.histories (opened issue key change at author values ∷ []) in
      record {
        counted = is.counted;
        timely = is.timely;
        issues = issue_read rows m changes issue key change at author values is.issues may form named;
        ranked = is.ranked;
        few_ranks = omega (arith, more, is.few_ranks);
        last_rank = now.last_rank;
        groups = groups_pushed m.histories (opened issue key change at author values) 3 issue.0 refl now.groups;
        externals = externals_more (length m.histories) (length (m.histories ++ opened issue key change at author values ∷ [])) m.externals (omega (arith, more)) is.externals;
        last_external = now.last_external;
        few_sprints = is.few_sprints;
        sprints = is.sprints;
        saved = is.saved;
        boards = now.boards;
        few_told = is.few_told;
        last_told = now.last_told;
        first = is.first;
      }

  -- ---- a group

  own_entries : (values : FieldNo → Value) (low change at : ℕ) (author : UserNo) (es : List Entry) (n a : ℕ) → AreGroupEntries values low change at author es
      → HasEntry es n a → n ≡ change
  own_entries values low change at author [] n a group has = absurd has
  own_entries values low change at author (e ∷ es) n a group (inl here) = sym here.0 ∙ group.1
  own_entries values low change at author (e ∷ es) n a group (inr behind) = own_entries values (e.field.0 + 1) change at author es n a group.6 behind

  is_later : (issue : IssueNo) (g : Group) → (may : MayBeGroupOf m issue g) → IsBefore kind number 4 g.change → IsLater g.change may.history
  is_later issue g may before n a has = less_of_kind 4 n kind number g.change (is.groups (issue.0 - 1) may.history n a may.there has) before

  -- the issue of a number stands at the place before it
  own_number : (issue : IssueNo) (g : Group) → (may : MayBeGroupOf m issue g) → 1 ≤ issue.0 → may.history.no.0 ≡ issue.0
  own_number issue g may positive =
      let found = number_at 1 m.histories (issue.0 - 1) may.history is.issues.numbers may.there in omega (arith, found.0, positive)

  length-grown : (hs : List History) (place : ℕ) (h : History) (es : List Entry) → slice_get hs place ≡ Some h → length (grown hs place es) ≡ length hs
  length-grown hs place h es there = rw there (length-set hs place (longer h es))

  group_step : (issue : IssueNo) (g : Group) → MayBeGroupOf m issue g → IsGroupPart (names_in m.setup) issue.0 g.change g.at g.author g.entries
      → ChangeInRows rows g.entries → IsBefore kind number 4 g.change
      → IsInMaking rows format told (record m { histories = grown m.histories (issue.0 - 1) g.entries }) (changes + 1) 4 g.change
  group_step issue g may form named before =
      let now = making_later rows format told m changes kind number 4 g.change is before in
      let h : History = may.history in
      let same : length (grown m.histories (issue.0 - 1) g.entries) ≡ length m.histories = length-grown m.histories (issue.0 - 1) h g.entries may.there in
      record {
        counted = is.counted;
        timely = is.timely;
        issues = group_read rows m changes issue g is.issues may form named (is_later issue g may before);
        ranked = is.ranked;
        few_ranks = omega (arith, same, is.few_ranks);
        last_rank = now.last_rank;
        groups = subst (λ o. (place : ℕ) (i : History) (n a : ℕ) → slice_get (option_map_or (λ x. slice_set m.histories (issue.0 - 1) (longer x g.entries)) o m.histories) place ≡ Some i
            → HasEntry i.entries n a → IsUpTo 4 n 4 g.change) (sym may.there)
            (groups_put m.histories (issue.0 - 1) h g.entries g.change 4 g.change may.there (λ n a has. own_entries (present h) 0 g.change g.at g.author g.entries n a may.group.entries has) (inr (refl, omega arith)) now.groups);
        externals = externals_more (length m.histories) (length (grown m.histories (issue.0 - 1) g.entries)) m.externals (omega (arith, same)) is.externals;
        last_external = now.last_external;
        few_sprints = is.few_sprints;
        sprints = is.sprints;
        saved = is.saved;
        boards = now.boards;
        few_told = is.few_told;
        last_told = now.last_told;
        first = is.first;
      }

  -- ---- a rank

  rank_step : (issue : IssueNo) (rank : RankParts) → MayBeRank m issue rank → IsNumber issue.0 → IsRank rank → IsBefore kind number 5 issue.0
      → IfSome (due (Stands format told m)) (λ wanted. ¬ IsBefore wanted.0 wanted.1 5 issue.0) → IsInMaking rows format told (with_new_rank m issue rank) changes 5 issue.0
  rank_step issue rank may positive form before timely =
      let now = making_later rows format told m changes kind number 5 issue.0 is before in
      let next : issue.0 ≡ length m.order + 1 = next_rank format told m issue.0 kind number positive.0 may.there is.last_rank before timely in
      let longer = length-ranked m.order m.balance issue rank is.ranked next in
      record {
        counted = is.counted;
        timely = is.timely;
        issues = is.issues;
        ranked = rank_read m.order m.balance issue rank is.ranked next form may.free may.allowed;
        few_ranks = omega (arith, longer, next, may.there);
        last_rank = λ some. inr (refl, omega (arith, longer, next));
        groups = now.groups;
        externals = is.externals;
        last_external = now.last_external;
        few_sprints = is.few_sprints;
        sprints = is.sprints;
        saved = is.saved;
        boards = now.boards;
        few_told = is.few_told;
        last_told = now.last_told;
        first = is.first;
      }

  -- ---- an external id

  external_step : (issue : IssueNo) (external : List ℕ) → MayBeExternal m issue external → IsExternalPart issue.0 external → IsBefore kind number 6 issue.0
      → IsInMaking rows format told (record m { externals = with_external m.externals issue (Some external) }) changes 6 issue.0
  external_step issue external may form before =
      let now = making_later rows format told m changes kind number 6 issue.0 is before in
      let new : ExternalId = record { no = issue; id = external } in
      let behind : All (λ e. e.no.0 < issue.0) m.externals =
      All-weaker (λ e. IsUpTo 6 e.no.0 kind number) (λ e. e.no.0 < issue.0) (λ e up. less_of_kind 6 e.no.0 kind number issue.0 up before) m.externals is.last_external in
      record {
        counted = is.counted;
        timely = is.timely;
        issues = is.issues;
        ranked = is.ranked;
        few_ranks = is.few_ranks;
        last_rank = now.last_rank;
        groups = now.groups;
        externals = external_read (length m.histories) m.externals new is.externals behind may.there may.alone form;
        last_external = all_put external_number (λ e. IsUpTo 6 e.no.0 6 issue.0) new m.externals (inr (refl, omega arith)) now.last_external;
        few_sprints = is.few_sprints;
        sprints = is.sprints;
        saved = is.saved;
        boards = now.boards;
        few_told = is.few_told;
        last_told = now.last_told;
        first = is.first;
      }

  -- ---- a sprint

  sprint_step : (sprint_no : SprintNo) (s : Sprint) → MayBeSprint m sprint_no.0 s → IsSprintPart sprint_no.0 s.name s.state → IsBefore kind number 7 sprint_no.0
      → IsInMaking rows format told (record m { sprints = m.sprints ++ s ∷ [] }) changes 7 sprint_no.0
  sprint_step sprint_no s may form before =
      let now = making_later rows format told m changes kind number 7 sprint_no.0 is before in
      record {
        counted = is.counted;
        timely = is.timely;
        issues = is.issues;
        ranked = is.ranked;
        few_ranks = is.few_ranks;
        last_rank = now.last_rank;
        groups = now.groups;
        externals = is.externals;
        last_external = now.last_external;
        few_sprints = omega (arith, length-append m.sprints (s ∷ []), may.few);
        sprints = All-push (IsSprint m.moment m.change) m.sprints s is.sprints (record { named = form.named; timely = may.timely });
        saved = is.saved;
        boards = now.boards;
        few_told = is.few_told;
        last_told = now.last_told;
        first = is.first;
      }

  -- ---- a filter

  filter_may : (f : SavedFilter) → MayBeFilter m f → IsFilterPart m.setup.users f.no.0 f.owner f.name → MaySave m.setup m.filters f
  filter_may f may form = record {
    positive = form.numbered.0;
    filter = record { small = form.numbered.1; owned = user_of (length m.setup.users) f.owner form.owned; named = form.named; query = may.query; asks = may.asks };
    alone = subst (λ o. IfSome o (λ g. g.no.0 ≡ f.no.0)) (sym may.alone) tt;
    few = λ none. may.few;
  }

  filter_step : (f : SavedFilter) → MayBeFilter m f → IsFilterPart m.setup.users f.no.0 f.owner f.name → IsBefore kind number 8 f.no.0
      → IsInMaking rows format told (with_filter m f) changes 8 f.no.0
  filter_step f may form before =
      let now = making_later rows format told m changes kind number 8 f.no.0 is before in
      record {
        counted = is.counted;
        timely = is.timely;
        issues = is.issues;
        ranked = is.ranked;
        few_ranks = is.few_ranks;
        last_rank = now.last_rank;
        groups = now.groups;
        externals = is.externals;
        last_external = now.last_external;
        few_sprints = is.few_sprints;
        sprints = is.sprints;
        saved = filter_saved m.setup m.filters m.boards is.saved f (filter_may f may form);
        boards = now.boards;
        few_told = is.few_told;
        last_told = now.last_told;
        first = is.first;
      }

  -- ---- a board

  board_free : (b : Board) → IsBefore kind number 9 b.no.0 → by_number board_number b.no.0 m.boards ≡ None
  board_free b before = by (by_number board_number b.no.0 m.boards) refl
    where
      by : (o : Option Board) → by_number board_number b.no.0 m.boards ≡ o → by_number board_number b.no.0 m.boards ≡ None
      by None found = found
      by (Some x) found =
          let less = less_of_kind 9 b.no.0 kind number b.no.0 (is.boards b.no.0 (λ none. none-some x (sym none ∙ found))) before in
          absurd (omega (arith, less))

  board_step : (b : Board) → MayBeBoard m b → IsBoardPart b.no.0 b.name b.filter.0 → IsBefore kind number 9 b.no.0
      → IsInMaking rows format told (with_board m b) changes 9 b.no.0
  board_step b may form before =
      let now = making_later rows format told m changes kind number 9 b.no.0 is before in
      let make : MayMake m.filters m.boards b = record {
        positive = form.numbered.0;
        board = record { small = form.numbered.1; named = form.named; there = may.there };
        free = board_free b before;
        few = may.few;
      } in
      record {
        counted = is.counted;
        timely = is.timely;
        issues = is.issues;
        ranked = is.ranked;
        few_ranks = is.few_ranks;
        last_rank = now.last_rank;
        groups = now.groups;
        externals = is.externals;
        last_external = now.last_external;
        few_sprints = is.few_sprints;
        sprints = is.sprints;
        saved = board_made m.setup m.filters m.boards is.saved b make;
        boards = boards_put b m.boards 9 b.no.0 (inr (refl, omega arith)) now.boards;
        few_told = is.few_told;
        last_told = now.last_told;
        first = is.first;
      }

  -- ---- the members of a group

  group_there : (group : GroupNo) (members : List UserNo) → IsMembersPart m.setup.users (map (λ g. g.name) m.setup.group) group.0 members
      → group.0 ≤ length m.setup.group
  group_there group members form = omega (arith, form.there, length-map m.setup.group (λ (g : UserGroup). g.name))

  next_group : (group : GroupNo) (members : List UserNo) → format ≡ Second → IsMembersPart m.setup.users (map (λ g. g.name) m.setup.group) group.0 members
      → IsBefore kind number 10 group.0 → IfSome (due (Stands format told m)) (λ wanted. ¬ IsBefore wanted.0 wanted.1 10 group.0) → group.0 ≡ told + 1
  next_group group members may form before timely =
      next_members told m group.0 kind number form.from_one (group_there group members form) is.last_told before
      (subst (λ f. IfSome (due (Stands f told m)) (λ wanted. ¬ IsBefore wanted.0 wanted.1 10 group.0)) may timely)

  members_step : (group : GroupNo) (members : List UserNo) → format ≡ Second → IsMembersPart m.setup.users (map (λ g. g.name) m.setup.group) group.0 members
      → IsBefore kind number 10 group.0 → IfSome (due (Stands format told m)) (λ wanted. ¬ IsBefore wanted.0 wanted.1 10 group.0)
      → IsInMaking rows format (told + 1) (with_group_members m group members) changes 10 group.0
  members_step group members may form before timely =
      let now = making_later rows format told m changes kind number 10 group.0 is before in
      let next : group.0 ≡ told + 1 = next_group group members may form before timely in
      let there : group.0 ≤ length m.setup.group = group_there group members form in
      let same : length (with_members m.setup.group (group.0 - 1) members) ≡ length m.setup.group = same_length m.setup.group (group.0 - 1) members in
      record {
        counted = is.counted;
        timely = is.timely;
        issues = issues_regrouped rows m changes group members is.issues;
        ranked = is.ranked;
        few_ranks = is.few_ranks;
        last_rank = now.last_rank;
        groups = now.groups;
        externals = is.externals;
        last_external = now.last_external;
        few_sprints = is.few_sprints;
        sprints = is.sprints;
        saved = saved_regrouped m.setup group members m.filters m.boards is.saved;
        boards = now.boards;
        few_told = omega (arith, same, there, next);
        last_told = λ some. inr (refl, omega (arith, next));
        first = λ one. absurd (differ (sym one ∙ may));
      }
    where
      differ : First ≡ Second → ⊥
      differ one = cc

  -- ---- each part

  abbrev IsTimelyAt : ℕ → ℕ → Type 0
  IsTimelyAt k n = IfSome (due (Stands format told m)) (λ wanted. ¬ IsBefore wanted.0 wanted.1 k n)

  pub step : (p : Part) → MayJoin format m p → IsPart m.setup p → HasSprintsOf rows p → IsBefore kind number (part_kind p) (part_number p)
      → IsTimelyAt (part_kind p) (part_number p) → IsInMaking rows format (told_with told p) (joined m p) (changes + changes_by p) (part_kind p) (part_number p)
  unfolding MayJoin IsPart joined
  step (part.Setup text) may form named before timely = absurd may
  step (part.Present balance change format moment) may form named before timely = absurd may
  step (part.Issue issue key change at author values) may form named before timely = issue_step issue key change at author values may form named before
  step (part.Group issue group) may form named before timely = group_step issue group may form named before
  step (part.Rank issue rank) may form named before timely = more_none rows format told (with_new_rank m issue rank) changes 5 issue.0 (rank_step issue rank may form.0 form.1 before timely)
  step (part.External issue external) may form named before timely =
      more_none rows format told (record m { externals = with_external m.externals issue (Some external) }) changes 6 issue.0 (external_step issue external may form before)
  step (part.Sprint sprint_no sprint) may form named before timely = more_none rows format told (record m { sprints = m.sprints ++ sprint ∷ [] }) changes 7 sprint_no.0 (sprint_step sprint_no sprint may form before)
  step (part.Filter filter_no owner name jql) may form named before timely =
      more_none rows format told (with_filter m (record { no = filter_no; owner = owner; name = name; text = jql })) changes 8 filter_no.0 (filter_step (record { no = filter_no; owner = owner; name = name; text = jql }) may form before)
  step (part.Board board_no name filter) may form named before timely =
      more_none rows format told (with_board m (record { no = board_no; name = name; filter = filter })) changes 9 board_no.0 (board_step (record { no = board_no; name = name; filter = filter }) may form before)
  step (part.Members group members) may form named before timely =
      more_none rows format (told + 1) (with_group_members m group members) changes 10 group.0 (members_step group members may form before timely)

  pub parts_step : (p : Part) → MayJoin format m p → IsPart m.setup p → IsBefore kind number (part_kind p) (part_number p)
      → IsTimelyAt (part_kind p) (part_number p) → (k n : ℕ) → told_at format (told_with told p) (joined m p) k n ≡ puts.with_part p (told_at format told m) k n
  unfolding MayJoin IsPart joined
  parts_step (part.Setup text) may form before timely k n = absurd may
  parts_step (part.Present balance change format moment) may form before timely k n = absurd may
  parts_step (part.Issue issue key change at author values) may form before timely k n =
      issue_joined format told m (opened issue key change at author values) k n is.issues.numbers may.no refl
  parts_step (part.Group issue group) may form before timely k n =
      group_joined format told m (issue.0 - 1) may.history group k n may.there
      (λ place h there. none_of_change group.change h.entries (λ at has. may.group.turn.once place group.change at (h, there, inr has) refl))
      (may_add m (issue.0 - 1) may.history group may.there may.group (is_later issue group may before))
      ∙ ap (λ (j : ℕ). let i : IssueNo = record { 0 = j } in puts.with_part (part.Group i group) (told_at format told m) k n) (own_number issue group may form.numbered.0)
  parts_step (part.Rank issue rank) may form before timely k n = rank_joined format told m issue rank k n
  parts_step (part.External issue external) may form before timely k n = external_joined format told m (record { no = issue; id = external }) k n
  parts_step (part.Sprint sprint_no sprint) may form before timely k n = sprint_joined format told m sprint_no sprint k n may.no
  parts_step (part.Filter filter_no owner name jql) may form before timely k n = filter_joined format told m (record { no = filter_no; owner = owner; name = name; text = jql }) k n
  parts_step (part.Board board_no name filter) may form before timely k n = board_joined format told m (record { no = board_no; name = name; filter = filter }) k n
  parts_step (part.Members group members) may form before timely k n =
      members_joined format told m group members k n (next_group group members may form before timely) (group_there group members form)
