-- Each part of a tracker joins what stands before it, by its kind.
use Rattle.std.proofs.Common.{◌≡◌, ℕ, zero, suc, ◌+◌, ◌-◌, ◌<◌, ◌≤◌, ◌==◌, ◌⊎◌, inl, inr, nat_lt, Bool, true, false, List, [], ◌∷◌, ◌++◌, length, filter, slice_get, Option, Some, None, option_map, refl, sym, ap, ◌∙◌, subst, arith, eq-eqb, ne_eqb, leb-true}
use Rattle.std.specs.Prelude.{if◌then◌else◌, nat_le}
use Rattle.std.specs.Option.{option_or}
use Rattle.std.proofs.lemmas.Bool.{cases_eq, cases_lt, and_parts}
use Rattle.std.proofs.lemmas.Bool.Decides.{nat_tests}
use Rattle.std.proofs.lemmas.List.{length-append, length-set}
use Rattle.std.proofs.lemmas.Option.{none-some, same_Some}
use Rattle.rising_numbers.specs.ByNumber.{by_number}
use Rattle.rising_numbers.proofs.Placed.{found_at}
use Rattle.field_values.specs.declared.numbers.FieldNo.{FieldNo}
use Rattle.field_values.specs.declared.numbers.GroupNo.{GroupNo}
use Rattle.field_values.specs.declared.numbers.IssueNo.{IssueNo}
use Rattle.field_values.specs.declared.numbers.SprintNo.{SprintNo}
use Rattle.field_values.specs.declared.parts.Group.{Group as UserGroup}
use Rattle.field_values.specs.declared.value.Value.{Value}
use Rattle.field_values.specs.declared.value.Value.TheVariants as value
use Rattle.field_values.specs.Parts.{Parts}
use Rattle.change_history.specs.declared.change.Change.{Change}
use Rattle.change_history.specs.declared.entry.Entry.{Entry}
use Rattle.change_history.specs.declared.entry.Group.{Group}
use Rattle.change_history.specs.History.{History, opening_value, put_value, last_change, AreChanges}
use Rattle.external_ids.specs.declared.external_id.ExternalId.{ExternalId}
use Rattle.external_ids.specs.Ids.{external_number}
use Rattle.rank_strings.specs.Rank.{RankParts, IsRank}
use Rattle.board.specs.declared.board.Board.{Board}
use Rattle.board.specs.Order.{Pair, rank_in}
use Rattle.jql_meaning.specs.Surroundings.{numbered}
use Rattle.tracker_ranks.proofs.Given.{rank_behind, rank_from_in, in_from_rank}
use Rattle.sprints.specs.declared.sprint.Sprint.{Sprint}
use Rattle.sprints.specs.Sprint.{sprint_of}
use Rattle.tracker_keeper.specs.declared.row.Row.{Row}
use Rattle.tracker_keeper.specs.declared.part.Part.{Part}
use Rattle.tracker_keeper.specs.declared.part.Part.TheVariants as part
use Rattle.tracker_keeper.specs.Parts.{part_kind}
use Rattle.tracker_keeper.specs.Rows.{found}
use Rattle.tracker_machine.specs.Machine.{Machine}
use Rattle.tracker_machine.specs.Chronicle.{groups_in, groups_kept}
use Rattle.tracker_machine.specs.Effect.{longer}
use Rattle.tracker_machine.specs.Saved.{SavedFilter, filter_number, board_number}
use Rattle.tracker_machine.specs.SprintRules.{is_of_sprints, OpensInSprints, BringsSprints, IsInSprints}
use Rattle.tracker_machine.specs.Kept.{issue_part, group_part, external_part, sprint_part, filter_part, board_part, members_part, rank_part, issue_numbered, entries_of_change, group_of, issue_group, group_numbered, rank_numbered, sprint_numbered, members_numbered, part_at, rows_of}
use Rattle.tracker_machine.specs.Tracker.{IsSettled, IsTracker}
use Rattle.tracker_machine.proofs.Chronicle.{groups_kept-push, groups_kept-set}
use Rattle.tracker_machine.proofs.Settled.{settled_at}
use Rattle.tracker_machine.proofs.MemberRows.{group_numbered_there}
use Rattle.fields.specs.SetupParts.{names_in}
use Rattle.tracker_rows.specs.Listed.{HasRow, HasSprint, OpenInRows, ChangeInRows, HasSprintsOf}
use Rattle.tracker_rows.specs.Gathered.{told_with}
use Rattle.tracker_rows.proofs.Issues.{holds_at}
use Rattle.tracker_rows.proofs.Making.{IsBefore}
use Rattle.tracker_rows.proofs.Steps.{changes_by}
use Rattle.tracker_rows.proofs.Loaded.{either_of, opening_of}
use Rattle.tracker_rows.proofs.Cuts.{Places, below, cut_history, cut_histories, cut_order, told_in, told_is, cut, all_pass, numbered_by, issue_more}
use Rattle.tracker_rows.proofs.Joins.{Joins, all_ranked, rank_joins, external_joins, sprint_joins, filter_joins, board_joins, members_join, length_all}
use Rattle.tracker_rows.proofs.IssueJoins.{issue_joins}
use Rattle.tracker_rows.proofs.GroupJoins.{group_joins, as_set, old_there, group_in}
use Rattle.tracker_rows.specs.Gathered.{opened}

-- ---- sprints that are named

module _ (rows : List Row) (m : Machine) (same : (k n : ℕ) → found rows k n ≡ rows_of m k n) where
  sprint_row : (n : ℕ) → 1 ≤ n → n ≤ length m.sprints → HasRow rows 7 n
  unfolding rows_of part_at
  sprint_row n low high none =
      let lacks : rows_of m 7 n ≡ None = sym (same 7 n) ∙ none in by (sprint_of m.sprints n) refl lacks
    where
      at : (ss : List Sprint) (k : ℕ) → k < length ss → slice_get ss k ≡ None → ⊥
      at [] k less is = omega (arith, less)
      at (s ∷ ss) zero less is = none-some s (sym is)
      at (s ∷ ss) (suc k) less is = at ss k (omega (arith, less)) is

      there : sprint_of m.sprints n ≡ None → ⊥
      there is = at m.sprints (n - 1) (omega (arith, low, high)) (rw (ne_eqb n 0 (λ zero_is. omega (arith, zero_is, low))) at is)

      by : (o : Option Sprint) → sprint_of m.sprints n ≡ o → rows_of m 7 n ≡ None → ⊥
      by None is lacks = there is
      by (Some s) is lacks = let some = rw is at lacks in cc

  sprint_named : (v : Value) → is_of_sprints (length m.sprints) v ≡ true → HasSprint rows v
  sprint_named value.Empty is = tt
  sprint_named (value.Text text) is = tt
  sprint_named (value.Number z) is = tt
  sprint_named (value.Choice choice) is = tt
  sprint_named (value.User user) is = tt
  sprint_named (value.Date day) is = tt
  sprint_named (value.Set choices) is = tt
  sprint_named (value.Labels labels) is = tt
  sprint_named (value.Sprint sprint) is =
      let parts = and_parts (nat_le 1 sprint.0) (nat_le sprint.0 (length m.sprints)) is in
      sprint_row sprint.0 (leb-true 1 sprint.0 parts.0) (leb-true sprint.0 (length m.sprints) parts.1)

  pub opened_named : (cs : List Change) → OpensInSprints (length m.sprints) cs → OpenInRows rows cs
  opened_named [] opens = tt
  opened_named (c ∷ cs) opens = (sprint_named c.to opens.0, opened_named cs opens.1)

  changed_named : (values : FieldNo → Value) (es : List Entry) → ((f : FieldNo) → is_of_sprints (length m.sprints) (values f) ≡ true) → AreChanges values es
      → BringsSprints (length m.sprints) es → ChangeInRows rows es
  changed_named values [] of changes brings = tt
  changed_named values (e ∷ es) of changes brings = (
    sprint_named e.from (subst (λ v. is_of_sprints (length m.sprints) v ≡ true) (sym changes.0) (of e.field)),
    sprint_named e.to brings.0,
    changed_named (put_value values e) es (λ f. either_of (length m.sprints) (e.field.0 == f.0) e.to (values f) brings.0 (of f)) changes.2 brings.1,
  )

  one_change : (c : ℕ) (es : List Entry) → ChangeInRows rows es → ChangeInRows rows (entries_of_change c es)
  one_change c [] named = tt
  one_change c (e ∷ es) named = by (e.change == c) (one_change c es named.2)
    where
      by : (b : Bool) → ChangeInRows rows (entries_of_change c es) → ChangeInRows rows (if b then e ∷ entries_of_change c es else entries_of_change c es)
      by true rest = (named.0, named.1, rest)
      by false rest = rest

  pub group_sprints : (c : ℕ) (h : History) → IsInSprints (length m.sprints) h → AreChanges (opening_value h.opening) h.entries → ChangeInRows rows (entries_of_change c h.entries)
  group_sprints c h in_sprints changes =
      one_change c h.entries (changed_named (opening_value h.opening) h.entries (λ f. opening_of (length m.sprints) h.opening f in_sprints.opened) changes in_sprints.entries)

-- ---- counts

abbrev pub total : List History → ℕ
total hs = length hs + groups_kept hs

groups_on : (last : ℕ) (xs es : List Entry) → groups_in last (xs ++ es) ≡ groups_in last xs + groups_in (last_change last xs) es
groups_on last [] es = omega arith
groups_on last (x ∷ xs) es = omega (arith, groups_on x.change xs es)

-- entries of one change are at most one group more
at_most_one : (c last : ℕ) (es : List Entry) → groups_in last (entries_of_change c es) ≤ 1
at_most_one c last es = by last es
  where
    none_more : (es : List Entry) → groups_in c (entries_of_change c es) ≡ 0
    none_more [] = refl
    none_more (e ∷ es) = here (cases_eq e.change c) (none_more es)
      where
        here : (e.change ≡ c) ⊎ (e.change ≡ c → ⊥) → groups_in c (entries_of_change c es) ≡ 0 → groups_in c (entries_of_change c (e ∷ es)) ≡ 0
        here (inl same) rest =
            rw (eq-eqb e.change c same) (rw (eq-eqb e.change c same) (ap (λ k. 0 + groups_in k (entries_of_change c es)) same ∙ omega (arith, rest)))
        here (inr differ) rest = rw (ne_eqb e.change c differ) rest

    by : (last : ℕ) (es : List Entry) → groups_in last (entries_of_change c es) ≤ 1
    by last [] = omega arith
    by last (e ∷ es) = here (cases_eq e.change c) (by last es)
      where
        few : (b : Bool) → (if b then 0 else 1) ≤ 1
        few true = omega arith
        few false = omega arith

        here : (e.change ≡ c) ⊎ (e.change ≡ c → ⊥) → groups_in last (entries_of_change c es) ≤ 1 → groups_in last (entries_of_change c (e ∷ es)) ≤ 1
        here (inl same) rest =
            let behind : groups_in e.change (entries_of_change c es) ≡ 0 = ap (λ k. groups_in k (entries_of_change c es)) same ∙ none_more es in
            rw (eq-eqb e.change c same) (omega (arith, behind, few (e.change == last)))
        here (inr differ) rest = rw (ne_eqb e.change c differ) rest

-- ---- ranks that have been read

to_more : (n : ℕ) (ps : List Pair) → length (cut_order (below 5 n) ps) ≤ length (cut_order (below 5 (n + 1)) ps)
to_more n [] = omega arith
to_more n (p ∷ ps) = by (cases_lt p.1.0 n) (cases_lt p.1.0 (n + 1)) (to_more n ps)
  where
    by : (p.1.0 < n) ⊎ (n ≤ p.1.0) → (p.1.0 < n + 1) ⊎ (n + 1 ≤ p.1.0) → length (cut_order (below 5 n) ps) ≤ length (cut_order (below 5 (n + 1)) ps)
        → length (cut_order (below 5 n) (p ∷ ps)) ≤ length (cut_order (below 5 (n + 1)) (p ∷ ps))
    by (inl less) next rest =
        let own : nat_lt p.1.0 n ≡ true = grind (arith, nat_tests, less) in
        let then_too : nat_lt p.1.0 (n + 1) ≡ true = grind (arith, nat_tests, less) in
        rw (own, then_too) (omega (arith, rest))
    by (inr le) (inl less) rest =
        let past : nat_lt p.1.0 n ≡ false = grind (arith, nat_tests, le) in
        let in_next : nat_lt p.1.0 (n + 1) ≡ true = grind (arith, nat_tests, less) in
        rw (past, in_next) (omega (arith, rest))
    by (inr le) (inr ge) rest =
        let past : nat_lt p.1.0 n ≡ false = grind (arith, nat_tests, le) in
        let not_then : nat_lt p.1.0 (n + 1) ≡ false = grind (arith, nat_tests, ge) in
        rw (past, not_then) rest

one_rank_more : (n : ℕ) (ps : List Pair) (rank : RankParts) → rank_in ps n ≡ Some rank
    → length (cut_order (below 5 n) ps) + 1 ≤ length (cut_order (below 5 (n + 1)) ps)
one_rank_more n [] rank is = absurd (none-some rank is)
one_rank_more n (p ∷ ps) rank is = by (cases_lt p.1.0 n) (cases_eq p.1.0 n) (λ behind. one_rank_more n ps rank behind)
  where
    by : (p.1.0 < n) ⊎ (n ≤ p.1.0) → (p.1.0 ≡ n) ⊎ (p.1.0 ≡ n → ⊥)
        → (rank_in ps n ≡ Some rank → length (cut_order (below 5 n) ps) + 1 ≤ length (cut_order (below 5 (n + 1)) ps))
        → length (cut_order (below 5 n) (p ∷ ps)) + 1 ≤ length (cut_order (below 5 (n + 1)) (p ∷ ps))
    by (inl less) same rest =
        let behind : rank_in ps n ≡ Some rank = sym (rank_behind p ps n (ne_eqb p.1.0 n (λ equal. omega (arith, equal, less)))) ∙ is in
        let own : nat_lt p.1.0 n ≡ true = grind (arith, nat_tests, less) in
        let then_too : nat_lt p.1.0 (n + 1) ≡ true = grind (arith, nat_tests, less) in
        let more = rest behind in
        rw (own, then_too) (omega (arith, more))
    by (inr le) (inl same) rest =
        let past : nat_lt p.1.0 n ≡ false = grind (arith, nat_tests, le) in
        let in_next : nat_lt p.1.0 (n + 1) ≡ true = grind (arith, nat_tests, same) in
        rw (past, in_next) (omega (arith, to_more n ps))
    by (inr le) (inr differ) rest =
        let behind : rank_in ps n ≡ Some rank = sym (rank_behind p ps n (ne_eqb p.1.0 n differ)) ∙ is in
        let more : n + 1 ≤ p.1.0 = elim (cases_lt n p.1.0) [ inl lt ↦ omega (arith, lt) | inr back ↦ absurd (differ (omega (arith, back, le))) ] in
        let past : nat_lt p.1.0 n ≡ false = grind (arith, nat_tests, le) in
        let not_then : nat_lt p.1.0 (n + 1) ≡ false = grind (arith, nat_tests, more) in
        rw (past, not_then) (rest behind)

-- all issues before this one have been ranked
pub ranks_before : (ps : List Pair) (n : ℕ) → ((i : ℕ) → 1 ≤ i → i < n → (rank : RankParts) × (rank_in ps i ≡ Some rank)) → n ≤ length (cut_order (below 5 n) ps) + 1
ranks_before ps zero each = omega arith
ranks_before ps (suc zero) each = omega arith
ranks_before ps (suc (suc n)) each =
    let rest = ranks_before ps (suc n) (λ i low high. each i low (omega (arith, high))) in
    let one = each (suc n) (omega arith) (omega arith) in
    let more : length (cut_order (below 5 (suc n)) ps) + 1 ≤ length (cut_order (below 5 (suc n + 1)) ps) = one_rank_more (suc n) ps one.0 one.1 in
    let same : suc n + 1 ≡ suc (suc n) = omega arith in
    let there : length (cut_order (below 5 (suc n)) ps) + 1 ≤ length (cut_order (below 5 (suc (suc n))) ps) =
    subst (λ j. length (cut_order (below 5 (suc n)) ps) + 1 ≤ length (cut_order (below 5 j) ps)) same more in
    omega (arith, rest, there)

-- ---- each kind

far : (kind number k n : ℕ) → k < kind → IsBefore kind number k n → ⊥
far kind number k n less (inl before) = omega (arith, less, before)
far kind number k n less (inr before) = omega (arith, less, before.0)

not_far : (kind number n : ℕ) → n ≤ number → IsBefore kind number kind n → ⊥
not_far kind number n le (inl before) = omega (arith, before)
not_far kind number n le (inr before) = omega (arith, le, before.1)

same_total : (count : ℕ) → count ≤ count + 0
same_total count = omega arith

-- the part of that kind and number is the next one of those that stand before the place
pub record IsNextPart (rows : List Row) (m : Machine) (written : Parts) (k n : ℕ) (p : Part) : Type 0 where
  pub joins : Joins (cut (below k n) written m) (cut (below k (n + 1)) written m) p
  pub sprints : HasSprintsOf rows p
  pub told : told_with (told_in (below k n) 1 m.setup.group) p ≡ told_in (below k (n + 1)) 1 m.setup.group
  pub ranks : length (cut_order (below k n) m.order) < length (cut_histories (below k n) m.histories)
      → IsBefore 5 (length (cut_order (below k n) m.order) + 1) k n → ⊥
  pub members : IsBefore 10 (told_in (below k n) 1 m.setup.group + 1) k n → ⊥
  pub counted : total (cut_histories (below k (n + 1)) m.histories) ≤ total (cut_histories (below k n) m.histories) + changes_by p

module _ (rows : List Row) (m : Machine) (written : Parts) (is : IsTracker m) (alike : length m.setup.group ≡ length written.group)
    (same : (k n : ℕ) → found rows k n ≡ rows_of m k n) where
  abbrev Next : ℕ → ℕ → Part → Type 0
  Next k n p = IsNextPart rows m written k n p

  settled_one : (j : ℕ) (x : History) → slice_get m.histories j ≡ Some x → IsSettled (names_in m.setup) m.moment m.change x
  settled_one j x at = settled_at (names_in m.setup) m.moment m.change m.histories j x at is.settled

  in_sprints : (j : ℕ) (x : History) → slice_get m.histories j ≡ Some x → IsInSprints (length m.sprints) x
  in_sprints j x at = holds_at (IsInSprints (length m.sprints)) m.histories j x at is.sprints.issues

  -- behind ranks all issues are there, each with its rank
  all_ranked_behind : (places : Places) → ((n : ℕ) → places 3 n ≡ true) → cut_order places m.order ≡ m.order
      → length (cut_order places m.order) < length (cut_histories places m.histories) → ⊥
  all_ranked_behind places all ordered less =
      omega (arith, less, length_all places m.histories all, ap length ordered, is.each)

  issue_next : (n : ℕ) (p : Part) → option_map issue_part (issue_numbered m.histories n) ≡ Some p → Next 3 n p
  issue_next n p found_part = by (issue_numbered m.histories n) refl found_part
    where
      of_issue : (k : ℕ) (h : History) → slice_get m.histories k ≡ Some h → issue_numbered m.histories h.no.0 ≡ Some h → Next 3 h.no.0 (issue_part h)
      of_issue k h there numbered_is =
          let new : History = opened h.no h.key h.change h.at h.author h.opening in
          let more = issue_more h.no.0 h m.histories is.numbers numbered_is in
          let before : List History = cut_histories (below 3 h.no.0) m.histories in
          record {
            joins = issue_joins m written is k h there numbered_is;
            sprints = opened_named rows m same h.opening (in_sprints k h there).opened;
            told = refl;
            ranks = λ less. far 5 (length (cut_order (below 3 h.no.0) m.order) + 1) 3 h.no.0 (omega arith);
            members = far 10 (told_in (below 3 h.no.0) 1 m.setup.group + 1) 3 h.no.0 (omega arith);
            counted = omega (arith, ap length more, ap groups_kept more, length-append before (new ∷ []), groups_kept-push before new);
          }

      by : (o : Option History) → issue_numbered m.histories n ≡ o → option_map issue_part o ≡ Some p → Next 3 n p
      by None none some = absurd (none-some p some)
      by (Some h) own some =
          let at = found_at (λ i. i.no.0) n h m.histories (sym (numbered_by m.histories n) ∙ own) in
          subst (Next 3 n) (same_Some (issue_part h) p some)
          (subst (λ j. Next 3 j (issue_part h)) at.2 (of_issue at.0 h at.1 (subst (λ j. issue_numbered m.histories j ≡ Some h) (sym at.2) own)))

  group_next : (n : ℕ) (p : Part) → group_numbered m.histories n ≡ Some p → Next 4 n p
  group_next n p found_part = let at = place_of m.histories n p found_part in of_issue at.0 at.1 at.2 at.3
    where
      place_of : (hs : List History) (n : ℕ) (p : Part) → group_numbered hs n ≡ Some p → (k : ℕ) × (h : History) × (slice_get hs k ≡ Some h) × (issue_group n h ≡ Some p)
      place_of [] n p none = absurd (none-some p none)
      place_of (x ∷ xs) n p some = by (issue_group n x) refl some (place_of xs n p)
        where
          by : (o : Option Part) → issue_group n x ≡ o → option_or o (group_numbered xs n) ≡ Some p
              → (group_numbered xs n ≡ Some p → (k : ℕ) × (h : History) × (slice_get xs k ≡ Some h) × (issue_group n h ≡ Some p))
              → (k : ℕ) × (h : History) × (slice_get (x ∷ xs) k ≡ Some h) × (issue_group n h ≡ Some p)
          by None own rest behind = let more = behind rest in (suc more.0, more.1, more.2, more.3)
          by (Some q) own first behind = (0, x, refl, own ∙ first)

      of_group : (k : ℕ) (h : History) (g : Group) → slice_get m.histories k ≡ Some h → group_of (entries_of_change n h.entries) ≡ Some g → Next 4 n (group_part h g)
      of_group k h g there group_is =
          let before : List History = cut_histories (below 4 n) m.histories in
          let own : History = cut_history (below 4 n) h in
          let in_issue = group_in n h.entries g group_is in
          let few : groups_in (last_change own.change own.entries) g.entries ≤ 1 =
          subst (λ es. groups_in (last_change own.change own.entries) es ≤ 1) (sym in_issue.entries) (at_most_one n (last_change own.change own.entries) h.entries) in
          record {
            joins = group_joins m written is n k h g there group_is;
            sprints = subst (ChangeInRows rows) (sym in_issue.entries) (group_sprints rows m same n h (in_sprints k h there) (settled_one k h there).history.changes);
            told = refl;
            ranks = λ less. far 5 (length (cut_order (below 4 n) m.order) + 1) 4 n (omega arith);
            members = far 10 (told_in (below 4 n) 1 m.setup.group + 1) 4 n (omega arith);
            counted = omega (
              arith,
              ap length (as_set m written is n k h g there group_is),
              ap groups_kept (as_set m written is n k h g there group_is),
              length-set before k (longer own g.entries),
              groups_kept-set before k own (longer own g.entries) (old_there m written is n k h g there group_is),
              groups_on own.change own.entries g.entries,
              few,
            );
          }

      of_issue : (k : ℕ) (h : History) → slice_get m.histories k ≡ Some h → issue_group n h ≡ Some p → Next 4 n p
      of_issue k h there own = by (group_of (entries_of_change n h.entries)) refl own
        where
          by : (o : Option Group) → group_of (entries_of_change n h.entries) ≡ o → option_map (group_part h) o ≡ Some p → Next 4 n p
          by None none some = absurd (none-some p some)
          by (Some g) group_is some = subst (Next 4 n) (same_Some (group_part h g) p some) (of_group k h g there group_is)

  rank_next : (n : ℕ) (p : Part) → rank_numbered m.order n ≡ Some p → Next 5 n p
  rank_next n p found_part = by (rank_in m.order n) refl found_part
    where
      ranked : (i : ℕ) → 1 ≤ i → i ≤ length m.order → (rank : RankParts) × (rank_in m.order i ≡ Some rank)
      ranked i low high = some (rank_in m.order i) (rank_from_in m.order i ((is.ranked.numbered i).1 (low, high)))
        where
          some : (o : Option RankParts) {r : RankParts} → o ≡ Some r → (rank : RankParts) × (o ≡ Some rank)
          some o {r = r} has = (r, has)

      by : (o : Option RankParts) → rank_in m.order n ≡ o → option_map (rank_part (record { 0 = n })) o ≡ Some p → Next 5 n p
      by None none some = absurd (none-some p some)
      by (Some rank) own some =
          let issue : IssueNo = record { 0 = n } in
          let among = (is.ranked.numbered n).0 (in_from_rank m.order n rank own) in
          subst (Next 5 n) (same_Some (rank_part issue rank) p some) (record {
            joins = rank_joins m written is alike issue rank (all_ranked IsRank m.order n rank is.ranked.order.ranks own) own;
            sprints = tt;
            told = refl;
            ranks = λ less. not_far 5 (length (cut_order (below 5 n) m.order) + 1) n
                (ranks_before m.order n (λ i low high. ranked i low (omega (arith, high, among.1))));
            members = far 10 (told_in (below 5 n) 1 m.setup.group + 1) 5 n (omega arith);
            counted = same_total (total (cut_histories (below 5 n) m.histories));
          })

  external_next : (n : ℕ) (p : Part) → option_map external_part (by_number external_number n m.externals) ≡ Some p → Next 6 n p
  external_next n p found_part = by (by_number external_number n m.externals) refl found_part
    where
      of_id : (e : ExternalId) → by_number external_number e.no.0 m.externals ≡ Some e → Next 6 e.no.0 (external_part e)
      of_id e own = record {
        joins = external_joins m written is alike e own;
        sprints = tt;
        told = refl;
        ranks = λ less. absurd (all_ranked_behind (below 6 e.no.0) (λ i. refl) (all_pass m.order) less);
        members = far 10 (told_in (below 6 e.no.0) 1 m.setup.group + 1) 6 e.no.0 (omega arith);
        counted = same_total (total (cut_histories (below 6 e.no.0) m.histories));
      }

      by : (o : Option ExternalId) → by_number external_number n m.externals ≡ o → option_map external_part o ≡ Some p → Next 6 n p
      by None none some = absurd (none-some p some)
      by (Some e) own some =
          let at = found_at external_number n e m.externals own in
          subst (Next 6 n) (same_Some (external_part e) p some)
          (subst (λ j. Next 6 j (external_part e)) at.2 (of_id e (subst (λ j. by_number external_number j m.externals ≡ Some e) (sym at.2) own)))

  sprint_next : (n : ℕ) (p : Part) → sprint_numbered m.sprints n ≡ Some p → Next 7 n p
  sprint_next n p found_part = by (sprint_of m.sprints n) refl found_part
    where
      by : (o : Option Sprint) → sprint_of m.sprints n ≡ o → option_map (sprint_part (record { 0 = n })) o ≡ Some p → Next 7 n p
      by None none some = absurd (none-some p some)
      by (Some s) own some =
          let number : SprintNo = record { 0 = n } in
          subst (Next 7 n) (same_Some (sprint_part number s) p some) (record {
            joins = sprint_joins m written is alike number s own;
            sprints = tt;
            told = refl;
            ranks = λ less. absurd (all_ranked_behind (below 7 n) (λ i. refl) (all_pass m.order) less);
            members = far 10 (told_in (below 7 n) 1 m.setup.group + 1) 7 n (omega arith);
            counted = same_total (total (cut_histories (below 7 n) m.histories));
          })

  filter_next : (n : ℕ) (p : Part) → option_map filter_part (by_number filter_number n m.filters) ≡ Some p → Next 8 n p
  filter_next n p found_part = by (by_number filter_number n m.filters) refl found_part
    where
      of_filter : (f : SavedFilter) → by_number filter_number f.no.0 m.filters ≡ Some f → Next 8 f.no.0 (filter_part f)
      of_filter f own = record {
        joins = filter_joins m written is alike f own;
        sprints = tt;
        told = refl;
        ranks = λ less. absurd (all_ranked_behind (below 8 f.no.0) (λ i. refl) (all_pass m.order) less);
        members = far 10 (told_in (below 8 f.no.0) 1 m.setup.group + 1) 8 f.no.0 (omega arith);
        counted = same_total (total (cut_histories (below 8 f.no.0) m.histories));
      }

      by : (o : Option SavedFilter) → by_number filter_number n m.filters ≡ o → option_map filter_part o ≡ Some p → Next 8 n p
      by None none some = absurd (none-some p some)
      by (Some f) own some =
          let at = found_at filter_number n f m.filters own in
          subst (Next 8 n) (same_Some (filter_part f) p some)
          (subst (λ j. Next 8 j (filter_part f)) at.2 (of_filter f (subst (λ j. by_number filter_number j m.filters ≡ Some f) (sym at.2) own)))

  board_next : (n : ℕ) (p : Part) → option_map board_part (by_number board_number n m.boards) ≡ Some p → Next 9 n p
  board_next n p found_part = by (by_number board_number n m.boards) refl found_part
    where
      of_board : (b : Board) → by_number board_number b.no.0 m.boards ≡ Some b → Next 9 b.no.0 (board_part b)
      of_board b own = record {
        joins = board_joins m written is alike b own;
        sprints = tt;
        told = refl;
        ranks = λ less. absurd (all_ranked_behind (below 9 b.no.0) (λ i. refl) (all_pass m.order) less);
        members = far 10 (told_in (below 9 b.no.0) 1 m.setup.group + 1) 9 b.no.0 (omega arith);
        counted = same_total (total (cut_histories (below 9 b.no.0) m.histories));
      }

      by : (o : Option Board) → by_number board_number n m.boards ≡ o → option_map board_part o ≡ Some p → Next 9 n p
      by None none some = absurd (none-some p some)
      by (Some b) own some =
          let at = found_at board_number n b m.boards own in
          subst (Next 9 n) (same_Some (board_part b) p some)
          (subst (λ j. Next 9 j (board_part b)) at.2 (of_board b (subst (λ j. by_number board_number j m.boards ≡ Some b) (sym at.2) own)))

  members_next : (n : ℕ) (p : Part) → members_numbered m.setup.group n ≡ Some p → Next 10 n p
  members_next n p found_part = by (numbered m.setup.group n) refl found_part
    where
      by : (o : Option UserGroup) → numbered m.setup.group n ≡ o → option_map (λ g. members_part (record { 0 = n }) g.members) o ≡ Some p → Next 10 n p
      by None none some = absurd (none-some p some)
      by (Some g) own some =
          let group : GroupNo = record { 0 = n } in
          let there = group_numbered_there m.setup.group n g own in
          let at : slice_get m.setup.group (n - 1) ≡ Some g = rw (ne_eqb n 0 (λ zero_is. omega (arith, zero_is, there.0))) at own in
          let so_far = told_is 1 n m.setup.group there.0 (omega (arith, there.1)) in
          let then_too = told_is 1 (n + 1) m.setup.group (omega arith) (omega (arith, there.1)) in
          subst (Next 10 n) (same_Some (members_part group g.members) p some) (record {
            joins = members_join m written is alike group (n - 1) g (omega (arith, there.0)) at;
            sprints = tt;
            told = omega (arith, so_far, then_too, there.0);
            ranks = λ less. absurd (all_ranked_behind (below 10 n) (λ i. refl) (all_pass m.order) less);
            members = not_far 10 (told_in (below 10 n) 1 m.setup.group + 1) n (omega (arith, so_far));
            counted = same_total (total (cut_histories (below 10 n) m.histories));
          })

  -- ---- all kinds

  at_kind : (k n : ℕ) (p : Part) (own : ℕ) → own ≡ k → (part_at m own n ≡ Some p → Next own n p) → part_at m k n ≡ Some p → Next k n p
  at_kind k n p own kind next there =
      subst (λ j. Next j n p) kind (next (subst (λ j. part_at m j n ≡ Some p) (sym kind) there))

  pub next_part : (k n : ℕ) (p : Part) → 3 ≤ k → part_kind p ≡ k → part_at m k n ≡ Some p → Next k n p
  unfolding part_at
  next_part k n (part.Setup text) low kind there = absurd (omega (arith, low, kind))
  next_part k n (part.Present balance change format moment) low kind there = absurd (omega (arith, low, kind))
  next_part k n (part.Issue issue key change at author values) low kind there = at_kind k n (part.Issue issue key change at author values) 3 kind (issue_next n _) there
  next_part k n (part.Group issue group) low kind there = at_kind k n (part.Group issue group) 4 kind (group_next n _) there
  next_part k n (part.Rank issue rank) low kind there = at_kind k n (part.Rank issue rank) 5 kind (rank_next n _) there
  next_part k n (part.External issue external) low kind there = at_kind k n (part.External issue external) 6 kind (external_next n _) there
  next_part k n (part.Sprint sprint_no sprint) low kind there = at_kind k n (part.Sprint sprint_no sprint) 7 kind (sprint_next n _) there
  next_part k n (part.Filter filter_no owner name jql) low kind there = at_kind k n (part.Filter filter_no owner name jql) 8 kind (filter_next n _) there
  next_part k n (part.Board board_no name filter) low kind there = at_kind k n (part.Board board_no name filter) 9 kind (board_next n _) there
  next_part k n (part.Members group members) low kind there = at_kind k n (part.Members group members) 10 kind (members_next n _) there
