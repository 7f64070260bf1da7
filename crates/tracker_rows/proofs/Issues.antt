-- What holds of the issues that have been read, as an issue and as a group is read.
use Rattle.std.proofs.Common.{◌≡◌, ℕ, zero, suc, ◌+◌, ◌-◌, ◌<◌, ◌≤◌, List, [], ◌∷◌, ◌++◌, length, slice_get, set, map, bytes_eq, Option, Some, None, refl, sym, ap, ◌∙◌, subst, arith}
use Rattle.std.specs.Prelude.{if◌then◌else◌, slice_set}
use Rattle.std.specs.List.{All}
use Rattle.std.specs.Option.{option_map_or}
use Rattle.std.proofs.lemmas.List.{length-append, length-set}
use Rattle.std.proofs.lemmas.List.Sums.{sum_by_push}
use Rattle.std.proofs.lemmas.List.Elements.{All-push, All-set}
use Rattle.std.proofs.lemmas.Option.{slice_get_within, get_or_from_slice_get}
use Rattle.field_values.specs.declared.numbers.GroupNo.{GroupNo}
use Rattle.field_values.specs.declared.numbers.IssueNo.{IssueNo}
use Rattle.field_values.specs.declared.numbers.UserNo.{UserNo}
use Rattle.field_values.specs.Parts.{Parts}
use Rattle.field_forms.specs.Known.{Names}
use Rattle.tracker_limits.specs.Limits.{most_entries, most_issues, most_text_bytes}
use Rattle.fields.specs.SetupParts.{names_in}
use Rattle.fields.specs.Naming.{name_at, key_of}
use Rattle.change_history.specs.declared.change.Change.{Change}
use Rattle.change_history.specs.declared.entry.Entry.{Entry}
use Rattle.change_history.specs.declared.entry.Group.{Group}
use Rattle.change_history.specs.History.{History, updated, last_change, MayAdd}
use Rattle.change_history.specs.Key.{project_of}
use Rattle.tracker_keeper.specs.declared.row.Row.{Row}
use Rattle.tracker_keeper.specs.Forms.{IsIssuePart, IsGroupPart}
use Rattle.tracker_machine.specs.Machine.{Machine}
use Rattle.tracker_machine.specs.Known.{project_keys, issues_of}
use Rattle.tracker_machine.specs.Checks.{entries_kept, bytes_kept}
use Rattle.tracker_machine.specs.Chronicle.{HasEntry, IsChronicle, groups_kept}
use Rattle.tracker_machine.specs.Effect.{longer, grown, with_group_members}
use Rattle.tracker_machine.specs.Tracker.{IsSettled, RunsFrom, RisesAbove, IsNextKey, AreKeyed}
use Rattle.tracker_machine.proofs.Totals.{history_bytes-more, bytes_kept-push, bytes_kept-set, entries_kept-push, entries_kept-set}
use Rattle.tracker_machine.proofs.Chronicle.{groups_more, groups_kept-push, groups_kept-set}
use Rattle.tracker_machine.proofs.Settled.{settled_new, settled_added, settled_later, settled_at}
use Rattle.tracker_machine.proofs.Tracker.{runs_on, stays}
use Rattle.tracker_machine.proofs.Regrouped.{names_regrouped, keyed_regrouped}
use Rattle.tracker_rows.specs.Listed.{OpenInRows, ChangeInRows}
use Rattle.tracker_rows.specs.Gathered.{opened}
use Rattle.tracker_rows.specs.Rules.{MayBeIssue, MayBeGroup, MayBeGroupOf}
use Rattle.tracker_rows.proofs.Fits.{opening_fit, entries_fit, entries_small, user_of}
use Rattle.tracker_rows.proofs.Changes.{chronicle_with, creation_more, group_more, last_of_issue, last_less}

-- ---- what holds of them

-- the sprints that an issue has named have rows
pub record HasItsSprints (rows : List Row) (h : History) : Type 0 where
  pub opening : OpenInRows rows h.opening
  pub entries : ChangeInRows rows h.entries

-- of the issues that have been read of these rows, and of so many changes
pub record AreIssues (rows : List Row) (setup : Parts) (histories : List History) (moment change changes : ℕ) : Type 0 where
  pub few : length histories ≤ most_issues
  pub few_entries : entries_kept histories ≤ most_entries
  pub few_bytes : bytes_kept histories ≤ most_text_bytes
  pub numbers : RunsFrom 1 (map (λ h. h.no.0) histories)
  pub keys : AreKeyed setup [] histories
  pub rising : RisesAbove 0 (map (λ h. h.change) histories)
  pub chronicle : IsChronicle histories moment change
  pub settled : All (IsSettled (names_in setup) moment change) histories
  pub sprints : All (HasItsSprints rows) histories
  pub counted : changes ≤ length histories + groups_kept histories

-- those of a tracker in the making
abbrev pub HasIssues : List Row → Machine → List History → ℕ → Type 0
HasIssues rows m histories changes = AreIssues rows m.setup histories m.moment m.change changes

-- ---- lists with one more

rises_on : (low : ℕ) (hs : List History) (h : History) → RisesAbove low (map (λ h. h.change) hs) → low < h.change → All (λ g. g.change < h.change) hs
    → RisesAbove low (map (λ h. h.change) (hs ++ h ∷ []))
rises_on low [] h rise less below = (less, tt)
rises_on low (g ∷ gs) h rise less below = (rise.0, rises_on g.change gs h rise.1 (below 0 g (omega arith)) (λ k d within. below (suc k) d (omega (arith, within))))

keyed_on : (setup : Parts) (before hs : List History) (h : History) → AreKeyed setup before hs → IsNextKey setup (before ++ hs) h.key → AreKeyed setup before (hs ++ h ∷ [])
keyed_on setup before [] h keyed is = (subst (λ gs. IsNextKey setup gs h.key) (nothing_more before) is, tt) where
  nothing_more : (gs : List History) → gs ++ [] ≡ gs
  nothing_more [] = refl
  nothing_more (g ∷ gs) = ap (λ (is : List History). g ∷ is) (nothing_more gs)
keyed_on setup before (g ∷ gs) h keyed is = (keyed.0, keyed_on setup (before ++ g ∷ []) gs h keyed.1 (subst (λ is. IsNextKey setup is h.key) (one_by_one before gs) is)) where
  one_by_one : (xs ys : List History) → xs ++ g ∷ ys ≡ (xs ++ g ∷ []) ++ ys
  one_by_one [] ys = refl
  one_by_one (x ∷ xs) ys = ap (λ (is : List History). x ∷ is) (one_by_one xs ys)

-- ---- lists with another at a place

next_key_alike : (setup : Parts) (before after : List History) (key : List ℕ) → ((p : List ℕ) → issues_of p after ≡ issues_of p before) → IsNextKey setup before key → IsNextKey setup after key
next_key_alike setup before after key same (place, there, is) =
    (place, there, is ∙ ap (λ n. key_of (name_at (project_keys setup) place) (n + 1)) (sym (same (name_at (project_keys setup) place))))

counts_alike : (before after : List History) (g h : History) → ((p : List ℕ) → issues_of p after ≡ issues_of p before) → g.key ≡ h.key → (p : List ℕ) → issues_of p (after ++ g ∷ []) ≡ issues_of p (before ++ h ∷ [])
counts_alike before after g h same key p =
    let count : List ℕ → ℕ = λ k. if bytes_eq (project_of k) p then 1 else 0 in
    omega (arith, same p, sum_by_push (λ (i : History). count i.key) after g, sum_by_push (λ (i : History). count i.key) before h, ap count key)

keyed_alike : (setup : Parts) (before after hs : List History) → ((p : List ℕ) → issues_of p after ≡ issues_of p before) → AreKeyed setup before hs → AreKeyed setup after hs
keyed_alike setup before after [] same keyed = tt
keyed_alike setup before after (h ∷ hs) same keyed =
    (next_key_alike setup before after h.key same keyed.0, keyed_alike setup (before ++ h ∷ []) (after ++ h ∷ []) hs (counts_alike before after h h same refl) keyed.1)

abbrev key_at : Option History → List ℕ
key_at None = []
key_at (Some h) = h.key

keyed_set : (setup : Parts) (before hs : List History) (k : ℕ) (old new : History) → slice_get hs k ≡ Some old → new.key ≡ old.key → AreKeyed setup before hs → AreKeyed setup before (set hs k new)
keyed_set setup before [] k old new at same keyed = absurd (cc)
keyed_set setup before (h ∷ hs) zero old new at same keyed =
    let key : new.key ≡ h.key = same ∙ sym (ap key_at at) in
    (subst (λ key. IsNextKey setup before key) (sym key) keyed.0, keyed_alike setup (before ++ h ∷ []) (before ++ new ∷ []) hs (counts_alike before before new h (λ p. refl) key) keyed.1)
keyed_set setup before (h ∷ hs) (suc k) old new at same keyed = (keyed.0, keyed_set setup (before ++ h ∷ []) hs k old new at same keyed.1)

change_in_rows : (rows : List Row) (xs es : List Entry) → ChangeInRows rows xs → ChangeInRows rows es → ChangeInRows rows (xs ++ es)
change_in_rows rows [] es before after = after
change_in_rows rows (x ∷ xs) es before after = (before.0, before.1, change_in_rows rows xs es before.2 after)

-- what holds of each holds of the one at a place
pub holds_at : (P : History → Type 0) (hs : List History) (k : ℕ) (h : History) → slice_get hs k ≡ Some h → All P hs → P h
holds_at P hs k h is all = subst P (get_or_from_slice_get hs k h h is) (all k h (slice_get_within hs k h is))

-- ---- an issue

pub issue_read : (rows : List Row) (m : Machine) (changes : ℕ) (issue : IssueNo) (key : List ℕ) (change at : ℕ) (author : UserNo) (values : List Change)
    → HasIssues rows m m.histories changes → MayBeIssue m (opened issue key change at author values)
    → IsIssuePart (names_in m.setup) (project_keys m.setup) issue.0 key change at author values → OpenInRows rows values
    → HasIssues rows m (m.histories ++ opened issue key change at author values ∷ []) (changes + 1)
issue_read rows m changes issue key change at author values are may form named =
    let h : History = opened issue key change at author values in
    let own : IsSettled (names_in m.setup) at change h =
    settled_new (names_in m.setup) at change h refl refl refl (opening_fit (names_in m.setup) values form.opened) form.opened may.named (user_of (length m.setup.users) author form.authored) in
    record {
      few = omega (arith, length-append m.histories (h ∷ []), may.few);
      few_entries = omega (arith, entries_kept-push m.histories h, are.few_entries);
      few_bytes = omega (arith, bytes_kept-push m.histories h, may.light);
      numbers = runs_on 1 m.histories h are.numbers (omega (arith, may.no));
      keys = keyed_on m.setup [] m.histories h are.keys may.key;
      rising = rises_on 0 m.histories h are.rising (omega (arith, form.counted.0)) may.rising;
      chronicle = chronicle_with m (m.histories ++ h ∷ []) change at (length m.histories) are.chronicle may.turn form.counted.0
          (creation_more m.histories h form.counted.0 refl);
      settled = All-push (IsSettled (names_in m.setup) m.moment m.change) m.histories h are.settled
          (settled_later (names_in m.setup) at m.moment change m.change h may.turn.timely may.turn.counted own);
      sprints = All-push (HasItsSprints rows) m.histories h are.sprints (record { opening = named; entries = tt });
      counted = omega (arith, length-append m.histories (h ∷ []), groups_kept-push m.histories h, are.counted);
    }

-- ---- a group

-- each group of an issue has a smaller change number
abbrev pub IsLater : ℕ → History → Type 0
IsLater change h = (n a : ℕ) → HasEntry h.entries n a → n < change

-- it may be added to its issue
pub may_add : (m : Machine) (place : ℕ) (h : History) (g : Group) → slice_get m.histories place ≡ Some h → MayBeGroup m h g → IsLater g.change h
    → MayAdd h g.change g.at g.author g.entries
may_add m place h g there may later =
    let greater : last_change h.change h.entries < g.change = last_less h g.change may.greater later in
    record {
      some = may.some;
      later = may.turn.later place (last_change h.change h.entries) (updated h) (h, there, last_of_issue h) greater;
      greater = greater;
      group = may.entries;
    }

group_set : (rows : List Row) (m : Machine) (changes place : ℕ) (h : History) (issue : ℕ) (g : Group) → slice_get m.histories place ≡ Some h
    → HasIssues rows m m.histories changes → MayBeGroup m h g → IsGroupPart (names_in m.setup) issue g.change g.at g.author g.entries → ChangeInRows rows g.entries
    → IsLater g.change h → HasIssues rows m (set m.histories place (longer h g.entries)) (changes + 1)
group_set rows m changes place h issue g there are may form named later =
    let names : Names = names_in m.setup in
    let new : History = longer h g.entries in
    let may_be : MayAdd h g.change g.at g.author g.entries = may_add m place h g there may later in
    let more = length-append h.entries g.entries in
    let same = length-set m.histories place new in
    let old : IsSettled names m.moment m.change h = settled_at names m.moment m.change m.histories place h there are.settled in
    let own : IsSettled names g.at m.change h = record {
      timely = may_be.later;
      earlier = old.earlier;
      history = old.history;
      holding = old.holding;
      held = old.held;
      opened = old.opened;
      fitting = old.fitting;
      fit = old.fit;
      listed = old.listed;
      small = old.small;
      author = old.author;
      authors = old.authors;
    } in
    let added : IsSettled names g.at g.change new =
    settled_added names g.at m.change g.change h g.author g.entries may_be (entries_fit names g.change g.at g.author g.entries form.each may.named)
    (entries_small names g.change g.at g.author g.entries form.each) (user_of (length m.setup.users) g.author form.authored) own in
    let kept : HasItsSprints rows h = holds_at (HasItsSprints rows) m.histories place h there are.sprints in
    record {
      few = omega (arith, same, are.few);
      few_entries = omega (arith, entries_kept-set m.histories place h new there, more, may.few);
      few_bytes = omega (arith, bytes_kept-set m.histories place h new there, history_bytes-more h g.entries, may.light);
      numbers = subst (RunsFrom 1) (sym (stays (λ h. h.no.0) m.histories place h new there refl)) are.numbers;
      keys = keyed_set m.setup [] m.histories place h new there refl are.keys;
      rising = subst (RisesAbove 0) (sym (stays (λ h. h.change) m.histories place h new there refl)) are.rising;
      chronicle = chronicle_with m (set m.histories place new) g.change g.at place are.chronicle may.turn form.counted.0
          (group_more m.histories place h g.change g.at g.author g.entries form.counted.0 there may.entries);
      settled = All-set (IsSettled names m.moment m.change) m.histories place new
          (settled_later names g.at m.moment g.change m.change new may.turn.timely may.turn.counted added) are.settled;
      sprints = All-set (HasItsSprints rows) m.histories place new
          (record { opening = kept.opening; entries = change_in_rows rows h.entries g.entries kept.entries named }) are.sprints;
      counted = omega (arith, same, are.counted, groups_kept-set m.histories place h new there, groups_more h g.change g.at g.author g.entries may_be);
    }

pub group_read : (rows : List Row) (m : Machine) (changes : ℕ) (issue : IssueNo) (g : Group) → HasIssues rows m m.histories changes → (may : MayBeGroupOf m issue g)
    → IsGroupPart (names_in m.setup) issue.0 g.change g.at g.author g.entries → ChangeInRows rows g.entries → IsLater g.change may.history
    → HasIssues rows m (grown m.histories (issue.0 - 1) g.entries) (changes + 1)
group_read rows m changes issue g are may form named later =
    subst (λ o. HasIssues rows m (option_map_or (λ h. slice_set m.histories (issue.0 - 1) (longer h g.entries)) o m.histories) (changes + 1)) (sym may.there)
    (group_set rows m changes (issue.0 - 1) may.history issue.0 g may.there are may.group form named later)

-- ---- other members of a group

pub issues_regrouped : (rows : List Row) (m : Machine) (changes : ℕ) (group : GroupNo) (members : List UserNo) → HasIssues rows m m.histories changes
    → HasIssues rows (with_group_members m group members) m.histories changes
issues_regrouped rows m changes group members are = record {
  few = are.few;
  few_entries = are.few_entries;
  few_bytes = are.few_bytes;
  numbers = are.numbers;
  keys = keyed_regrouped m.setup group members [] m.histories are.keys;
  rising = are.rising;
  chronicle = are.chronicle;
  settled = subst (λ names. All (IsSettled names m.moment m.change) m.histories) (sym (names_regrouped m.setup group members)) are.settled;
  sprints = are.sprints;
  counted = are.counted;
}
