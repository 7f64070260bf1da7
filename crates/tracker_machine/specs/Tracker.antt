-- What holds of every tracker, and what may come next.
use Rattle.std.specs.Prelude.{◌≡◌, ◌≢◌, ◌<◌, ◌≤◌, ◌+◌, ◌⊎◌, ℕ, true, List, [], ◌∷◌, ◌++◌, map, length, sum_by, slice_get, IfSome}
use Rattle.std.specs.List.{All}
use Rattle.field_values.specs.declared.numbers.FieldNo.{FieldNo}
use Rattle.field_values.specs.declared.numbers.TheConstants.FieldNo as number
use Rattle.field_values.specs.declared.value.Value.{Value}
use Rattle.field_values.specs.declared.value.Value.TheVariants.{Empty}
use Rattle.field_values.specs.Parts.{Parts}
use Rattle.field_values.specs.Years.{last_second}
use Rattle.field_forms.specs.Known.{Names, fits}
use Rattle.change_history.specs.declared.change.Change.{Change}
use Rattle.change_history.specs.declared.entry.Entry.{Entry}
use Rattle.change_history.specs.declared.entry.Group.{Group}
use Rattle.change_history.specs.History.{History, IsHistory, opening_value, last_change, present, updated, MayAdd}
use Rattle.workflow.specs.Laws.{AllFit}
use Rattle.fields.specs.SetupParts.{names_in}
use Rattle.fields.specs.Naming.{name_at, key_of}
use Rattle.tracker_keeper.specs.Forms.{is_small, are_opening}
use Rattle.tracker_ranks.specs.Ranked.{IsRanked}
use Rattle.rising_numbers.specs.ByNumber.{RiseFrom}
use Rattle.field_values.specs.GroupMembers.{is_user_list}
use Rattle.field_values.specs.declared.parts.Group.{Group as UserGroup}
use Rattle.tracker_limits.specs.Limits.{most_entries, most_issues, most_text_bytes}
use Rattle.external_ids.specs.declared.external_id.ExternalId.{ExternalId}
use Rattle.external_ids.specs.Ids.{external_number, HaveOwnIds}
use Rattle.external_ids.specs.Form.{is_external}
use Rattle.tracker_machine.specs.Machine.{Machine}
use Rattle.tracker_machine.specs.Saved.{AreSaved}
use Rattle.tracker_machine.specs.SprintRules.{OpensInSprints, BringsSprints, AreSprints}
use Rattle.tracker_machine.specs.Known.{project_keys, issues_of}
use Rattle.tracker_machine.specs.Checks.{entries_kept, bytes_kept, history_bytes, entry_bytes}
use Rattle.tracker_machine.specs.Chronicle.{IsChronicle, groups_kept}

-- ---- an issue

-- a field holds nothing, or a value that fits it
abbrev pub Holds : Names → FieldNo → Value → Type 0
Holds names f v = (v ≡ Empty) ⊎ (fits names f.0 v ≡ true)

-- so do both sides of each entry
abbrev pub AllEntriesHold : Names → List Entry → Type 0
AllEntriesHold names [] = Unit {0}
AllEntriesHold names (e ∷ es) =
    Holds names e.field e.from × Holds names e.field e.to × AllEntriesHold names es

-- each entry gives its field a value that fits; none but type, summary and status may be empty
abbrev pub AllEntriesFit : Names → List Entry → Type 0
AllEntriesFit names [] = Unit {0}
AllEntriesFit names (e ∷ es) = (fits names e.field.0 e.to ≡ true) × AllEntriesFit names es

-- a sprint that a field is to hold has a number of its range
abbrev pub AreSmall : List Change → Type 0
AreSmall [] = Unit {0}
AreSmall (c ∷ cs) = (is_small c.to ≡ true) × AreSmall cs

-- so has one that it comes to hold
abbrev pub AllSmall : List Entry → Type 0
AllSmall [] = Unit {0}
AllSmall (e ∷ es) = (is_small e.to ≡ true) × AllSmall es

-- the type, the summary and the status are there
abbrev pub AreNamed : (FieldNo → Value) → Type 0
AreNamed values =
    (values number.TYPE ≢ Empty) × (values number.SUMMARY ≢ Empty) × (values number.STATUS ≢ Empty)

-- each entry is by one of so many users
abbrev pub AreByUsers : ℕ → List Entry → Type 0
AreByUsers users [] = Unit {0}
AreByUsers users (e ∷ es) = (e.author.0 < users) × AreByUsers users es

-- nothing of the issue is later than now; it opened with values in the order of the fields, none of them empty; each of its
-- fields holds nothing or a value that fits, now and at each entry; its type, its summary and its status are never empty; and
-- its authors are users
pub record IsSettled (names : Names) (moment change : ℕ) (h : History) : Type 0 where
  pub timely : updated h ≤ moment
  pub earlier : last_change h.change h.entries ≤ change
  pub history : IsHistory h
  pub holding : (f : FieldNo) → Holds names f (present h f)
  pub held : AllEntriesHold names h.entries
  pub opened : AreNamed (opening_value h.opening)
  pub fitting : AllFit names h.opening
  pub fit : AllEntriesFit names h.entries
  pub listed : are_opening names h.opening ≡ true
  pub small : AllSmall h.entries
  pub author : h.author.0 < length names.users
  pub authors : AreByUsers (length names.users) h.entries

-- ---- all issues

-- the numbers run on from this one
abbrev pub RunsFrom : ℕ → List ℕ → Type 0
RunsFrom first [] = Unit {0}
RunsFrom first (n ∷ ns) = (n ≡ first) × RunsFrom (first + 1) ns

-- the numbers rise, from above this one on
abbrev pub RisesAbove : ℕ → List ℕ → Type 0
RisesAbove low [] = Unit {0}
RisesAbove low (n ∷ ns) = (low < n) × RisesAbove n ns

-- the key is that of a project's next issue, where the project has as many issues as it has among these
abbrev pub IsNextKey : Parts → List History → List ℕ → Type 0
IsNextKey setup before key =
    (place : ℕ) × (place < length setup.project)
    × (key ≡ key_of (name_at (project_keys setup) place)
    (issues_of (name_at (project_keys setup) place) before + 1))

-- so is that of each issue, where these stand before it
abbrev pub AreKeyed : Parts → List History → List History → Type 0
AreKeyed setup before [] = Unit {0}
AreKeyed setup before (h ∷ hs) = IsNextKey setup before h.key × AreKeyed setup (before ++ h ∷ []) hs

-- issues are numbered from 1; each has one rank, no two have the same, and the ranks agree with the balance
pub record HasRanks (m : Machine) : Type 0 where
  pub numbers : RunsFrom 1 (map (λ h. h.no.0) m.histories)
  pub each : length m.order ≡ length m.histories
  pub ranked : IsRanked m.order m.balance

-- ---- external ids, and members

-- an external id has its form, and is that of an issue, of which there are so many
pub record IsExternalOf (issues : ℕ) (e : ExternalId) : Type 0 where
  pub there : e.no.0 ≤ issues
  pub formed : is_external e.id ≡ true

-- no two issues have the same external id
pub record AreExternals (issues : ℕ) (ids : List ExternalId) : Type 0 where
  pub rising : RiseFrom external_number 1 ids
  pub own : HaveOwnIds ids
  pub each : All (IsExternalOf issues) ids

-- the members of each group are some of so many users, in their order
abbrev pub HaveUsers : ℕ → List UserGroup → Type 0
HaveUsers users groups = All (λ g. is_user_list users g.members ≡ true) groups

-- what holds of every tracker
pub record IsTracker (m : Machine) : Type 0 where
  pub few_issues : length m.histories ≤ most_issues
  pub few_entries : entries_kept m.histories ≤ most_entries
  pub few_bytes : bytes_kept m.histories ≤ most_text_bytes
  -- now is in the year 2099 at the latest
  pub timely : m.moment ≤ last_second
  -- issues are numbered from 1, each has its rank, and their keys are counted for each project
  pub numbers : RunsFrom 1 (map (λ h. h.no.0) m.histories)
  pub each : length m.order ≡ length m.histories
  pub ranked : IsRanked m.order m.balance
  pub keys : AreKeyed m.setup [] m.histories
  pub externals : AreExternals (length m.histories) m.externals
  pub members : HaveUsers (length m.setup.users) m.setup.group
  pub few_groups : length m.setup.group ≤ 100
  -- the number of the last change is at most that of the issues and the groups, and the creations are by rising numbers
  pub numbered : m.change ≤ length m.histories + groups_kept m.histories
  pub rising : RisesAbove 0 (map (λ h. h.change) m.histories)
  pub chronicle : IsChronicle m.histories m.moment m.change
  pub settled : All (IsSettled (names_in m.setup) m.moment m.change) m.histories
  pub sprints : AreSprints m.moment m.change m.sprints m.histories
  pub saved : AreSaved m.setup m.filters m.boards

-- an issue that may be the next one
pub record MayOpen (m : Machine) (h : History) : Type 0 where
  pub few : length m.histories < most_issues
  pub no : h.no.0 ≡ length m.histories + 1
  pub key : IsNextKey m.setup m.histories h.key
  pub change : h.change ≡ m.change + 1
  pub at : h.at ≡ m.moment
  pub author : h.author.0 < length m.setup.users
  pub opened : AreNamed (opening_value h.opening)
  pub fitting : AllFit (names_in m.setup) h.opening
  pub listed : are_opening (names_in m.setup) h.opening ≡ true
  pub sprints : OpensInSprints (length m.sprints) h.opening
  pub entries : h.entries ≡ []
  pub light : bytes_kept m.histories + history_bytes h ≤ most_text_bytes

-- a group that may be added to the issue at a place
pub record MayGroup (m : Machine) (place : ℕ) (g : Group) : Type 0 where
  pub there : place < length m.histories
  pub few : entries_kept m.histories + length g.entries ≤ most_entries
  pub change : g.change ≡ m.change + 1
  pub at : g.at ≡ m.moment
  pub group : IfSome (slice_get m.histories place) (λ h. MayAdd h g.change g.at g.author g.entries)
  pub fitting : AllEntriesFit (names_in m.setup) g.entries
  pub small : AllSmall g.entries
  pub sprints : BringsSprints (length m.sprints) g.entries
  pub author : g.author.0 < length m.setup.users
  pub light : bytes_kept m.histories + sum_by entry_bytes g.entries ≤ most_text_bytes
