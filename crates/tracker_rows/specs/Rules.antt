-- What is asked of a row beside the form of its body, a rule a line. A rule is broken by the first row that doesn't agree with the
-- rows before it, by kind and then number. What the form of a body has already isn't said here: the balance is one bucket or goes to
-- the next one, a sprint has a close only with a start, and values fit their fields or are empty.
use Rattle.std.specs.Prelude.{◌≡◌, ◌≢◌, ◌<◌, ◌≤◌, ◌+◌, ◌-◌, ℕ, true, List, [], ◌∷◌, length, sum_by, slice_get, Some, None, Ok}
use Rattle.std.specs.List.{All}
use Rattle.rising_numbers.specs.ByNumber.{by_number}
use Rattle.field_values.specs.declared.numbers.IssueNo.{IssueNo}
use Rattle.field_values.specs.declared.value.Value.TheVariants.{Empty}
use Rattle.field_forms.specs.Known.{may_be_empty}
use Rattle.tracker_limits.specs.Limits.{most_boards, most_entries, most_filters, most_issues, most_sprints, most_text_bytes}
use Rattle.change_history.specs.declared.entry.Entry.{Entry}
use Rattle.change_history.specs.declared.entry.Group.{Group}
use Rattle.change_history.specs.History.{History, opening_value, present, AreGroupEntries}
use Rattle.board.specs.Order.{IsFreeFor}
use Rattle.board.specs.declared.board.Board.{Board}
use Rattle.rank_strings.specs.Rank.{RankParts}
use Rattle.sprints.specs.declared.sprint.Sprint.{Sprint}
use Rattle.tracker_ranks.specs.Loaded.{AllowsBucket}
use Rattle.tracker_keeper.specs.declared.row.Row.{Row}
use Rattle.tracker_keeper.specs.declared.part.Format.{Format}
use Rattle.tracker_keeper.specs.declared.part.Format.TheVariants.{Second}
use Rattle.external_ids.specs.Ids.{external_named}
use Rattle.tracker_keeper.specs.declared.part.Part.{Part}
use Rattle.tracker_keeper.specs.declared.part.Part.TheVariants as part
use Rattle.tracker_machine.specs.Machine.{Machine}
use Rattle.tracker_machine.specs.Query.{Query, asked}
use Rattle.tracker_machine.specs.Saved.{SavedFilter, filter_number, filter_named}
use Rattle.tracker_machine.specs.SprintRules.{IsTimely}
use Rattle.tracker_machine.specs.Checks.{entries_kept, bytes_kept, history_bytes, entry_bytes}
use Rattle.tracker_machine.specs.Chronicle.{IsChangeAt}
use Rattle.tracker_machine.specs.Tracker.{AreNamed, IsNextKey}
use Rattle.tracker_rows.specs.Listed.{changes_in}
use Rattle.tracker_rows.specs.Gathered.{Gathered, opened}
use Rattle.tracker_rows.specs.Gathered.Gathered.{Nothing, HasSetup, Stands}

-- ---- present

pub record MayBePresent (rows : List Row) (change : ℕ) : Type 0 where
  -- its change is at most the number of rows of issues and of change groups
  pub counted : change ≤ changes_in rows

-- ---- issues and change groups

-- a creation or a change group of this number, at this moment, among the changes before it
pub record IsInTurn (m : Machine) (change at : ℕ) : Type 0 where
  -- change numbers are used once
  pub once : (place n before : ℕ) → IsChangeAt m.histories place n before → n ≢ change
  -- and are at most present's
  pub counted : change ≤ m.change
  -- moments don't fall as the change numbers rise
  pub later : (place n before : ℕ) → IsChangeAt m.histories place n before → n < change
      → before ≤ at
  pub earlier : (place n behind : ℕ) → IsChangeAt m.histories place n behind → change < n
      → at ≤ behind
  -- and are at most present's
  pub timely : at ≤ m.moment

pub record MayBeIssue (m : Machine) (h : History) : Type 0 where
  -- there is room for one more issue
  pub few : length m.histories < most_issues
  -- their numbers run from 1 without a gap
  pub no : h.no.0 ≡ length m.histories + 1
  -- their keys are counted for each project
  pub key : IsNextKey m.setup m.histories h.key
  -- their change numbers rise with their own
  pub rising : All (λ g. g.change < h.change) m.histories
  pub turn : IsInTurn m h.change h.at
  -- type, summary and status aren't empty
  pub named : AreNamed (opening_value h.opening)
  -- all issues together have at most 500,000,000 bytes of text
  pub light : bytes_kept m.histories + history_bytes h ≤ most_text_bytes

-- an entry that leaves its field empty is of one that may be
abbrev pub MayEmptyFields : List Entry → Type 0
MayEmptyFields [] = Unit {0}
MayEmptyFields (e ∷ es) = (e.to ≡ Empty → may_be_empty e.field.0 ≡ true) × MayEmptyFields es

-- a group of this issue
pub record MayBeGroup (m : Machine) (h : History) (g : Group) : Type 0 where
  -- its change number is greater than its issue's
  pub greater : h.change < g.change
  pub turn : IsInTurn m g.change g.at
  -- it has at least one entry
  pub some : 0 < length g.entries
  -- its entries stand by rising field number, and each leads from the value before to another one
  pub entries : AreGroupEntries (present h) 0 g.change g.at g.author g.entries
  -- type, summary and status don't become empty
  pub named : MayEmptyFields g.entries
  -- all issues together have at most 2,000,000 entries
  pub few : entries_kept m.histories + length g.entries ≤ most_entries
  -- and at most 500,000,000 bytes of text
  pub light : bytes_kept m.histories + sum_by entry_bytes g.entries ≤ most_text_bytes

-- a group names an issue that is there
pub record MayBeGroupOf (m : Machine) (issue : IssueNo) (g : Group) : Type 0 where
  pub history : History
  pub there : slice_get m.histories (issue.0 - 1) ≡ Some history
  pub group : MayBeGroup m history g

-- ---- ranks

pub record MayBeRank (m : Machine) (issue : IssueNo) (rank : RankParts) : Type 0 where
  -- it is that of an issue that is there
  pub there : issue.0 ≤ length m.histories
  -- no other issue has it
  pub free : IsFreeFor m.order issue.0 rank
  -- it is in a bucket that the balance allows
  pub allowed : AllowsBucket m.balance rank.bucket

-- ---- external ids

pub record MayBeExternal (m : Machine) (issue : IssueNo) (external : List ℕ) : Type 0 where
  -- it is that of an issue that is there
  pub there : issue.0 ≤ length m.histories
  -- no other issue has it
  pub alone : external_named external m.externals ≡ None

-- ---- sprints

pub record MayBeSprint (m : Machine) (sprint_no : ℕ) (s : Sprint) : Type 0 where
  -- there is room for one more sprint
  pub few : length m.sprints < most_sprints
  -- their numbers run from 1 without a gap
  pub no : sprint_no ≡ length m.sprints + 1
  -- moment and change of its close aren't less than those of its start, and none of them is greater than present's
  pub timely : IsTimely m.moment m.change s.state

-- ---- filters and boards

pub record MayBeFilter (m : Machine) (f : SavedFilter) : Type 0 where
  -- there is room for one more filter
  pub few : length m.filters < most_filters
  -- its text is read and bound for its owner
  pub query : Query
  pub asks : asked m.setup f.owner.0 f.text ≡ Ok query
  -- its owner has no other one of its name
  pub alone : filter_named f.owner f.name m.filters ≡ None

pub record MayBeBoard (m : Machine) (b : Board) : Type 0 where
  -- there is room for one more board
  pub few : length m.boards < most_boards
  -- it is of a filter that is there
  pub there : by_number filter_number b.filter.0 m.filters ≢ None

-- ---- all kinds

-- the part may be the next one of a tracker in the making, which has its setup and its present already. The members of groups are
-- rows of the second format alone
unfoldable pub MayJoin : Format → Machine → Part → Type 0
MayJoin format m (part.Issue issue key change at author values) =
    MayBeIssue m (opened issue key change at author values)
MayJoin format m (part.Group issue group) = MayBeGroupOf m issue group
MayJoin format m (part.Rank issue rank) = MayBeRank m issue rank
MayJoin format m (part.External issue external) = MayBeExternal m issue external
MayJoin format m (part.Sprint sprint_no sprint) = MayBeSprint m sprint_no.0 sprint
MayJoin format m (part.Filter filter_no owner name jql) =
    MayBeFilter m (record { no = filter_no; owner = owner; name = name; text = jql })
MayJoin format m (part.Members group members) = format ≡ Second
MayJoin format m (part.Board board_no name filter) =
    MayBeBoard m (record { no = board_no; name = name; filter = filter })
MayJoin format m _ = ⊥

-- the part may follow what was gathered, where these are all rows
unfoldable pub MayFollow : List Row → Gathered → Part → Type 0
MayFollow rows Nothing (part.Setup text) = Unit {0}
MayFollow rows (HasSetup text setup) (part.Present balance change format moment) =
    MayBePresent rows change
MayFollow rows (Stands format told m) p = MayJoin format m p
MayFollow rows _ p = ⊥
