-- The rows of a small tracker.
use Rattle.std.proofs.Common.{◌≡◌, ℕ, List, [], ◌∷◌, Some, None, codes, refl, pos}
use Rattle.std.specs.Fmt.{digits}
use Rattle.serde_json.proofs.OnLiterals.{serde_json_on_literals}
use Rattle.field_values.specs.declared.numbers.FieldNo.{FieldNo}
use Rattle.field_values.specs.declared.numbers.TheConstants.FieldNo as number
use Rattle.field_values.specs.declared.numbers.IssueNo.{IssueNo}
use Rattle.field_values.specs.declared.numbers.UserNo.{UserNo}
use Rattle.field_values.specs.declared.status.Status.{Status}
use Rattle.field_values.specs.declared.parts.Project.{Project}
use Rattle.field_values.specs.declared.words.Weekday.TheVariants.{Monday}
use Rattle.field_values.specs.declared.words.Category.TheVariants.{ToDo}
use Rattle.field_values.specs.declared.value.Value.{Value}
use Rattle.field_values.specs.declared.value.Value.TheVariants as value
use Rattle.field_values.specs.Parts.{Parts}
use Rattle.field_forms.specs.Known.{choices_of}
use Rattle.change_history.specs.declared.change.Change.{Change}
use Rattle.change_history.specs.declared.entry.Entry.{Entry}
use Rattle.change_history.specs.declared.entry.Group.{Group}
use Rattle.change_history.specs.History.{History}
use Rattle.rank_strings.specs.Rank.{RankParts}
use Rattle.rank_balancer.specs.declared.balance.Balance.TheVariants.{Idle, Moving}
use Rattle.tracker_keeper.specs.declared.row.RowOp.TheVariants.{Put}
use Rattle.tracker_keeper.specs.Bodies.{body_text, present_data, issue_data, group_data}
use Rattle.tracker_machine.specs.Machine.{Machine, opening}
use Rattle.tracker_machine.specs.Effect.Effect.{NewIssue, NewGroup, NewRank, NewBalance, NewRanks}
use Rattle.tracker_machine.specs.Kept.{part_at, rows_of, parts_of, ops_of, opening_ops}

abbrev pub user : ℕ → UserNo
user place = record { 0 = place }

abbrev status : List ℕ → Status
status name = record { name = name; category = ToDo }

abbrev project : List ℕ → Project
project key = record { key = key; lead = user 0; browse = []; create = []; edit = []; transition = []; rank = [] }

abbrev pub setup : Parts
setup = record {
  utc_offset_minutes = pos 0;
  week_starts = Monday;
  rebalancer = user 0;
  users = codes "anna" ∷ codes "bo" ∷ [];
  types = codes "Task" ∷ codes "Bug" ∷ [];
  priorities = codes "High" ∷ [];
  resolutions = codes "Fixed" ∷ [];
  versions = [];
  first_status = record { 0 = 0 };
  plan = [];
  administer = [];
  group = [];
  project = project (codes "OPS") ∷ [];
  status = status (codes "Open") ∷ status (codes "Done") ∷ [];
  transition = [];
  field = [];
  offset = [];
}

abbrev choice : ℕ → Value
choice place = value.Choice (record { 0 = place })

abbrev holding : FieldNo → Value → Change
holding field v = record { field = field; to = v }

-- entries of the third change, at the moment 60
abbrev changed : FieldNo → Value → Value → Entry
changed field v w = record { change = 3; at = 60; author = user 1; field = field; from = v; to = w }

abbrev pub issue : ℕ → List ℕ → ℕ → List Entry → History
issue n key change entries = record {
  no = record { 0 = n };
  key = key;
  change = change;
  at = 0;
  author = user 0;
  opening = holding number.TYPE (choice 0) ∷ holding number.SUMMARY (value.Text (codes "Fix login")) ∷ holding number.STATUS (choice 0) ∷ [];
  entries = entries;
}

abbrev entries : List Entry
entries = changed number.STATUS (choice 0) (choice 1) ∷ changed number.ASSIGNEE value.Empty (value.User (user 0)) ∷ []

-- the ranks `0|i00000:` and `0|i006bk:`, `0|hzztog:` ahead of both, and `1|r00000:` of a step
abbrev rank : ℕ → List ℕ → RankParts
rank bucket front = record { bucket = bucket; front = front; further = [] }

abbrev first : RankParts
first = rank 0 (18 ∷ 0 ∷ 0 ∷ 0 ∷ 0 ∷ 0 ∷ [])

abbrev pub second : RankParts
second = rank 0 (18 ∷ 0 ∷ 0 ∷ 6 ∷ 11 ∷ 20 ∷ [])

abbrev ahead : RankParts
ahead = rank 0 (17 ∷ 35 ∷ 35 ∷ 29 ∷ 24 ∷ 16 ∷ [])

abbrev stepped : RankParts
stepped = rank 1 (27 ∷ 0 ∷ 0 ∷ 0 ∷ 0 ∷ 0 ∷ [])

abbrev numbered : ℕ → IssueNo
numbered n = record { 0 = n }

-- two issues, the first of which was changed after the second one came
abbrev tracker : Machine
tracker = record {
  text = codes "a setup's text";
  setup = setup;
  moment = 90;
  change = 3;
  histories = issue 1 (codes "OPS-1") 1 entries ∷ issue 2 (codes "OPS-2") 2 [] ∷ [];
  externals = [];
  order = (first, numbered 1) ∷ (second, numbered 2) ∷ [];
  balance = Idle 0;
  sprints = [];
  filters = [];
  boards = [];
}

pub row_of_the_setup : rows_of tracker 1 0 ≡ Some (codes "a setup's text")
unfolding rows_of part_at body_text
row_of_the_setup = refl

pub row_of_the_moment : rows_of tracker 2 0 ≡ Some (codes "{\"balance\":[0],\"change\":3,\"format\":2,\"moment\":90}")
unfolding rows_of part_at body_text present_data digits serde_json_on_literals
row_of_the_moment = refl

pub row_of_an_issue : rows_of tracker 3 2
    ≡ Some (codes "{\"at\":0,\"author\":\"anna\",\"change\":2,\"fields\":{\"status\":\"Open\",\"summary\":\"Fix login\",\"type\":\"Task\"},\"key\":\"OPS-2\"}")
unfolding rows_of part_at body_text issue_data choices_of digits serde_json_on_literals
row_of_an_issue = refl

pub row_of_a_group : rows_of tracker 4 3
    ≡ Some (codes "{\"at\":60,\"author\":\"bo\",\"entries\":[[\"status\",\"Open\",\"Done\"],[\"assignee\",null,\"anna\"]],\"issue\":1}")
unfolding rows_of part_at body_text group_data choices_of digits serde_json_on_literals
row_of_a_group = refl

-- a creation has no change group's row
pub no_row_of_a_creation : rows_of tracker 4 2 ≡ None
unfolding rows_of part_at
no_row_of_a_creation = refl

pub row_of_a_rank : rows_of tracker 5 2 ≡ Some (codes "0|i006bk:")
unfolding rows_of part_at body_text
row_of_a_rank = refl

-- before that change, and the change
abbrev tracker_before : Machine
tracker_before = record tracker { moment = 60; change = 2; histories = issue 1 (codes "OPS-1") 1 [] ∷ issue 2 (codes "OPS-2") 2 [] ∷ [] }

abbrev group : Group
group = record { change = 3; at = 60; author = user 1; entries = entries }

pub operations_of_a_group : ops_of (NewGroup 0 group) tracker_before
    ≡ Put (record { kind = 2; no = 0; body = codes "{\"balance\":[0],\"change\":3,\"format\":2,\"moment\":60}" })
    ∷ Put (record { kind = 4; no = 3; body = codes "{\"at\":60,\"author\":\"bo\",\"entries\":[[\"status\",\"Open\",\"Done\"],[\"assignee\",null,\"anna\"]],\"issue\":1}" })
    ∷ []
unfolding ops_of parts_of body_text present_data group_data choices_of digits serde_json_on_literals
operations_of_a_group = refl

-- before the second issue
abbrev pub tracker_of_one : Machine
tracker_of_one = record tracker {
  moment = 0;
  change = 1;
  histories = issue 1 (codes "OPS-1") 1 [] ∷ [];
  order = (first, numbered 1) ∷ [];
}

pub operations_of_an_issue : ops_of (NewIssue (issue 2 (codes "OPS-2") 2 []) second None) tracker_of_one
    ≡ Put (record { kind = 2; no = 0; body = codes "{\"balance\":[0],\"change\":2,\"format\":2,\"moment\":0}" })
    ∷ Put (record { kind = 3; no = 2; body = codes "{\"at\":0,\"author\":\"anna\",\"change\":2,\"fields\":{\"status\":\"Open\",\"summary\":\"Fix login\",\"type\":\"Task\"},\"key\":\"OPS-2\"}" })
    ∷ Put (record { kind = 5; no = 2; body = codes "0|i006bk:" })
    ∷ []
unfolding ops_of parts_of body_text present_data issue_data choices_of digits serde_json_on_literals
operations_of_an_issue = refl

-- a move puts the rank of its issue alone
pub operations_of_a_move : ops_of (NewRank (numbered 2) ahead) tracker ≡ Put (record { kind = 5; no = 2; body = codes "0|hzztog:" }) ∷ []
unfolding ops_of parts_of body_text
operations_of_a_move = refl

pub operations_of_a_start : ops_of (NewBalance (Moving 0 1)) tracker
    ≡ Put (record { kind = 2; no = 0; body = codes "{\"balance\":[0,1],\"change\":3,\"format\":2,\"moment\":90}" }) ∷ []
unfolding ops_of parts_of body_text present_data digits serde_json_on_literals
operations_of_a_start = refl

-- the first of two picks: the balance still moves
pub operations_of_a_step : ops_of (NewRanks ((numbered 2, stepped) ∷ [])) (record tracker { balance = Moving 0 1 })
    ≡ Put (record { kind = 2; no = 0; body = codes "{\"balance\":[0,1],\"change\":3,\"format\":2,\"moment\":90}" })
    ∷ Put (record { kind = 5; no = 2; body = codes "1|r00000:" })
    ∷ []
unfolding ops_of parts_of body_text present_data digits serde_json_on_literals
operations_of_a_step = refl

pub operations_of_a_new_tracker : opening_ops (opening (codes "a setup's text") setup)
    ≡ Put (record { kind = 1; no = 0; body = codes "a setup's text" })
    ∷ Put (record { kind = 2; no = 0; body = codes "{\"balance\":[0],\"change\":0,\"format\":2,\"moment\":0}" })
    ∷ []
unfolding opening_ops body_text present_data digits serde_json_on_literals
operations_of_a_new_tracker = refl
