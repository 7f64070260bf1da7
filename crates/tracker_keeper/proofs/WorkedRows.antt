-- Worked bodies, computed from the definitions. They name nothing of the setup, so it may be any.
use Rattle.std.proofs.Common.{◌≡◌, ℕ, [], ◌∷◌, codes, refl, pos}
use Rattle.std.specs.Fmt.{digits}
use Rattle.serde_json.proofs.OnLiterals.{serde_json_on_literals}
use Rattle.serde_json.specs.Written.{compact_text}
use Rattle.field_values.specs.declared.numbers.UserNo.{UserNo}
use Rattle.field_values.specs.declared.value.Value.{Value}
use Rattle.field_values.specs.declared.value.Value.TheVariants as value
use Rattle.field_forms.specs.Known.{Names, choices_of}
use Rattle.field_forms.specs.Numbers.{number_text}
use Rattle.change_history.specs.declared.change.Change.{Change}
use Rattle.change_history.specs.declared.entry.Entry.{Entry}
use Rattle.rank_balancer.specs.declared.balance.Balance.TheVariants.{Idle, Moving}
use Rattle.sprints.specs.declared.state.SprintState.TheVariants.{Future, Active, Closed}
use Rattle.tracker_keeper.specs.declared.part.Format.TheVariants.{First, Second}
use Rattle.tracker_keeper.specs.Bodies.{present_data, sprint_data, filter_data, board_data, members_data, issue_data, group_data, user_names}

pub a_new_tracker : compact_text (present_data (Idle 0) 0 Second 0) ≡ codes "{\"balance\":[0],\"change\":0,\"format\":2,\"moment\":0}"
unfolding digits serde_json_on_literals present_data
a_new_tracker = refl

pub a_moving_balance : compact_text (present_data (Moving 2 0) 12 First 1709251200) ≡ codes "{\"balance\":[2,0],\"change\":12,\"format\":1,\"moment\":1709251200}"
unfolding digits serde_json_on_literals present_data
a_moving_balance = refl

pub a_future_sprint : compact_text (sprint_data (codes "March") Future) ≡ codes "{\"close\":null,\"name\":\"March\",\"start\":null}"
unfolding digits serde_json_on_literals sprint_data
a_future_sprint = refl

pub an_active_sprint : compact_text (sprint_data (codes "March") (Active 60 6)) ≡ codes "{\"close\":null,\"name\":\"March\",\"start\":[60,6]}"
unfolding digits serde_json_on_literals sprint_data
an_active_sprint = refl

pub a_closed_sprint : compact_text (sprint_data (codes "March") (Closed 60 6 120 8)) ≡ codes "{\"close\":[120,8],\"name\":\"March\",\"start\":[60,6]}"
unfolding digits serde_json_on_literals sprint_data
a_closed_sprint = refl

pub a_filter : compact_text (filter_data (codes "summary ~ \"x\"") (codes "mine") (codes "anna")) ≡ codes "{\"jql\":\"summary ~ \\\"x\\\"\",\"name\":\"mine\",\"owner\":\"anna\"}"
unfolding digits serde_json_on_literals filter_data
a_filter = refl

pub a_board : compact_text (board_data 1 (codes "team")) ≡ codes "{\"filter\":1,\"name\":\"team\"}"
unfolding digits serde_json_on_literals board_data
a_board = refl

abbrev user : ℕ → UserNo
user place = record { 0 = place }

-- the team of the built-in setup
pub a_team : compact_text (members_data (user_names (codes "anna" ∷ codes "bo" ∷ codes "cy" ∷ codes "root" ∷ []) (user 0 ∷ user 1 ∷ user 3 ∷ [])))
    ≡ codes "{\"members\":[\"anna\",\"bo\",\"root\"]}"
unfolding digits serde_json_on_literals members_data
a_team = refl

-- ---- an issue and its change group, in the built-in setup

abbrev built_in_names : Names
built_in_names = record {
  users = codes "anna" ∷ codes "bo" ∷ codes "cy" ∷ codes "root" ∷ [];
  types = codes "Task" ∷ codes "Bug" ∷ [];
  statuses = codes "Open" ∷ codes "In Progress" ∷ codes "In Review" ∷ codes "Done" ∷ [];
  priorities = codes "High" ∷ codes "Medium" ∷ codes "Low" ∷ [];
  resolutions = codes "Fixed" ∷ codes "Declined" ∷ [];
  versions = codes "1.0" ∷ codes "1.1" ∷ [];
  groups = codes "team" ∷ codes "admins" ∷ codes "guests" ∷ [];
  fields = [];
}

abbrev choice : ℕ → Value
choice place = value.Choice (record { 0 = place })

abbrev to_be : ℕ → Value → Change
to_be n v = record { field = record { 0 = n }; to = v }

abbrev changed : ℕ → Value → Value → Entry
changed n v w = record { change = 7; at = 60; author = user 0; field = record { 0 = n }; from = v; to = w }

-- the fields stand by name, whatever their numbers
pub an_issue : compact_text (issue_data built_in_names (codes "OPS-1") 1 0 (user 0)
    (to_be 1 (choice 0) ∷ to_be 2 (value.Text (codes "Fix login")) ∷ to_be 4 (choice 0) ∷ to_be 6 (value.User (user 0)) ∷ to_be 12 (value.Number (pos 3000)) ∷ []))
    ≡ codes "{\"at\":0,\"author\":\"anna\",\"change\":1,\"fields\":{\"points\":\"3\",\"reporter\":\"anna\",\"status\":\"Open\",\"summary\":\"Fix login\",\"type\":\"Task\"},\"key\":\"OPS-1\"}"
unfolding digits serde_json_on_literals issue_data choices_of number_text
an_issue = refl

pub a_change_group : compact_text (group_data built_in_names 60 (user 0)
    (changed 4 (choice 0) (choice 1) ∷ changed 5 value.Empty (value.User (user 0)) ∷ changed 13 value.Empty (value.Sprint (record { 0 = 1 })) ∷ []) 1)
    ≡ codes "{\"at\":60,\"author\":\"anna\",\"entries\":[[\"status\",\"Open\",\"In Progress\"],[\"assignee\",null,\"anna\"],[\"sprint\",null,1]],\"issue\":1}"
unfolding digits serde_json_on_literals group_data choices_of
a_change_group = refl
