-- Which parts may be kept, and which rows are theirs.
use Rattle.std.specs.Prelude.{◌≡◌, ℕ, ◌<◌, ◌≤◌, ◌^◌, ◌==◌, Bool, true, false, ◌&&◌, List, [], ◌∷◌, length, Some, is_some, nat_lt, if◌then◌else◌}
use Rattle.std.specs.List.{All, list_all, slice_get}
use Rattle.external_ids.specs.Form.{is_external}
use Rattle.field_values.specs.GroupMembers.{is_user_list}
use Rattle.field_values.specs.declared.numbers.UserNo.{UserNo}
use Rattle.field_values.specs.declared.value.Value.{Value}
use Rattle.field_values.specs.declared.value.Value.TheVariants as value
use Rattle.field_forms.specs.Names.{is_title}
use Rattle.field_forms.specs.Known.{Names, form_of, fits}
use Rattle.request_lines.specs.Readings.{last_moment}
use Rattle.change_history.specs.declared.change.Change.{Change}
use Rattle.change_history.specs.declared.entry.Entry.{Entry}
use Rattle.rank_balancer.specs.Balance.{next_bucket}
use Rattle.rank_balancer.specs.declared.balance.Balance.{Balance}
use Rattle.rank_balancer.specs.declared.balance.Balance.TheVariants.{Idle, Moving}
use Rattle.sprints.specs.declared.state.SprintState.{SprintState}
use Rattle.sprints.specs.declared.state.SprintState.TheVariants.{Future, Active, Closed}
use Rattle.fields.specs.Naming.{field_numbers, key_of}

-- ---- forms of texts and of numbers

-- an issue, a sprint, a filter or a board is numbered from 1
abbrev pub IsNumber : ℕ → Type 0
IsNumber n = (1 ≤ n) × (n < 2 ^ 32)

-- so is a change group
abbrev pub IsChangeNumber : ℕ → Type 0
IsChangeNumber n = (1 ≤ n) × (n < 2 ^ 64)

-- a moment, and the number of the last change group at that time, which is 0 before the first one
pub record IsStamp (at change : ℕ) : Type 0 where
  pub timely : at ≤ last_moment
  pub counted : change < 2 ^ 64

-- the buckets are 0, 1 and 2, and a moving balance goes to the next one
abbrev pub is_balance : Balance → Bool
is_balance (Idle bucket) = nat_lt bucket 3
is_balance (Moving from to) = nat_lt from 3 && (to == next_bucket from)

abbrev pub HasStamps : SprintState → Type 0
HasStamps Future = Unit {0}
HasStamps (Active at change) = IsStamp at change
HasStamps (Closed start_at start_change at change) =
    IsStamp start_at start_change × IsStamp at change

-- one of so many users
abbrev pub is_user : ℕ → UserNo → Bool
is_user count user = nat_lt user.0 count

-- ---- values

-- a sprint's number has its range; whether the sprint is there is asked of the rows
abbrev pub is_small : Value → Bool
is_small (value.Sprint sprint) = nat_lt sprint.0 (2 ^ 32)
is_small _ = true

abbrev pub is_filled : Value → Bool
is_filled value.Empty = false
is_filled _ = true

-- a field that is there holds nothing, or a value that fits it
abbrev pub may_hold : Names → ℕ → Value → Bool
may_hold names n value.Empty = is_some (form_of names.fields n)
may_hold names n v = fits names n v && is_small v

-- the fields of the changes are some of these, in their order
abbrev pub are_among : List ℕ → List Change → Bool
are_among numbers [] = true
are_among [] (c ∷ cs) = false
are_among (n ∷ ns) (c ∷ cs) = if c.field.0 == n then are_among ns cs else are_among ns (c ∷ cs)

-- opening values that are empty are left out, and the others stand in the order of the fields
abbrev pub are_opening : Names → List Change → Bool
are_opening names values =
    list_all (λ c. is_filled c.to && may_hold names c.field.0 c.to) values
    && are_among (field_numbers names.fields) values

-- the key is that of an issue of one of the projects
pub record IsIssueKey (projects : List (List ℕ)) (key : List ℕ) : Type 0 where
  pub place : ℕ
  pub project : List ℕ
  pub there : slice_get projects place ≡ Some project
  pub number : ℕ
  pub is_number : IsNumber number
  pub key_is : key ≡ key_of project number

-- an entry has its group's number, moment and author
pub record IsGroupEntry (names : Names) (change at : ℕ) (author : UserNo) (e : Entry) : Type 0 where
  pub change_is : e.change ≡ change
  pub at_is : e.at ≡ at
  pub author_is : e.author ≡ author
  pub from : may_hold names e.field.0 e.from ≡ true
  pub to : may_hold names e.field.0 e.to ≡ true

-- ---- what the parts of each kind want

pub record IsIssuePart (names : Names) (projects : List (List ℕ)) (row_no : ℕ) (key : List ℕ)
    (change at : ℕ) (author : UserNo) (values : List Change) : Type 0 where
  pub numbered : IsNumber row_no
  pub keyed : IsIssueKey projects key
  pub counted : IsChangeNumber change
  pub timely : at ≤ last_moment
  pub authored : is_user (length names.users) author ≡ true
  pub opened : are_opening names values ≡ true

pub record IsGroupPart (names : Names) (issue change at : ℕ) (author : UserNo)
    (entries : List Entry) : Type 0 where
  pub numbered : IsNumber issue
  pub counted : IsChangeNumber change
  pub timely : at ≤ last_moment
  pub authored : is_user (length names.users) author ≡ true
  pub each : All (IsGroupEntry names change at author) entries

pub record IsPresentPart (balance : Balance) (change at : ℕ) : Type 0 where
  pub balanced : is_balance balance ≡ true
  pub stamped : IsStamp at change

pub record IsSprintPart (row_no : ℕ) (name : List ℕ) (state : SprintState) : Type 0 where
  pub numbered : IsNumber row_no
  pub named : is_title name ≡ true
  pub stamped : HasStamps state

pub record IsFilterPart (users : List (List ℕ)) (row_no : ℕ) (owner : UserNo)
    (name : List ℕ) : Type 0 where
  pub numbered : IsNumber row_no
  pub owned : is_user (length users) owner ≡ true
  pub named : is_title name ≡ true

pub record IsBoardPart (row_no : ℕ) (name : List ℕ) (filter : ℕ) : Type 0 where
  pub numbered : IsNumber row_no
  pub named : is_title name ≡ true
  pub small : filter < 2 ^ 32

pub record IsExternalPart (row_no : ℕ) (external : List ℕ) : Type 0 where
  pub numbered : IsNumber row_no
  pub formed : is_external external ≡ true

pub record IsMembersPart (users groups : List (List ℕ)) (group : ℕ)
    (members : List UserNo) : Type 0 where
  pub from_one : 1 ≤ group
  pub there : group ≤ length groups
  pub listed : is_user_list (length users) members ≡ true
