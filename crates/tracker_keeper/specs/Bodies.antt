-- The one text of each part.
use Rattle.std.specs.Prelude.{ℕ, List, [], ◌∷◌, map, codes}
use Rattle.field_values.specs.declared.numbers.UserNo.{UserNo}
use Rattle.field_forms.specs.TextLists.{texts_data}
use Rattle.json_texts.specs.JsonData.{natural}
use Rattle.field_forms.specs.Known.{Names}
use Rattle.change_history.specs.declared.change.Change.{Change}
use Rattle.change_history.specs.declared.entry.Entry.{Entry}
use Rattle.rank_strings.specs.Text.{rank_text}
use Rattle.rank_balancer.specs.declared.balance.Balance.{Balance}
use Rattle.rank_balancer.specs.declared.balance.Balance.TheVariants.{Idle, Moving}
use Rattle.sprints.specs.declared.state.SprintState.{SprintState}
use Rattle.sprints.specs.declared.state.SprintState.TheVariants.{Future, Active, Closed}
use Rattle.serde_json.specs.Data.{Data, null, string, array, object, no_items, item, Members, no_members, member, put}
use Rattle.serde_json.specs.View.{items_of}
use Rattle.serde_json.specs.Written.{compact_text}
use Rattle.tracker_keeper.specs.declared.part.Part.{Part}
use Rattle.tracker_keeper.specs.declared.part.Part.TheVariants as part
use Rattle.tracker_keeper.specs.declared.part.Format.{Format}
use Rattle.tracker_keeper.specs.Parts.{format_number}
use Rattle.tracker_keeper.specs.ValueData.{value_data}
use Rattle.fields.specs.Naming.{name_at, field_name}

abbrev pub one_data : ℕ → Data
one_data one = array (item (natural one) no_items)

abbrev pub pair_data : ℕ → ℕ → Data
pair_data one other = array (item (natural one) (item (natural other) no_items))

-- the bucket of an idle balance, and both of a moving one
abbrev pub balance_data : Balance → Data
balance_data (Idle bucket) = one_data bucket
balance_data (Moving from to) = pair_data from to

unfoldable pub present_data : Balance → ℕ → Format → ℕ → Data
present_data balance change format moment = object
    (member (codes "balance") (balance_data balance)
    (member (codes "change") (natural change)
    (member (codes "format") (natural (format_number format))
    (member (codes "moment") (natural moment) no_members))))

-- each value is a member of its field's name, wherever its name belongs
abbrev pub with_values : Names → Members → List Change → Members
with_values names members [] = members
with_values names members (c ∷ cs) =
    with_values names (put (field_name names.fields c.field.0)
    (value_data names c.field.0 c.to) members) cs

unfoldable pub issue_data : Names → List ℕ → ℕ → ℕ → UserNo → List Change → Data
issue_data names key change at author values = object
    (member (codes "at") (natural at)
    (member (codes "author") (string (name_at names.users author.0))
    (member (codes "change") (natural change)
    (member (codes "fields") (object (with_values names no_members values))
    (member (codes "key") (string key) no_members)))))

-- the field, and what it held and holds
abbrev pub entry_data : Names → Entry → Data
entry_data names e = array
    (item (string (field_name names.fields e.field.0))
    (item (value_data names e.field.0 e.from)
    (item (value_data names e.field.0 e.to) no_items)))

unfoldable pub group_data : Names → ℕ → UserNo → List Entry → ℕ → Data
group_data names at author entries issue = object
    (member (codes "at") (natural at)
    (member (codes "author") (string (name_at names.users author.0))
    (member (codes "entries") (array (items_of (map (entry_data names) entries)))
    (member (codes "issue") (natural issue) no_members))))

-- the moment of a sprint's start, and of its close, each with its change number
abbrev pub start_data : SprintState → Data
start_data Future = null
start_data (Active at change) = pair_data at change
start_data (Closed start_at start_change at change) = pair_data start_at start_change

abbrev pub close_data : SprintState → Data
close_data Future = null
close_data (Active at change) = null
close_data (Closed start_at start_change at change) = pair_data at change

unfoldable pub sprint_data : List ℕ → SprintState → Data
sprint_data name state = object
    (member (codes "close") (close_data state)
    (member (codes "name") (string name)
    (member (codes "start") (start_data state) no_members)))

unfoldable pub filter_data : List ℕ → List ℕ → List ℕ → Data
filter_data jql name owner = object
    (member (codes "jql") (string jql)
    (member (codes "name") (string name)
    (member (codes "owner") (string owner) no_members)))

unfoldable pub board_data : ℕ → List ℕ → Data
board_data filter name =
    object (member (codes "filter") (natural filter)
    (member (codes "name") (string name) no_members))

unfoldable pub members_data : List (List ℕ) → Data
members_data names = object (member (codes "members") (texts_data names) no_members)

-- the names of some users
abbrev pub user_names : List (List ℕ) → List UserNo → List (List ℕ)
user_names users members = map (λ user. name_at users user.0) members

unfoldable pub body_text : Names → Part → List ℕ
body_text names (part.Setup text) = text
body_text names (part.Present balance change format moment) =
    compact_text (present_data balance change format moment)
body_text names (part.Issue row_no key change at author values) =
    compact_text (issue_data names key change at author values)
body_text names (part.Group issue group) =
    compact_text (group_data names group.at group.author group.entries issue.0)
body_text names (part.Rank issue rank) = rank_text rank
body_text names (part.External issue external) = external
body_text names (part.Sprint row_no sprint) = compact_text (sprint_data sprint.name sprint.state)
body_text names (part.Filter row_no owner name jql) =
    compact_text (filter_data jql name (name_at names.users owner.0))
body_text names (part.Board row_no name filter) = compact_text (board_data filter.0 name)
body_text names (part.Members group members) =
    compact_text (members_data (user_names names.users members))
