-- What the setup and the present say, as JSON.
use Rattle.std.specs.Prelude.{ℕ, List, Option, Some, None, codes, map}
use Rattle.serde_json.specs.Data.{Data, boolean, string, array, object, Members, member, no_members}
use Rattle.serde_json.specs.View.{items_of}
use Rattle.field_values.specs.declared.rules.Permission.{Permission}
use Rattle.field_values.specs.declared.words.Category.{Category}
use Rattle.field_values.specs.declared.words.Category.TheVariants as category
use Rattle.field_values.specs.declared.words.Weekday.{Weekday}
use Rattle.field_values.specs.declared.words.Weekday.TheVariants as day
use Rattle.field_forms.specs.Rules.{permission_name}
use Rattle.field_forms.specs.TextLists.{texts_data}
use Rattle.json_texts.specs.JsonData.{natural, integer}
use Rattle.tracker_calls.specs.declared.described.DescribedParts.{DescribedParts}
use Rattle.tracker_calls.specs.declared.described.ToldField.{ToldField}
use Rattle.tracker_calls.specs.declared.described.ToldGroup.{ToldGroup}
use Rattle.tracker_calls.specs.declared.described.ToldKind.{ToldKind}
use Rattle.tracker_calls.specs.declared.described.ToldKind.TheVariants as kind
use Rattle.tracker_calls.specs.declared.described.ToldProject.{ToldProject}
use Rattle.tracker_calls.specs.declared.described.ToldStatus.{ToldStatus}
use Rattle.tracker_calls.specs.declared.described.ToldTransition.{ToldTransition}

-- ---- words

abbrev pub weekday_name : Weekday → List ℕ
weekday_name day.Monday = codes "monday"
weekday_name day.Tuesday = codes "tuesday"
weekday_name day.Wednesday = codes "wednesday"
weekday_name day.Thursday = codes "thursday"
weekday_name day.Friday = codes "friday"
weekday_name day.Saturday = codes "saturday"
weekday_name day.Sunday = codes "sunday"

abbrev pub category_name : Category → List ℕ
category_name category.ToDo = codes "todo"
category_name category.InProgress = codes "progress"
category_name category.Done = codes "done"

abbrev pub kind_name : ToldKind → List ℕ
kind_name kind.Choice = codes "choice"
kind_name kind.Date = codes "date"
kind_name kind.Labels = codes "labels"
kind_name kind.Number = codes "number"
kind_name kind.Set = codes "set"
kind_name kind.Sprint = codes "sprint"
kind_name kind.Text = codes "text"
kind_name kind.User = codes "user"

-- ---- parts

-- the names that a value may have, where the field's kind has any
abbrev pub options_members : Option (List (List ℕ)) → Members
options_members None = no_members
options_members (Some options) = member (codes "options") (texts_data options) no_members

abbrev pub field_data : ToldField → Data
field_data f = object
    (member (codes "kind") (string (kind_name f.kind))
    (member (codes "name") (string f.name)
    (member (codes "number") (natural f.number.0) (options_members f.options))))

abbrev pub group_data : ToldGroup → Data
group_data g = object
    (member (codes "group") (string g.group)
    (member (codes "members") (texts_data g.members) no_members))

abbrev pub permission_data : Permission → Data
permission_data p = string (permission_name p)

abbrev pub project_data : ToldProject → Data
project_data p = object
    (member (codes "key") (string p.key)
    (member (codes "lead") (string p.lead)
    (member (codes "may") (array (items_of (map permission_data p.may))) no_members)))

abbrev pub status_data : ToldStatus → Data
status_data s = object
    (member (codes "category") (string (category_name s.category))
    (member (codes "status") (string s.status) no_members))

abbrev pub transition_data : ToldTransition → Data
transition_data t = object
    (member (codes "conditions") (texts_data t.conditions)
    (member (codes "from") (texts_data t.from)
    (member (codes "post") (texts_data t.post)
    (member (codes "to") (string t.to)
    (member (codes "transition") (string t.transition)
    (member (codes "validators") (texts_data t.validators) no_members))))))

-- ---- all of them, in three parts, of which each goes on with the next

unfoldable pub last_members : DescribedParts → Members
last_members d =
    member (codes "statuses") (array (items_of (map status_data d.statuses)))
    (member (codes "transitions") (array (items_of (map transition_data d.transitions)))
    (member (codes "user") (string d.user)
    (member (codes "users") (texts_data d.users)
    (member (codes "week_starts") (string (weekday_name d.week_starts)) no_members))))

unfoldable pub middle_members : DescribedParts → Members
middle_members d =
    member (codes "moment") (natural d.moment)
    (member (codes "offset_minutes") (integer d.offset_minutes)
    (member (codes "plan") (boolean d.plan)
    (member (codes "projects") (array (items_of (map project_data d.projects)))
    (member (codes "rebalancer") (string d.rebalancer) (last_members d)))))

unfoldable pub describe_data : DescribedParts → Data
describe_data d = object
    (member (codes "administer") (boolean d.administer)
    (member (codes "fields") (array (items_of (map field_data d.fields)))
    (member (codes "first_status") (string d.first_status)
    (member (codes "groups") (array (items_of (map group_data d.groups))) (middle_members d)))))
