-- The fields that a query may name. Names ignore the case of ASCII letters.
use Rattle.std.specs.Prelude.{ℕ, ◌||◌, List, Option, Some, None, option_map, if◌then◌else◌, codes}
use Rattle.std.specs.Option.{option_or}
use Rattle.field_values.specs.declared.numbers.TheConstants.FieldNo as number
use Rattle.field_values.specs.declared.field.Field.{Field as OwnField}
use Rattle.field_forms.specs.Known.{field_named, own_field}
use Rattle.jql_syntax.specs.declared.query.Field.{Field}
use Rattle.jql_syntax.specs.declared.query.Field.TheVariants.{Named, Custom}
use Rattle.jql_bound.specs.declared.leaf.Subject.TheVariants.{Field as Held, Project, Key, Created, Updated}
use Rattle.jql_bound.specs.declared.order.SortField.{SortField}
use Rattle.jql_bound.specs.declared.order.SortField.TheVariants.{Subject as TheSubject, StatusCategory, Rank}
use Rattle.relative_dates.specs.Call.{is_named}

-- the field of that number, as what of an issue it is
abbrev pub held : ℕ → SortField
held n = TheSubject (Held (record { 0 = n }))

-- those of them that name a moment, the category of a status or the rank
unfoldable pub later_named : List ℕ → Option SortField
later_named name =
    if is_named name (codes "created") then Some (TheSubject Created)
    else (if is_named name (codes "updated") then Some (TheSubject Updated)
    else (if is_named name (codes "statusCategory") then Some StatusCategory
    else (if is_named name (codes "rank") then Some Rank
    else None)))

-- second names of fields, and fields that follow from the rest of an issue
unfoldable pub other_named : List ℕ → Option SortField
other_named name =
    if is_named name (codes "issuetype") then Some (held number.TYPE.0)
    else (if is_named name (codes "duedate") then Some (held number.DUE.0)
    else (if is_named name (codes "project") then Some (TheSubject Project)
    else (if is_named name (codes "key")
    || (is_named name (codes "issue") || is_named name (codes "issuekey"))
    then Some (TheSubject Key)
    else later_named name)))

-- the field that a query names, by its name or, as one of the setup's own, by its number
abbrev pub field_in : List OwnField → Field → Option SortField
field_in fields (Named name) =
    option_or (other_named name) (option_map held (field_named fields name))
field_in fields (Custom n) = option_map (λ field. held field.number.0) (own_field fields n)
