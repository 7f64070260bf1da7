-- What a field is compared with, and by which operators.
use Rattle.std.specs.Prelude.{◌==◌, Bool, true, false, ◌||◌, List, Option, Some, None, option_map, if◌then◌else◌, Result, Ok, Err}
use Rattle.field_values.specs.declared.numbers.TheConstants.FieldNo as number
use Rattle.field_values.specs.declared.field.Field.{Field as OwnField}
use Rattle.field_values.specs.declared.numbers.FieldNo.{FieldNo}
use Rattle.field_values.specs.declared.words.FieldKind.{FieldKind}
use Rattle.field_values.specs.declared.words.FieldKind.TheVariants as own
use Rattle.field_forms.specs.Known.{own_field}
use Rattle.field_forms.specs.Names.{is_from_to}
use Rattle.jql_syntax.specs.declared.query.Field.{Field}
use Rattle.jql_bound.specs.declared.leaf.Subject.{Subject}
use Rattle.jql_bound.specs.declared.leaf.Subject.TheVariants.{Field as Held, Project as TheProject, Key as TheKey, Created, Updated}
use Rattle.jql_bound.specs.declared.order.SortField.{SortField}
use Rattle.jql_bound.specs.declared.order.SortField.TheVariants.{Subject as TheSubject, StatusCategory, Rank}
use Rattle.jql_grammar.specs.declared.fault.FaultKind.{FaultKind}
use Rattle.jql_grammar.specs.declared.fault.FaultKind.TheVariants.{UnknownField, OperatorNotForField}
use Rattle.jql_grammar.specs.declared.column.ValueKind.{ValueKind}
use Rattle.jql_grammar.specs.declared.column.ValueKind.TheVariants.{Text, Choice, Priority, Resolution, User, Versions, Labels, Date, Number, Sprint, Project, Key, Category}
use Rattle.jql_grammar.specs.declared.column.Column.{Column}
use Rattle.jql_grammar.specs.Steps.{if_some, made, some_or}
use Rattle.jql_grammar.specs.Fields.{field_in}

-- what a field of the setup's own is compared with
abbrev pub own_kind : OwnField → ValueKind
own_kind field = kind_by field.kind where
  kind_by : FieldKind → ValueKind
  kind_by own.Text = Text
  kind_by own.Number = Number field.number
  kind_by own.Choice = Choice field.number
  kind_by own.User = User
  kind_by own.Date = Date

-- what the field of that number is compared with
unfoldable pub kind_numbered : List OwnField → FieldNo → Option ValueKind
kind_numbered fields field =
    if (field.0 == number.TYPE.0) || (field.0 == number.STATUS.0) then Some (Choice field)
    else (if (field.0 == number.SUMMARY.0) || (field.0 == number.DESCRIPTION.0) then Some Text
    else (if (field.0 == number.ASSIGNEE.0) || (field.0 == number.REPORTER.0) then Some User
    else (if field.0 == number.PRIORITY.0 then Some Priority
    else (if field.0 == number.RESOLUTION.0 then Some Resolution
    else (if field.0 == number.FIX_VERSION.0 then Some Versions
    else (if field.0 == number.LABELS.0 then Some Labels
    else (if field.0 == number.DUE.0 then Some Date
    else (if field.0 == number.POINTS.0 then Some (Number field)
    else (if field.0 == number.SPRINT.0 then Some Sprint
    else option_map own_kind (own_field fields field.0))))))))))

abbrev pub value_kind_of : List OwnField → Subject → Option ValueKind
value_kind_of fields (Held field) = kind_numbered fields field
value_kind_of fields TheProject = Some Project
value_kind_of fields TheKey = Some Key
value_kind_of fields Created = Some Date
value_kind_of fields Updated = Some Date

-- what a comparison looks at: the category of a status is a question to the field status, and rank is never compared
abbrev pub column_of : List OwnField → SortField → Result Column FaultKind
column_of fields (TheSubject subject) =
    made (λ kind. record { subject = subject; kind = kind })
    (some_or UnknownField (value_kind_of fields subject))
column_of fields StatusCategory = Ok (record { subject = Held number.STATUS; kind = Category })
column_of fields Rank = Err OperatorNotForField

abbrev pub column_in : List OwnField → Field → Result Column FaultKind
column_in fields field = if_some UnknownField (column_of fields) (field_in fields field)

-- ---- the operators of a field; IS and IS NOT are of all that are compared

-- =, !=, IN and NOT IN
abbrev pub has_equality : ValueKind → Bool
has_equality Text = false
has_equality _ = true

-- <, <=, > and >=
abbrev pub has_order : ValueKind → Bool
has_order Priority = true
has_order Date = true
has_order (Number field) = true
has_order _ = false

-- ~ and !~
abbrev pub has_search : ValueKind → Bool
has_search Text = true
has_search _ = false

-- WAS and CHANGED: status, assignee, reporter, priority, resolution and fixVersion, which are numbered from 4 to 9
abbrev pub history_field : ValueKind → Subject → Option FieldNo
history_field Category subject = None
history_field kind (Held field) =
    if is_from_to number.STATUS.0 number.FIX_VERSION.0 field.0 then Some field else None
history_field kind _ = None
