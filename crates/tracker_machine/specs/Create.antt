-- The call `create`: a new issue of a project.
use Rattle.std.specs.Prelude.{ℕ, ◌+◌, ◌-◌, ◌==◌, ◌&&◌, Bool, true, false, not, List, [], filter, length, slice_get, unwrap_or, Option, Some, None, option_and_then, if◌then◌else◌}
use Rattle.std.specs.Option.{is_some, option_map_or}
use Rattle.std.specs.Str.{bytes_eq}
use Rattle.field_values.specs.declared.numbers.TheConstants.FieldNo as number
use Rattle.field_values.specs.declared.rules.Permission.TheVariants as permission
use Rattle.field_values.specs.declared.value.Value.{Value}
use Rattle.field_values.specs.declared.value.Value.TheVariants.{Choice, Text, User}
use Rattle.field_forms.specs.Known.{Names, value_of}
use Rattle.field_forms.specs.Names.{place_named}
use Rattle.field_values.specs.Parts.{Parts}
use Rattle.fields.specs.SetupParts.{names_in}
use Rattle.change_history.specs.declared.change.Change.{Change}
use Rattle.change_history.specs.History.{History, opening_value}
use Rattle.external_ids.specs.Ids.{external_named}
use Rattle.change_history.specs.Key.{project_of}
use Rattle.workflow.specs.Same.{is_empty, same_value}
use Rattle.rank_strings.specs.Rank.{RankParts}
use Rattle.tracker_calls.specs.declared.given.GivenField.{GivenField}
use Rattle.tracker_calls.specs.declared.reply.Answer.TheVariants as answer
use Rattle.tracker_calls.specs.declared.cause.Cause.{Cause}
use Rattle.tracker_calls.specs.declared.cause.Cause.TheVariants as cause
use Rattle.tracker_calls.specs.declared.cause.Thing.TheVariants as thing
use Rattle.tracker_machine.specs.declared.wanted.Wanted.{Wanted}
use Rattle.tracker_machine.specs.declared.wanted.Wanted.TheVariants as wanted
use Rattle.tracker_machine.specs.Machine.{Machine}
use Rattle.fields.specs.Naming.{name_at}
use Rattle.tracker_machine.specs.Known.{project_keys, known_place, next_key}
use Rattle.tracker_machine.specs.Wanted.{given_for, wanted_or, wanted_given, wanted_in, changes_of}
use Rattle.tracker_machine.specs.Checks.{or_then, unless_known, set_refusal, permission_refusal, closed_refusal, issues_refusal, bytes_refusal, values_refusal}
use Rattle.tracker_machine.specs.Effect.Effect.{NewIssue}
use Rattle.tracker_machine.specs.Rank.{with_given, last_rank}
use Rattle.tracker_machine.specs.Meaning.{Meaning, unless}
use Rattle.tracker_machine.specs.Meaning.Meaning.{Refuses, Tells, Makes}

-- type and summary have members of their own, and aren't given in `set` as well
abbrev pub member_wanted : Names → ℕ → List GivenField → List ℕ → Wanted
member_wanted names n set text =
    if is_some (given_for names.fields n set) then wanted.NoValue
    else wanted_or (value_of names n text)

-- an issue begins in the setup's first status
abbrev pub status_wanted : Parts → List GivenField → Wanted
status_wanted setup set =
    if is_some (given_for setup.field number.STATUS.0 set) then wanted.NoValue
    else wanted.Value (Choice setup.first_status)

-- the caller reports the issue, unless `set` says otherwise
abbrev pub reporter_wanted : Parts → ℕ → List GivenField → Wanted
reporter_wanted setup caller set =
    option_map_or (wanted_given (names_in setup) number.REPORTER.0)
    (given_for setup.field number.REPORTER.0 set) (wanted.Value (User (record { 0 = caller })))

abbrev pub create_wants : Parts → ℕ → List ℕ → List ℕ → List GivenField → ℕ → Wanted
create_wants setup caller issue_type summary set n =
    if n == number.TYPE.0 then member_wanted (names_in setup) number.TYPE.0 set issue_type
    else if n == number.SUMMARY.0 then member_wanted (names_in setup) number.SUMMARY.0 set summary
    else if n == number.STATUS.0 then status_wanted setup set
    else if n == number.REPORTER.0 then reporter_wanted setup caller set
    else wanted_in (names_in setup) n set

-- ---- what may be refused before an external id is looked for

abbrev pub create_refusal : Machine → ℕ → List ℕ → List GivenField → Option Cause
create_refusal m caller project set =
    or_then (unless_known (place_named project (project_keys m.setup))
    (cause.Unknown thing.Project project))
    (or_then (set_refusal m set)
    (or_then (permission_refusal m caller permission.Browse
    (place_named project (project_keys m.setup)))
    (or_then (permission_refusal m caller permission.Create
    (place_named project (project_keys m.setup)))
    (closed_refusal m set None))))

-- ---- an issue that was created before

-- the issue of an external id that is given, where there is one
abbrev pub issue_called : Machine → Option (List ℕ) → Option History
issue_called m external =
    option_and_then (λ e. slice_get m.histories (e.no.0 - 1))
    (option_and_then (λ id. external_named id m.externals) external)

-- the value that a text is read as is this one
abbrev pub is_value_of : Names → ℕ → List ℕ → Value → Bool
is_value_of names n text v =
    option_map_or (λ other. same_value other v) (value_of names n text) false

-- the issue was created in the project of that key, with this type and this summary
abbrev pub is_created_as : Machine → List ℕ → List ℕ → List ℕ → History → Bool
is_created_as m project issue_type summary h =
    bytes_eq (project_of h.key) project
    && (is_value_of (names_in m.setup) number.TYPE.0 issue_type
    (opening_value h.opening number.TYPE)
    && same_value (Text summary) (opening_value h.opening number.SUMMARY))

-- it is told where it was created as the same, and refuses the call where it was created as another one
abbrev pub called_before : Bool → List ℕ → History → Meaning
called_before true external h = Tells (answer.Create true h.change h.key)
called_before false external h = Refuses (cause.ExternalIs external h.key)

-- ---- a new issue

-- there is room for it, and each value fits
abbrev pub new_issue_refusal : Machine → ℕ → List ℕ → List ℕ → List GivenField → Option Cause
new_issue_refusal m caller issue_type summary set =
    or_then (issues_refusal m) (or_then (bytes_refusal m)
    (values_refusal m (create_wants m.setup caller issue_type summary set)))

-- the project's key as the setup spells it
abbrev pub spelled_key : Machine → List ℕ → List ℕ
spelled_key m project = name_at (project_keys m.setup) (known_place project (project_keys m.setup))

-- the changes that aren't to nothing
abbrev pub filled : List Change → List Change
filled changes = filter (λ c. not (is_empty c.to)) changes

-- an issue of that key that opens now
abbrev pub opening_history : Machine → ℕ → List ℕ → List Change → History
opening_history m caller key opening = record {
  no = record { 0 = length m.histories + 1 };
  key = key;
  change = m.change + 1;
  at = m.moment;
  author = record { 0 = caller };
  opening = opening;
  entries = [];
}

abbrev pub opened : Machine → ℕ → List ℕ → List Change → History
opened m caller project opening = opening_history m caller (next_key m project) opening

-- an issue of the project of that key, with this external id if any, with these values, of this rank
abbrev pub created : Machine → ℕ → List ℕ → Option (List ℕ) → List Change → RankParts → Meaning
created m caller project external changes rank =
    Makes (answer.Create false (m.change + 1) (next_key m project))
    (NewIssue (opened m caller project (filled changes)) rank external)

abbrev pub new_issue_meaning : Machine → ℕ → List ℕ → List ℕ → List ℕ → List GivenField
    → Option (List ℕ) → Meaning
new_issue_meaning m caller project issue_type summary set external =
    unless (new_issue_refusal m caller issue_type summary set)
    (with_given (last_rank m)
    (created m caller project external
    (changes_of (names_in m.setup) (create_wants m.setup caller issue_type summary set))))

-- where an issue has the external id already, no other one is created
abbrev pub create_or_tell : Machine → ℕ → List ℕ → List ℕ → List ℕ → List GivenField
    → Option (List ℕ) → Option History → Meaning
create_or_tell m caller project issue_type summary set external None =
    new_issue_meaning m caller project issue_type summary set external
create_or_tell m caller project issue_type summary set external (Some h) =
    called_before (is_created_as m project issue_type summary h) (unwrap_or external []) h

abbrev pub create_meaning : Machine → ℕ → List ℕ → List ℕ → List ℕ → List GivenField
    → Option (List ℕ) → Meaning
create_meaning m caller project issue_type summary set external =
    unless (create_refusal m caller project set)
    (create_or_tell m caller (spelled_key m project) issue_type summary set external
    (issue_called m external))
