-- Checks, the first of which that fails refuses a call.
use Rattle.std.specs.Option.{is_some}
use Rattle.std.specs.Str.{bytes_eq}
use Rattle.std.specs.Prelude.{ℕ, ◌+◌, ◌*◌, ◌&&◌, ◌||◌, Bool, false, not, List, [], ◌∷◌, Option, Some, None, if◌then◌else◌, option_map, option_and_then, length, nat_lt, nat_le, sum_by, decimal, codes, ◌-◌}
use Rattle.field_values.specs.declared.numbers.TheConstants.FieldNo as number
use Rattle.field_values.specs.declared.field.Field.{Field}
use Rattle.field_values.specs.declared.value.Value.{Value}
use Rattle.field_values.specs.declared.value.Value.TheVariants as value
use Rattle.field_values.specs.declared.rules.Permission.{Permission}
use Rattle.field_forms.specs.Values.{is_before}
use Rattle.field_forms.specs.Names.{place_named, is_title}
use Rattle.tracker_limits.specs.Limits.{entries_reserve, most_entries, most_issues, most_text_bytes, text_reserve}
use Rattle.fields.specs.SetupParts.{names_in, may}
use Rattle.change_history.specs.declared.entry.Entry.{Entry}
use Rattle.change_history.specs.History.{History}
use Rattle.tracker_calls.specs.Given.{has_twins}
use Rattle.external_ids.specs.Form.{is_external}
use Rattle.tracker_calls.specs.Named.{are_few, are_few_fields}
use Rattle.tracker_calls.specs.Part.{part_fault}
use Rattle.tracker_calls.specs.declared.call.Part.{Part}
use Rattle.tracker_calls.specs.declared.given.GivenField.{GivenField}
use Rattle.tracker_calls.specs.declared.cause.Cause.{Cause}
use Rattle.tracker_calls.specs.declared.cause.Cause.TheVariants as cause
use Rattle.tracker_calls.specs.declared.cause.Limit.TheVariants as limit
use Rattle.tracker_calls.specs.declared.reply.SprintPhase.TheVariants as phase
use Rattle.tracker_calls.specs.declared.cause.Thing.TheVariants as thing
use Rattle.tracker_machine.specs.declared.wanted.Wanted.{Wanted}
use Rattle.sprints.specs.declared.sprint.Sprint.{Sprint}
use Rattle.sprints.specs.Sprint.{sprint_of}
use Rattle.tracker_work.specs.Seen.{state_in}
use Rattle.tracker_machine.specs.Machine.{Machine}
use Rattle.tracker_machine.specs.SprintRules.{is_closed, is_in_sprint}
use Rattle.fields.specs.Naming.{name_at, field_name}
use Rattle.tracker_machine.specs.Known.{is_field, names_field, project_keys}
use Rattle.tracker_machine.specs.Wanted.{given_for, sprint_number, field_at_fault}

-- the first of two checks that fails
abbrev pub or_then : Option Cause → Option Cause → Option Cause
or_then None later = later
or_then (Some r) later = Some r

-- what is looked for must be there
abbrev pub unless_known : {A : Type 0} → Option A → Cause → Option Cause
unless_known None r = Some r
unless_known (Some x) r = None

abbrev pub only_if : Bool → Cause → Option Cause
only_if holds r = if holds then None else Some r

-- ---- the form of a call

-- the names in `set` don't differ in case alone
abbrev pub twins_refusal : List GivenField → Option Cause
twins_refusal set = if has_twins set then Some (cause.Form (codes "set")) else None

-- an external id, if one is given, has its form
abbrev pub external_refusal : Option (List ℕ) → Option Cause
external_refusal None = None
external_refusal (Some id) = only_if (is_external id) (cause.Form (codes "external"))

-- at most 200 members are named
abbrev pub few_refusal : List (List ℕ) → Option Cause
few_refusal names = only_if (are_few names) (cause.Form (codes "members"))

-- at most 50 fields are named, if any are
abbrev pub few_fields_refusal : Option (List (List ℕ)) → Option Cause
few_fields_refusal None = None
few_fields_refusal (Some names) = only_if (are_few_fields names) (cause.Form (codes "fields"))

-- a part is in range
abbrev pub part_refusal : ℕ → Part → Option Cause
part_refusal most part = option_map cause.Form (part_fault most part)

-- so is the number of picks of a step
abbrev pub count_refusal : ℕ → ℕ → Option Cause
count_refusal most n = only_if (nat_le 1 n && nat_le n most) (cause.Form (codes "count"))

-- an issue isn't moved beside itself
abbrev pub other_refusal : List ℕ → List ℕ → Option Cause
other_refusal issue other =
    if bytes_eq other issue then Some (cause.Form (codes "other")) else None

-- a filter, a board or a sprint has a name of its form
abbrev pub title_refusal : List ℕ → Option Cause
title_refusal name = only_if (is_title name) (cause.Form (codes "name"))

-- ---- names

-- the caller is one of the setup's users
abbrev pub caller_refusal : Machine → List ℕ → Option Cause
caller_refusal m caller =
    unless_known (place_named caller m.setup.users) (cause.Unknown thing.User caller)

-- the sprint into which `set` puts the issue
abbrev pub sprint_given : List Field → List GivenField → Option ℕ
sprint_given fields set = option_and_then sprint_number (given_for fields number.SPRINT.0 set)

-- the same where that sprint isn't there
abbrev pub missing_sprint : List Sprint → Option ℕ → Option ℕ
missing_sprint sprints None = None
missing_sprint sprints (Some k) = if is_some (sprint_of sprints k) then None else Some k

-- no sprint is missing
abbrev pub sprint_refusal : Option ℕ → Option Cause
sprint_refusal None = None
sprint_refusal (Some k) = Some (cause.Unknown thing.Sprint (decimal k))

-- the name is a field's, and where it is that of the sprint field, no sprint is missing
abbrev pub name_refusal : List Field → Option ℕ → List ℕ → Option Cause
name_refusal fields missing name =
    if is_field fields name
    then (if names_field fields number.SPRINT.0 name then sprint_refusal missing else None)
    else Some (cause.Unknown thing.Field name)

-- the names in `set` that are refused
abbrev pub refused_names : List Field → Option ℕ → List GivenField → List (List ℕ)
refused_names fields missing [] = []
refused_names fields missing (g ∷ gs) =
    if is_some (name_refusal fields missing g.name) then g.name ∷ refused_names fields missing gs
    else refused_names fields missing gs

-- of a name found before, if there is one, and another the one that comes first in byte order
abbrev pub sooner : Option (List ℕ) → List ℕ → List ℕ
sooner None name = name
sooner (Some found) name = if is_before name found then name else found

-- the first in byte order of some names and one that may be found before
abbrev pub first_with : Option (List ℕ) → List (List ℕ) → Option (List ℕ)
first_with found [] = found
first_with found (name ∷ names) = first_with (Some (sooner found name)) names

-- each name in `set` is looked at in byte order, wherever it stands
abbrev pub names_refusal : List Field → Option ℕ → List GivenField → Option Cause
names_refusal fields missing set =
    option_and_then (name_refusal fields missing)
    (first_with None (refused_names fields missing set))

abbrev pub set_refusal : Machine → List GivenField → Option Cause
set_refusal m set =
    names_refusal m.setup.field (missing_sprint m.sprints (sprint_given m.setup.field set)) set

-- ---- permissions

-- the caller has a permission in the project at a place
abbrev pub permission_refusal : Machine → ℕ → Permission → Option ℕ → Option Cause
permission_refusal m caller permission place =
    only_if (may m.setup caller permission place)
    (cause.Forbidden permission (option_map (name_at (project_keys m.setup)) place))

-- ---- sprints

-- an issue, if there is one, is in the sprint
abbrev pub is_in : Option History → ℕ → Bool
is_in None sprint = false
is_in (Some h) sprint = is_in_sprint sprint h

-- the sprint isn't closed, unless the issue is in it already
abbrev pub sprint_closed_refusal : List Sprint → Option History → ℕ → Option Cause
sprint_closed_refusal sprints h sprint =
    only_if (not (is_closed (state_in sprints sprint)) || is_in h sprint)
    (cause.SprintIs phase.Closed)

-- so is the one into which `set` puts an issue
abbrev pub closed_refusal : Machine → List GivenField → Option History → Option Cause
closed_refusal m set h =
    option_and_then (sprint_closed_refusal m.sprints h) (sprint_given m.setup.field set)

-- ---- limits

-- there is room for one more issue
abbrev pub issues_refusal : Machine → Option Cause
issues_refusal m = only_if (nat_lt (length m.histories) most_issues) (cause.Limit limit.Issues)

-- how many entries are kept
abbrev pub entries_kept : List History → ℕ
entries_kept histories = sum_by (λ h. length h.entries) histories

-- a change finds room for an entry of each of the 43 fields that an issue can have
abbrev pub entries_refusal : Machine → Option Cause
entries_refusal m =
    only_if (nat_le (entries_kept m.histories) (most_entries - entries_reserve)) (cause.Limit limit.Entries)

-- the bytes of a text or of labels, and 62 for each version
abbrev pub text_bytes : Value → ℕ
text_bytes (value.Text text) = length text
text_bytes (value.Labels labels) = sum_by length labels
text_bytes (value.Set choices) = 62 * length choices
text_bytes _ = 0

-- those of both sides of an entry
abbrev pub entry_bytes : Entry → ℕ
entry_bytes e = text_bytes e.from + text_bytes e.to

-- those of opening values and entries
abbrev pub history_bytes : History → ℕ
history_bytes h = sum_by (λ c. text_bytes c.to) h.opening + sum_by entry_bytes h.entries

abbrev pub bytes_kept : List History → ℕ
bytes_kept histories = sum_by history_bytes histories

-- a change finds room for the text bytes that one call can add
abbrev pub bytes_refusal : Machine → Option Cause
bytes_refusal m =
    only_if (nat_le (bytes_kept m.histories) (most_text_bytes - text_reserve)) (cause.Limit limit.TextBytes)

-- ---- values

-- each value fits its field
abbrev pub values_refusal : Machine → (ℕ → Wanted) → Option Cause
values_refusal m wants =
    option_map (λ n. cause.Unfit (field_name m.setup.field n))
    (field_at_fault (names_in m.setup) wants)
