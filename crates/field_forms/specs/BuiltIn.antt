-- The names of the fields that every tracker has, their other names in queries, and the names of what is derived.
use Rattle.std.specs.Prelude.{ℕ, List, [], ◌∷◌, Bool, ◌||◌, Option, Some, None, if◌then◌else◌, codes}
use Rattle.std.specs.Str.{str_eq_ignore_ascii_case}
use Rattle.field_values.specs.declared.numbers.TheConstants.FieldNo as number
use Rattle.field_forms.specs.Names.{is_among}

-- the fields 1 to 13, in this order
abbrev pub field_names : List (List ℕ)
field_names =
    codes "type" ∷ codes "summary" ∷ codes "description" ∷ codes "status" ∷ codes "assignee"
    ∷ codes "reporter"
    ∷ codes "priority" ∷ codes "resolution" ∷ codes "fixVersion" ∷ codes "labels" ∷ codes "due"
    ∷ codes "points"
    ∷ codes "sprint" ∷ []

-- the other words that stand for a field in a query
abbrev pub query_words : List (List ℕ)
query_words =
    codes "issuetype" ∷ codes "duedate" ∷ codes "project" ∷ codes "key" ∷ codes "issue"
    ∷ codes "issuekey"
    ∷ codes "statusCategory" ∷ codes "created" ∷ codes "updated" ∷ codes "rank" ∷ []

-- the name of a field that every tracker has, or another word for a field
abbrev pub is_field_word : List ℕ → Bool
is_field_word name = is_among field_names name || is_among query_words name

-- the number of the field of that name, if every tracker has it
abbrev pub built_in_no : List ℕ → Option ℕ
built_in_no name =
    if str_eq_ignore_ascii_case (codes "type") name then Some number.TYPE.0
    else if str_eq_ignore_ascii_case (codes "summary") name then Some number.SUMMARY.0
    else if str_eq_ignore_ascii_case (codes "description") name then Some number.DESCRIPTION.0
    else if str_eq_ignore_ascii_case (codes "status") name then Some number.STATUS.0
    else if str_eq_ignore_ascii_case (codes "assignee") name then Some number.ASSIGNEE.0
    else if str_eq_ignore_ascii_case (codes "reporter") name then Some number.REPORTER.0
    else if str_eq_ignore_ascii_case (codes "priority") name then Some number.PRIORITY.0
    else if str_eq_ignore_ascii_case (codes "resolution") name then Some number.RESOLUTION.0
    else if str_eq_ignore_ascii_case (codes "fixVersion") name then Some number.FIX_VERSION.0
    else if str_eq_ignore_ascii_case (codes "labels") name then Some number.LABELS.0
    else if str_eq_ignore_ascii_case (codes "due") name then Some number.DUE.0
    else if str_eq_ignore_ascii_case (codes "points") name then Some number.POINTS.0
    else if str_eq_ignore_ascii_case (codes "sprint") name then Some number.SPRINT.0
    else None
