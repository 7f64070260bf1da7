-- What a body would be the row of, where it tells values of fields, the key of an issue or the members of a group.
use Rattle.std.specs.Prelude.{ℕ, ◌^◌, ◌&&◌, Bool, true, false, List, [], ◌∷◌, length, Option, Some, None, codes, nat_le, nat_lt, option_map, option_and_then, if◌then◌else◌, is_some}
use Rattle.field_values.specs.Digits.{read_on}
use Rattle.field_values.specs.GroupMembers.{is_user_list}
use Rattle.field_values.specs.declared.numbers.UserNo.{UserNo}
use Rattle.field_values.specs.declared.field.Field.{Field}
use Rattle.field_values.specs.declared.value.Value.{Value}
use Rattle.field_values.specs.declared.value.Value.TheVariants as value
use Rattle.field_forms.specs.Cuts.{cut_at}
use Rattle.field_forms.specs.Names.{place_named}
use Rattle.field_forms.specs.Numbers.{is_numeral}
use Rattle.field_forms.specs.Known.{Names, form_of, field_named, value_of, listed_value_of, fits}
use Rattle.field_forms.specs.TextLists.{texts_of}
use Rattle.fields.specs.Naming.{name_at, field_name, field_numbers, key_of}
use Rattle.change_history.specs.declared.change.Change.{Change}
use Rattle.change_history.specs.declared.entry.Entry.{Entry}
use Rattle.serde_json.specs.Data.{Data, Items, no_items, item}
use Rattle.serde_json.specs.Find.{get, at, as_str, as_null, as_array}
use Rattle.tracker_keeper.specs.declared.part.Part.{Part}
use Rattle.tracker_keeper.specs.declared.part.Part.TheVariants as part
use Rattle.tracker_keeper.specs.Forms.{is_filled}
use Rattle.tracker_keeper.specs.Looking.{number_in, natural_of, moment_at, user_at}
use Rattle.json_texts.specs.JsonMembers.{text_at}

-- ---- the members of a group

-- the number of one of the groups, which count from 1
abbrev pub group_in : ℕ → ℕ → Option ℕ
group_in count row_no =
    if nat_le 1 row_no && (nat_le row_no count && nat_lt row_no (2 ^ 16)) then Some row_no else None

-- the user that a text names
abbrev pub user_of : List (List ℕ) → Data → Option UserNo
user_of users d =
    option_map (λ place. record { 0 = place })
    (option_and_then (λ text. place_named text users) (as_str d))

abbrev pub users_in : List (List ℕ) → Items → Option (List UserNo)
users_in users no_items = Some []
users_in users (item d ds) =
    option_and_then (λ user. option_map (λ more. user ∷ more) (users_in users ds)) (user_of users d)

-- in the setup's order, each once
abbrev pub listed_users : List (List ℕ) → Items → Option (List UserNo)
listed_users users ds =
    option_and_then (λ members. if is_user_list (length users) members then Some members else None)
    (users_in users ds)

-- the items of a member
abbrev pub items_at : List ℕ → Data → Option Items
items_at name d = option_and_then as_array (get name d)

abbrev pub members_at : List (List ℕ) → Data → Option (List UserNo)
members_at users d = option_and_then (listed_users users) (items_at (codes "members") d)

unfoldable pub members_like : Names → ℕ → Data → Option Part
members_like names row_no d =
    option_and_then (λ group. option_map (λ members.
    part.Members (record { 0 = group }) members)
    (members_at names.users d)) (group_in (length names.groups) row_no)

-- ---- values

abbrev pub is_sprint : Value → Bool
is_sprint (value.Sprint sprint) = true
is_sprint _ = false

-- a sprint is told by its number, and by nothing else
abbrev pub unless_sprint : Value → Option Value
unless_sprint v = if is_sprint v then None else Some v

abbrev pub sprint_value : Names → ℕ → ℕ → Option Value
sprint_value names n sprint =
    if nat_lt sprint (2 ^ 32) && fits names n (value.Sprint (record { 0 = sprint }))
    then Some (value.Sprint (record { 0 = sprint })) else None

abbrev pub text_value : Names → ℕ → List ℕ → Option Value
text_value names n text = option_and_then unless_sprint (value_of names n text)

abbrev pub list_value : Names → ℕ → Option (List (List ℕ)) → Option Value
list_value names n texts =
    option_and_then unless_sprint (option_and_then (listed_value_of names n) texts)

-- the value of a field that a text, a number or a list of texts tells
abbrev pub told_by : Names → ℕ → Option (List ℕ) → Option ℕ → Option (List (List ℕ)) → Option Value
told_by names n (Some text) sprint texts = text_value names n text
told_by names n None (Some sprint) texts = sprint_value names n sprint
told_by names n None None texts = list_value names n texts

-- the value that stands there, where null tells what is empty
abbrev pub value_like : Names → ℕ → Data → Option Value
value_like names n d =
    if is_some (as_null d) then Some value.Empty
    else told_by names n (as_str d) (natural_of d) (texts_of d)

abbrev pub unless_empty : Value → Option Value
unless_empty v = if is_filled v then Some v else None

-- one that isn't empty
abbrev pub filled_like : Names → ℕ → Data → Option Value
filled_like names n d = option_and_then unless_empty (value_like names n d)

-- ---- an issue

-- the number in an issue's key
abbrev pub key_number : List ℕ → Option ℕ
key_number digits = if is_numeral 10 digits then number_in (read_on 0 digits) else None

-- the key of an issue of one of the projects
abbrev pub key_like : List (List ℕ) → List ℕ → Option (List ℕ)
key_like projects text =
    option_and_then (λ parts. option_and_then
    (λ place. option_map (λ n. key_of (name_at projects place) n) (key_number parts.1))
    (place_named parts.0 projects))
    (cut_at 45 text)

abbrev pub key_at : List (List ℕ) → Data → Option (List ℕ)
key_at projects d = option_and_then (key_like projects) (text_at (codes "key") d)

-- the number of a change group
abbrev pub change_in : ℕ → Option ℕ
change_in n = if nat_le 1 n && nat_lt n (2 ^ 64) then Some n else None

abbrev pub change_at : List ℕ → Data → Option ℕ
change_at name d = option_and_then change_in (option_and_then natural_of (get name d))

-- the value of a field, where it is there, before those of others
abbrev pub with_value : Names → ℕ → Option Data → Option (List Change) → Option (List Change)
with_value names n None rest = rest
with_value names n (Some v) rest =
    option_and_then (λ to. option_map
    (λ more. record { field = record { 0 = n }; to = to } ∷ more) rest) (filled_like names n v)

-- the values of these fields, by name; a field that isn't there is passed over
abbrev pub values_like : Names → Data → List ℕ → Option (List Change)
values_like names d [] = Some []
values_like names d (n ∷ ns) =
    with_value names n (get (field_name names.fields n) d) (values_like names d ns)

abbrev pub values_at : Names → Data → Option (List Change)
values_at names d =
    option_and_then (λ fields. values_like names fields (field_numbers names.fields))
    (get (codes "fields") d)

unfoldable pub issue_like : Names → List (List ℕ) → ℕ → Data → Option Part
issue_like names projects row_no d =
    option_and_then (λ n. option_and_then
    (λ change. option_and_then (λ at. option_and_then
    (λ author. option_and_then (λ key. option_map (λ values.
    part.Issue (record { 0 = n }) key change at author values)
    (values_at names d)) (key_at projects d)) (user_at names.users (codes "author") d))
    (moment_at (codes "at") d)) (change_at (codes "change") d)) (number_in row_no)

-- ---- a change group

-- the number of the field of that name
abbrev pub field_in : List Field → List ℕ → Option ℕ
field_in fields name =
    option_and_then (λ n. option_map (λ form. n) (form_of fields n)) (field_named fields name)

abbrev pub value_at : Names → ℕ → ℕ → Data → Option Value
value_at names n place d = option_and_then (value_like names n) (at place d)

abbrev pub field_at : List Field → Data → Option ℕ
field_at fields d = option_and_then (field_in fields) (option_and_then as_str (at 0 d))

-- the field, and what it held and holds
abbrev pub entry_like : Names → ℕ → ℕ → UserNo → Data → Option Entry
entry_like names change moment author d =
    option_and_then (λ n. option_and_then (λ from. option_map (λ to.
    record
    { change = change; at = moment; author = author; field = record { 0 = n }; from = from; to = to })
    (value_at names n 2 d)) (value_at names n 1 d)) (field_at names.fields d)

abbrev pub entries_like : Names → ℕ → ℕ → UserNo → Items → Option (List Entry)
entries_like names change moment author no_items = Some []
entries_like names change moment author (item d ds) =
    option_and_then (λ e. option_map (λ more. e ∷ more)
    (entries_like names change moment author ds)) (entry_like names change moment author d)

abbrev pub entries_at : Names → ℕ → ℕ → UserNo → Data → Option (List Entry)
entries_at names change moment author d =
    option_and_then (entries_like names change moment author) (items_at (codes "entries") d)

abbrev pub number_at : List ℕ → Data → Option ℕ
number_at name d = option_and_then number_in (option_and_then natural_of (get name d))

unfoldable pub group_like : Names → ℕ → Data → Option Part
group_like names row_no d =
    option_and_then (λ change. option_and_then
    (λ at. option_and_then (λ author. option_and_then (λ issue. option_map (λ entries.
    part.Group (record { 0 = issue })
    (record { change = change; at = at; author = author; entries = entries }))
    (entries_at names change at author d)) (number_at (codes "issue") d))
    (user_at names.users (codes "author") d)) (moment_at (codes "at") d)) (change_in row_no)
