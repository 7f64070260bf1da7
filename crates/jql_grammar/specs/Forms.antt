-- Texts that stand for values by their form alone.
use Rattle.std.specs.Prelude.{ℕ, ◌==◌, Bool, true, false, not, ◌&&◌, nat_le, List, length, slice_index, Option, Some, None, if◌then◌else◌, codes}
use Rattle.std.specs.List.{list_all}
use Rattle.std.specs.Option.{option_map_or}
use Rattle.field_values.specs.declared.words.Category.{Category}
use Rattle.field_values.specs.declared.words.Category.TheVariants.{ToDo, InProgress, Done}
use Rattle.field_forms.specs.Cuts.{cut_at}
use Rattle.field_forms.specs.Names.{is_project_key}
use Rattle.field_values.specs.Digits.{read_on, is_digit}
use Rattle.relative_dates.specs.Call.{is_named}

-- one digit or more
abbrev pub are_digits : List ℕ → Bool
are_digits text = not (length text == 0) && list_all is_digit text

-- a number up to 4,294,967,295
abbrev pub small : ℕ → Option ℕ
small n = if nat_le n 4_294_967_295 then Some n else None

-- the number that digits write
unfoldable pub number_in : List ℕ → Option ℕ
number_in text = if are_digits text then small (read_on 0 text) else None

-- a number from 1 with no zero before it
abbrev pub is_issue_number : List ℕ → Bool
is_issue_number text =
    not (slice_index text 0 == 48) && option_map_or (λ n. true) (number_in text) false

-- an issue's key, as OPS-7
unfoldable pub is_issue_key : List ℕ → Bool
is_issue_key text =
    option_map_or (λ parts. is_project_key parts.0 && is_issue_number parts.1)
    (cut_at 45 text) false

-- the category of that name
unfoldable pub category_named : List ℕ → Option Category
category_named name =
    if is_named name (codes "To Do") then Some ToDo
    else (if is_named name (codes "In Progress") then Some InProgress
    else (if is_named name (codes "Done") then Some Done
    else None))

abbrev pub is_same_category : Category → Category → Bool
is_same_category ToDo ToDo = true
is_same_category InProgress InProgress = true
is_same_category Done Done = true
is_same_category _ _ = false
