-- The order in which issues are listed.
use Rattle.std.specs.Prelude.{ℕ, ◌-◌, ◌==◌, ◌+◌, ◌*◌, List, [], ◌∷◌, fold, Option, Some, None, unwrap_or, slice_get, ℤ, pos, neg_ℤ, if◌then◌else◌}
use Rattle.std.specs.List.{after_first}
use Rattle.std.specs.Cmp.Lexicographic.{slice_cmp}
use Rattle.std.specs.Ordering.{int_cmp, nat_cmp, ordering_then, ordering_reverse}
use Rattle.std.specs.declared.cmp.Ordering.{Ordering}
use Rattle.field_values.specs.declared.numbers.TheConstants.FieldNo as number
use Rattle.field_values.specs.declared.numbers.FieldNo.{FieldNo}
use Rattle.field_values.specs.declared.value.Value.{Value}
use Rattle.field_values.specs.declared.words.Category.{Category}
use Rattle.field_values.specs.declared.status.Status.{Status}
use Rattle.field_values.specs.Parts.{Parts}
use Rattle.change_history.specs.History.{History, present, updated}
use Rattle.jql_bound.specs.declared.leaf.Subject.{Subject}
use Rattle.jql_bound.specs.declared.order.SortField.{SortField}
use Rattle.jql_bound.specs.declared.order.Direction.{Direction}
use Rattle.jql_bound.specs.declared.order.OrderKey.{OrderKey}
use Rattle.change_history.specs.Key.{project_of}

-- what decides where an issue stands: a size, a text, the two parts of an issue's key, or nothing, which comes last
pub data Standing : Type 0 where
  size : ℤ → Standing
  text : List ℕ → Standing
  key : List ℕ → ℕ → Standing
  nothing : Standing

abbrev pub kind_place : Standing → ℕ
kind_place (size n) = 0
kind_place (text t) = 1
kind_place (key project number) = 2
kind_place nothing = 3

abbrev pub text_cmp : List ℕ → List ℕ → Ordering
text_cmp one other = slice_cmp nat_cmp one other

-- sizes by size, texts by their bytes, keys by the project and then by the number
abbrev pub standing_cmp : Standing → Standing → Ordering
standing_cmp (size n) (size m) = int_cmp n m
standing_cmp (text t) (text u) = text_cmp t u
standing_cmp (key p n) (key q m) = ordering_then (text_cmp p q) (nat_cmp n m)
standing_cmp one other = nat_cmp (kind_place one) (kind_place other)

-- the number that digits write
abbrev pub number_in : List ℕ → ℕ
number_in digits = fold (λ number digit. 10 * number + (digit - 48)) 0 digits

-- the number in an issue's key
abbrev pub number_of : List ℕ → ℕ
number_of name = number_in (after_first (λ byte. byte == 45) name)

-- a user stands by name and a choice by its place in the setup's list; priorities stand from the lowest, which is the last, to the
-- highest
abbrev pub value_standing : Parts → FieldNo → Value → Standing
value_standing parts field (Value.Text t) = text t
value_standing parts field (Value.Number n) = size n
value_standing parts field (Value.Choice choice) =
    if field.0 == number.PRIORITY.0 then size (neg_ℤ (pos choice.0)) else size (pos choice.0)
value_standing parts field (Value.User user) = text (unwrap_or (slice_get parts.users user.0) [])
value_standing parts field (Value.Date day) = size day.0
value_standing parts field (Value.Sprint sprint) = size (pos sprint.0)
value_standing parts field v = nothing

abbrev pub category_place : Category → ℤ
category_place Category.ToDo = pos 0
category_place Category.InProgress = pos 1
category_place Category.Done = pos 2

abbrev pub status_standing : Option Status → Standing
status_standing None = nothing
status_standing (Some status) = size (category_place status.category)

abbrev pub category_standing : Parts → Value → Standing
category_standing parts (Value.Choice choice) = status_standing (slice_get parts.status choice.0)
category_standing parts v = nothing

abbrev pub standing : Parts → History → Subject → Standing
standing parts h (Subject.Field field) = value_standing parts field (present h field)
standing parts h Subject.Project = text (project_of h.key)
standing parts h Subject.Key = key (project_of h.key) (number_of h.key)
standing parts h Subject.Created = size (pos h.at)
standing parts h Subject.Updated = size (pos (updated h))

-- `ranks` says how the two issues stand on the board, from the top
abbrev pub field_cmp : Parts → Ordering → History → History → SortField → Ordering
field_cmp parts ranks one other (SortField.Subject subject) =
    standing_cmp (standing parts one subject) (standing parts other subject)
field_cmp parts ranks one other SortField.StatusCategory =
    standing_cmp (category_standing parts (present one number.STATUS))
    (category_standing parts (present other number.STATUS))
field_cmp parts ranks one other SortField.Rank = ranks

-- going down, all stand the other way round, nothing first
abbrev pub directed : Direction → Ordering → Ordering
directed Direction.Ascending o = o
directed Direction.Descending o = ordering_reverse o

-- the first sort key that tells two issues apart decides, and after all of them the issues' numbers, upwards
unfoldable pub issue_cmp : Parts → List OrderKey → Ordering → History → History → Ordering
issue_cmp parts [] ranks one other = nat_cmp one.no.0 other.no.0
issue_cmp parts (sort ∷ sorts) ranks one other =
    ordering_then (directed sort.direction (field_cmp parts ranks one other sort.field))
    (issue_cmp parts sorts ranks one other)
