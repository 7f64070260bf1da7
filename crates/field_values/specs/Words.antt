-- The words of the setup for the days of the week, for categories of statuses and for kinds of fields.
use Rattle.std.specs.Prelude.{ℕ, List, Option, Some, None, if◌then◌else◌, codes}
use Rattle.std.specs.Str.{bytes_eq}
use Rattle.field_values.specs.declared.words.Weekday.{Weekday}
use Rattle.field_values.specs.declared.words.Weekday.TheVariants.{Monday, Tuesday, Wednesday, Thursday, Friday, Saturday, Sunday}
use Rattle.field_values.specs.declared.words.Category.{Category}
use Rattle.field_values.specs.declared.words.Category.TheVariants.{ToDo, InProgress, Done}
use Rattle.field_values.specs.declared.words.FieldKind.{FieldKind}
use Rattle.field_values.specs.declared.words.FieldKind.TheVariants.{Text, Number, Choice, User, Date}

abbrev pub weekday_of : List ℕ → Option Weekday
weekday_of word =
    if bytes_eq word (codes "monday") then Some Monday
    else if bytes_eq word (codes "tuesday") then Some Tuesday
    else if bytes_eq word (codes "wednesday") then Some Wednesday
    else if bytes_eq word (codes "thursday") then Some Thursday
    else if bytes_eq word (codes "friday") then Some Friday
    else if bytes_eq word (codes "saturday") then Some Saturday
    else if bytes_eq word (codes "sunday") then Some Sunday
    else None

abbrev pub category_of : List ℕ → Option Category
category_of word =
    if bytes_eq word (codes "todo") then Some ToDo
    else if bytes_eq word (codes "progress") then Some InProgress
    else if bytes_eq word (codes "done") then Some Done
    else None

abbrev pub field_kind_of : List ℕ → Option FieldKind
field_kind_of word =
    if bytes_eq word (codes "text") then Some Text
    else if bytes_eq word (codes "number") then Some Number
    else if bytes_eq word (codes "choice") then Some Choice
    else if bytes_eq word (codes "user") then Some User
    else if bytes_eq word (codes "date") then Some Date
    else None

-- Monday is 1 and Sunday 7
abbrev pub day_number : Weekday → ℕ
day_number Monday = 1
day_number Tuesday = 2
day_number Wednesday = 3
day_number Thursday = 4
day_number Friday = 5
day_number Saturday = 6
day_number Sunday = 7
