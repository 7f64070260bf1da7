-- The line of a row, and which lines are a row's.
use Rattle.std.specs.Prelude.{◌≡◌, ◌<◌, ◌^◌, ℕ, suc, List, [], ◌∷◌, ◌++◌, Some, codes, decimal}
use Rattle.std.specs.Str.{IsUtf8}
use Rattle.json.specs.Json.{Json, null, boolean, number, string, array, object, Members, no_members, member, document}
use Rattle.json.specs.Find.{get}
use Rattle.json.specs.Tree.{json_tokens}
use Rattle.json.specs.Print.{print}
use Rattle.tracker_keeper.specs.declared.row.Row.{Row}

-- ---- as it is written

-- a row as JSON: its text, its kind and its number
unfoldable pub row_json : Row → Json
row_json row = object
    (member (codes "body") (string row.body)
    (member (codes "kind") (number (decimal row.kind))
    (member (codes "no") (number (decimal row.no)) no_members)))

-- the line of a row: this JSON without a space
abbrev pub row_line : Row → List ℕ
row_line row = print (json_tokens (row_json row))

-- the lines of rows, each with its line feed
abbrev pub rows_text : List Row → List ℕ
rows_text [] = []
rows_text (row ∷ rows) = row_line row ++ 10 ∷ rows_text rows

-- ---- as it is read

-- how many members an object has
abbrev pub count_members : Members → ℕ
count_members no_members = 0
count_members (member name value more) = suc (count_members more)

abbrev pub member_count : Json → ℕ
member_count null = 0
member_count (boolean truth) = 0
member_count (number digits) = 0
member_count (string text) = 0
member_count (array items) = 0
member_count (object members) = count_members members

-- the JSON says this row: an object with its text, its kind and its number, in any order, each once and no other member. A number
-- is in digits without a point, an exponent, a sign or a zero before them
pub record SaysRow (row : Row) (json : Json) : Type 0 where
  pub three : member_count json ≡ 3
  pub body_is : get (codes "body") json ≡ Some (string row.body)
  pub kind_is : get (codes "kind") json ≡ Some (number (decimal row.kind))
  pub number_is : get (codes "no") json ≡ Some (number (decimal row.no))
  pub kind_small : row.kind < 2 ^ 8
  pub number_small : row.no < 2 ^ 63

-- the line is this row's: one value of JSON, with blanks wherever JSON allows them
pub record IsLineOf (row : Row) (line : List ℕ) : Type 0 where
  pub utf8 : IsUtf8 line
  pub json : Json
  pub document_is : document line ≡ Some json
  pub says : SaysRow row json
