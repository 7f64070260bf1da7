-- The fields of a head, each a name and a value, and what the server reads of them.
use Rattle.std.specs.Prelude.{ℕ, ◌==◌, ◌+◌, List, [], ◌∷◌, length, take, drop, codes, Bool, ◌&&◌, ◌||◌, nat_le, Option, Some, None, if◌then◌else◌}
use Rattle.std.specs.List.{list_all, list_any}
use Rattle.std.specs.Str.{str_eq_ignore_ascii_case}
use Rattle.field_values.specs.Digits.{read_on}
use Rattle.tracker_http.specs.CommaLists.{pieces}
use Rattle.httparse.specs.Grammar.{is_ows, skip_ows}

abbrev pub Fields : Type 0
Fields = List (List ℕ × List ℕ)

abbrev pub host : List ℕ
host = codes "Host"

abbrev pub x_user : List ℕ
x_user = codes "X-User"

abbrev pub content_length : List ℕ
content_length = codes "Content-Length"

abbrev pub transfer_encoding : List ℕ
transfer_encoding = codes "Transfer-Encoding"

abbrev pub connection : List ℕ
connection = codes "Connection"

-- the field has that name, whatever the case of ASCII letters
unfoldable pub is_named : List ℕ → List ℕ × List ℕ → Bool
is_named name field = str_eq_ignore_ascii_case field.0 name

-- how many fields have that name
abbrev pub count_named : List ℕ → Fields → ℕ
count_named name [] = 0
count_named name (field ∷ fields) =
    if is_named name field then count_named name fields + 1 else count_named name fields

-- the value of the first field of that name
abbrev pub value_named : List ℕ → Fields → Option (List ℕ)
value_named name [] = None
value_named name (field ∷ fields) =
    if is_named name field then Some field.1 else value_named name fields

-- white space, the word close in any case, and white space
unfoldable pub is_close : List ℕ → Bool
is_close piece =
    nat_le 5 (length (skip_ows piece))
    && str_eq_ignore_ascii_case (take 5 (skip_ows piece)) (codes "close")
    && list_all is_ows (drop 5 (skip_ows piece))

-- one token of a comma list is close
unfoldable pub has_close : List ℕ → Bool
has_close value = list_any is_close (pieces value)

abbrev pub says_close : List ℕ × List ℕ → Bool
says_close field = is_named connection field && has_close field.1

-- the connection closes after a request of HTTP/1.0, and after one that says so in any field
abbrev pub closes : ℕ → Fields → Bool
closes minor fields = minor == 0 || list_any says_close fields

-- the length that the fields tell of the body, which is empty where they tell none
abbrev pub length_of : Option (List ℕ) → ℕ
length_of None = 0
length_of (Some value) = read_on 0 value

abbrev pub body_len : Fields → ℕ
body_len fields = length_of (value_named content_length fields)
