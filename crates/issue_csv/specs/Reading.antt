-- What a CSV asks for: behind its header each record is a new issue, up to the first record that is bad.
use Rattle.std.specs.Prelude.{ℕ, ◌+◌, ◌==◌, Bool, true, false, ◌&&◌, List, [], ◌∷◌, ◌++◌, length, Option, Some, None, unwrap_or, if◌then◌else◌, codes}
use Rattle.std.specs.List.{list_all}
use Rattle.std.specs.Str.{bytes_eq, is_utf8}
use Rattle.csv.specs.Reading.{records, default_config, strip_bom}
use Rattle.csv.specs.Records.{field_at}
use Rattle.tracker_calls.specs.declared.call.Call.{Call}
use Rattle.tracker_calls.specs.declared.call.Call.TheVariants as calls
use Rattle.tracker_calls.specs.declared.given.Given.TheVariants as given
use Rattle.tracker_calls.specs.declared.given.GivenField.{GivenField}

-- ---- records

-- all records as csv reads them, the header the first: a byte order mark is passed over, and so are empty lines
abbrev pub records_of : List ℕ → List (List (List ℕ))
records_of bytes = records default_config (strip_bom bytes)

-- the columns
abbrev pub header : List (List ℕ)
header =
    codes "external" ∷ codes "project" ∷ codes "type" ∷ codes "summary" ∷ codes "assignee"
    ∷ codes "reporter" ∷ codes "priority" ∷ codes "points" ∷ codes "due" ∷ []

-- the two have the same fields
abbrev pub same_fields : List (List ℕ) → List (List ℕ) → Bool
same_fields [] [] = true
same_fields [] (g ∷ gs) = false
same_fields (f ∷ fs) [] = false
same_fields (f ∷ fs) (g ∷ gs) = bytes_eq f g && same_fields fs gs

-- a field for each column, and each of them UTF-8
abbrev pub is_good : List (List ℕ) → Bool
is_good fields = (length fields == 9) && list_all is_utf8 fields

-- ---- the call of a record

-- the field of a column, counted from 0
abbrev pub column : List (List ℕ) → ℕ → List ℕ
column fields n = unwrap_or (field_at fields n) []

-- an empty field gives no external id
abbrev pub external_of : List ℕ → Option (List ℕ)
external_of [] = None
external_of (b ∷ rest) = Some (b ∷ rest)

-- what a field gives for the field of an issue of that name: its text, and where it is empty nothing
abbrev pub given_text : List ℕ → List ℕ → List GivenField
given_text name [] = []
given_text name (b ∷ rest) = (record { name = name; given = given.Text (b ∷ rest) }) ∷ []

-- what the fields of a record give, in byte order of the names
abbrev pub given_by : List (List ℕ) → List GivenField
given_by fields =
    given_text (codes "assignee") (column fields 4)
    ++ (given_text (codes "due") (column fields 8)
    ++ (given_text (codes "points") (column fields 7)
    ++ (given_text (codes "priority") (column fields 6)
    ++ given_text (codes "reporter") (column fields 5))))

-- a new issue, whose project, type and summary are these even where they are empty
unfoldable pub call_of : List (List ℕ) → Call
call_of fields =
    calls.Create (column fields 1) (column fields 2) (column fields 3) (given_by fields)
    (external_of (column fields 0))

-- ---- the calls of an input

-- the calls that records ask for, up to the first bad one, and the number of that one, if there is one
pub record Batch : Type 0 where
  pub calls : List Call
  pub bad : Option ℕ

abbrev pub all_done : Batch
all_done = record { calls = []; bad = None }

abbrev pub bad_at : ℕ → Batch
bad_at number = record { calls = []; bad = Some number }

-- the same, with one call in front
abbrev pub with_call : Call → Batch → Batch
with_call call batch = record { calls = call ∷ batch.calls; bad = batch.bad }

-- of records behind the header, the first of which has that number
unfoldable pub batch_from : ℕ → List (List (List ℕ)) → Batch
batch_from number [] = all_done
batch_from number (fields ∷ rest) =
    if is_good fields then with_call (call_of fields) (batch_from (number + 1) rest)
    else bad_at number

-- of all records; where the header isn't there or another, it is record 0 that is bad
abbrev pub batch_of : List (List (List ℕ)) → Batch
batch_of [] = bad_at 0
batch_of (fields ∷ rest) = if same_fields fields header then batch_from 1 rest else bad_at 0

-- of an input
abbrev pub batch_in : List ℕ → Batch
batch_in bytes = batch_of (records_of bytes)
