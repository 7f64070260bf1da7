-- Inputs, and what they ask for.
use Rattle.std.proofs.Common.{◌≡◌, ℕ, List, [], ◌∷◌, ◌++◌, codes, Some, None, refl}
use Rattle.std.specs.Bool.{⊤}
use lib.Utf8.{encode}
use Rattle.csv.specs.Records.{field_at}
use Rattle.std.specs.Str.{is_utf8, chars}
use Rattle.csv.proofs.OnLiterals.{csv_on_literals}
use Rattle.tracker_calls.specs.declared.call.Call.{Call}
use Rattle.tracker_calls.specs.declared.call.Call.TheVariants.{Create}
use Rattle.tracker_calls.specs.declared.given.Given.TheVariants.{Text}
use Rattle.tracker_calls.specs.declared.given.GivenField.{GivenField}
use Rattle.issue_csv.specs.Reading.{all_done, bad_at, batch_in, batch_from, call_of, with_call}

-- what computes
unfoldable on_literals : ⊤
unfolding csv_on_literals is_utf8 chars encode field_at batch_from call_of
on_literals = tt

abbrev head : List ℕ
head = codes "external,project,type,summary,assignee,reporter,priority,points,due"

abbrev line : List ℕ
line = codes "X-1,OPS,Task,Move desks,bo,,High,1,2024-04-01"

abbrev gives : List ℕ → List ℕ → GivenField
gives name text = record { name = name; given = Text text }

abbrev move_desks : Call
move_desks =
    Create (codes "OPS") (codes "Task") (codes "Move desks")
    (gives (codes "assignee") (codes "bo") ∷ gives (codes "due") (codes "2024-04-01")
    ∷ gives (codes "points") (codes "1") ∷ gives (codes "priority") (codes "High") ∷ [])
    (Some (codes "X-1"))

-- a reporter isn't given
pub an_issue : batch_in (head ++ (codes "\n" ++ (line ++ codes "\n"))) ≡ with_call move_desks all_done
unfolding on_literals
an_issue = refl

-- the last record may end with the input; CR LF, LF and CR alone end records, and empty lines are passed over
pub line_ends : batch_in (head ++ (codes "\r\n\n\r\r\n" ++ (line ++ (codes "\r" ++ line))))
    ≡ with_call move_desks (with_call move_desks all_done)
unfolding on_literals
line_ends = refl

-- a byte order mark, in front of names in quotes
pub a_mark : batch_in (0xEF ∷ 0xBB ∷ 0xBF ∷ (codes "\"external\",\"project\",type,summary,assignee,reporter,priority,points,due\n" ++ line))
    ≡ with_call move_desks all_done
unfolding on_literals
a_mark = refl

-- commas, quotes and line ends in quotes; project, type and summary that are empty phase, and no other field is given
pub in_quotes : batch_in (head ++ (codes "\n\"\",,,\"a, \"\"b\"\"\r\nc\",,,,,\n,,,,,,,,"))
    ≡ with_call (Create [] [] (codes "a, \"b\"\r\nc") [] None) (with_call (Create [] [] [] [] None) all_done)
unfolding on_literals
in_quotes = refl

-- no record at all
pub nothing : batch_in [] ≡ bad_at 0
unfolding on_literals
nothing = refl

pub empty_lines : batch_in (codes "\r\n\n") ≡ bad_at 0
unfolding on_literals
empty_lines = refl

pub no_issue : batch_in head ≡ all_done
unfolding on_literals
no_issue = refl

-- another header
pub another_header : batch_in (codes "external,project,type,summary,assignee,reporter,priority,due,points\n" ++ line) ≡ bad_at 0
unfolding on_literals
another_header = refl

-- a record of two fields, of eight, and of ten
pub two_fields : batch_in (head ++ (codes "\n" ++ (line ++ codes "\na,b"))) ≡ with_call move_desks (bad_at 2)
unfolding on_literals
two_fields = refl

pub eight_fields : batch_in (head ++ (codes "\n" ++ (line ++ (codes "\n\n1,2,3,4,5,6,7,8\n" ++ line)))) ≡ with_call move_desks (bad_at 2)
unfolding on_literals
eight_fields = refl

pub ten_fields : batch_in (head ++ codes "\n1,2,3,4,5,6,7,8,9,10") ≡ bad_at 1
unfolding on_literals
ten_fields = refl

-- a field that isn't UTF-8
pub other_bytes : batch_in (head ++ (codes "\n,OPS,Task," ++ (0xFF ∷ codes ",,,,,"))) ≡ bad_at 1
unfolding on_literals
other_bytes = refl
