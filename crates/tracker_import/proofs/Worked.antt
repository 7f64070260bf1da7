-- Two records are imported into a new tracker, of which the second repeats the external id of the first, and what is exported then.
use Rattle.std.proofs.Common.{◌≡◌, ℕ, List, [], ◌∷◌, ◌++◌, Some, codes, refl}
use Rattle.std.specs.Bool.{⊤}
use Rattle.std.specs.Fmt.{digits}
use Rattle.serde_json.proofs.OnLiterals.{serde_json_on_literals}
use lib.Utf8.{encode}
use Rattle.std.specs.Str.{is_utf8, chars}
use Rattle.csv.proofs.OnLiterals.{csv_on_literals}
use Rattle.csv.specs.Records.{field_at}
use Rattle.csv.specs.Writing.{escaped, fields_text, is_blank}
use Rattle.field_values.specs.declared.numbers.GroupNo.{GroupNo}
use Rattle.field_values.specs.Parts.{Parts}
use Rattle.field_forms.specs.Known.{form_of, choices_of, value_of, fits}
use Rattle.field_forms.specs.Values.{value_in}
use Rattle.rank_strings.specs.Choice.{chosen_between}
use Rattle.board.specs.Moved.{rank_given}
use Rattle.tracker_calls.specs.declared.call.Call.{Call}
use Rattle.tracker_calls.specs.declared.call.Call.TheVariants.{Create}
use Rattle.reply_texts.specs.Reply.{reply_text}
use Rattle.tracker_machine.specs.Machine.{Machine, opening}
use Rattle.tracker_machine.specs.Effect.{applied}
use Rattle.tracker_runs.specs.Run.{Mark, plain, memory}
use Rattle.tracker_machine.specs.Step.{meaning, meaning_for, form_refusal, reply_of, next_of}
use Rattle.tracker_machine.specs.Wanted.{field_at_fault, changes_of}
use Rattle.tracker_machine.proofs.WorkedRows.{setup, user}
use Rattle.issue_csv.specs.Reading.{all_done, batch_in, batch_from, call_of, with_call}
use Rattle.tracker_import.specs.Calls.{MarkedCall, text_of_calls, end_of_calls}
use Rattle.tracker_import.specs.Export.{export_text}

-- what computes
unfoldable made_on_literals : ⊤
unfolding serde_json_on_literals digits reply_text applied reply_of next_of meaning meaning_for form_refusal form_of choices_of value_of value_in fits field_at_fault changes_of rank_given chosen_between
made_on_literals = tt

abbrev creates : List ℕ → Call
creates summary = Create (codes "OPS") (codes "Task") summary [] (Some (codes "X-1"))

-- the calls of two records

abbrev head : List ℕ
head = codes "external,project,type,summary,assignee,reporter,priority,points,due\n"

abbrev row : List ℕ
row = codes "X-1,OPS,Task,Move desks,,,,,\n"

pub two_calls : batch_in (head ++ (row ++ row)) ≡ with_call (creates (codes "Move desks")) (with_call (creates (codes "Move desks")) all_done)
unfolding csv_on_literals is_utf8 chars encode field_at batch_from call_of
two_calls = refl

-- a new tracker, where anna may create issues

abbrev team : List GroupNo
team = (record { 0 = 1 }) ∷ []

abbrev creating : Parts
creating = record setup {
  group = (record { name = codes "team"; members = user 0 ∷ [] }) ∷ [];
  project = (record { key = codes "OPS"; lead = user 0; browse = team; create = team; edit = []; transition = []; rank = [] }) ∷ [];
}

abbrev new : Machine
new = opening (codes "a setup's text") creating

abbrev marked : Mark → List ℕ → MarkedCall
marked mark summary = record { call = creates summary; mark = mark }

abbrev replies : List MarkedCall → List ℕ
replies calls = text_of_calls new (codes "anna") calls

-- the second record is told the issue of the first
pub told_again : replies (marked plain (codes "Move desks") ∷ marked plain (codes "Move desks") ∷ [])
    ≡ codes "{\"ok\":{\"already\":false,\"change\":1,\"issue\":\"OPS-1\"}}\n{\"ok\":{\"already\":true,\"change\":1,\"issue\":\"OPS-1\"}}\n"
unfolding made_on_literals
told_again = refl

-- and it is refused where it has another summary
pub refused : replies (marked plain (codes "Move desks") ∷ marked plain (codes "Move chairs") ∷ [])
    ≡ codes "{\"ok\":{\"already\":false,\"change\":1,\"issue\":\"OPS-1\"}}\n{\"refused\":{\"external\":\"X-1\",\"kept\":\"OPS-1\",\"no\":13}}\n"
unfolding made_on_literals
refused = refl

-- a call that was answered want of memory has left nothing
pub after_want_of_memory : replies (marked memory (codes "Move desks") ∷ marked plain (codes "Move chairs") ∷ [])
    ≡ codes "{\"refused\":{\"no\":15}}\n{\"ok\":{\"already\":false,\"change\":1,\"issue\":\"OPS-1\"}}\n"
unfolding made_on_literals
after_want_of_memory = refl

-- one issue is exported, with its external id
pub exported : export_text (end_of_calls new (codes "anna") (marked plain (codes "Move desks") ∷ marked plain (codes "Move desks") ∷ []))
    ≡ codes "key,external,project,type,summary,status,assignee,reporter,priority,resolution,points,due\nOPS-1,X-1,OPS,Task,Move desks,Open,,anna,,,,\n"
unfolding made_on_literals export_text fields_text escaped is_blank
exported = refl
