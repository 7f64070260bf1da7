-- Sprints of a small tracker: replies, and their rows.
use Rattle.std.proofs.Common.{◌≡◌, ℕ, ℤ, List, [], ◌∷◌, Some, None, codes, refl, pos}
use Rattle.std.specs.Fmt.{digits}
use Rattle.std.specs.Str.{chars}
use Rattle.serde_json.proofs.OnLiterals.{serde_json_on_literals}
use Rattle.field_values.specs.declared.numbers.SprintNo.{SprintNo}
use Rattle.field_values.specs.declared.numbers.TheConstants.FieldNo as number
use Rattle.field_values.specs.declared.numbers.FieldNo.{FieldNo}
use Rattle.field_values.specs.declared.value.Value.{Value}
use Rattle.field_values.specs.declared.value.Value.TheVariants as value
use Rattle.field_values.specs.Parts.{Parts}
use Rattle.field_forms.specs.Known.{field_named, form_of, fits}
use Rattle.change_history.specs.declared.entry.Entry.{Entry}
use Rattle.workflow.specs.Conditions.{project_number}
use Rattle.workflow.specs.Net.{net_changes}
use Rattle.sprints.specs.declared.state.SprintState.TheVariants.{Active}
use Rattle.tracker_calls.specs.declared.call.Call.{Call}
use Rattle.tracker_calls.specs.declared.call.Call.TheVariants as call
use Rattle.tracker_calls.specs.declared.given.Given.TheVariants as given
use Rattle.tracker_calls.specs.declared.given.GivenField.{GivenField}
use Rattle.tracker_calls.specs.declared.reply.Answer.TheVariants as answer
use Rattle.tracker_calls.specs.declared.reply.BurnedRow.{BurnedRow}
use Rattle.tracker_calls.specs.declared.cause.Cause.TheVariants as cause
use Rattle.tracker_calls.specs.declared.reply.Refusal.TheVariants as refusal
use Rattle.tracker_calls.specs.declared.reply.Reply.{Reply}
use Rattle.tracker_calls.specs.declared.reply.Reply.TheVariants as reply
use Rattle.tracker_calls.specs.declared.reply.SprintPhase.TheVariants as phase
use Rattle.tracker_calls.specs.declared.cause.Thing.TheVariants as thing
use Rattle.tracker_keeper.specs.declared.row.RowOp.TheVariants.{Put}
use Rattle.tracker_keeper.specs.Bodies.{body_text, sprint_data}
use Rattle.tracker_machine.specs.Machine.{Machine}
use Rattle.tracker_machine.specs.Effect.{applied}
use Rattle.tracker_machine.specs.Effect.Effect.{NewSprint, NewState}
use Rattle.tracker_machine.specs.Wanted.{field_at_fault, changes_of}
use Rattle.tracker_machine.specs.Step.{meaning, meaning_for, form_refusal, reply_of, next_of}
use Rattle.tracker_machine.specs.Sprints.{burndown_answer}
use Rattle.tracker_machine.specs.Kept.{part_at, rows_of, parts_of, ops_of}
use Rattle.tracker_machine.proofs.WorkedRanks.{team, setup, issue, three}

abbrev sprint_no : ℕ → SprintNo
sprint_no n = record { 0 = n }

-- anna may plan, and she may create and edit issues
abbrev planning : Parts
planning = record setup {
  plan = team;
  project = (record { key = codes "OPS"; lead = record { 0 = 0 }; browse = team; create = team; edit = team; transition = []; rank = [] }) ∷ [];
}

-- a tracker of three issues, without sprints
abbrev tracker : Machine
tracker = record three { setup = planning }

abbrev tells : Machine → Call → Reply
tells m c = reply_of m (codes "anna") c

abbrev after : Machine → Call → Machine
after m c = next_of m (codes "anna") c

-- ---- sprints come and turn

abbrev make : Call
make = call.MakeSprint (codes "S")

pub first_number : tells tracker make ≡ reply.Ok (answer.MakeSprint (sprint_no 1))
unfolding reply_of meaning meaning_for form_refusal chars
first_number = refl

abbrev one : Machine
one = after tracker make

pub next_number : tells one make ≡ reply.Ok (answer.MakeSprint (sprint_no 2))
unfolding reply_of next_of meaning meaning_for form_refusal applied chars
next_number = refl

abbrev start : ℕ → Call
start n = call.StartSprint (sprint_no n)

abbrev close : ℕ → Call
close n = call.CloseSprint (sprint_no n)

pub one_starts : tells one (start 1) ≡ reply.Ok (answer.SprintPhase (sprint_no 1) phase.Active)
unfolding reply_of next_of meaning meaning_for form_refusal applied chars
one_starts = refl

pub unknown_one : tells one (start 2) ≡ reply.Refused (refusal.Cause (cause.Unknown thing.Sprint (codes "2")))
unfolding reply_of next_of meaning meaning_for form_refusal applied chars digits
unknown_one = refl

pub no_one_of_number_zero : tells one (start 0) ≡ reply.Refused (refusal.Cause (cause.Unknown thing.Sprint (codes "0")))
unfolding reply_of next_of meaning meaning_for form_refusal applied chars digits
no_one_of_number_zero = refl

pub future_one_does_not_close : tells one (close 1) ≡ reply.Refused (refusal.Cause (cause.SprintIs phase.Future))
unfolding reply_of next_of meaning meaning_for form_refusal applied chars
future_one_does_not_close = refl

abbrev active : Machine
active = after one (start 1)

pub active_one_does_not_start : tells active (start 1) ≡ reply.Refused (refusal.Cause (cause.SprintIs phase.Active))
unfolding reply_of next_of meaning meaning_for form_refusal applied chars
active_one_does_not_start = refl

pub active_one_closes : tells active (close 1) ≡ reply.Ok (answer.SprintPhase (sprint_no 1) phase.Closed)
unfolding reply_of next_of meaning meaning_for form_refusal applied chars
active_one_closes = refl

-- ---- issues in a sprint

abbrev with_sprint_of : ℕ → List GivenField
with_sprint_of n = (record { name = codes "sprint"; given = given.Number n }) ∷ []

abbrev edit : List ℕ → ℕ → Call
edit issue n = call.Edit issue (with_sprint_of n)

-- the sprint has to be there
pub set_names_no_sprint : tells one (edit (codes "OPS-1") 2) ≡ reply.Refused (refusal.Cause (cause.Unknown thing.Sprint (codes "2")))
unfolding reply_of next_of meaning meaning_for form_refusal applied field_named chars digits
set_names_no_sprint = refl

-- the first issue comes into it, and it closes
abbrev put_in : Call
put_in = edit (codes "OPS-1") 1

pub comes_in : tells active put_in ≡ reply.Ok (answer.Edit (Some 4) (codes "OPS-1"))
unfolding reply_of next_of meaning meaning_for form_refusal applied field_named project_number field_at_fault fits form_of changes_of net_changes chars
comes_in = refl

abbrev closed : Machine
closed = after (after active put_in) (close 1)

pub create_is_refused : tells closed (call.Create (codes "OPS") (codes "Task") (codes "Fix login") (with_sprint_of 1) None) ≡ reply.Refused (refusal.Cause (cause.SprintIs phase.Closed))
unfolding reply_of next_of meaning meaning_for form_refusal applied field_named project_number field_at_fault fits form_of changes_of net_changes chars
create_is_refused = refl

pub edit_is_refused : tells closed (edit (codes "OPS-2") 1) ≡ reply.Refused (refusal.Cause (cause.SprintIs phase.Closed))
unfolding reply_of next_of meaning meaning_for form_refusal applied field_named project_number field_at_fault fits form_of changes_of net_changes chars
edit_is_refused = refl

-- but not that of an issue that has it already
pub edit_changes_nothing : tells closed (edit (codes "OPS-1") 1) ≡ reply.Ok (answer.Edit None (codes "OPS-1"))
unfolding reply_of next_of meaning meaning_for form_refusal applied field_named project_number field_at_fault fits form_of changes_of net_changes chars
edit_changes_nothing = refl

-- ---- rows

pub row_of_a_future_sprint : rows_of one 7 1 ≡ Some (codes "{\"close\":null,\"name\":\"S\",\"start\":null}")
unfolding next_of meaning meaning_for form_refusal applied rows_of part_at body_text sprint_data digits serde_json_on_literals chars
row_of_a_future_sprint = refl

pub row_of_an_active_sprint : rows_of active 7 1 ≡ Some (codes "{\"close\":null,\"name\":\"S\",\"start\":[0,3]}")
unfolding next_of meaning meaning_for form_refusal applied rows_of part_at body_text sprint_data digits serde_json_on_literals chars
row_of_an_active_sprint = refl

pub row_of_a_closed_sprint : rows_of closed 7 1 ≡ Some (codes "{\"close\":[0,4],\"name\":\"S\",\"start\":[0,3]}")
unfolding next_of meaning meaning_for form_refusal applied rows_of part_at body_text sprint_data digits serde_json_on_literals field_named project_number field_at_fault fits form_of changes_of net_changes chars
row_of_a_closed_sprint = refl

pub no_row_of_number_zero : rows_of active 7 0 ≡ None
unfolding next_of meaning meaning_for form_refusal applied rows_of part_at chars
no_row_of_number_zero = refl

pub operations_of_a_sprint : ops_of (NewSprint (codes "S")) tracker ≡ Put (record { kind = 7; no = 1; body = codes "{\"close\":null,\"name\":\"S\",\"start\":null}" }) ∷ []
unfolding ops_of parts_of body_text sprint_data digits serde_json_on_literals
operations_of_a_sprint = refl

-- a start puts the sprint's row alone
pub operations_of_a_start : ops_of (NewState (sprint_no 1) (Active 0 3)) one ≡ Put (record { kind = 7; no = 1; body = codes "{\"close\":null,\"name\":\"S\",\"start\":[0,3]}" }) ∷ []
unfolding next_of meaning meaning_for form_refusal applied ops_of parts_of body_text sprint_data digits serde_json_on_literals chars
operations_of_a_start = refl

-- ---- a burndown

abbrev entry : ℕ → FieldNo → Value → Value → Entry
entry change field from to = record { change = change; at = 0; author = record { 0 = 0 }; field = field; from = from; to = to }

abbrev of_points : ℤ → Value
of_points thousandths = value.Number thousandths

-- the first issue is in the sprint, which started after its third change group; its points come to 3 and then to 5
abbrev pointed : Machine
pointed = record active {
  change = 6;
  histories =
      record (issue 1 (codes "OPS-1")) {
        opening = (record { field = number.SPRINT; to = value.Sprint (sprint_no 1) }) ∷ [];
        entries = entry 3 number.POINTS value.Empty (of_points (pos 3000)) ∷ entry 6 number.POINTS (of_points (pos 3000)) (of_points (pos 5000)) ∷ [];
      } ∷ [];
}

abbrev burned : ℕ → ℕ → Reply
burned from count = tells pointed (call.Burndown (sprint_no 1) (record { from = from; count = count }))

abbrev row : BurnedRow
row = record { at = 0; by = pos 2000; change = 6; issue = codes "OPS-1"; left = pos 5000 }

pub a_burndown : burned 0 1_000 ≡ reply.Ok (answer.Burndown (pos 5000) (row ∷ []) (pos 3000) phase.Active 1)
unfolding reply_of next_of meaning meaning_for form_refusal applied burndown_answer chars
a_burndown = refl

-- the total counts the rows that aren't told too
pub rows_behind_the_first : burned 1 1_000 ≡ reply.Ok (answer.Burndown (pos 5000) [] (pos 3000) phase.Active 1)
unfolding reply_of next_of meaning meaning_for form_refusal applied burndown_answer chars
rows_behind_the_first = refl
