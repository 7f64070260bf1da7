-- Issues of a small tracker that have external ids: replies, and their rows.
use Rattle.std.proofs.Common.{◌≡◌, ℕ, List, [], ◌∷◌, Some, None, codes, refl, true, false}
use Rattle.std.specs.Fmt.{digits}
use Rattle.serde_json.proofs.OnLiterals.{serde_json_on_literals}
use Rattle.field_values.specs.declared.numbers.GroupNo.{GroupNo}
use Rattle.field_values.specs.Parts.{Parts}
use Rattle.field_forms.specs.Known.{form_of, choices_of, value_of, fits}
use Rattle.field_forms.specs.Values.{value_in}
use Rattle.rank_strings.specs.Choice.{chosen_between}
use Rattle.board.specs.Moved.{rank_given}
use Rattle.tracker_calls.specs.declared.call.Call.TheVariants as call
use Rattle.tracker_calls.specs.declared.reply.Answer.TheVariants as answer
use Rattle.tracker_calls.specs.declared.cause.Cause.TheVariants as cause
use Rattle.tracker_calls.specs.declared.reply.Refusal.TheVariants as refusal
use Rattle.tracker_calls.specs.declared.reply.Reply.{Reply}
use Rattle.tracker_calls.specs.declared.reply.Reply.TheVariants as reply
use Rattle.tracker_keeper.specs.declared.row.RowOp.TheVariants.{Put}
use Rattle.tracker_keeper.specs.Bodies.{body_text, present_data, issue_data}
use Rattle.tracker_machine.specs.Machine.{Machine}
use Rattle.tracker_machine.specs.Effect.{applied}
use Rattle.tracker_machine.specs.Effect.Effect.{NewIssue}
use Rattle.tracker_machine.specs.Wanted.{field_at_fault, changes_of}
use Rattle.tracker_machine.specs.Step.{meaning, meaning_for, form_refusal, reply_of, next_of}
use Rattle.tracker_machine.specs.Kept.{part_at, rows_of, parts_of, ops_of}
use Rattle.tracker_machine.proofs.WorkedRows.{setup, user, issue, second, tracker_of_one}

-- ---- rows

abbrev external : List ℕ
external = codes "OLD-12"

-- the row of an external id comes behind those of its issue
pub operations_of_an_issue : ops_of (NewIssue (issue 2 (codes "OPS-2") 2 []) second (Some external)) tracker_of_one
    ≡ Put (record { kind = 2; no = 0; body = codes "{\"balance\":[0],\"change\":2,\"format\":2,\"moment\":0}" })
    ∷ Put (record { kind = 3; no = 2; body = codes "{\"at\":0,\"author\":\"anna\",\"change\":2,\"fields\":{\"status\":\"Open\",\"summary\":\"Fix login\",\"type\":\"Task\"},\"key\":\"OPS-2\"}" })
    ∷ Put (record { kind = 5; no = 2; body = codes "0|i006bk:" })
    ∷ Put (record { kind = 6; no = 2; body = codes "OLD-12" })
    ∷ []
unfolding ops_of parts_of body_text present_data issue_data choices_of digits serde_json_on_literals
operations_of_an_issue = refl

-- the second of two issues has it
abbrev imported : Machine
imported = applied (NewIssue (issue 2 (codes "OPS-2") 2 []) second (Some external)) tracker_of_one

pub row_of_an_external_id : rows_of imported 6 2 ≡ Some (codes "OLD-12")
unfolding applied rows_of part_at body_text
row_of_an_external_id = refl

pub no_row_of_another_issue : rows_of imported 6 1 ≡ None
unfolding applied rows_of part_at
no_row_of_another_issue = refl

-- ---- replies

abbrev team : List GroupNo
team = (record { 0 = 1 }) ∷ []

-- anna may create issues
abbrev creating : Parts
creating = record setup {
  group = (record { name = codes "team"; members = user 0 ∷ [] }) ∷ [];
  project = (record { key = codes "OPS"; lead = user 0; browse = team; create = team; edit = []; transition = []; rank = [] })
      ∷ (record { key = codes "WEB"; lead = user 0; browse = team; create = team; edit = []; transition = []; rank = [] }) ∷ [];
}

abbrev before : Machine
before = record imported { setup = creating }

abbrev tells : List ℕ → List ℕ → List ℕ → Reply
tells project issue_type summary = reply_of before (codes "anna") (call.Create project issue_type summary [] (Some external))

-- an issue that was created as the same one is told, and no other one comes
pub created_before : tells (codes "OPS") (codes "Task") (codes "Fix login") ≡ reply.Ok (answer.Create true 2 (codes "OPS-2"))
unfolding applied reply_of meaning meaning_for form_refusal value_of value_in form_of choices_of
created_before = refl

pub nothing_changes : next_of before (codes "anna") (call.Create (codes "OPS") (codes "Task") (codes "Fix login") [] (Some external)) ≡ before
unfolding applied next_of meaning meaning_for form_refusal value_of value_in form_of choices_of
nothing_changes = refl

-- with another summary, another type or another project the call is refused
pub created_otherwise : tells (codes "OPS") (codes "Task") (codes "Fix logout") ≡ reply.Refused (refusal.Cause (cause.ExternalIs external (codes "OPS-2")))
unfolding applied reply_of meaning meaning_for form_refusal value_of value_in form_of choices_of
created_otherwise = refl

pub created_of_another_type : tells (codes "OPS") (codes "Bug") (codes "Fix login") ≡ reply.Refused (refusal.Cause (cause.ExternalIs external (codes "OPS-2")))
unfolding applied reply_of meaning meaning_for form_refusal value_of value_in form_of choices_of
created_of_another_type = refl

pub created_elsewhere : tells (codes "WEB") (codes "Task") (codes "Fix login") ≡ reply.Refused (refusal.Cause (cause.ExternalIs external (codes "OPS-2")))
unfolding applied reply_of meaning meaning_for form_refusal value_of value_in form_of choices_of
created_elsewhere = refl

-- an external id that no issue has yet comes with a new one
pub created_now : reply_of before (codes "anna") (call.Create (codes "OPS") (codes "Task") (codes "Fix logout") [] (Some (codes "old-12")))
    ≡ reply.Ok (answer.Create false 3 (codes "OPS-3"))
unfolding applied reply_of meaning meaning_for form_refusal value_of value_in choices_of form_of fits field_at_fault changes_of rank_given chosen_between digits
created_now = refl
