-- Groups of a small tracker that get other members: replies, and their rows.
use Rattle.std.proofs.Common.{◌≡◌, ℕ, List, [], ◌∷◌, Some, None, codes, refl}
use Rattle.std.specs.Fmt.{digits}
use Rattle.serde_json.proofs.OnLiterals.{serde_json_on_literals}
use Rattle.field_values.specs.declared.numbers.GroupNo.{GroupNo}
use Rattle.field_values.specs.declared.parts.Group.{Group}
use Rattle.field_values.specs.declared.rules.Permission.TheVariants as permission
use Rattle.field_values.specs.Parts.{Parts}
use Rattle.tracker_calls.specs.declared.call.Call.TheVariants as call
use Rattle.tracker_calls.specs.declared.reply.Answer.TheVariants as answer
use Rattle.tracker_calls.specs.declared.cause.Cause.TheVariants as cause
use Rattle.tracker_calls.specs.declared.reply.Refusal.TheVariants as refusal
use Rattle.tracker_calls.specs.declared.reply.Reply.{Reply}
use Rattle.tracker_calls.specs.declared.reply.Reply.TheVariants as reply
use Rattle.tracker_calls.specs.declared.cause.Thing.TheVariants as thing
use Rattle.tracker_keeper.specs.declared.row.RowOp.TheVariants.{Put}
use Rattle.tracker_keeper.specs.Bodies.{body_text, present_data, members_data}
use Rattle.tracker_machine.specs.Machine.{Machine, opening}
use Rattle.tracker_machine.specs.Effect.{applied}
use Rattle.tracker_machine.specs.Effect.Effect.{NewMembers}
use Rattle.tracker_machine.specs.Meaning.Meaning.{Tells, Makes}
use Rattle.tracker_machine.specs.Members.{set_group_meaning}
use Rattle.tracker_machine.specs.Step.{meaning, meaning_for, form_refusal, reply_of, next_of}
use Rattle.tracker_machine.specs.Kept.{part_at, rows_of, parts_of, ops_of, opening_ops, migrating_ops}
use Rattle.tracker_machine.proofs.WorkedRows.{setup, user}

abbrev group_no : ℕ → GroupNo
group_no n = record { 0 = n }

-- anna and bo are in the first group, which may administer the tracker, and bo alone is in the second one
abbrev groups : List Group
groups = (record { name = codes "team"; members = user 0 ∷ user 1 ∷ [] }) ∷ (record { name = codes "guests"; members = user 1 ∷ [] }) ∷ []

abbrev of_groups : Parts
of_groups = record setup { administer = group_no 1 ∷ []; group = groups }

abbrev new : Machine
new = opening (codes "a setup's text") of_groups

-- ---- rows

-- each group has its row
pub operations_of_a_new_tracker : opening_ops new
    ≡ Put (record { kind = 1; no = 0; body = codes "a setup's text" })
    ∷ Put (record { kind = 2; no = 0; body = codes "{\"balance\":[0],\"change\":0,\"format\":2,\"moment\":0}" })
    ∷ Put (record { kind = 10; no = 1; body = codes "{\"members\":[\"anna\",\"bo\"]}" })
    ∷ Put (record { kind = 10; no = 2; body = codes "{\"members\":[\"bo\"]}" })
    ∷ []
unfolding opening_ops body_text present_data members_data digits serde_json_on_literals
operations_of_a_new_tracker = refl

-- rows of the first format lack these, and the format
pub operations_of_a_migration : migrating_ops new
    ≡ Put (record { kind = 2; no = 0; body = codes "{\"balance\":[0],\"change\":0,\"format\":2,\"moment\":0}" })
    ∷ Put (record { kind = 10; no = 1; body = codes "{\"members\":[\"anna\",\"bo\"]}" })
    ∷ Put (record { kind = 10; no = 2; body = codes "{\"members\":[\"bo\"]}" })
    ∷ []
unfolding migrating_ops body_text present_data members_data digits serde_json_on_literals
operations_of_a_migration = refl

-- other members put the row of their group alone
pub operations_of_members : ops_of (NewMembers (group_no 2) (user 0 ∷ [])) new ≡ Put (record { kind = 10; no = 2; body = codes "{\"members\":[\"anna\"]}" }) ∷ []
unfolding ops_of parts_of body_text members_data serde_json_on_literals
operations_of_members = refl

pub row_of_members : rows_of new 10 1 ≡ Some (codes "{\"members\":[\"anna\",\"bo\"]}")
unfolding rows_of part_at body_text members_data serde_json_on_literals
row_of_members = refl

pub no_row_of_another_group : rows_of new 10 3 ≡ None
unfolding rows_of part_at
no_row_of_another_group = refl

-- ---- replies

abbrev tells : Machine → List ℕ → List ℕ → List (List ℕ) → Reply
tells m caller group names = reply_of m caller (call.SetGroup group names)

abbrev after : List ℕ → List (List ℕ) → Machine
after group names = next_of new (codes "anna") (call.SetGroup group names)

-- names are looked up with ASCII case ignored, a double is dropped, and the setup's spelling is told
pub a_double_is_dropped : tells new (codes "anna") (codes "TEAM") (codes "bo" ∷ codes "anna" ∷ codes "Bo" ∷ []) ≡ reply.Ok (answer.SetGroup (codes "team") 2)
unfolding reply_of meaning meaning_for form_refusal set_group_meaning
a_double_is_dropped = refl

-- nothing is done where the group has these members already, in whatever order they are asked for
pub the_same_members : set_group_meaning new 0 (codes "TEAM") (codes "bo" ∷ codes "anna" ∷ []) ≡ Tells (answer.SetGroup (codes "team") 2)
unfolding set_group_meaning
the_same_members = refl

pub one_member_less : set_group_meaning new 0 (codes "team") (codes "anna" ∷ []) ≡ Makes (answer.SetGroup (codes "team") 1) (NewMembers (group_no 1) (user 0 ∷ []))
unfolding set_group_meaning
one_member_less = refl

-- members stand in the setup's order of users
pub members_stand_in_order : rows_of (after (codes "guests") (codes "bo" ∷ codes "anna" ∷ codes "Bo" ∷ [])) 10 2 ≡ Some (codes "{\"members\":[\"anna\",\"bo\"]}")
unfolding next_of meaning meaning_for form_refusal set_group_meaning applied rows_of part_at body_text members_data serde_json_on_literals
members_stand_in_order = refl

-- the other group keeps its own
pub other_members_stay : rows_of (after (codes "guests") []) 10 1 ≡ Some (codes "{\"members\":[\"anna\",\"bo\"]}")
unfolding next_of meaning meaning_for form_refusal set_group_meaning applied rows_of part_at body_text members_data serde_json_on_literals
other_members_stay = refl

-- a group may be empty, even the last one that may administer, and then nobody may
abbrev nobody : Machine
nobody = after (codes "team") []

pub an_empty_group : tells new (codes "anna") (codes "team") [] ≡ reply.Ok (answer.SetGroup (codes "team") 0)
unfolding reply_of meaning meaning_for form_refusal set_group_meaning
an_empty_group = refl

pub row_of_an_empty_group : rows_of nobody 10 1 ≡ Some (codes "{\"members\":[]}")
unfolding next_of meaning meaning_for form_refusal set_group_meaning applied rows_of part_at body_text members_data serde_json_on_literals
row_of_an_empty_group = refl

pub nobody_may_administer : tells nobody (codes "anna") (codes "team") (codes "anna" ∷ []) ≡ reply.Refused (refusal.Cause (cause.Forbidden permission.Administer None))
unfolding reply_of next_of meaning meaning_for form_refusal set_group_meaning applied
nobody_may_administer = refl

-- the group is looked up first, then the members from left to right, and only then whether the caller may
pub an_unknown_group : tells new (codes "anna") (codes "staff") (codes "zed" ∷ []) ≡ reply.Refused (refusal.Cause (cause.Unknown thing.Group (codes "staff")))
unfolding reply_of meaning meaning_for form_refusal set_group_meaning
an_unknown_group = refl

pub an_unknown_user : tells new (codes "anna") (codes "team") (codes "bo" ∷ codes "zed" ∷ codes "cy" ∷ []) ≡ reply.Refused (refusal.Cause (cause.Unknown thing.User (codes "zed")))
unfolding reply_of meaning meaning_for form_refusal set_group_meaning
an_unknown_user = refl

pub an_unknown_user_comes_first : tells nobody (codes "bo") (codes "team") (codes "zed" ∷ []) ≡ reply.Refused (refusal.Cause (cause.Unknown thing.User (codes "zed")))
unfolding reply_of next_of meaning meaning_for form_refusal set_group_meaning applied
an_unknown_user_comes_first = refl
