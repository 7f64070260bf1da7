-- What is told may go to another thread: each type by those that it holds, since a search that goes down through all of them runs out of steps.
use denote.RattleType.{RattleType}
use denote.Param.Send.{IsSend, sendable}
use Rattle.std.proofs.Crossing.{crosses}
use Rattle.field_values.specs.contracts.text.Text as text
use Rattle.field_values.specs.contracts.names.Names as names
use Rattle.field_values.specs.contracts.sequence.Sequence as sequence
use Rattle.tracker_calls.specs.contracts.cause.Cause as cause
use Rattle.tracker_calls.specs.contracts.described.DescribedParts as described_parts
use Rattle.tracker_calls.specs.contracts.described.Description as description
use Rattle.tracker_calls.specs.contracts.described.ToldField as told_field
use Rattle.tracker_calls.specs.contracts.described.ToldGroup as told_group
use Rattle.tracker_calls.specs.contracts.described.ToldProject as told_project
use Rattle.tracker_calls.specs.contracts.described.ToldStatus as told_status
use Rattle.tracker_calls.specs.contracts.described.ToldTransition as told_transition
use Rattle.tracker_calls.specs.contracts.listed.ListedIssue as listed_issue
use Rattle.tracker_calls.specs.contracts.listed.ToldBoard as told_board
use Rattle.tracker_calls.specs.contracts.listed.ToldFilter as told_filter
use Rattle.tracker_calls.specs.contracts.listed.ToldSprint as told_sprint
use Rattle.tracker_calls.specs.contracts.reply.Answer as answer
use Rattle.tracker_calls.specs.contracts.reply.BurnedRow as burned_row
use Rattle.tracker_calls.specs.contracts.reply.Column as column
use Rattle.tracker_calls.specs.contracts.reply.RankedKey as ranked_key
use Rattle.tracker_calls.specs.contracts.reply.Refusal as refusal
use Rattle.tracker_calls.specs.contracts.reply.Reply as reply
use Rattle.tracker_calls.specs.contracts.reply.Shown as shown
use Rattle.tracker_calls.specs.contracts.reply.ShownField as shown_field
use Rattle.tracker_calls.specs.contracts.reply.ShownFields as shown_fields
use Rattle.tracker_calls.specs.contracts.reply.ToldEntry as told_entry
use Rattle.tracker_calls.specs.contracts.told_text.KeptText as kept_text
use Rattle.tracker_calls.specs.contracts.told_text.ToldText as told_text
use Rattle.tracker_rounds.specs.contracts.ask.Told as told

-- ---- texts and lists
text_send : IsSend text.the_row
text_send = search (sendable, crosses) depth 40

names_send : IsSend names.the_row
names_send = search (text_send, sendable, crosses) depth 40

sequence_send : (T : RattleType) → IsSend T → IsSend (sequence.the_row T)
sequence_send T s = search (sendable, crosses) depth 40

kept_text_send : IsSend kept_text.the_field.row
kept_text_send = search (text_send, sendable, crosses) depth 40

told_text_send : IsSend told_text.the_row
told_text_send = search (kept_text_send, sendable, crosses) depth 40

-- ---- refusals
cause_send : IsSend cause.the_field.row
cause_send = search (text_send, sendable, crosses) depth 40 fits 20000

refusal_send : IsSend refusal.the_field.row
refusal_send = search (cause_send, sendable, crosses) depth 40 fits 20000

-- ---- parts of answers
shown_send : IsSend shown.the_field.row
shown_send = search (told_text_send, names_send, sendable, crosses) depth 40

shown_field_send : IsSend shown_field.the_field.row
shown_field_send = search (told_text_send, shown_send, sendable, crosses) depth 40

shown_fields_send : IsSend shown_fields.the_row
shown_fields_send = search (shown_field_send, sendable, crosses) depth 40

told_entry_send : IsSend told_entry.the_field.row
told_entry_send = search (told_text_send, shown_send, sendable, crosses) depth 40

column_send : IsSend column.the_field.row
column_send = search (text_send, names_send, sendable, crosses) depth 40

burned_row_send : IsSend burned_row.the_field.row
burned_row_send = search (told_text_send, sendable, crosses) depth 40

ranked_key_send : IsSend ranked_key.the_field.row
ranked_key_send = search (told_text_send, sendable, crosses) depth 40

listed_issue_send : IsSend listed_issue.the_field.row
listed_issue_send = search (told_text_send, shown_fields_send, sendable, crosses) depth 40

told_filter_send : IsSend told_filter.the_field.row
told_filter_send = search (told_text_send, text_send, sendable, crosses) depth 40

told_board_send : IsSend told_board.the_field.row
told_board_send = search (text_send, sendable, crosses) depth 40

told_sprint_send : IsSend told_sprint.the_field.row
told_sprint_send = search (text_send, sendable, crosses) depth 40

-- ---- what the setup says
told_field_send : IsSend told_field.the_field.row
told_field_send = search (told_text_send, names_send, sendable, crosses) depth 40

told_group_send : IsSend told_group.the_field.row
told_group_send = search (told_text_send, names_send, sendable, crosses) depth 40

told_project_send : IsSend told_project.the_field.row
told_project_send = search (told_text_send, sequence_send, sendable, crosses) depth 40

told_status_send : IsSend told_status.the_field.row
told_status_send = search (told_text_send, sendable, crosses) depth 40

told_transition_send : IsSend told_transition.the_field.row
told_transition_send = search (told_text_send, names_send, sendable, crosses) depth 40

described_parts_send : IsSend described_parts.the_field.row
described_parts_send = search (told_text_send, names_send, sequence_send, told_field_send, told_group_send, told_project_send, told_status_send, told_transition_send, sendable, crosses) depth 40

description_send : IsSend description.the_row
description_send = search (described_parts_send, sendable, crosses) depth 40

-- ---- answers
answer_send : IsSend answer.the_field.row
answer_send = search (
  text_send,
  told_text_send,
  names_send,
  shown_fields_send,
  sequence_send,
  told_entry_send,
  column_send,
  burned_row_send,
  ranked_key_send,
  listed_issue_send,
  told_filter_send,
  told_board_send,
  told_sprint_send,
  description_send,
  sendable,
  crosses,
) depth 60 fits 40000

pub reply_send : IsSend reply.the_field.row
reply_send = search (answer_send, refusal_send, sendable, crosses) depth 40 fits 20000

pub told_send : IsSend told.the_row
told_send = search (reply_send, sendable, crosses) depth 12 fits 5000
