-- A desk may go to another thread: each type of its state by those that it holds, since a search that goes down through all of them runs out of steps.
use denote.RattleType.{RattleType}
use denote.Param.Send.{IsSend, sendable}
use Rattle.std.proofs.Crossing.{crosses}
use Rattle.std.proofs.MapsCrossing.{crosses as maps}
use Rattle.jql_bound.proofs.cond.Cond.TheLaws.TheKnot.{crosses as knot}
use Rattle.field_values.specs.contracts.text.Text as text_
use Rattle.field_values.specs.contracts.names.Names as names_
use Rattle.name_index.specs.contracts.places.Places as places_
use Rattle.name_index.specs.contracts.indexed_names.IndexedNames as indexed_names_
use Rattle.field_values.specs.contracts.sequence.Sequence as sequence_
use Rattle.field_values.specs.contracts.parts.Group as group_
use Rattle.field_values.specs.contracts.parts.Project as project_
use Rattle.field_values.specs.contracts.status.Status as status_
use Rattle.field_values.specs.contracts.rules.CallerTest as caller_test_
use Rattle.field_values.specs.contracts.rules.Condition as condition_
use Rattle.field_values.specs.contracts.rules.Validator as validator_
use Rattle.field_values.specs.contracts.value.Value as value_
use Rattle.field_values.specs.contracts.rules.PostFunction as post_function_
use Rattle.field_values.specs.contracts.parts.Transition as transition_
use Rattle.field_values.specs.contracts.field.Field as field_
use Rattle.field_values.specs.contracts.offset.Offset as offset_
use Rattle.fields.specs.contracts.table_names.TableNames as table_names_
use Rattle.relative_dates.specs.contracts.calendar.Calendar as calendar_
use Rattle.fields.specs.contracts.setup.Setup as setup_
use Rattle.jql_bound.specs.contracts.context.Context as context_
use Rattle.tracker_setting.specs.contracts.setting.Setting as setting_
use Rattle.change_history.specs.contracts.key.KeptKey as kept_key_
use Rattle.change_history.specs.contracts.key.Key as key_
use Rattle.change_history.specs.contracts.entry.Entry as entry_
use Rattle.change_history.specs.contracts.small.Small as small_
use Rattle.change_history.specs.contracts.change.Change as change_
use Rattle.change_history.specs.contracts.places.Place as place_
use Rattle.change_history.specs.contracts.issue.Issue as issue_
use Rattle.tracker_issues.specs.contracts.issues.Issues as issues_
use Rattle.external_ids.specs.contracts.external_id.ExternalId as external_id_
use Rattle.external_ids.specs.contracts.ids.ExternalIds as external_ids_
use Rattle.rank_strings.specs.contracts.rank.Rank as rank_
use Rattle.board.specs.contracts.order.Order as order_
use Rattle.tracker_ranks.specs.contracts.ranks.Ranks as ranks_
use Rattle.jql_bound.specs.contracts.leaf.Subject as subject_
use Rattle.relative_dates.specs.contracts.term.Shift as shift_
use Rattle.relative_dates.specs.contracts.term.Boundary as boundary_
use Rattle.relative_dates.specs.contracts.term.Term as term_
use Rattle.jql_bound.specs.contracts.operand.Operand as operand_
use Rattle.jql_bound.specs.contracts.leaf.Word as word_
use Rattle.jql_bound.specs.contracts.leaf.Operator as operator_
use Rattle.jql_bound.specs.contracts.leaf.Leaf as leaf_
use Rattle.jql_bound.specs.contracts.past.Endpoint as endpoint_
use Rattle.jql_bound.specs.contracts.past.PastTest as past_test_
use Rattle.jql_bound.specs.contracts.past.PastPredicate as past_predicate_
use Rattle.jql_bound.specs.contracts.past.PastLeaf as past_leaf_
use Rattle.jql_bound.specs.contracts.cond.Cond as cond_
use Rattle.jql_bound.specs.contracts.order.SortField as sort_field_
use Rattle.jql_bound.specs.contracts.order.OrderKey as order_key_
use Rattle.jql_bound.specs.contracts.order.OrderBy as order_by_
use Rattle.jql_bound.specs.contracts.cond.Bound as bound_
use Rattle.tracker_filters.specs.contracts.filter.Filter as filter_
use Rattle.filter_views.specs.contracts.filter_row.FilterRow as filter_row_
use Rattle.filter_views.specs.contracts.due.Due as due_
use Rattle.filter_views.specs.contracts.views.FilterViews as filter_views_
use Rattle.tracker_filters.specs.contracts.filters.Filters as filters_
use Rattle.board.specs.contracts.board.Board as board_
use Rattle.tracker_boards.specs.contracts.boards.Boards as boards_
use Rattle.sprints.specs.contracts.state.SprintState as sprint_state_
use Rattle.sprints.specs.contracts.sprint.Sprint as sprint_
use Rattle.sprints.specs.contracts.sprints.Sprints as sprints_
use Rattle.burndown.specs.contracts.share.BurnRow as burn_row_
use Rattle.burndown.specs.contracts.progress.Progress as progress_
use Rattle.burndown.specs.contracts.burndown.Burndown as burndown_
use Rattle.tracker_work.specs.contracts.work.Work as work_
use Rattle.tracker_keeper.specs.contracts.row.Row as row_
use Rattle.tracker_keeper.specs.contracts.row.RowOp as row_op_
use Rattle.tracker_state.specs.contracts.state.State as state_
use Rattle.tracker_core.specs.contracts.desk.Desk as desk_
use Rattle.tracker_keeper.specs.declared.keeper.Keeper.{Ghosts}

text_send : IsSend text_.the_row
text_send = search (sendable, crosses) depth 40 fits 20000

names_send : IsSend names_.the_row
names_send = search (text_send, sendable, crosses) depth 40 fits 20000

places_send : IsSend places_.the_row
places_send = search (sendable, crosses) depth 40 fits 20000

indexed_names_send : IsSend indexed_names_.the_row
indexed_names_send = search (names_send, places_send, sendable, crosses) depth 40 fits 20000

sequence_send : (T : RattleType) → IsSend T → IsSend (sequence_.the_row T)
sequence_send T s = search (sendable, crosses) depth 40

group_send : IsSend group_.the_field.row
group_send = search (text_send, sequence_send, sendable, crosses) depth 40 fits 20000

project_send : IsSend project_.the_field.row
project_send = search (text_send, sequence_send, sendable, crosses) depth 40 fits 20000

status_send : IsSend status_.the_field.row
status_send = search (text_send, sendable, crosses) depth 40 fits 20000

caller_test_send : IsSend caller_test_.the_field.row
caller_test_send = search (sendable, crosses) depth 40 fits 20000

condition_send : IsSend condition_.the_field.row
condition_send = search (caller_test_send, sequence_send, sendable, crosses) depth 40 fits 20000

validator_send : IsSend validator_.the_field.row
validator_send = search (sendable, crosses) depth 40 fits 20000

value_send : IsSend value_.the_field.row
value_send = search (text_send, sequence_send, names_send, sendable, crosses) depth 40 fits 20000

post_function_send : IsSend post_function_.the_field.row
post_function_send = search (value_send, sendable, crosses) depth 40 fits 20000

transition_send : IsSend transition_.the_field.row
transition_send = search (text_send, sequence_send, condition_send, validator_send, post_function_send, sendable, crosses) depth 40 fits 20000

field_send : IsSend field_.the_field.row
field_send = search (text_send, names_send, sendable, crosses) depth 40 fits 20000

offset_send : IsSend offset_.the_field.row
offset_send = search (sendable, crosses) depth 40 fits 20000

table_names_send : IsSend table_names_.the_field.row
table_names_send = search (indexed_names_send, sequence_send, sendable, crosses) depth 40 fits 20000

calendar_send : IsSend calendar_.the_row
calendar_send = search (sendable, crosses) depth 40 fits 20000

setup_send : IsSend setup_.the_field.row
setup_send = search (text_send, indexed_names_send, sequence_send, group_send, project_send, status_send, transition_send, field_send, offset_send, table_names_send, calendar_send, sendable, crosses) depth 40 fits 20000

context_send : IsSend context_.the_field.row
context_send = search (sequence_send, calendar_send, sendable, crosses) depth 40 fits 20000

setting_send : IsSend setting_.the_field.row
setting_send = search (setup_send, context_send, sendable, crosses) depth 40 fits 20000

kept_key_send : IsSend kept_key_.the_field.row
kept_key_send = search (text_send, sendable, crosses) depth 40 fits 20000

key_send : IsSend key_.the_row
key_send = search (kept_key_send, sendable, crosses) depth 40 fits 20000

entry_send : IsSend entry_.the_field.row
entry_send = search (value_send, sendable, crosses) depth 40 fits 20000

small_send : IsSend small_.the_field.row
small_send = search (sendable, crosses) depth 40 fits 20000

change_send : IsSend change_.the_field.row
change_send = search (value_send, sendable, crosses) depth 40 fits 20000

place_send : IsSend place_.the_field.row
place_send = search (sendable, crosses) depth 40 fits 20000

issue_send : IsSend issue_.the_row
issue_send = search (key_send, entry_send, small_send, change_send, place_send, value_send, sendable, crosses) depth 40 fits 20000

issues_send : IsSend issues_.the_row
issues_send = search (issue_send, sendable, crosses, maps) depth 40 fits 20000

external_id_send : IsSend external_id_.the_field.row
external_id_send = search (text_send, sendable, crosses) depth 40 fits 20000

external_ids_send : IsSend external_ids_.the_row
external_ids_send = search (external_id_send, sendable, crosses, maps) depth 40 fits 20000

rank_send : IsSend rank_.the_row
rank_send = search (sendable, crosses) depth 40 fits 20000

order_send : IsSend order_.the_row
order_send = search (rank_send, sendable, crosses) depth 40 fits 20000

ranks_send : IsSend ranks_.the_row
ranks_send = search (order_send, sendable, crosses) depth 40 fits 20000

subject_send : IsSend subject_.the_field.row
subject_send = search (sendable, crosses) depth 40 fits 20000

shift_send : IsSend shift_.the_field.row
shift_send = search (sendable, crosses) depth 40 fits 20000

boundary_send : IsSend boundary_.the_field.row
boundary_send = search (shift_send, sendable, crosses) depth 40 fits 20000

term_send : IsSend term_.the_field.row
term_send = search (boundary_send, sendable, crosses) depth 40 fits 20000

operand_send : IsSend operand_.the_field.row
operand_send = search (sequence_send, text_send, term_send, sendable, crosses) depth 40 fits 20000

word_send : IsSend word_.the_field.row
word_send = search (text_send, sendable, crosses) depth 40 fits 20000

operator_send : IsSend operator_.the_field.row
operator_send = search (sequence_send, operand_send, word_send, sendable, crosses) depth 40 fits 20000

leaf_send : IsSend leaf_.the_field.row
leaf_send = search (subject_send, operator_send, sendable, crosses) depth 40 fits 20000

endpoint_send : IsSend endpoint_.the_field.row
endpoint_send = search (sequence_send, operand_send, sendable, crosses) depth 40 fits 20000

past_test_send : IsSend past_test_.the_field.row
past_test_send = search (sequence_send, operand_send, endpoint_send, sendable, crosses) depth 40 fits 20000

past_predicate_send : IsSend past_predicate_.the_field.row
past_predicate_send = search (term_send, sequence_send, operand_send, sendable, crosses) depth 40 fits 20000

past_leaf_send : IsSend past_leaf_.the_field.row
past_leaf_send = search (past_test_send, sequence_send, past_predicate_send, sendable, crosses) depth 40 fits 20000

cond_send : IsSend cond_.the_field.row
cond_send = search (leaf_send, past_leaf_send, knot, sendable, crosses) depth 60 fits 20000

sort_field_send : IsSend sort_field_.the_field.row
sort_field_send = search (subject_send, sendable, crosses) depth 40 fits 20000

order_key_send : IsSend order_key_.the_field.row
order_key_send = search (sort_field_send, sendable, crosses) depth 40 fits 20000

order_by_send : IsSend order_by_.the_field.row
order_by_send = search (sequence_send, order_key_send, sendable, crosses) depth 40 fits 20000

bound_send : IsSend bound_.the_field.row
bound_send = search (cond_send, order_by_send, sendable, crosses) depth 40 fits 20000

filter_send : IsSend filter_.the_field.row
filter_send = search (text_send, bound_send, sendable, crosses) depth 40 fits 20000

filter_row_send : IsSend filter_row_.the_row
filter_row_send = search (sendable, crosses) depth 40 fits 20000

due_send : IsSend due_.the_field.row
due_send = search (sendable, crosses) depth 40 fits 20000

filter_views_send : IsSend filter_views_.the_row
filter_views_send = search (filter_row_send, due_send, sendable, crosses) depth 40 fits 20000

filters_send : IsSend filters_.the_row
filters_send = search (filter_send, filter_views_send, issue_send, context_send, sendable, crosses) depth 40 fits 20000

board_send : IsSend board_.the_field.row
board_send = search (text_send, sendable, crosses) depth 40 fits 20000

boards_send : IsSend boards_.the_row
boards_send = search (board_send, sendable, crosses) depth 40 fits 20000

sprint_state_send : IsSend sprint_state_.the_field.row
sprint_state_send = search (sendable, crosses) depth 40 fits 20000

sprint_send : IsSend sprint_.the_field.row
sprint_send = search (text_send, sprint_state_send, sendable, crosses) depth 40 fits 20000

sprints_send : IsSend sprints_.the_row
sprints_send = search (sprint_send, sendable, crosses) depth 40 fits 20000

burn_row_send : IsSend burn_row_.the_field.row
burn_row_send = search (sendable, crosses) depth 40 fits 20000

progress_send : IsSend progress_.the_field.row
progress_send = search (burn_row_send, sendable, crosses) depth 40 fits 20000

burndown_send : IsSend burndown_.the_row
burndown_send = search (progress_send, sendable, crosses) depth 40 fits 20000

work_send : IsSend work_.the_row
work_send = search (sprints_send, burndown_send, issue_send, sendable, crosses) depth 40 fits 20000

row_send : IsSend row_.the_field.row
row_send = search (text_send, sendable, crosses) depth 40 fits 20000

row_op_send : IsSend row_op_.the_field.row
row_op_send = search (row_send, sendable, crosses) depth 40 fits 20000

pub state_send : IsSend state_.the_row
state_send = search (setting_send, issues_send, external_ids_send, ranks_send, filters_send, boards_send, work_send, row_op_send, sendable, crosses) depth 40 fits 20000

-- ---- the desk
pub desk_send : (P : RattleType) (g : Ghosts P.Denot) → IsSend P → IsSend (desk_.the_row P g)
desk_send P g s = search (state_send, sendable, crosses) depth 40 fits 20000
