-- The keeper of a file's rows may go to another thread: each type of it by those that it holds, since a search that goes down through all
-- of them runs out of steps.
use denote.RattleType.{RattleType}
use denote.Param.Send
use denote.Struct.Declared
use denote.Param.Send.{IsSend, sendable}
use Rattle.std.proofs.Crossing.{crosses}
use Rattle.sqlite.specs.contracts.connection.Connection as connection_
use Rattle.sqlite_store.specs.contracts.store.FileStore as file_store_
use Rattle.sqlite_store.specs.contracts.store.FileStoreStore.TheImpl as file_store_store_
use Rattle.sqlite_pool.specs.contracts.pool.Pool as pool_
use Rattle.sqlite_pool.specs.contracts.backing.Backing as backing_
use Rattle.sqlite_pool.specs.contracts.free_set.FreeSet as free_set_
use Rattle.sqlite_pager.specs.contracts.pager.Pager as pager_
use Rattle.sqlite_pager.specs.contracts.layers.Layer as layer_
use Rattle.sqlite_pager.specs.contracts.cache.Cache as cache_
use Rattle.sqlite_wal.specs.contracts.log.Log as log_
use Rattle.sqlite_wal.specs.contracts.batch.Batch as batch_
use Rattle.sqlite_wal.specs.contracts.index.PageIndex as page_index_
use Rattle.sqlite_disk.specs.contracts.modelled.Modelled as modelled_
use Rattle.sqlite_disk.specs.contracts.modelled.ModelledDisk.TheImpl as modelled_disk_
use Rattle.sqlite_disk.specs.contracts.start.Unknown as unknown_
use Rattle.sqlite_disk.specs.contracts.start.UnknownStart.TheImpl as unknown_start_
use Rattle.sqlite_std_file.specs.contracts.host.Host as host_
use Rattle.sqlite_std_file.specs.contracts.host.HostCalls.TheImpl as host_calls_
use Rattle.sqlite_std_file.specs.contracts.record.Record as record_
use Rattle.sqlite_disk.specs.declared.Disk.{Ghosts}
use Rattle.sqlite_trees.specs.declared.store.Store.{Ghosts as Stores}
use Rattle.keeper_told.specs.contracts.told_keeper.ToldKeeper as told_keeper_
use Rattle.store_servers.specs.contracts.file_keeper.FileKeeper as file_keeper_
use Rattle.sqlite_items.specs.contracts.items.Items as items_
use Rattle.sqlite_value.specs.contracts.value.Bytes as bytes_
use Rattle.sqlite_value.specs.contracts.value.Value as value_
use Rattle.sqlite_schema.specs.contracts.schema.Column as column_
use Rattle.sqlite_sql.specs.contracts.ops.BinaryOp as binary_op_
use Rattle.sqlite_schema.specs.contracts.code.Op as op_
use Rattle.sqlite_schema.specs.contracts.code.Terms as terms_
use Rattle.sqlite_schema.specs.contracts.schema.Reference as reference_
use Rattle.sqlite_schema.specs.contracts.schema.Stamps as stamps_
use Rattle.sqlite_schema.specs.contracts.schema.Table as table_
use Rattle.sqlite_schema.specs.contracts.schema.Index as index_
use Rattle.sqlite_schema.specs.contracts.schema.View as view_
use Rattle.sqlite_schema.specs.contracts.schema.Schema as schema_
use Rattle.sqlite.specs.contracts.history.Mark as mark_
use Rattle.sqlite.specs.contracts.history.History as history_
use Rattle.sqlite_schema.specs.contracts.plan.Scan as scan_
use Rattle.sqlite_sql.specs.contracts.query.Aggregate as aggregate_
use Rattle.sqlite_value.specs.contracts.keys.Key as key_
use Rattle.sqlite_sql.specs.contracts.query.SortKey as sort_key_
use Rattle.sqlite_schema.specs.contracts.plan.Stage as stage_
use Rattle.sqlite_schema.specs.contracts.plan.Groups as groups_
use Rattle.sqlite_schema.specs.contracts.plan.Plan as plan_
use Rattle.sqlite_schema.specs.contracts.program.Program as program_
use Rattle.sqlite_schema.specs.contracts.command.Source as source_
use Rattle.sqlite_schema.specs.contracts.command.Upsert as upsert_
use Rattle.sqlite_schema.specs.contracts.command.Command as command_
use Rattle.sqlite_schema.specs.contracts.command.Returning as returning_
use Rattle.sqlite_resolve.specs.contracts.compiled.Compiled as compiled_
use Rattle.sqlite.specs.contracts.cache.Entry as entry_
use Rattle.sqlite_value.specs.contracts.row.Row as row_
use Rattle.sqlite_exec.specs.contracts.rows.Rows as rows_
use Rattle.sqlite_exec.specs.contracts.page.Page as page_
use Rattle.sqlite_exec.specs.contracts.mark.Way as way_
use Rattle.sqlite_exec.specs.contracts.mark.Mark as row_mark_
use Rattle.sqlite_exec.specs.contracts.marks.Marks as marks_
use Rattle.sqlite_exec.specs.contracts.seen.Seen as seen_
use Rattle.sqlite_exec.specs.contracts.stream.Rounds as rounds_
use Rattle.sqlite_exec.specs.contracts.stream.Stream as stream_
use Rattle.sqlite_exec.specs.contracts.budget.Budget as budget_
use Rattle.sqlite.specs.contracts.run.reading.Reading as reading_
use Rattle.sqlite_exec.specs.contracts.slots.Slots as slots_
use Rattle.sqlite_exec.specs.contracts.work.Workspace as workspace_
use Rattle.sqlite_store.specs.contracts.catalog.Wanted as wanted_
use Rattle.sqlite_store.specs.contracts.saved.Saved as saved_
use Rattle.sqlite_store.specs.contracts.saved.Listed as listed_
use Rattle.sqlite_store.specs.contracts.cursor.Cursor as cursor_

record_send : IsSend record_.the_row
record_send = search (sendable, crosses) depth 40 fits 20000

host_send : IsSend host_.the_row
host_send = search (record_send, sendable, crosses) depth 40 fits 20000

disk_send : IsSend (modelled_.the_field host_.the_row unknown_.the_row host_calls_.ghosts unknown_start_.ghosts).row
disk_send = search (host_send, sendable, crosses) depth 40 fits 20000

page_index_send : IsSend page_index_.the_row
page_index_send = search (sendable, crosses) depth 40 fits 20000

batch_send : IsSend batch_.the_field.row
batch_send = search (page_index_send, sendable, crosses) depth 40 fits 20000

log_send : (D : RattleType) (g : Ghosts D.Denot) → IsSend D → IsSend (log_.the_field D g).row
log_send D g s = search (page_index_send, sendable, crosses) depth 40 fits 20000

layer_send : IsSend layer_.the_field.row
layer_send = search (batch_send, sendable, crosses) depth 40 fits 20000

cache_send : IsSend cache_.the_field.row
cache_send = search (sendable, crosses) depth 40 fits 20000

pager_send : (D : RattleType) (g : Ghosts D.Denot) → IsSend D → IsSend (pager_.the_field D g).row
pager_send D g s = Send.struct_send (Declared.shape (pager_.the_type D g)) (log_send D g s, search (batch_send, layer_send, cache_send, sendable, crosses) depth 40 fits 20000)

backing_send : (D : RattleType) (g : Ghosts D.Denot) → IsSend D → IsSend (backing_.the_field D g).row
backing_send D g s = Send.struct_send (Declared.shape (backing_.the_type D g)) (pager_send D g s, search (sendable, crosses) depth 40 fits 20000)

free_set_send : IsSend free_set_.the_field.row
free_set_send = search (sendable, crosses) depth 40 fits 20000

pool_send : (D : RattleType) (g : Ghosts D.Denot) → IsSend D → IsSend (pool_.the_field D g).row
pool_send D g s = Send.struct_send (Declared.shape (pool_.the_type D g)) (backing_send D g s, search (free_set_send, sendable, crosses) depth 40 fits 20000)

wanted_send : IsSend wanted_.the_field.row
wanted_send = search (sendable, crosses) depth 40 fits 20000

listed_send : IsSend listed_.the_field.row
listed_send = search (wanted_send, sendable, crosses) depth 40 fits 20000

saved_send : IsSend saved_.the_field.row
saved_send = search (wanted_send, listed_send, sendable, crosses) depth 40 fits 20000

cursor_send : IsSend cursor_.the_field.row
cursor_send = search (sendable, crosses) depth 40 fits 20000

pub store_send : (D : RattleType) (g : Ghosts D.Denot) → IsSend D → IsSend (file_store_.the_field D g).row
store_send D g s = Send.struct_send (Declared.shape (file_store_.the_type D g)) (pool_send D g s, search (wanted_send, saved_send, cursor_send, sendable, crosses) depth 40 fits 20000)

items_send : (T : RattleType) → IsSend T → IsSend (items_.the_row T)
items_send T s = search (sendable, crosses) depth 40

bytes_send : IsSend bytes_.the_row
bytes_send = search (sendable, crosses) depth 40 fits 20000

value_send : IsSend value_.the_field.row
value_send = search (bytes_send, sendable, crosses) depth 40 fits 20000

column_send : IsSend column_.the_field.row
column_send = search (bytes_send, value_send, sendable, crosses) depth 40 fits 20000

binary_op_send : IsSend binary_op_.the_field.row
binary_op_send = search (sendable, crosses) depth 40 fits 20000

op_send : IsSend op_.the_field.row
op_send = search (value_send, binary_op_send, sendable, crosses) depth 40 fits 20000

terms_send : IsSend terms_.the_row
terms_send = search (items_send, op_send, sendable, crosses) depth 40 fits 20000

reference_send : IsSend reference_.the_field.row
reference_send = search (items_send, bytes_send, sendable, crosses) depth 40 fits 20000

stamps_send : IsSend stamps_.the_field.row
stamps_send = search (items_send, terms_send, bytes_send, sendable, crosses) depth 40 fits 20000

table_send : IsSend table_.the_field.row
table_send = search (bytes_send, items_send, column_send, terms_send, reference_send, stamps_send, sendable, crosses) depth 40 fits 20000

index_send : IsSend index_.the_field.row
index_send = search (bytes_send, items_send, sendable, crosses) depth 40 fits 20000

view_send : IsSend view_.the_field.row
view_send = search (bytes_send, sendable, crosses) depth 40 fits 20000

schema_send : IsSend schema_.the_field.row
schema_send = search (items_send, table_send, index_send, view_send, sendable, crosses) depth 40 fits 20000

mark_send : IsSend mark_.the_field.row
mark_send = search (bytes_send, schema_send, sendable, crosses) depth 40 fits 20000

history_send : IsSend history_.the_field.row
history_send = search (schema_send, mark_send, sendable, crosses) depth 40 fits 20000

scan_send : IsSend scan_.the_field.row
scan_send = search (items_send, sendable, crosses) depth 40 fits 20000

aggregate_send : IsSend aggregate_.the_field.row
aggregate_send = search (sendable, crosses) depth 40 fits 20000

key_send : IsSend key_.the_field.row
key_send = search (sendable, crosses) depth 40 fits 20000

sort_key_send : IsSend sort_key_.the_field.row
sort_key_send = search (key_send, sendable, crosses) depth 40 fits 20000

stage_send : IsSend stage_.the_field.row
stage_send = search (scan_send, items_send, aggregate_send, sort_key_send, sendable, crosses) depth 40 fits 20000

groups_send : IsSend groups_.the_field.row
groups_send = search (items_send, aggregate_send, sendable, crosses) depth 40 fits 20000

plan_send : IsSend plan_.the_row
plan_send = search (items_send, op_send, stage_send, groups_send, sort_key_send, sendable, crosses) depth 40 fits 20000

program_send : IsSend program_.the_field.row
program_send = search (items_send, plan_send, sendable, crosses) depth 40 fits 20000

source_send : IsSend source_.the_field.row
source_send = search (terms_send, program_send, sendable, crosses) depth 40 fits 20000

upsert_send : IsSend upsert_.the_field.row
upsert_send = search (items_send, program_send, sendable, crosses) depth 40 fits 20000

command_send : IsSend command_.the_field.row
command_send = search (program_send, items_send, bytes_send, source_send, upsert_send, value_send, sendable, crosses) depth 40 fits 20000

returning_send : IsSend returning_.the_field.row
returning_send = search (items_send, bytes_send, source_send, sendable, crosses) depth 40 fits 20000

compiled_send : IsSend compiled_.the_field.row
compiled_send = search (command_send, returning_send, items_send, bytes_send, sendable, crosses) depth 40 fits 20000

entry_send : IsSend entry_.the_field.row
entry_send = search (bytes_send, compiled_send, sendable, crosses) depth 40 fits 20000

row_send : IsSend row_.the_row
row_send = search (sendable, crosses) depth 40 fits 20000

rows_send : IsSend rows_.the_row
rows_send = search (row_send, sendable, crosses) depth 40 fits 20000

page_send : IsSend page_.the_row
page_send = search (rows_send, sendable, crosses) depth 40 fits 20000

way_send : IsSend way_.the_field.row
way_send = search (row_send, sendable, crosses) depth 40 fits 20000

row_mark_send : IsSend row_mark_.the_field.row
row_mark_send = search (row_send, way_send, sendable, crosses) depth 40 fits 20000

marks_send : IsSend marks_.the_row
marks_send = search (row_mark_send, sendable, crosses) depth 40 fits 20000

seen_send : IsSend seen_.the_field.row
seen_send = search (rows_send, sendable, crosses) depth 40 fits 20000

rounds_send : IsSend rounds_.the_field.row
rounds_send = search (seen_send, sendable, crosses) depth 40 fits 20000

stream_send : IsSend stream_.the_field.row
stream_send = search (row_send, page_send, marks_send, rounds_send, sendable, crosses) depth 40 fits 20000

budget_send : IsSend budget_.the_field.row
budget_send = search (sendable, crosses) depth 40 fits 20000

reading_send : IsSend reading_.the_field.row
reading_send = search (stream_send, budget_send, row_send, sendable, crosses) depth 40 fits 20000

slots_send : IsSend slots_.the_row
slots_send = search (row_send, sendable, crosses) depth 40 fits 20000

workspace_send : IsSend workspace_.the_field.row
workspace_send = search (row_send, slots_send, sendable, crosses) depth 40 fits 20000

connection_send : (S : RattleType) (g : Stores S.Denot) → IsSend S → IsSend (connection_.the_field S g).row
connection_send S g s = search (schema_send, history_send, entry_send, reading_send, workspace_send, sendable, crosses) depth 40 fits 20000

abbrev disk_ghosts : Ghosts (modelled_.the_row host_.the_row unknown_.the_row host_calls_.ghosts unknown_start_.ghosts).Denot
disk_ghosts = modelled_disk_.ghosts host_.the_row unknown_.the_row host_calls_.ghosts modelled_disk_.no_dict unknown_start_.ghosts modelled_disk_.no_dict modelled_disk_.no_dict

abbrev disk : RattleType
disk = modelled_.the_row host_.the_row unknown_.the_row host_calls_.ghosts unknown_start_.ghosts

disk_row_send : IsSend disk
disk_row_send = search (disk_send, sendable) depth 20 fits 20000

store_row_send : (D : RattleType) (g : Ghosts D.Denot) → IsSend D → IsSend (file_store_.the_row D g)
store_row_send D g s = search (store_send D g s, sendable) depth 20 fits 20000

told_keeper_send : (S : RattleType) (g : Stores S.Denot) → IsSend S → IsSend (told_keeper_.the_field S g).row
told_keeper_send S g s = Send.struct_send (Declared.shape (told_keeper_.the_type S g)) (connection_send S g s, search (sendable, crosses) depth 40 fits 20000)

file_keeper_field_send : IsSend file_keeper_.the_field.row
file_keeper_field_send = Send.struct_send (Declared.shape file_keeper_.the_type) (told_keeper_send _ (file_store_store_.ghosts disk disk_ghosts file_store_store_.no_dict) (store_row_send disk disk_ghosts disk_row_send), tt)

pub file_keeper_send : IsSend file_keeper_.the_row
file_keeper_send = search (file_keeper_field_send, sendable) depth 20 fits 20000
