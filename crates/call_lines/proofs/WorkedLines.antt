-- Lines and what they ask for.
use Rattle.std.proofs.Common.{◌≡◌, [], ◌∷◌, codes, Some, None, Ok, Err, refl}
use Rattle.std.specs.Str.{is_utf8, chars}
use Rattle.serde_json.proofs.OnLiterals.{serde_json_on_literals}
use Rattle.call_lines.specs.Asked.{line_of}
use Rattle.tracker_calls.specs.declared.call.Call.TheVariants.{Create, MoveBefore, SaveFilter, DropFilter, MakeBoard, DropBoard, MakeSprint, StartSprint, CloseSprint, SetGroup, Filter, Board, Burndown}
use Rattle.tracker_calls.specs.declared.call.Call.TheVariants as call
use Rattle.tracker_calls.specs.declared.cause.Cause.TheVariants.{Form}

pub a_move : line_of (codes "{\"user\":\"root\",\"call\":\"move_before\",\"issue\":\"OPS-1\",\"other\":\"OPS-2\"}") ≡ Ok (codes "root", MoveBefore (codes "OPS-1") (codes "OPS-2"))
unfolding is_utf8 chars serde_json_on_literals line_of
a_move = refl

-- before the members that are none of the call's
pub beside_itself : line_of (codes "{\"user\":\"root\",\"call\":\"move_before\",\"issue\":\"OPS-1\",\"other\":\"OPS-1\",\"a\":1}") ≡ Err (Form (codes "other"))
unfolding is_utf8 chars serde_json_on_literals line_of
beside_itself = refl

pub a_step_without_count : line_of (codes "{\"user\":\"root\",\"call\":\"rebalance_step\"}") ≡ Err (Form (codes "count"))
unfolding is_utf8 chars serde_json_on_literals line_of
a_step_without_count = refl

pub a_saved_filter : line_of (codes "{\"user\":\"root\",\"call\":\"save_filter\",\"name\":\"Open ones\",\"jql\":\"status = Open\"}") ≡ Ok (codes "root", SaveFilter (codes "Open ones") (codes "status = Open"))
unfolding is_utf8 chars serde_json_on_literals line_of
a_saved_filter = refl

pub a_dropped_filter : line_of (codes "{\"user\":\"root\",\"call\":\"drop_filter\",\"filter\":1}") ≡ Ok (codes "root", DropFilter (record { 0 = 1 }))
unfolding is_utf8 chars serde_json_on_literals line_of
a_dropped_filter = refl

pub a_part_of_a_filter : line_of (codes "{\"user\":\"root\",\"call\":\"filter\",\"filter\":2,\"from\":10}") ≡ Ok (codes "root", Filter (record { 0 = 2 }) (record { from = 10; count = 1000 }))
unfolding is_utf8 chars serde_json_on_literals line_of
a_part_of_a_filter = refl

pub a_made_board : line_of (codes "{\"user\":\"root\",\"call\":\"make_board\",\"name\":\"Team\",\"filter\":4294967295}") ≡ Ok (codes "root", MakeBoard (codes "Team") (record { 0 = 4294967295 }))
unfolding is_utf8 chars serde_json_on_literals line_of
a_made_board = refl

pub a_dropped_board : line_of (codes "{\"user\":\"root\",\"call\":\"drop_board\",\"board\":0}") ≡ Ok (codes "root", DropBoard (record { 0 = 0 }))
unfolding is_utf8 chars serde_json_on_literals line_of
a_dropped_board = refl

pub a_part_of_a_board : line_of (codes "{\"user\":\"root\",\"call\":\"board\",\"board\":3,\"count\":20}") ≡ Ok (codes "root", Board (record { 0 = 3 }) (record { from = 0; count = 20 }))
unfolding is_utf8 chars serde_json_on_literals line_of
a_part_of_a_board = refl

-- before the members behind it
pub a_filter_without_a_name : line_of (codes "{\"user\":\"root\",\"call\":\"save_filter\",\"name\":\"\"}") ≡ Err (Form (codes "name"))
unfolding is_utf8 chars serde_json_on_literals line_of
a_filter_without_a_name = refl

pub a_number_out_of_range : line_of (codes "{\"user\":\"root\",\"call\":\"filter\",\"filter\":4294967296,\"from\":-1}") ≡ Err (Form (codes "filter"))
unfolding is_utf8 chars serde_json_on_literals line_of
a_number_out_of_range = refl

pub a_made_sprint : line_of (codes "{\"user\":\"root\",\"call\":\"make_sprint\",\"name\":\"Week 9\"}") ≡ Ok (codes "root", MakeSprint (codes "Week 9"))
unfolding is_utf8 chars serde_json_on_literals line_of
a_made_sprint = refl

pub a_started_sprint : line_of (codes "{\"user\":\"root\",\"call\":\"start_sprint\",\"sprint\":1}") ≡ Ok (codes "root", StartSprint (record { 0 = 1 }))
unfolding is_utf8 chars serde_json_on_literals line_of
a_started_sprint = refl

pub a_closed_sprint : line_of (codes "{\"user\":\"root\",\"call\":\"close_sprint\",\"sprint\":4294967295}") ≡ Ok (codes "root", CloseSprint (record { 0 = 4294967295 }))
unfolding is_utf8 chars serde_json_on_literals line_of
a_closed_sprint = refl

pub a_whole_burndown : line_of (codes "{\"user\":\"root\",\"call\":\"burndown\",\"sprint\":1}") ≡ Ok (codes "root", Burndown (record { 0 = 1 }) (record { from = 0; count = 1000 }))
unfolding is_utf8 chars serde_json_on_literals line_of
a_whole_burndown = refl

pub a_part_of_a_burndown : line_of (codes "{\"user\":\"root\",\"call\":\"burndown\",\"sprint\":0,\"from\":2000000,\"count\":1}") ≡ Ok (codes "root", Burndown (record { 0 = 0 }) (record { from = 2000000; count = 1 }))
unfolding is_utf8 chars serde_json_on_literals line_of
a_part_of_a_burndown = refl

-- no control characters
pub a_sprint_with_a_line_end : line_of (codes "{\"user\":\"root\",\"call\":\"make_sprint\",\"name\":\"Week\\n9\"}") ≡ Err (Form (codes "name"))
unfolding is_utf8 chars serde_json_on_literals line_of
a_sprint_with_a_line_end = refl

-- no member of the call
pub a_start_with_a_name : line_of (codes "{\"user\":\"root\",\"call\":\"start_sprint\",\"sprint\":1,\"name\":\"Week 9\"}") ≡ Err (Form (codes "name"))
unfolding is_utf8 chars serde_json_on_literals line_of
a_start_with_a_name = refl

pub a_close_of_no_number : line_of (codes "{\"user\":\"root\",\"call\":\"close_sprint\",\"sprint\":\"1\"}") ≡ Err (Form (codes "sprint"))
unfolding is_utf8 chars serde_json_on_literals line_of
a_close_of_no_number = refl

-- the sprint, then the start of the part, then its length
pub a_burndown_of_no_sprint : line_of (codes "{\"user\":\"root\",\"call\":\"burndown\",\"from\":2000001,\"count\":0}") ≡ Err (Form (codes "sprint"))
unfolding is_utf8 chars serde_json_on_literals line_of
a_burndown_of_no_sprint = refl

pub a_burndown_from_too_far : line_of (codes "{\"user\":\"root\",\"call\":\"burndown\",\"sprint\":1,\"from\":2000001,\"count\":0}") ≡ Err (Form (codes "from"))
unfolding is_utf8 chars serde_json_on_literals line_of
a_burndown_from_too_far = refl

pub a_burndown_of_none : line_of (codes "{\"user\":\"root\",\"call\":\"burndown\",\"sprint\":1,\"count\":0}") ≡ Err (Form (codes "count"))
unfolding is_utf8 chars serde_json_on_literals line_of
a_burndown_of_none = refl

pub a_created_issue : line_of (codes "{\"user\":\"root\",\"call\":\"create\",\"project\":\"OPS\",\"type\":\"Bug\",\"summary\":\"Slow\",\"external\":\"J-1\"}") ≡ Ok (codes "root", Create (codes "OPS") (codes "Bug") (codes "Slow") [] (Some (codes "J-1")))
unfolding is_utf8 chars serde_json_on_literals line_of
a_created_issue = refl

pub without_an_external_id : line_of (codes "{\"user\":\"root\",\"call\":\"create\",\"project\":\"OPS\",\"type\":\"Bug\",\"summary\":\"Slow\"}") ≡ Ok (codes "root", Create (codes "OPS") (codes "Bug") (codes "Slow") [] None)
unfolding is_utf8 chars serde_json_on_literals line_of
without_an_external_id = refl

pub the_longest_external_id : line_of (codes "{\"user\":\"root\",\"call\":\"create\",\"project\":\"OPS\",\"type\":\"Bug\",\"summary\":\"Slow\",\"external\":\"J-012345678901234567890123456789012345678901234567890123456789~ \"}") ≡ Ok (codes "root", Create (codes "OPS") (codes "Bug") (codes "Slow") [] (Some (codes "J-012345678901234567890123456789012345678901234567890123456789~ ")))
unfolding is_utf8 chars serde_json_on_literals line_of
the_longest_external_id = refl

-- of 65 bytes
pub too_long_an_external_id : line_of (codes "{\"user\":\"root\",\"call\":\"create\",\"project\":\"OPS\",\"type\":\"Bug\",\"summary\":\"Slow\",\"external\":\"J-012345678901234567890123456789012345678901234567890123456789~ 1\"}") ≡ Err (Form (codes "external"))
unfolding is_utf8 chars serde_json_on_literals line_of
too_long_an_external_id = refl

pub an_empty_external_id : line_of (codes "{\"user\":\"root\",\"call\":\"create\",\"project\":\"OPS\",\"type\":\"Bug\",\"summary\":\"Slow\",\"external\":\"\"}") ≡ Err (Form (codes "external"))
unfolding is_utf8 chars serde_json_on_literals line_of
an_empty_external_id = refl

pub a_control_character : line_of (codes "{\"user\":\"root\",\"call\":\"create\",\"project\":\"OPS\",\"type\":\"Bug\",\"summary\":\"Slow\",\"external\":\"J\\t1\"}") ≡ Err (Form (codes "external"))
unfolding is_utf8 chars serde_json_on_literals line_of
a_control_character = refl

pub a_letter_beyond_ascii : line_of (codes "{\"user\":\"root\",\"call\":\"create\",\"project\":\"OPS\",\"type\":\"Bug\",\"summary\":\"Slow\",\"external\":\"J-\\u00e91\"}") ≡ Err (Form (codes "external"))
unfolding is_utf8 chars serde_json_on_literals line_of
a_letter_beyond_ascii = refl

-- absent is fine, and null is not
pub no_external_id : line_of (codes "{\"user\":\"root\",\"call\":\"create\",\"project\":\"OPS\",\"type\":\"Bug\",\"summary\":\"Slow\",\"external\":null}") ≡ Err (Form (codes "external"))
unfolding is_utf8 chars serde_json_on_literals line_of
no_external_id = refl

pub a_number_as_external_id : line_of (codes "{\"user\":\"root\",\"call\":\"create\",\"project\":\"OPS\",\"type\":\"Bug\",\"summary\":\"Slow\",\"external\":1}") ≡ Err (Form (codes "external"))
unfolding is_utf8 chars serde_json_on_literals line_of
a_number_as_external_id = refl

-- before the external id
pub the_set_first : line_of (codes "{\"user\":\"root\",\"call\":\"create\",\"project\":\"OPS\",\"type\":\"Bug\",\"summary\":\"Slow\",\"external\":1,\"set\":1}") ≡ Err (Form (codes "set"))
unfolding is_utf8 chars serde_json_on_literals line_of
the_set_first = refl

-- before the members that are none of the call's
pub the_external_id_first : line_of (codes "{\"user\":\"root\",\"call\":\"create\",\"project\":\"OPS\",\"type\":\"Bug\",\"summary\":\"Slow\",\"external\":1,\"a\":1}") ≡ Err (Form (codes "external"))
unfolding is_utf8 chars serde_json_on_literals line_of
the_external_id_first = refl

pub a_group : line_of (codes "{\"call\":\"set_group\",\"group\":\"team\",\"members\":[\"root\",\"anna\"],\"user\":\"anna\"}") ≡ Ok (codes "anna", SetGroup (codes "team") (codes "root" ∷ codes "anna" ∷ []))
unfolding is_utf8 chars serde_json_on_literals line_of
a_group = refl

pub a_group_of_nobody : line_of (codes "{\"call\":\"set_group\",\"group\":\"team\",\"members\":[],\"user\":\"anna\"}") ≡ Ok (codes "anna", SetGroup (codes "team") [])
unfolding is_utf8 chars serde_json_on_literals line_of
a_group_of_nobody = refl

pub a_number_among_members : line_of (codes "{\"call\":\"set_group\",\"group\":\"team\",\"members\":[\"root\",1],\"user\":\"anna\"}") ≡ Err (Form (codes "members"))
unfolding is_utf8 chars serde_json_on_literals line_of
a_number_among_members = refl

pub members_as_a_text : line_of (codes "{\"call\":\"set_group\",\"group\":\"team\",\"members\":\"root\",\"user\":\"anna\"}") ≡ Err (Form (codes "members"))
unfolding is_utf8 chars serde_json_on_literals line_of
members_as_a_text = refl

-- before the members that are none of the call's
pub a_group_without_members : line_of (codes "{\"a\":1,\"call\":\"set_group\",\"group\":\"team\",\"user\":\"anna\"}") ≡ Err (Form (codes "members"))
unfolding is_utf8 chars serde_json_on_literals line_of
a_group_without_members = refl

-- before its members
pub a_group_by_number : line_of (codes "{\"call\":\"set_group\",\"group\":1,\"members\":1,\"user\":\"anna\"}") ≡ Err (Form (codes "group"))
unfolding is_utf8 chars serde_json_on_literals line_of
a_group_by_number = refl

pub a_group_with_a_name : line_of (codes "{\"call\":\"set_group\",\"group\":\"team\",\"members\":[],\"user\":\"anna\",\"name\":\"x\"}") ≡ Err (Form (codes "name"))
unfolding is_utf8 chars serde_json_on_literals line_of
a_group_with_a_name = refl

-- ---- what there is

pub a_list : line_of (codes "{\"user\":\"amy\",\"call\":\"list\",\"jql\":\"\",\"fields\":[\"status\",\"SUMMARY\"],\"count\":5}") ≡ Ok (codes "amy", call.List [] (Some (codes "status" ∷ codes "SUMMARY" ∷ [])) (record { from = 0; count = 5 }))
unfolding is_utf8 chars serde_json_on_literals line_of
a_list = refl

-- without the member, all fields are asked for
pub a_list_of_all_fields : line_of (codes "{\"user\":\"amy\",\"call\":\"list\",\"jql\":\"\"}") ≡ Ok (codes "amy", call.List [] None (record { from = 0; count = 100 }))
unfolding is_utf8 chars serde_json_on_literals line_of
a_list_of_all_fields = refl

pub a_list_of_no_fields : line_of (codes "{\"user\":\"amy\",\"call\":\"list\",\"jql\":\"\",\"fields\":[]}") ≡ Ok (codes "amy", call.List [] (Some []) (record { from = 0; count = 100 }))
unfolding is_utf8 chars serde_json_on_literals line_of
a_list_of_no_fields = refl

-- a fault of `fields` comes before one of `from`
pub a_list_with_a_number : line_of (codes "{\"user\":\"amy\",\"call\":\"list\",\"jql\":\"\",\"from\":-1,\"fields\":[\"status\",4]}") ≡ Err (Form (codes "fields"))
unfolding is_utf8 chars serde_json_on_literals line_of
a_list_with_a_number = refl

pub a_list_of_null : line_of (codes "{\"user\":\"amy\",\"call\":\"list\",\"jql\":\"\",\"fields\":null}") ≡ Err (Form (codes "fields"))
unfolding is_utf8 chars serde_json_on_literals line_of
a_list_of_null = refl

pub too_long_a_list : line_of (codes "{\"user\":\"amy\",\"call\":\"list\",\"jql\":\"\",\"count\":101}") ≡ Err (Form (codes "count"))
unfolding is_utf8 chars serde_json_on_literals line_of
too_long_a_list = refl

pub some_filters : line_of (codes "{\"user\":\"amy\",\"call\":\"filters\",\"from\":2}") ≡ Ok (codes "amy", call.Filters (record { from = 2; count = 1000 }))
unfolding is_utf8 chars serde_json_on_literals line_of
some_filters = refl

pub some_boards : line_of (codes "{\"user\":\"amy\",\"call\":\"boards\",\"count\":1000}") ≡ Ok (codes "amy", call.Boards (record { from = 0; count = 1000 }))
unfolding is_utf8 chars serde_json_on_literals line_of
some_boards = refl

pub no_sprints : line_of (codes "{\"user\":\"amy\",\"call\":\"sprints\",\"count\":0}") ≡ Err (Form (codes "count"))
unfolding is_utf8 chars serde_json_on_literals line_of
no_sprints = refl
