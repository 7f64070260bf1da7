-- Texts of replies about ranks and their balance, saved filters, boards, sprints, groups and external ids.
use Rattle.std.proofs.Common.{◌≡◌, [], ◌∷◌, codes, Some, None, true, false, pos, negsuc, refl}
use Rattle.std.specs.Fmt.{digits}
use Rattle.serde_json.proofs.OnLiterals.{serde_json_on_literals}
use Rattle.reply_texts.specs.Reply.{reply_text}
use Rattle.tracker_calls.specs.declared.reply.Reply.TheVariants as reply
use Rattle.tracker_calls.specs.declared.reply.Answer.TheVariants as answer
use Rattle.tracker_calls.specs.declared.cause.Cause.TheVariants as cause
use Rattle.tracker_calls.specs.declared.reply.Refusal.TheVariants as refusal
use Rattle.tracker_calls.specs.declared.reply.BalanceState.TheVariants as state
use Rattle.tracker_calls.specs.declared.cause.BalanceKept.TheVariants as kept
use Rattle.tracker_calls.specs.declared.reply.SprintPhase.TheVariants as phase
use Rattle.tracker_calls.specs.declared.cause.Limit.TheVariants as limit
use Rattle.tracker_calls.specs.declared.cause.Thing.TheVariants as thing
use Rattle.tracker_calls.specs.declared.reply.Shown.TheVariants as shown

pub a_move : reply_text (reply.Ok (answer.Move (codes "OPS-2") (codes "1|qzzncw:"))) ≡ codes "{\"ok\":{\"issue\":\"OPS-2\",\"rank\":\"1|qzzncw:\"}}"
unfolding digits serde_json_on_literals reply_text
a_move = refl

pub some_ranks : reply_text (reply.Ok (answer.Ranks (record { issue = codes "OPS-2"; rank = codes "1|qzzncw:" } ∷ record { issue = codes "OPS-1"; rank = codes "1|r00000:" } ∷ []) 2))
    ≡ codes "{\"ok\":{\"ranks\":[[\"OPS-2\",\"1|qzzncw:\"],[\"OPS-1\",\"1|r00000:\"]],\"total\":2}}"
unfolding digits serde_json_on_literals reply_text
some_ranks = refl

pub a_start : reply_text (reply.Ok (answer.RebalanceStart 2 0)) ≡ codes "{\"ok\":{\"from\":2,\"to\":0}}"
unfolding digits serde_json_on_literals reply_text
a_start = refl

pub a_step : reply_text (reply.Ok (answer.RebalanceStep 3 1000)) ≡ codes "{\"ok\":{\"left\":3,\"moved\":1000}}"
unfolding digits serde_json_on_literals reply_text
a_step = refl

pub an_idle_balance : reply_text (reply.Ok (answer.Balance (state.Idle 1) 9 false)) ≡ codes "{\"ok\":{\"bucket\":1,\"longest\":9,\"offer\":false,\"state\":\"idle\"}}"
unfolding digits serde_json_on_literals reply_text
an_idle_balance = refl

pub a_moving_balance : reply_text (reply.Ok (answer.Balance (state.Moving 0 7 1) 128 true))
    ≡ codes "{\"ok\":{\"from\":0,\"left\":7,\"longest\":128,\"offer\":true,\"state\":\"moving\",\"to\":1}}"
unfolding digits serde_json_on_literals reply_text
a_moving_balance = refl

pub no_room : reply_text (reply.Refused (refusal.Cause (cause.NoRoom None (Some (codes "0|000001:"))))) ≡ codes "{\"refused\":{\"high\":\"0|000001:\",\"low\":null,\"no\":8}}"
unfolding digits serde_json_on_literals reply_text
no_room = refl

pub idle_already : reply_text (reply.Refused (refusal.Cause (cause.BalanceIs (kept.Idle 1)))) ≡ codes "{\"refused\":{\"kept\":\"idle 1\",\"no\":12}}"
unfolding digits serde_json_on_literals reply_text
idle_already = refl

pub moving_already : reply_text (reply.Refused (refusal.Cause (cause.BalanceIs (kept.Moving 0 1)))) ≡ codes "{\"refused\":{\"kept\":\"moving 0 1\",\"no\":12}}"
unfolding digits serde_json_on_literals reply_text
moving_already = refl

pub a_saved_filter : reply_text (reply.Ok (answer.SaveFilter (record { 0 = 1 }) 2)) ≡ codes "{\"ok\":{\"filter\":1,\"members\":2}}"
unfolding digits serde_json_on_literals reply_text
a_saved_filter = refl

pub a_dropped_filter : reply_text (reply.Ok (answer.DropFilter (record { 0 = 1 }))) ≡ codes "{\"ok\":{\"filter\":1}}"
unfolding digits serde_json_on_literals reply_text
a_dropped_filter = refl

pub a_part_of_a_filter : reply_text (reply.Ok (answer.Filter (codes "OPS-3" ∷ []) 1)) ≡ codes "{\"ok\":{\"issues\":[\"OPS-3\"],\"total\":1}}"
unfolding digits serde_json_on_literals reply_text
a_part_of_a_filter = refl

pub a_made_board : reply_text (reply.Ok (answer.MakeBoard (record { 0 = 1 }))) ≡ codes "{\"ok\":{\"board\":1}}"
unfolding digits serde_json_on_literals reply_text
a_made_board = refl

pub a_dropped_board : reply_text (reply.Ok (answer.DropBoard (record { 0 = 1 }))) ≡ codes "{\"ok\":{\"board\":1}}"
unfolding digits serde_json_on_literals reply_text
a_dropped_board = refl

-- a column without issues is told too
pub a_board : reply_text (reply.Ok (answer.Board
    (record { issues = codes "OPS-3" ∷ []; status = codes "Open" }
    ∷ record { issues = []; status = codes "In Progress" }
    ∷ record { issues = []; status = codes "In Review" }
    ∷ record { issues = []; status = codes "Done" }
    ∷ []) 1))
    ≡ codes "{\"ok\":{\"columns\":[{\"issues\":[\"OPS-3\"],\"status\":\"Open\"},{\"issues\":[],\"status\":\"In Progress\"},{\"issues\":[],\"status\":\"In Review\"},{\"issues\":[],\"status\":\"Done\"}],\"total\":1}}"
unfolding digits serde_json_on_literals reply_text
a_board = refl

pub no_more_filters : reply_text (reply.Refused (refusal.Cause (cause.Limit limit.Filters))) ≡ codes "{\"refused\":{\"limit\":\"filters\",\"no\":10,\"number\":200}}"
unfolding digits serde_json_on_literals reply_text
no_more_filters = refl

pub no_more_boards : reply_text (reply.Refused (refusal.Cause (cause.Limit limit.Boards))) ≡ codes "{\"refused\":{\"limit\":\"boards\",\"no\":10,\"number\":200}}"
unfolding digits serde_json_on_literals reply_text
no_more_boards = refl

pub no_such_filter : reply_text (reply.Refused (refusal.Cause (cause.Unknown thing.Filter (codes "7")))) ≡ codes "{\"refused\":{\"kind\":\"filter\",\"name\":\"7\",\"no\":2}}"
unfolding digits serde_json_on_literals reply_text
no_such_filter = refl

pub no_such_board : reply_text (reply.Refused (refusal.Cause (cause.Unknown thing.Board (codes "7")))) ≡ codes "{\"refused\":{\"kind\":\"board\",\"name\":\"7\",\"no\":2}}"
unfolding digits serde_json_on_literals reply_text
no_such_board = refl

pub a_made_sprint : reply_text (reply.Ok (answer.MakeSprint (record { 0 = 1 }))) ≡ codes "{\"ok\":{\"sprint\":1}}"
unfolding digits serde_json_on_literals reply_text
a_made_sprint = refl

pub a_started_sprint : reply_text (reply.Ok (answer.SprintPhase (record { 0 = 1 }) phase.Active)) ≡ codes "{\"ok\":{\"sprint\":1,\"state\":\"active\"}}"
unfolding digits serde_json_on_literals reply_text
a_started_sprint = refl

pub a_closed_sprint : reply_text (reply.Ok (answer.SprintPhase (record { 0 = 1 }) phase.Closed)) ≡ codes "{\"ok\":{\"sprint\":1,\"state\":\"closed\"}}"
unfolding digits serde_json_on_literals reply_text
a_closed_sprint = refl

pub a_burndown : reply_text (reply.Ok (answer.Burndown (pos 1500)
    (record { at = 1709254800; by = negsuc 2999; change = 8; issue = codes "OPS-1"; left = pos 1500 }
    ∷ []) (pos 4500) phase.Active 1))
    ≡ codes "{\"ok\":{\"left\":1500,\"rows\":[{\"at\":1709254800,\"by\":-3000,\"change\":8,\"issue\":\"OPS-1\",\"left\":1500}],\"start\":4500,\"state\":\"active\",\"total\":1}}"
unfolding digits serde_json_on_literals reply_text
a_burndown = refl

-- what is left may fall below zero
pub a_burndown_below_zero : reply_text (reply.Ok (answer.Burndown (negsuc 499)
    (record { at = 1709254800; by = negsuc 1499; change = 8; issue = codes "OPS-1"; left = negsuc 499 }
    ∷ record { at = 1709254860; by = pos 250; change = 9; issue = codes "OPS-2"; left = negsuc 249 }
    ∷ []) (pos 1000) phase.Closed 3))
    ≡ codes "{\"ok\":{\"left\":-500,\"rows\":[{\"at\":1709254800,\"by\":-1500,\"change\":8,\"issue\":\"OPS-1\",\"left\":-500},{\"at\":1709254860,\"by\":250,\"change\":9,\"issue\":\"OPS-2\",\"left\":-250}],\"start\":1000,\"state\":\"closed\",\"total\":3}}"
unfolding digits serde_json_on_literals reply_text
a_burndown_below_zero = refl

pub a_burndown_not_begun : reply_text (reply.Ok (answer.Burndown (pos 0) [] (pos 0) phase.Future 0))
    ≡ codes "{\"ok\":{\"left\":0,\"rows\":[],\"start\":0,\"state\":\"future\",\"total\":0}}"
unfolding digits serde_json_on_literals reply_text
a_burndown_not_begun = refl

pub closed_already : reply_text (reply.Refused (refusal.Cause (cause.SprintIs phase.Closed))) ≡ codes "{\"refused\":{\"no\":9,\"state\":\"closed\"}}"
unfolding digits serde_json_on_literals reply_text
closed_already = refl

pub active_already : reply_text (reply.Refused (refusal.Cause (cause.SprintIs phase.Active))) ≡ codes "{\"refused\":{\"no\":9,\"state\":\"active\"}}"
unfolding digits serde_json_on_literals reply_text
active_already = refl

pub not_begun : reply_text (reply.Refused (refusal.Cause (cause.SprintIs phase.Future))) ≡ codes "{\"refused\":{\"no\":9,\"state\":\"future\"}}"
unfolding digits serde_json_on_literals reply_text
not_begun = refl

pub no_more_sprints : reply_text (reply.Refused (refusal.Cause (cause.Limit limit.Sprints))) ≡ codes "{\"refused\":{\"limit\":\"sprints\",\"no\":10,\"number\":1000}}"
unfolding digits serde_json_on_literals reply_text
no_more_sprints = refl

pub no_such_sprint : reply_text (reply.Refused (refusal.Cause (cause.Unknown thing.Sprint (codes "7")))) ≡ codes "{\"refused\":{\"kind\":\"sprint\",\"name\":\"7\",\"no\":2}}"
unfolding digits serde_json_on_literals reply_text
no_such_sprint = refl

pub a_set_group : reply_text (reply.Ok (answer.SetGroup (codes "team") 2)) ≡ codes "{\"ok\":{\"group\":\"team\",\"members\":2}}"
unfolding digits serde_json_on_literals reply_text
a_set_group = refl

pub no_such_group : reply_text (reply.Refused (refusal.Cause (cause.Unknown thing.Group (codes "tean")))) ≡ codes "{\"refused\":{\"kind\":\"group\",\"name\":\"tean\",\"no\":2}}"
unfolding digits serde_json_on_literals reply_text
no_such_group = refl

pub created_as_another : reply_text (reply.Refused (refusal.Cause (cause.ExternalIs (codes "J-1") (codes "OPS-1")))) ≡ codes "{\"refused\":{\"external\":\"J-1\",\"kept\":\"OPS-1\",\"no\":13}}"
unfolding digits serde_json_on_literals reply_text
created_as_another = refl

-- ---- what there is

-- fields stand by their names
pub a_list : reply_text (reply.Ok (answer.List (record {
  created = 0;
  fields = record { name = codes "status"; value = shown.Text (codes "Open") } ∷ record { name = codes "assignee"; value = shown.Text (codes "amy") } ∷ [];
  issue = codes "OPS-1";
  updated = 5;
} ∷ []) 7))
    ≡ codes "{\"ok\":{\"issues\":[{\"created\":0,\"fields\":{\"assignee\":\"amy\",\"status\":\"Open\"},\"issue\":\"OPS-1\",\"updated\":5}],\"total\":7}}"
unfolding digits serde_json_on_literals reply_text
a_list = refl

pub some_filters : reply_text (reply.Ok (answer.Filters (record { filter = record { 0 = 3 }; jql = codes "type = Bug"; name = codes "Bugs"; owner = codes "amy" } ∷ []) 1))
    ≡ codes "{\"ok\":{\"filters\":[{\"filter\":3,\"jql\":\"type = Bug\",\"name\":\"Bugs\",\"owner\":\"amy\"}],\"total\":1}}"
unfolding digits serde_json_on_literals reply_text
some_filters = refl

pub some_boards : reply_text (reply.Ok (answer.Boards (record { board = record { 0 = 1 }; filter = record { 0 = 3 }; name = codes "Team" } ∷ []) 1))
    ≡ codes "{\"ok\":{\"boards\":[{\"board\":1,\"filter\":3,\"name\":\"Team\"}],\"total\":1}}"
unfolding digits serde_json_on_literals reply_text
some_boards = refl

pub some_sprints : reply_text (reply.Ok (answer.Sprints (record { name = codes "Week 9"; sprint = record { 0 = 1 }; state = phase.Active } ∷ []) 2))
    ≡ codes "{\"ok\":{\"sprints\":[{\"name\":\"Week 9\",\"sprint\":1,\"state\":\"active\"}],\"total\":2}}"
unfolding digits serde_json_on_literals reply_text
some_sprints = refl

pub no_filters : reply_text (reply.Ok (answer.Filters [] 0)) ≡ codes "{\"ok\":{\"filters\":[],\"total\":0}}"
unfolding digits serde_json_on_literals reply_text
no_filters = refl
