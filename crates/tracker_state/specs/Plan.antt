-- What a prepared call has ready.
use Rattle.std.specs.Prelude.{◌≡◌, ◌≢◌, ◌≤◌, ◌<◌, ℕ, List, length, sum_by, string_bytes, slice_get, option_map, IfSome, Option, Some, None, Result, Ok, Err}
use Rattle.tracker_calls.specs.declared.reply.Answer.{Answer}
use Rattle.tracker_calls.specs.declared.cause.Cause.{Cause}
use Rattle.tracker_calls.specs.declared.reply.Refusal.{Refusal}
use Rattle.tracker_calls.specs.declared.reply.Refusal.TheVariants as refusal
use Rattle.tracker_keeper.specs.declared.row.RowOp.{RowOp}
use Rattle.change_history.specs.declared.entry.Entry.{Entry}
use Rattle.change_history.specs.History.{History}
use Rattle.fields.specs.Naming.{name_at}
use Rattle.tracker_machine.specs.Known.{project_keys, next_key}
use Rattle.tracker_machine.specs.Checks.{history_bytes, entry_bytes}
use Rattle.tracker_machine.specs.Machine.{Machine}
use Rattle.tracker_machine.specs.Effect.{Effect, IsAllowed}
use Rattle.tracker_machine.specs.Effect.Effect.{NewMoment, NewIssue, NewGroup, NewRank, NewBalance, NewRanks, NewSprint, NewState, NewFilter, NoFilter, NewBoard, NoBoard, NewMembers}
use Rattle.tracker_machine.specs.Meaning.{Meaning}
use Rattle.tracker_machine.specs.Kept.{ops_of}
use Rattle.tracker_machine.specs.Meaning.Meaning.{Refuses, Tells, Finds, Makes}
use Rattle.tracker_state.specs.declared.plan.NewExternal.{NewExternal}
use Rattle.tracker_state.specs.declared.plan.IssuePlan.{IssuePlan}
use Rattle.tracker_state.specs.declared.plan.GroupPlan.{GroupPlan}
use Rattle.tracker_state.specs.declared.plan.Plan.{Plan}
use Rattle.tracker_state.specs.declared.plan.Plan.TheVariants as plans
use Rattle.tracker_state.specs.declared.plan.Prepared.{Prepared}
use Rattle.tracker_state.specs.declared.plan.Prepared.TheVariants.{Tell, Make}
use Rattle.rising_numbers.specs.ByNumber.{by_number}
use Rattle.filter_views.specs.Counts.{due}
use Rattle.tracker_filters.specs.declared.ready.ReadyFilter.{ReadyFilter}
use Rattle.tracker_filters.specs.Saved.{number, condition_of}
use Rattle.tracker_filters.specs.Watched.{HasFilterRoom, HasIssueRoom}
use Rattle.tracker_filters.specs.Ready.{AreVerdicts}
use Rattle.tracker_filters.specs.Members.{members_cost}
use Rattle.burndown.specs.ChartLaws.{with_entries}
use Rattle.tracker_work.specs.Seen.{share_now}
use Rattle.tracker_work.specs.Work.{HasRoomFor}
use Rattle.tracker_machine.specs.SprintRules.{sum_in_sprint}
use Rattle.tracker_state.specs.State.{Held, HasSprintRoom, IsBound, saved_as}

-- the external id that a new issue comes with, if any
abbrev pub id_of : Option NewExternal → Option (List ℕ)
id_of external = option_map (λ e. e.id) external

abbrev pub effect_of : Plan → Effect
effect_of (plans.Moment to) = NewMoment to
effect_of (plans.Issue new) = NewIssue new.issue.history new.rank (id_of new.external)
effect_of (plans.Group new) = NewGroup new.place new.group
effect_of (plans.Rank new) = NewRank new.issue new.rank
effect_of (plans.Balance balance) = NewBalance balance
effect_of (plans.Step moves) = NewRanks moves
effect_of (plans.Sprint name) = NewSprint name
effect_of (plans.State sprint state) = NewState sprint state
effect_of (plans.Save ready) = NewFilter (saved_as ready.filter)
effect_of (plans.DropFilter filter_no) = NoFilter filter_no
effect_of (plans.Board b) = NewBoard b
effect_of (plans.DropBoard board_no) = NoBoard board_no
effect_of (plans.Members new) = NewMembers new.group new.members

-- the text that leads to the issue is that of the id, and there is room for it
pub record ExternalFits (s : Held) (new : NewExternal) : Type 0 where
  pub same : string_bytes new.text ≡ new.id
  pub room : 1 ≤ s.externals_room

-- there is room for the issue, its key is the next one of its project, and what is kept beside it is its own
pub record IssueFits (s : Held) (new : IssuePlan) : Type 0 where
  pub room : 1 ≤ s.room
  pub ranks_room : length s.machine.order < s.ranks_room
  pub cells_room : HasIssueRoom s.watched
  pub key : string_bytes new.key ≡ new.issue.history.key
  pub there : new.project.0 < length s.machine.setup.project
  pub next : new.issue.history.key
      ≡ next_key s.machine (name_at (project_keys s.machine.setup) new.project.0)
  pub external : IfSome new.external (ExternalFits s)
  pub bytes : new.bytes ≡ history_bytes new.issue.history
  pub rows_room : HasRoomFor s.work (share_now s.work.seen new.issue.history).sprint

-- there is room for a row of the sprint that the issue is in, and of the one that these entries put it in
pub record HasRowsRoom (s : Held) (h : History) (entries : List Entry) : Type 0 where
  pub before : HasRoomFor s.work (share_now s.work.seen h).sprint
  pub after : HasRoomFor s.work (share_now s.work.seen (with_entries h entries)).sprint

-- the same of a group
pub record GroupFits (s : Held) (new : GroupPlan) : Type 0 where
  pub room : IfSome (slice_get s.rooms new.place) (λ room. length new.group.entries ≤ room)
  pub bytes : new.bytes ≡ sum_by entry_bytes new.group.entries
  pub rows_room : IfSome (slice_get s.machine.histories new.place)
      (λ h. HasRowsRoom s h new.group.entries)

-- there is room for the filter, it asks for what its text asks for, and its verdicts are right
pub record FilterFits (s : Held) (ready : ReadyFilter) : Type 0 where
  pub bound : IsBound s.machine.setup ready.filter
  pub room : by_number number ready.filter.no.0 s.watched.filters ≡ None → HasFilterRoom s.watched
  pub right : AreVerdicts s.watched.around s.watched.moment
      (condition_of ready.filter) s.watched.histories ready.verdicts.items

-- there is room for what the plan makes
abbrev pub Fits : Held → Plan → Type 0
Fits s (plans.Moment to) = Unit {0}
Fits s (plans.Issue new) = IssueFits s new
Fits s (plans.Group new) = GroupFits s new
Fits s (plans.Rank new) = Unit {0}
Fits s (plans.Balance balance) = Unit {0}
Fits s (plans.Step moves) = Unit {0}
Fits s (plans.Sprint name) = HasSprintRoom s
Fits s (plans.State sprint state) = Unit {0}
Fits s (plans.Save ready) = FilterFits s ready
Fits s (plans.DropFilter filter_no) = Unit {0}
Fits s (plans.Board b) = length s.machine.boards < s.boards_room
Fits s (plans.DropBoard board_no) = Unit {0}
Fits s (plans.Members new) = new.asked ≡ new.members

-- how often it is asked whether a query holds of an issue as the plan is carried out: by each filter of a new or a changed issue, and
-- of each issue in a sprint that starts or is closed, by each filter that asks for members of each issue as a group comes to others,
-- and for each verdict that has come to its end
abbrev pub cost_of : Plan → Held → ℕ
cost_of (plans.Moment to) s = due s.watched.views to
cost_of (plans.Issue new) s = length s.watched.filters
cost_of (plans.Group new) s = length s.watched.filters
cost_of (plans.State sprint state) s =
    sum_in_sprint (length s.watched.filters) sprint.0 s.machine.histories
cost_of (plans.Members new) s = members_cost s.watched.filters (length s.machine.histories)
cost_of _ s = 0

-- and how often at most as a call is prepared: by a search, and by a filter that is saved
abbrev pub cost_to_prepare : Meaning → Machine → ℕ
cost_to_prepare (Finds a) m = length m.histories
cost_to_prepare (Makes a (NewFilter f)) m = length m.histories
cost_to_prepare _ m = 0

-- a call that makes something has its answer ready, a plan of its effect, which may come and for which there is room, and the
-- operations that keep it
pub record IsReady (due : Meaning) (s : Held) (plan : Plan) (answer : Answer)
    (ops : List RowOp) : Type 0 where
  pub means : due ≡ Makes answer (effect_of plan)
  pub keeps : ops ≡ ops_of (effect_of plan) s.machine
  pub allowed : IsAllowed (effect_of plan) s.machine
  pub fits : Fits s plan

-- what a call tells that makes nothing
abbrev pub told : Meaning → Option Answer
told (Tells a) = Some a
told (Finds a) = Some a
told _ = None

-- it is refused for the cause that is due, or for want of memory; nothing that prepares a call asks a keeper
abbrev pub IsRefused : Meaning → Refusal → Type 0
IsRefused due r = (r ≢ refusal.Keeper) × ((c : Cause) → r ≡ refusal.Cause c → due ≡ Refuses c)

-- what a call means is prepared, or there was not enough memory
abbrev pub IsPrepared : Meaning → Held → Result Prepared Refusal → Type 0
IsPrepared due s (Ok (Tell answer)) = told due ≡ Some answer
IsPrepared due s (Ok (Make plan answer rows)) = IsReady due s plan answer rows.items
IsPrepared due s (Err r) = IsRefused due r
