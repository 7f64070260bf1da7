-- The calls `make_sprint`, `start_sprint`, `close_sprint` and `burndown`: sprints, and what remains of them.
use Rattle.std.specs.Prelude.{ℕ, ◌+◌, List, map, length, decimal, nat_lt, Option, Some, None}
use Rattle.field_values.specs.declared.numbers.SprintNo.{SprintNo}
use Rattle.field_values.specs.declared.rules.Permission.TheVariants as permission
use Rattle.tracker_limits.specs.Limits.{most_sprints}
use Rattle.change_history.specs.History.{History}
use Rattle.sprints.specs.declared.state.SprintState.{SprintState}
use Rattle.sprints.specs.declared.state.SprintState.TheVariants.{Future, Active, Closed}
use Rattle.sprints.specs.Sprint.{state_of}
use Rattle.sprints.specs.State.{after_start, after_close}
use Rattle.burndown.specs.declared.share.BurnRow.{BurnRow}
use Rattle.tracker_work.specs.Seen.{Seen, done_of, state_in, sprint_start, sprint_left, sprint_rows}
use Rattle.tracker_calls.specs.Part.{part_of}
use Rattle.tracker_calls.specs.declared.call.Part.{Part}
use Rattle.tracker_calls.specs.declared.reply.Answer.{Answer}
use Rattle.tracker_calls.specs.declared.reply.Answer.TheVariants as answer
use Rattle.tracker_calls.specs.declared.reply.BurnedRow.{BurnedRow}
use Rattle.tracker_calls.specs.declared.cause.Limit.TheVariants as limit
use Rattle.tracker_calls.specs.declared.cause.Cause.{Cause}
use Rattle.tracker_calls.specs.declared.cause.Cause.TheVariants as cause
use Rattle.tracker_calls.specs.declared.reply.SprintPhase.{SprintPhase}
use Rattle.tracker_calls.specs.declared.reply.SprintPhase.TheVariants as phase
use Rattle.tracker_calls.specs.declared.cause.Thing.TheVariants as thing
use Rattle.tracker_machine.specs.Machine.{Machine}
use Rattle.tracker_machine.specs.Known.{key_numbered}
use Rattle.tracker_machine.specs.Checks.{or_then, unless_known, only_if, permission_refusal}
use Rattle.tracker_machine.specs.Effect.Effect.{NewSprint, NewState}
use Rattle.tracker_machine.specs.Meaning.{Meaning, unless}
use Rattle.tracker_machine.specs.Meaning.Meaning.{Refuses, Tells, Makes}

-- how far a sprint of this state is, as a reply tells it
abbrev pub told_phase : SprintState → SprintPhase
told_phase Future = phase.Future
told_phase (Active at change) = phase.Active
told_phase (Closed start_at start_change at change) = phase.Closed

-- the sprint has to be there
abbrev pub unless_sprint : Machine → SprintNo → Option Cause
unless_sprint m sprint =
    unless_known (state_of m.sprints sprint.0) (cause.Unknown thing.Sprint (decimal sprint.0))

-- it is there, and the caller may plan
abbrev pub plan_sprint_refusal : Machine → ℕ → SprintNo → Option Cause
plan_sprint_refusal m caller sprint =
    or_then (unless_sprint m sprint) (permission_refusal m caller permission.Plan None)

-- ---- make_sprint

-- fewer than 1,000 sprints are kept
abbrev pub sprints_refusal : Machine → Option Cause
sprints_refusal m = only_if (nat_lt (length m.sprints) most_sprints) (cause.Limit limit.Sprints)

-- the caller may plan, and one more sprint finds room
abbrev pub make_sprint_refusal : Machine → ℕ → Option Cause
make_sprint_refusal m caller =
    or_then (permission_refusal m caller permission.Plan None) (sprints_refusal m)

-- sprints are numbered from 1
abbrev pub next_sprint : Machine → SprintNo
next_sprint m = record { 0 = length m.sprints + 1 }

abbrev pub make_sprint_meaning : Machine → ℕ → List ℕ → Meaning
make_sprint_meaning m caller name =
    unless (make_sprint_refusal m caller)
    (Makes (answer.MakeSprint (next_sprint m)) (NewSprint name))

-- ---- start_sprint and close_sprint

-- a sprint of this state goes to the next one, where there is one; else the call is refused
abbrev pub turned : SprintNo → SprintState → Option SprintState → Meaning
turned sprint kept (Some next) =
    Makes (answer.SprintPhase sprint (told_phase next)) (NewState sprint next)
turned sprint kept None = Refuses (cause.SprintIs (told_phase kept))

abbrev pub start_sprint_meaning : Machine → ℕ → SprintNo → Meaning
start_sprint_meaning m caller sprint =
    unless (plan_sprint_refusal m caller sprint)
    (turned sprint (state_in m.sprints sprint.0)
    (after_start (state_in m.sprints sprint.0) m.moment m.change))

abbrev pub close_sprint_meaning : Machine → ℕ → SprintNo → Meaning
close_sprint_meaning m caller sprint =
    unless (plan_sprint_refusal m caller sprint)
    (turned sprint (state_in m.sprints sprint.0)
    (after_close (state_in m.sprints sprint.0) m.moment m.change))

-- ---- burndown

-- what the remaining work of each sprint goes by
abbrev pub work_of : Machine → Seen
work_of m =
    record {
      done = done_of m.setup.status;
      sprints = m.sprints;
      histories = m.histories;
      change = m.change;
    }

-- a change of what remains, under the key of its issue
abbrev pub told_row : List History → BurnRow → BurnedRow
told_row histories row = record {
  at = row.at;
  by = row.by;
  change = row.change;
  issue = key_numbered histories row.issue.0;
  left = row.left;
}

unfoldable pub burndown_answer : Machine → SprintNo → Part → Answer
burndown_answer m sprint part =
    answer.Burndown (sprint_left (work_of m) sprint.0)
    (map (told_row m.histories) (part_of part (sprint_rows (work_of m) sprint.0)))
    (sprint_start (work_of m) sprint.0)
    (told_phase (state_in m.sprints sprint.0))
    (length (sprint_rows (work_of m) sprint.0))

abbrev pub burndown_meaning : Machine → ℕ → SprintNo → Part → Meaning
burndown_meaning m caller sprint part =
    unless (plan_sprint_refusal m caller sprint) (Tells (burndown_answer m sprint part))
