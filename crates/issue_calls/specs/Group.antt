-- Calls that change an issue: what they answer, and the group that they come to.
use Rattle.std.specs.Prelude.{◌≡◌, ◌≢◌, ◌<◌, ◌≤◌, ◌-◌, ℕ, List, [], length, slice_get, sum_by, Option, Some, None, Result, Ok, Err}
use Rattle.tracker_limits.specs.Limits.{entries_reserve, most_entries, most_text_bytes, text_reserve}
use Rattle.fields.specs.SetupParts.{names_in}
use Rattle.change_history.specs.declared.change.Change.{Change}
use Rattle.change_history.specs.History.{History, present}
use Rattle.field_values.specs.declared.numbers.TheConstants.FieldNo as number
use Rattle.burndown.specs.Reading.{sprint_in}
use Rattle.burndown.specs.ChartLaws.{with_entries}
use Rattle.workflow.specs.Difference.{AreNews}
use Rattle.workflow.specs.Laws.{AllFit}
use Rattle.tracker_calls.specs.declared.reply.Answer.{Answer}
use Rattle.tracker_calls.specs.declared.reply.Refusal.{Refusal}
use Rattle.tracker_machine.specs.Machine.{Machine}
use Rattle.tracker_machine.specs.Checks.{entries_kept, bytes_kept, entry_bytes}
use Rattle.tracker_machine.specs.Edit.{edit_answer}
use Rattle.tracker_machine.specs.Effect.Effect.{NewGroup}
use Rattle.tracker_machine.specs.Group.{next_group}
use Rattle.tracker_machine.specs.Meaning.{Meaning}
use Rattle.tracker_machine.specs.Meaning.Meaning.{Tells, Makes}
use Rattle.tracker_machine.specs.Tracker.{MayGroup}
use Rattle.tracker_machine.specs.Transition.{transition_answer}
use Rattle.tracker_state.specs.Plan.{IsRefused}
use Rattle.wanted_values.specs.InSprints.{AreOfSprints}
use Rattle.issue_calls.specs.Rows.{group_row}
use Rattle.issue_calls.specs.declared.group.GroupCall.{GroupCall}
use Rattle.issue_calls.specs.declared.group.GroupCall.TheVariants as call
use Rattle.issue_calls.specs.declared.group.DueGroup.{DueGroup}

-- the answer of a call that changes an issue
abbrev pub group_answer : GroupCall → List ℕ → Option ℕ → Answer
group_answer call.Edit issue number = edit_answer issue number
group_answer call.Transition issue number = transition_answer issue number

-- the issue at a place may come to these values by one of the users: they are other values than it has and fit, and there is room
-- for a group of them
pub record MayChange (m : Machine) (caller place : ℕ) (h : History)
    (changes : List Change) : Type 0 where
  pub there : slice_get m.histories place ≡ Some h
  pub author : caller < length m.setup.users
  pub few : entries_kept m.histories ≤ most_entries - entries_reserve
  pub light : bytes_kept m.histories ≤ most_text_bytes - text_reserve
  pub news : AreNews (present h) 0 changes
  pub fitting : AllFit (names_in m.setup) changes
  pub sprints : AreOfSprints (length m.sprints) changes

-- a group that may come, of an issue that was like this before; with its text bytes, its row, and the sprints that the issue is in
-- before and after it
pub record IsDueGroup (m : Machine) (h : History) (new : DueGroup) : Type 0 where
  pub there : slice_get m.histories new.plan.place ≡ Some h
  pub allowed : MayGroup m new.plan.place new.plan.group
  pub bytes : new.plan.bytes ≡ sum_by entry_bytes new.plan.group.entries
  pub row : new.row ≡ group_row (names_in m.setup) h new.plan.group
  pub before : new.before ≡ sprint_in (present h number.SPRINT)
  pub after : new.after ≡ sprint_in (present (with_entries h new.plan.group.entries) number.SPRINT)

-- so of one of the issues
abbrev pub IsDueThere : Machine → DueGroup → Type 0
IsDueThere m new = (h : History) × IsDueGroup m h new

-- these changes come to a group, and no change comes to none
abbrev pub IsGroupOf : Machine → ℕ → ℕ → History → List Change → Option DueGroup → Type 0
IsGroupOf m caller place h changes None = changes ≡ []
IsGroupOf m caller place h changes (Some new) =
    (changes ≢ []) × (new.plan.place ≡ place)
    × (new.plan.group ≡ next_group m caller h changes) × IsDueGroup m h new

-- a call of this meaning comes to a group that may come and is told of so, or to none, or to its refusal
abbrev pub ComesToGroup : Machine → (Option ℕ → Answer) → Meaning
    → Result (Option DueGroup) Refusal → Type 0
ComesToGroup m answer due (Ok None) = due ≡ Tells (answer None)
ComesToGroup m answer due (Ok (Some new)) =
    (due ≡ Makes (answer (Some new.plan.group.change)) (NewGroup new.plan.place new.plan.group))
    × IsDueThere m new
ComesToGroup m answer due (Err r) = IsRefused due r
