-- What a create comes to once its checks are made.
use Rattle.std.specs.Prelude.{◌≡◌, ◌<◌, ◌≤◌, ℕ, true, List, length, Option, Some, Result, Ok, Err, ◌-◌}
use Rattle.field_values.specs.declared.numbers.ProjectNo.{ProjectNo}
use Rattle.tracker_limits.specs.Limits.{most_issues, most_text_bytes, text_reserve}
use Rattle.fields.specs.Naming.{name_at}
use Rattle.fields.specs.SetupParts.{names_in}
use Rattle.change_history.specs.History.{opening_value}
use Rattle.workflow.specs.Laws.{AllFit}
use Rattle.tracker_calls.specs.declared.reply.Answer.{Answer}
use Rattle.tracker_calls.specs.declared.reply.Refusal.{Refusal}
use Rattle.tracker_keeper.specs.Forms.{are_opening}
use Rattle.tracker_machine.specs.Checks.{bytes_kept}
use Rattle.tracker_machine.specs.Create.{created, filled}
use Rattle.tracker_machine.specs.Effect.{MayName}
use Rattle.tracker_machine.specs.Known.{project_keys}
use Rattle.tracker_machine.specs.Machine.{Machine}
use Rattle.tracker_machine.specs.Meaning.{Meaning}
use Rattle.tracker_machine.specs.Rank.{last_rank, with_given}
use Rattle.tracker_machine.specs.Tracker.{AreNamed, AreSmall}
use Rattle.tracker_state.specs.Plan.{told, IsRefused}
use Rattle.wanted_values.specs.InSprints.{AreOfSprints}
use Rattle.wanted_values.specs.Weight.{AreLight}
use Rattle.issue_calls.specs.declared.due.Due.{Due}
use Rattle.issue_calls.specs.declared.due.Due.TheVariants.{Told, New}
use Rattle.issue_calls.specs.declared.due.NewValues.{NewValues}

-- the key of the project at a place
abbrev pub key_of_project : Machine → ProjectNo → List ℕ
key_of_project m project = name_at (project_keys m.setup) project.0

-- an issue of the project may open with these values, which fit, as far as they name its type, summary and status, and there is
-- room for one more
pub record MayBegin (m : Machine) (new : NewValues) : Type 0 where
  pub there : new.project.0 < length m.setup.project
  pub few : length m.histories < most_issues
  pub light : bytes_kept m.histories ≤ most_text_bytes - text_reserve
  pub slight : AreLight (filled new.changes.items)
  pub fitting : AllFit (names_in m.setup) new.changes.items
  pub sprints : AreOfSprints (length m.sprints) new.changes.items
  pub named : AreNamed (opening_value (filled new.changes.items))
  pub listed : AreSmall (filled new.changes.items)
      → are_opening (names_in m.setup) (filled new.changes.items) ≡ true

-- an issue of these values, with this external id if any, behind all others
abbrev pub created_last : Machine → ℕ → Option (List ℕ) → NewValues → Meaning
created_last m caller external new =
    with_given (last_rank m)
    (created m caller (key_of_project m new.project) external new.changes.items)

-- the answer is the one that is due, or the refusal, unless there was not enough memory
abbrev pub IsTold : Meaning → Result Answer Refusal → Type 0
IsTold due (Ok answer) = told due ≡ Some answer
IsTold due (Err r) = IsRefused due r

-- a create of this meaning comes to an answer, to a new issue that may come, or to its refusal
abbrev pub ComesTo : Machine → ℕ → Option (List ℕ) → Meaning → Result Due Refusal → Type 0
ComesTo m caller external due (Ok (Told answer)) = told due ≡ Some answer
ComesTo m caller external due (Ok (New new)) =
    (due ≡ created_last m caller external new) × MayBegin m new × MayName m.externals external
ComesTo m caller external due (Err r) = IsRefused due r
