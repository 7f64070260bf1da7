-- The call `edit`: fields of an issue become other values, as one change group.
use Rattle.std.specs.Prelude.{ℕ, List, [], Option, Some, None}
use Rattle.field_values.specs.declared.rules.Permission.TheVariants as permission
use Rattle.fields.specs.SetupParts.{names_in}
use Rattle.change_history.specs.declared.change.Change.{Change}
use Rattle.change_history.specs.History.{History, present}
use Rattle.workflow.specs.Net.{net_changes}
use Rattle.tracker_calls.specs.declared.given.GivenField.{GivenField}
use Rattle.tracker_calls.specs.declared.reply.Answer.{Answer}
use Rattle.tracker_calls.specs.declared.reply.Answer.TheVariants as answer
use Rattle.tracker_calls.specs.declared.cause.Cause.{Cause}
use Rattle.tracker_calls.specs.declared.cause.Cause.TheVariants as cause
use Rattle.tracker_calls.specs.declared.cause.Thing.TheVariants as thing
use Rattle.tracker_machine.specs.declared.wanted.Wanted.{Wanted}
use Rattle.tracker_machine.specs.Machine.{Machine}
use Rattle.tracker_machine.specs.Known.{place_of_issue, history_named}
use Rattle.tracker_machine.specs.Wanted.{wanted_in, changes_of}
use Rattle.tracker_machine.specs.Checks.{or_then, unless_known, set_refusal, closed_refusal, entries_refusal, bytes_refusal, values_refusal}
use Rattle.tracker_machine.specs.Access.{access_refusal}
use Rattle.tracker_machine.specs.Group.{grouped_at}
use Rattle.tracker_machine.specs.Meaning.{Meaning, unless}

-- what the call gives for each field
abbrev pub set_wants : Machine → List GivenField → ℕ → Wanted
set_wants m set n = wanted_in (names_in m.setup) n set

abbrev pub set_changes : Machine → List GivenField → List Change
set_changes m set = changes_of (names_in m.setup) (set_wants m set)

abbrev pub edit_refusal : Machine → ℕ → List ℕ → List GivenField → Option Cause
edit_refusal m caller issue set =
    or_then (unless_known (place_of_issue issue m.histories) (cause.Unknown thing.Issue issue))
    (or_then (set_refusal m set)
    (or_then (access_refusal m caller permission.Browse (history_named m issue))
    (or_then (access_refusal m caller permission.Edit (history_named m issue))
    (or_then (closed_refusal m set (history_named m issue))
    (or_then (entries_refusal m)
    (or_then (bytes_refusal m)
    (values_refusal m (set_wants m set))))))))

-- the values that differ from the present ones
abbrev pub edit_news : Machine → List GivenField → Option History → List Change
edit_news m set None = []
edit_news m set (Some h) = net_changes (present h) (set_changes m set)

abbrev pub edit_answer : List ℕ → Option ℕ → Answer
edit_answer issue number = answer.Edit number issue

abbrev pub edit_meaning : Machine → ℕ → List ℕ → List GivenField → Meaning
edit_meaning m caller issue set =
    unless (edit_refusal m caller issue set)
    (grouped_at (edit_answer issue) m caller (place_of_issue issue m.histories)
    (history_named m issue) (edit_news m set (history_named m issue)))
