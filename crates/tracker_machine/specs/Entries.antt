-- The call `history`: a part of an issue's entries, the oldest first.
use Rattle.std.specs.Prelude.{ℕ, List, [], map, length, Option, Some, None}
use Rattle.field_values.specs.declared.rules.Permission.TheVariants as permission
use Rattle.field_forms.specs.Known.{Names}
use Rattle.fields.specs.SetupParts.{names_in}
use Rattle.change_history.specs.declared.entry.Entry.{Entry}
use Rattle.change_history.specs.History.{History}
use Rattle.tracker_calls.specs.Part.{part_of}
use Rattle.tracker_calls.specs.declared.call.Part.{Part}
use Rattle.tracker_calls.specs.declared.reply.Answer.{Answer}
use Rattle.tracker_calls.specs.declared.reply.Answer.TheVariants as answer
use Rattle.tracker_calls.specs.declared.cause.Cause.{Cause}
use Rattle.tracker_calls.specs.declared.cause.Cause.TheVariants as cause
use Rattle.tracker_calls.specs.declared.cause.Thing.TheVariants as thing
use Rattle.tracker_calls.specs.declared.reply.ToldEntry.{ToldEntry}
use Rattle.tracker_machine.specs.Machine.{Machine}
use Rattle.fields.specs.Naming.{name_at, field_name}
use Rattle.tracker_machine.specs.Known.{history_named}
use Rattle.tracker_machine.specs.Checks.{or_then, unless_known}
use Rattle.tracker_machine.specs.Access.{access_refusal}
use Rattle.tracker_machine.specs.Show.{shown_value}
use Rattle.tracker_machine.specs.Meaning.{Meaning, unless}
use Rattle.tracker_machine.specs.Meaning.Meaning.{Tells}

-- an entry as it is told
abbrev pub told_entry : Names → Entry → ToldEntry
told_entry names e = record {
  at = e.at;
  by = name_at names.users e.author.0;
  change = e.change;
  field = field_name names.fields e.field.0;
  from = shown_value names e.field.0 e.from;
  to = shown_value names e.field.0 e.to;
}

abbrev pub history_refusal : Machine → ℕ → List ℕ → Option Cause
history_refusal m caller issue =
    or_then (unless_known (history_named m issue) (cause.Unknown thing.Issue issue))
    (access_refusal m caller permission.Browse (history_named m issue))

abbrev pub history_answer_of : Machine → Part → Option History → Answer
history_answer_of m part None = answer.History [] 0
history_answer_of m part (Some h) =
    answer.History (map (told_entry (names_in m.setup)) (part_of part h.entries)) (length h.entries)

abbrev pub history_meaning : Machine → ℕ → List ℕ → Part → Meaning
history_meaning m caller issue part =
    unless (history_refusal m caller issue)
    (Tells (history_answer_of m part (history_named m issue)))
