-- The call `list`: the issues of which a query holds now, with their fields.
use Rattle.std.specs.Prelude.{ℕ, ◌==◌, Bool, List, [], ◌∷◌, map, filter, length, Option, Some, None, Result, Ok, Err}
use Rattle.std.specs.List.{list_any, filter_map}
use Rattle.field_values.specs.declared.field.Field.{Field}
use Rattle.field_values.specs.Parts.{Parts}
use Rattle.field_forms.specs.Known.{field_named}
use Rattle.fields.specs.Naming.{field_numbers}
use Rattle.fields.specs.SetupParts.{names_in}
use Rattle.change_history.specs.History.{History, updated}
use Rattle.tracker_calls.specs.Part.{part_of}
use Rattle.tracker_calls.specs.declared.call.Part.{Part}
use Rattle.tracker_calls.specs.declared.listed.ListedIssue.{ListedIssue}
use Rattle.tracker_calls.specs.declared.reply.Answer.{Answer}
use Rattle.tracker_calls.specs.declared.reply.Answer.TheVariants as answer
use Rattle.tracker_calls.specs.declared.cause.Cause.{Cause}
use Rattle.tracker_calls.specs.declared.cause.Cause.TheVariants as cause
use Rattle.tracker_calls.specs.declared.cause.Thing.TheVariants as thing
use Rattle.tracker_machine.specs.Machine.{Machine}
use Rattle.tracker_machine.specs.Query.{Query, asked}
use Rattle.tracker_machine.specs.Checks.{or_then, unless_known}
use Rattle.tracker_machine.specs.Search.{found, listed}
use Rattle.tracker_machine.specs.Show.{shown_fields}
use Rattle.tracker_machine.specs.Meaning.{Meaning, unless}
use Rattle.tracker_machine.specs.Meaning.Meaning.{Refuses, Finds}

-- ---- the fields that are asked for

-- each name is a field's; the first that isn't one is told as it is written
abbrev pub names_are_fields : List Field → List (List ℕ) → Option Cause
names_are_fields fields [] = None
names_are_fields fields (name ∷ names) =
    or_then (unless_known (field_named fields name) (cause.Unknown thing.Field name))
    (names_are_fields fields names)

-- where any are named
abbrev pub fields_refusal : List Field → Option (List (List ℕ)) → Option Cause
fields_refusal fields None = None
fields_refusal fields (Some names) = names_are_fields fields names

-- the numbers of the fields of these names
abbrev pub named_fields : List Field → List (List ℕ) → List ℕ
named_fields fields names = filter_map (field_named fields) names

abbrev pub is_one_of : List ℕ → ℕ → Bool
is_one_of numbers n = list_any (λ k. k == n) numbers

-- those of the tracker's fields that are named, or all where none are, each once
abbrev pub wanted_fields : List Field → Option (List (List ℕ)) → List ℕ
wanted_fields fields None = field_numbers fields
wanted_fields fields (Some names) =
    filter (is_one_of (named_fields fields names)) (field_numbers fields)

-- ---- what is told

-- an issue with those of the fields of these numbers that aren't empty
abbrev pub listed_issue : Parts → List ℕ → History → ListedIssue
listed_issue setup numbers h = record {
  created = h.at;
  fields = shown_fields (names_in setup) h numbers;
  issue = h.key;
  updated = updated h;
}

-- as many are found, and in the same order, as by a search; the fields are those of these numbers
abbrev pub list_answer : Machine → ℕ → List ℕ → Part → Query → Answer
list_answer m caller numbers part query =
    answer.List (map (listed_issue m.setup numbers)
    (part_of part (listed m.setup query.keys m.order (found m caller query.condition))))
    (length (found m caller query.condition))

-- the issues that a query finds, or its fault
abbrev pub issues_listed : Machine → ℕ → List ℕ → Part → Result Query Cause → Meaning
issues_listed m caller numbers part (Err r) = Refuses r
issues_listed m caller numbers part (Ok query) = Finds (list_answer m caller numbers part query)

unfoldable pub list_meaning : Machine → ℕ → List ℕ → Option (List (List ℕ)) → Part → Meaning
list_meaning m caller jql fields part =
    unless (fields_refusal m.setup.field fields)
    (issues_listed m caller (wanted_fields m.setup.field fields) part (asked m.setup caller jql))
