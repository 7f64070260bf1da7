-- The calls `save_filter`, `drop_filter` and `filter`: queries that are kept under a name, and what they find.
use Rattle.std.specs.Prelude.{ℕ, ◌==◌, ◌&&◌, ◌||◌, Bool, false, List, map, filter, length, decimal, nat_lt, Option, Some, None, Result, Ok, Err, if◌then◌else◌}
use Rattle.std.specs.Option.{is_some, option_map_or}
use Rattle.std.specs.Str.{bytes_eq}
use Rattle.rising_numbers.specs.ByNumber.{by_number, free_from}
use Rattle.field_values.specs.declared.numbers.FilterNo.{FilterNo}
use Rattle.field_values.specs.declared.rules.Permission.TheVariants as permission
use Rattle.tracker_limits.specs.Limits.{most_filters}
use Rattle.fields.specs.SetupParts.{may}
use Rattle.change_history.specs.History.{History}
use Rattle.workflow.specs.Conditions.{project_number}
use Rattle.tracker_calls.specs.Part.{part_of}
use Rattle.tracker_calls.specs.declared.call.Part.{Part}
use Rattle.tracker_calls.specs.declared.reply.Answer.{Answer}
use Rattle.tracker_calls.specs.declared.reply.Answer.TheVariants as answer
use Rattle.tracker_calls.specs.declared.cause.Limit.TheVariants as limit
use Rattle.tracker_calls.specs.declared.cause.Cause.{Cause}
use Rattle.tracker_calls.specs.declared.cause.Cause.TheVariants as cause
use Rattle.tracker_calls.specs.declared.cause.Thing.TheVariants as thing
use Rattle.tracker_machine.specs.Machine.{Machine}
use Rattle.tracker_machine.specs.Query.{Query, asked}
use Rattle.tracker_machine.specs.Saved.{SavedFilter, filter_number, filter_named, saved_query}
use Rattle.tracker_machine.specs.Checks.{or_then, unless_known, only_if, permission_refusal}
use Rattle.tracker_machine.specs.Effect.Effect.{NewFilter, NoFilter}
use Rattle.tracker_machine.specs.Search.{is_found, found, listed}
use Rattle.tracker_machine.specs.Meaning.{Meaning, unless}
use Rattle.tracker_machine.specs.Meaning.Meaning.{Refuses, Tells, Finds, Makes}

-- the filter of a number, if there is one
abbrev pub filter_numbered : Machine → FilterNo → Option SavedFilter
filter_numbered m filter_no = by_number filter_number filter_no.0 m.filters

-- it has to be there
abbrev pub unless_filter : Machine → FilterNo → Option Cause
unless_filter m filter_no =
    unless_known (filter_numbered m filter_no) (cause.Unknown thing.Filter (decimal filter_no.0))

-- ---- save_filter

-- a name that is new to the owner finds room
abbrev pub filters_refusal : Machine → ℕ → List ℕ → Option Cause
filters_refusal m caller name =
    only_if (is_some (filter_named (record { 0 = caller }) name m.filters)
    || nat_lt (length m.filters) most_filters) (cause.Limit limit.Filters)

-- the number of the caller's filter of that name, or the least one that is free
abbrev pub number_for : Machine → ℕ → List ℕ → FilterNo
number_for m caller name =
    option_map_or (λ f. f.no) (filter_named (record { 0 = caller }) name m.filters)
    (record { 0 = free_from filter_number 1 m.filters })

abbrev pub filter_for : Machine → ℕ → List ℕ → List ℕ → SavedFilter
filter_for m caller name text =
    record {
      no = number_for m caller name;
      owner = record { 0 = caller };
      name = name;
      text = text;
    }

-- the caller's filter of that name has this text already
abbrev pub is_kept : Machine → ℕ → List ℕ → List ℕ → Bool
is_kept m caller name text =
    option_map_or (λ f. bytes_eq f.text text)
    (filter_named (record { 0 = caller }) name m.filters) false

-- its number, and how many issues its owner finds by it
abbrev pub save_answer : Machine → ℕ → List ℕ → Query → Answer
save_answer m caller name query =
    answer.SaveFilter (number_for m caller name) (length (found m caller query.condition))

-- the filter is this one from now on; where it is already, nothing is done
abbrev pub saved : Machine → ℕ → List ℕ → List ℕ → Result Query Cause → Meaning
saved m caller name text (Err r) = Refuses r
saved m caller name text (Ok query) =
    if is_kept m caller name text then Finds (save_answer m caller name query)
    else Makes (save_answer m caller name query) (NewFilter (filter_for m caller name text))

unfoldable pub save_filter_meaning : Machine → ℕ → List ℕ → List ℕ → Meaning
save_filter_meaning m caller name text =
    unless (filters_refusal m caller name) (saved m caller name text (asked m.setup caller text))

-- ---- drop_filter

-- the caller owns the filter, or may administer the tracker
abbrev pub owner_refusal : Machine → ℕ → Option SavedFilter → Option Cause
owner_refusal m caller None = None
owner_refusal m caller (Some f) =
    if f.owner.0 == caller then None else permission_refusal m caller permission.Administer None

abbrev pub drop_filter_refusal : Machine → ℕ → FilterNo → Option Cause
drop_filter_refusal m caller filter_no =
    or_then (unless_filter m filter_no) (owner_refusal m caller (filter_numbered m filter_no))

abbrev pub drop_filter_meaning : Machine → ℕ → FilterNo → Meaning
drop_filter_meaning m caller filter_no =
    unless (drop_filter_refusal m caller filter_no)
    (Makes (answer.DropFilter filter_no) (NoFilter filter_no))

-- ---- filter

-- the caller and the owner may browse the issue, and the filter holds of it now
abbrev pub is_shown : Machine → ℕ → SavedFilter → History → Bool
is_shown m caller f h =
    may m.setup f.owner.0 permission.Browse (project_number m.setup h)
    && is_found m caller (saved_query m.setup f).condition h

unfoldable pub shown : Machine → ℕ → SavedFilter → List History
shown m caller f = filter (is_shown m caller f) m.histories

-- the filter's issues in the order that its text asks for
abbrev pub shown_in_order : Machine → ℕ → SavedFilter → List History
shown_in_order m caller f = listed m.setup (saved_query m.setup f).keys m.order (shown m caller f)

abbrev pub filter_answer : Machine → ℕ → Part → SavedFilter → Answer
filter_answer m caller part f =
    answer.Filter (map (λ h. h.key) (part_of part (shown_in_order m caller f)))
    (length (shown m caller f))

abbrev pub filter_told : Machine → ℕ → FilterNo → Part → Option SavedFilter → Meaning
filter_told m caller filter_no part None =
    Refuses (cause.Unknown thing.Filter (decimal filter_no.0))
filter_told m caller filter_no part (Some f) = Tells (filter_answer m caller part f)

unfoldable pub filter_meaning : Machine → ℕ → FilterNo → Part → Meaning
filter_meaning m caller filter_no part =
    filter_told m caller filter_no part (filter_numbered m filter_no)
