-- The call `search`: the issues of which a query holds now.
use Rattle.std.specs.Prelude.{ℕ, Bool, ◌&&◌, List, map, filter, length, Option, Result, Ok, Err}
use Rattle.std.specs.Ordering.{is_lt, nat_cmp}
use Rattle.std.specs.declared.cmp.Ordering.{Ordering}
use Rattle.field_values.specs.declared.rules.Permission.TheVariants as permission
use Rattle.field_values.specs.Parts.{Parts}
use Rattle.field_values.specs.Words.{day_number}
use Rattle.setup_drafts.specs.Offsets.{zone_of}
use Rattle.fields.specs.SetupParts.{may}
use Rattle.change_history.specs.History.{History}
use Rattle.board.specs.Order.{Pair, places_before}
use Rattle.workflow.specs.Conditions.{project_number}
use Rattle.jql_bound.specs.Condition.{Condition}
use Rattle.jql_bound.specs.declared.order.OrderKey.{OrderKey}
use Rattle.jql_meaning.specs.Surroundings.{Surroundings}
use Rattle.sprints.specs.declared.sprint.Sprint.{Sprint}
use Rattle.jql_meaning.specs.Truth.{query_holds}
use Rattle.jql_meaning.specs.Order.{issue_cmp}
use Rattle.tracker_calls.specs.Part.{part_of}
use Rattle.tracker_calls.specs.declared.call.Part.{Part}
use Rattle.tracker_calls.specs.declared.reply.Answer.{Answer}
use Rattle.tracker_calls.specs.declared.reply.Answer.TheVariants as answer
use Rattle.tracker_calls.specs.declared.cause.Cause.{Cause}
use Rattle.tracker_machine.specs.Machine.{Machine}
use Rattle.tracker_machine.specs.SprintRules.{phase_of}
use Rattle.tracker_machine.specs.Query.{Query, asked}
use Rattle.tracker_machine.specs.Listing.{in_order}
use Rattle.tracker_machine.specs.Meaning.{Meaning}
use Rattle.tracker_machine.specs.Meaning.Meaning.{Refuses, Finds}

-- ---- what is found

-- what decides beside an issue and the moment, with these sprints
abbrev pub surroundings_in : Parts → List Sprint → Surroundings
surroundings_in setup sprints = record {
  sprints = map (λ s. phase_of s.state) sprints;
  members = map (λ g. g.members) setup.group;
  calendar = record {
    zone = zone_of setup.utc_offset_minutes setup.offset;
    first_day = day_number setup.week_starts;
  };
}

-- the user may browse the issue, and the query holds of it now
abbrev pub is_found : Machine → ℕ → Option Condition → History → Bool
is_found m caller condition h =
    may m.setup caller permission.Browse (project_number m.setup h)
    && query_holds (surroundings_in m.setup m.sprints) h m.moment condition

unfoldable pub found : Machine → ℕ → Option Condition → List History
found m caller condition = filter (is_found m caller condition) m.histories

-- how two issues stand in the order of ranks, the top of a board first
abbrev pub ranks_cmp : List Pair → History → History → Ordering
ranks_cmp order one other = nat_cmp (places_before order one.no.0) (places_before order other.no.0)

-- the issues in the order of the sort keys, and by number where none of these tells them apart
abbrev pub comes_before : Parts → List OrderKey → List Pair → History → History → Bool
comes_before setup keys order one other =
    is_lt (issue_cmp setup keys (ranks_cmp order one other) one other)

unfoldable pub listed : Parts → List OrderKey → List Pair → List History → List History
listed setup keys order histories = in_order (comes_before setup keys order) histories

abbrev pub search_answer : Machine → ℕ → Part → Query → Answer
search_answer m caller part query =
    answer.Search (map (λ h. h.key)
    (part_of part (listed m.setup query.keys m.order (found m caller query.condition))))
    (length (found m caller query.condition))

-- the issues that a query finds, or its fault
abbrev pub searched : Machine → ℕ → Part → Result Query Cause → Meaning
searched m caller part (Err r) = Refuses r
searched m caller part (Ok query) = Finds (search_answer m caller part query)

unfoldable pub search_meaning : Machine → ℕ → List ℕ → Part → Meaning
search_meaning m caller jql part = searched m caller part (asked m.setup caller jql)
