-- Which projects a user may browse, and what is found by that.
use Rattle.std.specs.Prelude.{ℕ, ◌&&◌, Bool, false, List, map, Option, Some, None, slice_get, unwrap_or}
use Rattle.std.specs.List.{list_any}
use Rattle.field_values.specs.GroupMembers.{has_member}
use Rattle.field_values.specs.Parts.{Parts}
use Rattle.change_history.specs.History.{History}
use Rattle.workflow.specs.Conditions.{project_number}
use Rattle.jql_bound.specs.Condition.{Condition}
use Rattle.jql_meaning.specs.Truth.{query_holds}
use Rattle.tracker_machine.specs.Machine.{Machine}
use Rattle.tracker_machine.specs.Search.{surroundings_in}

-- of each project, by its place, whether one of the groups that may browse it has the user
abbrev pub browsable : Parts → ℕ → List Bool
browsable setup user = map (λ p. list_any (has_member setup.group user) p.browse) setup.project

-- whether such a table lets the project be browsed; no issue of no project is
abbrev pub allows : List Bool → Option ℕ → Bool
allows table None = false
allows table (Some place) = unwrap_or (slice_get table place) false

-- whether it lets the issue's project be browsed, and the query holds of the issue now
abbrev pub is_found_by : Machine → List Bool → Option Condition → History → Bool
is_found_by m table condition h =
    allows table (project_number m.setup h)
    && query_holds (surroundings_in m.setup m.sprints) h m.moment condition
