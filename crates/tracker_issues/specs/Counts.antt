-- How many issues each project has, and which project each issue is of.
use Rattle.std.specs.Prelude.{◌≡◌, ℕ, List, map, Some}
use Rattle.field_values.specs.declared.numbers.ProjectNo.{ProjectNo}
use Rattle.field_values.specs.declared.parts.Project.{Project}
use Rattle.field_values.specs.Parts.{Parts}
use Rattle.change_history.specs.History.{History}
use Rattle.workflow.specs.Conditions.{project_number}
use Rattle.tracker_machine.specs.Known.{issues_of}

-- by the projects' places
abbrev pub counts_of : List Project → List History → List ℕ
counts_of projects histories = map (λ p. issues_of p.key histories) projects

-- how many issues each project has, by the projects' places, and the project of each issue, by the issues' places
pub record Tally : Type 0 where
  pub counts : List ℕ
  pub projects : List ProjectNo

-- both are as the keys of these issues have them
pub record IsTally (tally : Tally) (setup : Parts) (histories : List History) : Type 0 where
  pub counted : tally.counts ≡ counts_of setup.project histories
  pub placed : map (λ no. Some no.0) tally.projects ≡ map (project_number setup) histories
