-- Some of the rules of an issue's row.
use Rattle.std.specs.Prelude.{◌≡◌, ◌<◌, ◌≤◌, ◌+◌, ℕ, List, length}
use Rattle.std.specs.List.{All}
use Rattle.field_values.specs.Parts.{Parts}
use Rattle.tracker_limits.specs.Limits.{most_issues, most_text_bytes}
use Rattle.change_history.specs.History.{History, opening_value}
use Rattle.fields.specs.Naming.{name_at, key_of}
use Rattle.tracker_machine.specs.Machine.{Machine}
use Rattle.tracker_machine.specs.Checks.{bytes_kept, history_bytes}
use Rattle.tracker_machine.specs.Known.{project_keys, issues_of}
use Rattle.tracker_machine.specs.Tracker.{AreNamed}
use Rattle.tracker_rows.specs.Rules.{IsInTurn}

-- the issue keeps all rules but the one of its key
pub record MayStand (m : Machine) (h : History) : Type 0 where
  pub few : length m.histories < most_issues
  pub no : h.no.0 ≡ length m.histories + 1
  pub rising : All (λ g. g.change < h.change) m.histories
  pub turn : IsInTurn m h.change h.at
  pub named : AreNamed (opening_value h.opening)
  pub light : bytes_kept m.histories + history_bytes h ≤ most_text_bytes

-- the key is that of the next issue of the project at a place
pub record IsKeyAt (setup : Parts) (histories : List History) (key : List ℕ)
    (place : ℕ) : Type 0 where
  pub there : place < length setup.project
  pub is : key ≡ key_of (name_at (project_keys setup) place)
      (issues_of (name_at (project_keys setup) place) histories + 1)
