-- What names stand for.
use Rattle.std.specs.Prelude.{ℕ, suc, ◌+◌, ◌-◌, ◌==◌, Bool, false, List, [], ◌∷◌, map, sum_by, slice_get, unwrap_or, Option, Some, None, option_map, option_and_then, if◌then◌else◌}
use Rattle.std.specs.Option.{is_some, option_map_or}
use Rattle.std.specs.Str.{bytes_eq}
use Rattle.field_values.specs.declared.field.Field.{Field}
use Rattle.field_forms.specs.Known.{field_named}
use Rattle.field_forms.specs.Names.{place_named}
use Rattle.field_values.specs.Parts.{Parts}
use Rattle.fields.specs.Naming.{key_of}
use Rattle.change_history.specs.History.{History}
use Rattle.change_history.specs.Key.{project_of}
use Rattle.tracker_machine.specs.Machine.{Machine}

abbrev pub project_keys : Parts → List (List ℕ)
project_keys setup = map (λ p. p.key) setup.project

-- a place that is looked up where it is known to be there
abbrev pub known_place : List ℕ → List (List ℕ) → ℕ
known_place name names = unwrap_or (place_named name names) 0

-- ---- fields

-- the name is that field's
abbrev pub names_field : List Field → ℕ → List ℕ → Bool
names_field fields n name = option_map_or (λ k. k == n) (field_named fields name) false

-- the name is a field's
abbrev pub is_field : List Field → List ℕ → Bool
is_field fields name = is_some (field_named fields name)

-- ---- issues

-- the place of the issue of that key, and its history
abbrev pub place_of_issue : List ℕ → List History → Option ℕ
place_of_issue name [] = None
place_of_issue name (h ∷ hs) =
    if bytes_eq h.key name then Some 0 else option_map suc (place_of_issue name hs)

abbrev pub history_named : Machine → List ℕ → Option History
history_named m name =
    option_and_then (λ place. slice_get m.histories place) (place_of_issue name m.histories)

-- the key of the issue of a number, which stands at the place before it
abbrev pub key_numbered : List History → ℕ → List ℕ
key_numbered histories number = option_map_or (λ h. h.key) (slice_get histories (number - 1)) []

-- how many issues a project has
abbrev pub issues_of : List ℕ → List History → ℕ
issues_of project histories =
    sum_by (λ h. if bytes_eq (project_of h.key) project then 1 else 0) histories

-- the key of the project's next issue
abbrev pub next_key : Machine → List ℕ → List ℕ
next_key m project = key_of project (issues_of project m.histories + 1)
