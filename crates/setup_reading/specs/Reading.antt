-- What a setup's text says: its first fault, and where it has none, the setup.
use Rattle.std.specs.Prelude.{◌≡◌, ◌≢◌, ℕ, List, [], ◌∷◌, map, Option, Some, None, IsUtf8, Result, Ok, Err}
use Rattle.std.specs.Option.{option_map_or}
use Rattle.toml.specs.Data.{Members}
use Rattle.toml.specs.Parse.{parse_document}
use Rattle.setup_drafts.specs.declared.fault.SetupFault.{SetupFault}
use Rattle.setup_drafts.specs.declared.fault.SetupFault.TheVariants.{BadToml, Memory}
use Rattle.setup_drafts.specs.declared.draft.Draft.{Draft}
use Rattle.setup_reading.specs.declared.resolved.Resolved.{Resolved}
use Rattle.field_values.specs.Parts.{Parts}
use Rattle.setup_drafts.specs.Faults.{first_of}
use Rattle.setup_drafts.specs.Drafts.{draft_fault, draft_of}
use Rattle.setup_reading.specs.Resolving.{resolve_fault, resolved}
use Rattle.setup_drafts.specs.Keys.{key_fault}

abbrev pub fault_or : {V : Type 0} → Option SetupFault → V → Result V SetupFault
fault_or None value = Ok value
fault_or (Some fault) value = Err fault

-- the first fault: of what the keys hold, then of the names and rules in it, then of the keys themselves
unfoldable pub first_fault : Members → Option SetupFault
first_fault ms = first_of (draft_fault ms ∷ resolve_fault (draft_of ms) ∷ key_fault ms ∷ [])

-- what is written, with numbers in place of the names that must be known
abbrev pub parts_of : Draft → Resolved → Parts
parts_of draft numbers = record {
  utc_offset_minutes = draft.head.utc_offset_minutes;
  week_starts = draft.head.week_starts;
  rebalancer = numbers.rights.rebalancer;
  users = draft.lists.users;
  types = draft.lists.types;
  priorities = draft.lists.priorities;
  resolutions = draft.lists.resolutions;
  versions = draft.lists.versions;
  first_status = numbers.rights.first_status;
  plan = numbers.rights.plan;
  administer = numbers.rights.administer;
  group = numbers.tables.groups;
  project = numbers.tables.projects;
  status = draft.tables.statuses;
  transition = numbers.tables.transitions;
  field = draft.tables.fields;
  offset = draft.steps.offsets;
}

-- the setup that a table says
unfoldable pub parts_in : Members → Parts
parts_in ms = parts_of (draft_of ms) (resolved (draft_of ms))

-- the parts, or the first fault
unfoldable pub parts_or_fault : Members → Result Parts SetupFault
parts_or_fault ms = fault_or (first_fault ms) (parts_in ms)

-- what the text says: the parts of a setup, or why it is none
unfoldable pub setup_in : List ℕ → Result Parts SetupFault
setup_in text = option_map_or parts_or_fault (parse_document text) (Err BadToml)

-- the parts without the members of the groups
abbrev pub memberless : Parts → Parts
memberless parts =
    record parts { group = map (λ g. record { name = g.name; members = [] }) parts.group }

abbrev pub memberless_of : Result Parts SetupFault → Result Parts SetupFault
memberless_of (Ok parts) = Ok (memberless parts)
memberless_of (Err fault) = Err fault

-- the same of what a text says
unfoldable pub kept_in : List ℕ → Result Parts SetupFault
kept_in text = memberless_of (setup_in text)

-- why the bytes are no setup
pub record Explains (bytes : List ℕ) (fault : SetupFault) : Type 0 where
  pub as_text : fault ≢ Memory → IsUtf8 bytes → setup_in bytes ≡ Err fault
  pub as_bytes : fault ≢ Memory → ¬ IsUtf8 bytes → fault ≡ BadToml
