-- The keys of the tables of the setup.
use Rattle.std.specs.Prelude.{ℕ, List, [], ◌∷◌, Bool, Option, Some, None, option_map, if◌then◌else◌, codes}
use Rattle.std.specs.List.{list_any}
use Rattle.std.specs.Option.{option_or}
use Rattle.std.specs.Str.{bytes_eq}
use Rattle.toml.specs.Data.{Members, no_members, member, get_member}
use Rattle.setup_drafts.specs.declared.fault.SetupFault.{SetupFault}
use Rattle.setup_drafts.specs.declared.fault.SetupFault.TheVariants.{Unknown}
use Rattle.setup_drafts.specs.declared.keys.KeySet.{KeySet}
use Rattle.setup_drafts.specs.declared.keys.KeySet.TheVariants.{Top, Group, Project, Status, Transition, Field, Offset}
use Rattle.setup_drafts.specs.Cells.{tables_in}
use Rattle.field_forms.specs.Values.{is_before}

-- the keys of each kind of table
abbrev pub keys_of : KeySet → List (List ℕ)
keys_of Top =
    codes "utc_offset_minutes" ∷ codes "week_starts" ∷ codes "rebalancer" ∷ codes "users"
    ∷ codes "types"
    ∷ codes "priorities" ∷ codes "resolutions" ∷ codes "versions" ∷ codes "first_status"
    ∷ codes "plan"
    ∷ codes "administer" ∷ codes "group" ∷ codes "project" ∷ codes "status" ∷ codes "transition"
    ∷ codes "field" ∷ codes "offset" ∷ []
keys_of Group = codes "name" ∷ codes "members" ∷ []
keys_of Project =
    codes "key" ∷ codes "lead" ∷ codes "browse" ∷ codes "create" ∷ codes "edit" ∷ codes "transition"
    ∷ codes "rank" ∷ []
keys_of Status = codes "name" ∷ codes "category" ∷ []
keys_of Transition =
    codes "name" ∷ codes "from" ∷ codes "to" ∷ codes "conditions" ∷ codes "validators"
    ∷ codes "post" ∷ []
keys_of Field = codes "number" ∷ codes "name" ∷ codes "kind" ∷ codes "options" ∷ []
keys_of Offset = codes "from" ∷ codes "minutes" ∷ []

abbrev pub is_key : KeySet → List ℕ → Bool
is_key set name = list_any (λ key. bytes_eq name key) (keys_of set)

-- the first key that isn't the table's; the keys of a table stand in the order of their bytes
abbrev pub unknown_key : KeySet → Members → Option (List ℕ)
unknown_key set no_members = None
unknown_key set (member key value ms) = if is_key set key then unknown_key set ms else Some key

-- the one that comes first in the order of bytes
abbrev pub lesser : Option (List ℕ) → Option (List ℕ) → Option (List ℕ)
lesser None other = other
lesser (Some one) None = Some one
lesser (Some one) (Some other) = if is_before other one then Some other else Some one

-- the first unknown key of some tables, or the one that was found before
abbrev pub unknown_below : KeySet → Option (List ℕ) → List Members → Option (List ℕ)
unknown_below set found [] = found
unknown_below set found (e ∷ es) = unknown_below set (lesser found (unknown_key set e)) es

-- the first unknown key of all tables below the top
unfoldable pub unknown_in_tables : Members → Option (List ℕ)
unknown_in_tables ms =
    unknown_below Offset (unknown_below Field
    (unknown_below Transition (unknown_below Status
    (unknown_below Project (unknown_below Group None
    (tables_in (get_member (codes "group") ms)))
    (tables_in (get_member (codes "project") ms)))
    (tables_in (get_member (codes "status") ms)))
    (tables_in (get_member (codes "transition") ms)))
    (tables_in (get_member (codes "field") ms)))
    (tables_in (get_member (codes "offset") ms))

-- a key that isn't the setup's: one of the top table, else the first of all tables below it
unfoldable pub key_fault : Members → Option SetupFault
key_fault ms = option_map Unknown (option_or (unknown_key Top ms) (unknown_in_tables ms))
