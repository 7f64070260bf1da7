-- Which table of a setup lacks a key.
use Rattle.std.specs.Prelude.{ℕ, ◌+◌, List, [], ◌∷◌, Bool, true, false, not, ◌&&◌, ◌||◌, Option, Some, None, option_map, option_and_then, unwrap_or, if◌then◌else◌, codes}
use Rattle.std.specs.List.{list_any}
use Rattle.std.specs.Option.{option_map_or, option_or}
use Rattle.std.specs.Str.{bytes_eq}
use Rattle.toml.specs.Data.{Data, Items, no_items, item, Members, get_member, as_str, as_array, as_table}
use Rattle.setup_drafts.specs.declared.keys.KeySet.{KeySet}
use Rattle.setup_drafts.specs.declared.keys.KeySet.TheVariants.{Top, Group, Project, Status, Transition, Field, Offset}
use Rattle.setup_drafts.specs.Keys.{keys_of}
use Rattle.setup_drafts.specs.Written.{has_fewer_than}
use Rattle.setup_places.specs.declared.place.Place.{Place}
use Rattle.setup_places.specs.declared.place.Place.TheVariants.{Table}

-- the key of the top table under which the tables of a kind stand
abbrev pub table_name : KeySet → List ℕ
table_name Top = []
table_name Group = codes "group"
table_name Project = codes "project"
table_name Status = codes "status"
table_name Transition = codes "transition"
table_name Field = codes "field"
table_name Offset = codes "offset"

-- the keys that a table of a kind has to have
abbrev pub wanted_keys : KeySet → List (List ℕ)
wanted_keys Top = []
wanted_keys Transition = codes "name" ∷ codes "from" ∷ codes "to" ∷ []
wanted_keys set = keys_of set

-- the kind of the own field is choice
abbrev pub is_choice : Members → Bool
is_choice e = option_map_or (λ kind. bytes_eq kind (codes "choice"))
    (option_and_then as_str (get_member (codes "kind") e)) false

-- a table may have the key: options are a choice's alone
abbrev pub may_have : KeySet → List ℕ → Members → Bool
may_have Field key e = not (bytes_eq key (codes "options")) || is_choice e
may_have set key e = true

-- a table of that kind has to have the key
abbrev pub is_wanted : KeySet → List ℕ → Members → Bool
is_wanted set key e = list_any (λ k. bytes_eq key k) (wanted_keys set) && may_have set key e

-- the list at that key has to have an entry
abbrev pub wants_entry : KeySet → List ℕ → Bool
wants_entry Transition key = bytes_eq key (codes "from")
wants_entry Field key = bytes_eq key (codes "options")
wants_entry set key = false

-- nothing stands there, or no entry where one is wanted
abbrev pub is_lacking : Bool → Option Data → Bool
is_lacking entry None = true
is_lacking entry (Some d) = entry && has_fewer_than 1 d

-- a table of that kind has to have the key, and doesn't
abbrev pub lacks : KeySet → List ℕ → Members → Bool
lacks set key e = is_wanted set key e && is_lacking (wants_entry set key) (get_member key e)

abbrev pub table_lacks : KeySet → List ℕ → Data → Bool
table_lacks set key d = option_map_or (lacks set key) (as_table d) false

-- the number of the first table that lacks the key, where the first item has this number
abbrev pub first_from : KeySet → List ℕ → ℕ → Items → Option ℕ
first_from set key number no_items = None
first_from set key number (item d ds) =
    if table_lacks set key d then Some number else first_from set key (number + 1) ds

abbrev pub items_in : Option Data → Items
items_in value = unwrap_or (option_and_then as_array value) no_items

-- the first table of a kind that lacks the key
abbrev pub place_under : KeySet → List ℕ → Members → Option Place
place_under set key ms = option_map (λ number. Table set number)
    (first_from set key 1 (items_in (get_member (table_name set) ms)))

-- the first table of several kinds
abbrev pub first_place : List KeySet → List ℕ → Members → Option Place
first_place [] key ms = None
first_place (set ∷ sets) key ms = option_or (place_under set key ms) (first_place sets key ms)

-- the kinds of tables in the order in which a setup's are looked at
abbrev pub kinds : List KeySet
kinds = Group ∷ Project ∷ Status ∷ Transition ∷ Field ∷ Offset ∷ []
