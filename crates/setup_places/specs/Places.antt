-- Where the first fault of a text that is no setup is.
use Rattle.std.specs.Prelude.{◌≡◌, ◌≤◌, ◌⊎◌, ℕ, ◌+◌, ◌==◌, List, [], ◌∷◌, ◌++◌, take, Option, Some, None, IsSome, option_map, option_and_then, if◌then◌else◌, codes, decimal}
use Rattle.std.specs.Str.{IsUtf8}
use Rattle.toml.specs.Data.{Members}
use Rattle.toml.specs.Parse.{parse_document}
use Rattle.setup_drafts.specs.declared.fault.SetupFault.{SetupFault}
use Rattle.setup_drafts.specs.declared.fault.SetupFault.TheVariants.{Missing}
use Rattle.setup_reading.specs.Reading.{first_fault}
use Rattle.setup_places.specs.declared.place.Place.{Place}
use Rattle.setup_places.specs.declared.place.Place.TheVariants.{Line, Table}
use Rattle.setup_places.specs.Lacking.{table_name, first_place, kinds}

-- the line feeds among some bytes
abbrev pub feeds : List ℕ → ℕ
feeds [] = 0
feeds (byte ∷ bytes) = if byte == 10 then feeds bytes + 1 else feeds bytes

-- the number, from 1, of the line that goes on behind so many bytes of a text
abbrev pub line_at : List ℕ → ℕ → ℕ
line_at text at = feeds (take at text) + 1

-- the bytes are no TOML
abbrev pub IsNoToml : List ℕ → Type 0
IsNoToml bytes = IsUtf8 bytes → parse_document bytes ≡ None

-- the text is no TOML, and the place one of its lines
abbrev pub IsBadLine : List ℕ → Option Place → Type 0
IsBadLine bytes (Some (Line number)) =
    IsNoToml bytes × (1 ≤ number) × (number ≤ feeds bytes + 1)
IsBadLine bytes place = ⊥

-- the place of a fault: where a key is missing, the first table that lacks it
abbrev pub place_of : Option SetupFault → Members → Option Place
place_of (Some (Missing key)) ms = first_place kinds key ms
place_of fault ms = None

abbrev pub place_in : Members → Option Place
place_in ms = place_of (first_fault ms) ms

-- the text is TOML, and the place that of its first fault
pub record IsPlaceIn (bytes : List ℕ) (place : Option Place) : Type 0 where
  pub is_text : IsUtf8 bytes
  pub is_toml : IsSome (parse_document bytes)
  pub is : place ≡ option_and_then place_in (parse_document bytes)

-- where the text's first fault is to be looked for: at a line of it where it is no TOML, else at a table, if any
abbrev pub IsPlaceOf : List ℕ → Option Place → Type 0
IsPlaceOf bytes place = IsBadLine bytes place ⊎ IsPlaceIn bytes place

-- what is told of a place
abbrev pub place_line : Place → List ℕ
place_line (Line number) = codes "line " ++ (decimal number ++ 10 ∷ [])
place_line (Table set number) = table_name set ++ (32 ∷ decimal number) ++ 10 ∷ []

-- the line that is told of a text, if any
pub record IsHelp (bytes : List ℕ) (line : Option (List ℕ)) : Type 0 where
  pub place : Option Place
  pub is_place : IsPlaceOf bytes place
  pub told : line ≡ option_map place_line place
