-- What `set` gives, with each name looked up once.
use Rattle.std.specs.Prelude.{◌≡◌, ℕ, ◌==◌, List, [], ◌∷◌, map, Bool, false, Option, Some, None, option_map, if◌then◌else◌}
use Rattle.std.specs.Option.{is_some, option_map_or}
use Rattle.field_values.specs.declared.numbers.TheConstants.FieldNo as number
use Rattle.field_values.specs.declared.field.Field.{Field}
use Rattle.field_values.specs.Parts.{Parts}
use Rattle.field_forms.specs.Known.{field_named}
use Rattle.field_forms.specs.Values.{is_before}
use Rattle.tracker_calls.specs.declared.given.Given.{Given}
use Rattle.tracker_calls.specs.declared.given.GivenField.{GivenField}
use Rattle.tracker_calls.specs.declared.cause.Cause.{Cause}
use Rattle.tracker_calls.specs.declared.cause.Cause.TheVariants as cause
use Rattle.tracker_calls.specs.declared.cause.Thing.TheVariants as thing
use Rattle.tracker_machine.specs.Checks.{sprint_refusal}
use Rattle.wanted_values.specs.declared.resolved.ResolvedName.{ResolvedName}

-- what `set` gives, and the setup by which its names are read
pub record GivenSet : Type 0 where
  pub setup : Parts
  pub set : List GivenField

-- a name, and the number of its field, if it is a field's
abbrev pub NamedField : Type 0
NamedField = List ℕ × Option ℕ

abbrev pub named_in : List Field → GivenField → NamedField
named_in fields g = (g.name, field_named fields g.name)

abbrev pub resolved : ResolvedName → NamedField
resolved r = (r.name.now, option_map (λ n. n.0) r.field)

-- the names are those of `set`, and so is what is given by each
pub record IsResolved (fields : List Field) (set : List GivenField)
    (names : List ResolvedName) : Type 0 where
  pub named : map resolved names ≡ map (named_in fields) set
  pub given : map (λ r. r.given.now) names ≡ map (λ g. g.given) set

abbrev pub is_of : ℕ → ResolvedName → Bool
is_of n r = option_map_or (λ k. k == n) (option_map (λ f. f.0) r.field) false

-- what is given by the last name that is the field's, and where none is, what was found before
abbrev pub last_given : ℕ → Option Given → List ResolvedName → Option Given
last_given n before [] = before
last_given n before (r ∷ rs) = last_given n (if is_of n r then Some r.given.now else before) rs

-- ---- names that are refused

-- a name is a field's, and where it is the sprint field's, no sprint is missing
abbrev pub refusal_of : Option ℕ → NamedField → Option Cause
refusal_of missing (name, None) = Some (cause.Unknown thing.Field name)
refusal_of missing (name, Some n) = if n == number.SPRINT.0 then sprint_refusal missing else None

-- of one that was found before, if there is one, and another the one that comes first in byte order
abbrev pub sooner_of : Option NamedField → NamedField → NamedField
sooner_of None named = named
sooner_of (Some found) named = if is_before named.0 found.0 then named else found

abbrev pub found_with : Option ℕ → Option NamedField → NamedField → Option NamedField
found_with missing found named =
    if is_some (refusal_of missing named) then Some (sooner_of found named) else found

-- the first that is refused, and one that may be found before
abbrev pub first_of : Option ℕ → Option NamedField → List NamedField → Option NamedField
first_of missing found [] = found
first_of missing found (named ∷ more) = first_of missing (found_with missing found named) more
