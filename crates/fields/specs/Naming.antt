-- What the things of a setup are called, by their numbers and places.
use Rattle.std.specs.Prelude.{◌≡◌, ℕ, ◌-◌, ◌==◌, true, List, [], ◌∷◌, ◌++◌, map, slice_get, unwrap_or, decimal, Some, option_map}
use Rattle.std.specs.List.{list_any}
use Rattle.std.specs.Option.{option_or}
use Rattle.field_values.specs.declared.field.Field.{Field}
use Rattle.field_values.specs.declared.parts.Group.{Group}
use Rattle.field_values.specs.declared.parts.Project.{Project}
use Rattle.field_values.specs.declared.parts.Transition.{Transition}
use Rattle.field_values.specs.Parts.{Parts}
use Rattle.field_forms.specs.BuiltIn.{field_names}
use Rattle.field_forms.specs.Known.{own_field, field_named, choices_of}
use Rattle.field_forms.specs.Names.{place_named}
use Rattle.field_forms.specs.SoundRules.{is_field}
use Rattle.fields.specs.Sound.{part_names, IsSound}

-- the name at a place
abbrev pub name_at : List (List ℕ) → ℕ → List ℕ
name_at names place = unwrap_or (slice_get names place) []

-- the numbers of the fields that every tracker has
abbrev pub built_in_numbers : List ℕ
built_in_numbers = 1 ∷ 2 ∷ 3 ∷ 4 ∷ 5 ∷ 6 ∷ 7 ∷ 8 ∷ 9 ∷ 10 ∷ 11 ∷ 12 ∷ 13 ∷ []

-- the numbers of all fields: of those that every tracker has, and of the setup's own in its order
abbrev pub field_numbers : List Field → List ℕ
field_numbers fields = built_in_numbers ++ map (λ f. f.number.0) fields

-- the name of a field as the setup spells it
abbrev pub field_name : List Field → ℕ → List ℕ
field_name fields n =
    unwrap_or (option_or (slice_get field_names (n - 1))
    (option_map (λ f. f.name) (own_field fields n))) []

-- the key of an issue: its project's, a hyphen and a number
abbrev pub key_of : List ℕ → ℕ → List ℕ
key_of project number = project ++ 45 ∷ decimal number

-- these are the numbers for whose values there is a form
abbrev pub NumbersAreFields : Type 0
NumbersAreFields =
    (fields : List Field) (n : ℕ)
    → list_any (λ k. k == n) (field_numbers fields) ≡ is_field fields n

-- a field's name is that field's alone
abbrev pub FieldsAreFound : Type 0
FieldsAreFound =
    (parts : Parts) (n : ℕ) → IsSound parts → is_field parts.field n ≡ true →
    field_named parts.field (field_name parts.field n) ≡ Some n

-- so is the name of each choice that a field has: type, status, user, priority, resolution, version or option
abbrev pub ChoicesAreFound : Type 0
ChoicesAreFound =
    (parts : Parts) (n place : ℕ) (name : List ℕ) → IsSound parts →
    slice_get (choices_of (part_names parts) n) place ≡ Some name →
    place_named name (choices_of (part_names parts) n) ≡ Some place

-- so are those of a user, a group and a transition, and the key of a project
abbrev pub UsersAreFound : Type 0
UsersAreFound =
    (parts : Parts) (place : ℕ) (name : List ℕ) → IsSound parts →
    slice_get parts.users place ≡ Some name → place_named name parts.users ≡ Some place

abbrev pub GroupsAreFound : Type 0
GroupsAreFound =
    (parts : Parts) (place : ℕ) (group : Group) → IsSound parts →
    slice_get parts.group place ≡ Some group
    → place_named group.name (map (λ g. g.name) parts.group) ≡ Some place

abbrev pub TransitionsAreFound : Type 0
TransitionsAreFound =
    (parts : Parts) (place : ℕ) (transition : Transition) → IsSound parts →
    slice_get parts.transition place ≡ Some transition →
    place_named transition.name (map (λ t. t.name) parts.transition) ≡ Some place

abbrev pub ProjectsAreFound : Type 0
ProjectsAreFound =
    (parts : Parts) (place : ℕ) (project : Project) → IsSound parts →
    slice_get parts.project place ≡ Some project →
    place_named project.key (map (λ p. p.key) parts.project) ≡ Some place
