-- What stands at a place is found there by its name.
use Rattle.std.proofs.Common.{◌≡◌, ℕ, List, map, Bool, true, Some, option_map, slice_get, ◌∙◌, sym, ap}
use Rattle.std.specs.List.{list_all}
use Rattle.std.proofs.lemmas.List.Sums.{AllPass-from_list_all}
use Rattle.std.proofs.lemmas.Option.{slice_get-map, slice_get_within, get_or_from_slice_get}
use Rattle.field_values.specs.declared.parts.Group.{Group}
use Rattle.field_values.specs.declared.parts.Project.{Project}
use Rattle.field_values.specs.declared.parts.Transition.{Transition}
use Rattle.field_forms.specs.Names.{AreDistinct, place_named}
use Rattle.field_forms.specs.Known.{choices_of}
use Rattle.field_forms.proofs.RoundTrip.{place_is}
use Rattle.fields.specs.Sound.{part_names}
use Rattle.fields.specs.Naming.{ChoicesAreFound, UsersAreFound, GroupsAreFound, TransitionsAreFound, ProjectsAreFound}
use Rattle.fields.proofs.Choices.{choices_distinct}

-- what all of a list pass, the one at a place passes
pub at_place : {X : Type 0} (p : X → Bool) (xs : List X) (k : ℕ) (x : X) → list_all p xs ≡ true → slice_get xs k ≡ Some x → p x ≡ true
at_place p xs k x all is =
    ap p (sym (get_or_from_slice_get xs k x x is)) ∙ AllPass-from_list_all p xs all k x (slice_get_within xs k x is)

-- of things with distinct names, each is the first of its name
pub thing_is : {X : Type 0} (name : X → List ℕ) (xs : List X) (place : ℕ) (x : X) → AreDistinct (map name xs) → slice_get xs place ≡ Some x → place_named (name x) (map name xs) ≡ Some place
thing_is name xs place x distinct there =
    place_is (map name xs) place (name x) distinct (sym (slice_get-map name xs place ∙ ap (option_map name) there))

pub choices_are_found : ChoicesAreFound
choices_are_found parts n place name sound there =
    place_is (choices_of (part_names parts) n) place name (choices_distinct parts sound n) (sym there)

pub users_are_found : UsersAreFound
users_are_found parts place name sound there = place_is parts.users place name sound.users.distinct (sym there)

pub groups_are_found : GroupsAreFound
groups_are_found parts place group sound there = thing_is (λ (g : Group). g.name) parts.group place group sound.groups.distinct there

pub transitions_are_found : TransitionsAreFound
transitions_are_found parts place transition sound there = thing_is (λ (t : Transition). t.name) parts.transition place transition sound.transition_names.distinct there

pub projects_are_found : ProjectsAreFound
projects_are_found parts place project sound there = thing_is (λ (p : Project). p.key) parts.project place project sound.keys.distinct there
