-- The call `set_group`: a group has other members.
use Rattle.std.specs.Prelude.{◌≡◌, ℕ, ◌+◌, ◌==◌, Bool, false, if◌then◌else◌, List, [], ◌∷◌, map, length, slice_get, Option, None, Ok}
use Rattle.std.specs.Cmp.Lexicographic.{pointwise}
use Rattle.std.specs.Option.{option_map_or}
use Rattle.field_values.specs.Parts.{Parts}
use Rattle.field_values.specs.declared.numbers.UserNo.{UserNo}
use Rattle.field_values.specs.declared.rules.Permission.TheVariants as permission
use Rattle.field_forms.specs.Names.{place_named}
use Rattle.fields.specs.Naming.{name_at}
use Rattle.setup_reading.specs.Reading.{setup_in}
use Rattle.setup_reading.specs.Resolving.{members_in}
use Rattle.tracker_calls.specs.declared.reply.Answer.{Answer}
use Rattle.tracker_calls.specs.declared.reply.Answer.TheVariants as answer
use Rattle.tracker_calls.specs.declared.cause.Cause.{Cause}
use Rattle.tracker_calls.specs.declared.cause.Cause.TheVariants as cause
use Rattle.tracker_calls.specs.declared.cause.Thing.TheVariants as thing
use Rattle.tracker_machine.specs.Machine.{Machine}
use Rattle.tracker_machine.specs.Known.{known_place}
use Rattle.tracker_machine.specs.Checks.{or_then, unless_known, permission_refusal}
use Rattle.tracker_machine.specs.Effect.Effect.{NewMembers}
use Rattle.tracker_machine.specs.Meaning.{Meaning, unless}
use Rattle.tracker_machine.specs.Meaning.Meaning.{Tells, Makes}

abbrev pub group_names : Parts → List (List ℕ)
group_names setup = map (λ g. g.name) setup.group

-- the setup is that of the text, but for who is in its groups
pub record IsSetupOf (text : List ℕ) (setup : Parts) : Type 0 where
  pub written : Parts
  pub reads : setup_in text ≡ Ok written
  pub same : setup ≡ record written { group = setup.group }
  pub groups : group_names setup ≡ group_names written

-- the first of these names that is no user's
abbrev pub stranger_refusal : List (List ℕ) → List (List ℕ) → Option Cause
stranger_refusal users [] = None
stranger_refusal users (name ∷ names) =
    or_then (unless_known (place_named name users) (cause.Unknown thing.User name))
    (stranger_refusal users names)

-- the group is there, so is each user, and the caller may administer the tracker
abbrev pub set_group_refusal : Machine → ℕ → List ℕ → List (List ℕ) → Option Cause
set_group_refusal m caller group names =
    or_then (unless_known (place_named group (group_names m.setup))
    (cause.Unknown thing.Group group))
    (or_then (stranger_refusal m.setup.users names)
    (permission_refusal m caller permission.Administer None))

-- the users of these names, each once, in the setup's order of users
abbrev pub users_named : Parts → List (List ℕ) → List UserNo
users_named setup names = members_in 0 setup.users names

-- the group at a place has these members already
abbrev pub has_members : Parts → ℕ → List UserNo → Bool
has_members setup place members =
    option_map_or (λ g. pointwise (λ one other. one.0 == other.0) g.members members)
    (slice_get setup.group place) false

-- the group's name as the setup spells it, and how many members it has
abbrev pub members_answer : Parts → ℕ → List UserNo → Answer
members_answer setup place members =
    answer.SetGroup (name_at (group_names setup) place) (length members)

-- the group at a place has these members from now on; where it has them already, nothing is done
abbrev pub regroups : Parts → ℕ → List UserNo → Meaning
regroups setup place members =
    if has_members setup place members then Tells (members_answer setup place members)
    else Makes (members_answer setup place members) (NewMembers (record { 0 = place + 1 }) members)

unfoldable pub set_group_meaning : Machine → ℕ → List ℕ → List (List ℕ) → Meaning
set_group_meaning m caller group names =
    unless (set_group_refusal m caller group names)
    (regroups m.setup (known_place group (group_names m.setup)) (users_named m.setup names))
