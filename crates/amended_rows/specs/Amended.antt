-- The rows of a tracker whose setup is amended: another text takes the place of the one that it has.
use Rattle.std.specs.Prelude.{ℕ, zero, suc, ◌==◌, ◌||◌, Bool, List, [], ◌∷◌, ◌++◌, map, length, slice_get, Option, option_and_then, if◌then◌else◌}
use Rattle.std.specs.Option.{option_map_or}
use Rattle.field_values.specs.Parts.{Parts}
use Rattle.field_values.specs.declared.parts.Group.{Group}
use Rattle.field_values.specs.declared.numbers.UserNo.{UserNo}
use Rattle.field_forms.specs.Names.{place_named}
use Rattle.fields.specs.SetupParts.{names_in}
use Rattle.tracker_keeper.specs.declared.row.RowOp.{RowOp}
use Rattle.tracker_keeper.specs.declared.row.RowOp.TheVariants.{Drop}
use Rattle.tracker_keeper.specs.Bodies.{user_names}
use Rattle.tracker_keeper.specs.Rows.{Rows}
use Rattle.tracker_machine.specs.Machine.{Machine, opening}
use Rattle.tracker_machine.specs.Kept.{rows_of, present_part, put_part, opening_ops}
use Rattle.tracker_machine.specs.Members.{group_names, users_named}

-- ---- who is in a group

-- the setup's group of that name
abbrev pub group_named : List ℕ → Parts → Option Group
group_named name setup =
    option_and_then (λ place. slice_get setup.group place) (place_named name (group_names setup))

-- these users of the old setup, by their names, but for those whom the new one hasn't
abbrev pub users_still : Parts → Parts → List UserNo → List UserNo
users_still old new members = users_named new (user_names old.users members)

-- the members that a group of the new setup comes to have: where the old one has a group of its name, that group's, but for users who are
-- gone; and else those that the text gives it
abbrev pub members_kept : Parts → Parts → Group → List UserNo
members_kept old new g =
    option_map_or (λ was. users_still old new was.members) (group_named g.name old) g.members

-- the group with them
abbrev pub with_kept : Parts → Parts → Group → Group
with_kept old new g = record { name = g.name; members = members_kept old new g }

-- the new setup, each of whose groups has the members that it comes to have
abbrev pub with_kept_members : Parts → Parts → Parts
with_kept_members old new = record new { group = map (with_kept old new) new.group }

-- ---- rows

-- the kinds of rows that go by the setup alone: its own row, and those of who is in its groups
abbrev pub goes_by_setup : ℕ → Bool
goes_by_setup kind = (kind == 1) || (kind == 10)

-- the tracker's rows with another setup, which is read from this text: the row of the setup and those of who is in its groups are those
-- that a new tracker would have, were these their members; all others stay as they are
unfoldable pub amended : Machine → List ℕ → Parts → Rows
amended m text setup kind number =
    if goes_by_setup kind then rows_of (opening text (with_kept_members m.setup setup)) kind number
    else rows_of m kind number

-- ---- operations

-- the members of this many groups are told no more
abbrev pub member_drops : ℕ → List RowOp
member_drops zero = []
member_drops (suc count) = member_drops count ++ Drop 10 (suc count) ∷ []

-- the operations that amend the rows of a tracker, of whichever format they are: all members go, the rows of a new tracker come, and it
-- stands where it stood
unfoldable pub amending_ops : Machine → List ℕ → Parts → List RowOp
amending_ops m text setup =
    member_drops (length m.setup.group)
    ++ (opening_ops (opening text (with_kept_members m.setup setup))
    ++ put_part (names_in m.setup) (present_part m) ∷ [])
