-- The members of groups, and groups of which one has got other members.
use Rattle.std.specs.Prelude.{ℕ, zero, suc, ◌-◌, ◌<◌, ◌==◌, Bool, true, false, ◌&&◌, nat_lt, List, [], ◌∷◌, slice_get}
use Rattle.std.specs.List.{AllPairs, All, list_any}
use Rattle.std.specs.Option.{option_map_or}
use Rattle.field_values.specs.declared.numbers.UserNo.{UserNo}
use Rattle.field_values.specs.declared.numbers.GroupNo.{GroupNo}
use Rattle.field_values.specs.declared.parts.Group.{Group}

-- the group at a place has these members
abbrev pub with_members : List Group → ℕ → List UserNo → List Group
with_members [] place members = []
with_members (group ∷ groups) zero members =
    record { name = group.name; members = members } ∷ groups
with_members (group ∷ groups) (suc place) members = group ∷ with_members groups place members

-- each is one of so many users, and they rise
abbrev pub is_user_list : ℕ → List UserNo → Bool
is_user_list count [] = true
is_user_list count (user ∷ []) = nat_lt user.0 count
is_user_list count (user ∷ next ∷ users) = nat_lt user.0 next.0 && is_user_list count (next ∷ users)

-- the numbers of the users rise
abbrev pub AreRising : List UserNo → Type 0
AreRising users = AllPairs (λ one other. one.0 < other.0) users

-- those of the members of each group do
abbrev pub HaveRising : List Group → Type 0
HaveRising groups = All (λ group. AreRising group.members) groups

-- the user is one of these
abbrev pub is_member : List UserNo → ℕ → Bool
is_member members user = list_any (λ member. member.0 == user) members

-- the group has the user
abbrev pub has_member : List Group → ℕ → GroupNo → Bool
has_member groups user group =
    option_map_or (λ g. is_member g.members user) (slice_get groups (group.0 - 1)) false
