-- What stays where one group gets other members.
use Rattle.std.proofs.Common.{◌≡◌, ℕ, zero, suc, ◌<◌, List, [], ◌∷◌, length, get_or, slice_set, map, refl, ap, arith}
use Rattle.field_values.specs.declared.numbers.UserNo.{UserNo}
use Rattle.field_values.specs.declared.parts.Group.{Group}
use Rattle.field_values.specs.GroupMembers.{with_members}

pub set_is : (groups : List Group) (place : ℕ) (members : List UserNo) (d : Group) → place < length groups → slice_set groups place (record { name = (get_or groups place d).name; members = members }) ≡ with_members groups place members
set_is [] place members d inside = refl
set_is (group ∷ groups) zero members d inside = refl
set_is (group ∷ groups) (suc place) members d inside = ap (λ gs. group ∷ gs) (set_is groups place members d (grind (arith, inside)))

pub same_names : (groups : List Group) (place : ℕ) (members : List UserNo) → map (λ g. g.name) (with_members groups place members) ≡ map (λ g. g.name) groups
same_names [] place members = refl
same_names (group ∷ groups) zero members = refl
same_names (group ∷ groups) (suc place) members = ap (λ names. group.name ∷ names) (same_names groups place members)

pub same_length : (groups : List Group) (place : ℕ) (members : List UserNo) → length (with_members groups place members) ≡ length groups
same_length [] place members = refl
same_length (group ∷ groups) zero members = refl
same_length (group ∷ groups) (suc place) members = ap suc (same_length groups place members)

pub same_but_members : (groups : List Group) (place : ℕ) (members : List UserNo) → map (λ g. let bare : Group = record { name = g.name; members = [] } in bare) (with_members groups place members) ≡ map (λ g. let bare : Group = record { name = g.name; members = [] } in bare) groups
same_but_members [] place members = refl
same_but_members (group ∷ groups) zero members = refl
same_but_members (group ∷ groups) (suc place) members = ap (λ gs. let bare : Group = record { name = group.name; members = [] } in bare ∷ gs) (same_but_members groups place members)
