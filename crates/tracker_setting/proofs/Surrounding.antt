-- The members of groups, as queries ask of them.
use Rattle.std.proofs.Common.{◌≡◌, ℕ, zero, suc, ◌≤◌, Bool, true, false, ◌&&◌, List, [], ◌∷◌, slice_set, map, arith, refl, ap}
use Rattle.std.specs.Prelude.{nat_lt}
use Rattle.std.specs.List.{list_all}
use Rattle.field_values.specs.declared.numbers.UserNo.{UserNo}
use Rattle.field_values.specs.declared.parts.Group.{Group}
use Rattle.field_values.specs.GroupMembers.{is_user_list, with_members}
use Rattle.fields.specs.Sound.{has_members_in}

both : (a b : Bool) → (a && b) ≡ true → (a ≡ true) × (b ≡ true)
both true b h = (refl, h)
both false b h = cc

below : (k n m : ℕ) → n ≤ m → nat_lt k n ≡ true → nat_lt k m ≡ true
below k n m l h = grind arith

-- some of so many users are some of more
of_more : (n m : ℕ) → n ≤ m → (users : List UserNo) → is_user_list n users ≡ true → is_user_list m users ≡ true
of_more n m l [] h = refl
of_more n m l (user ∷ []) h = below user.0 n m l h
of_more n m l (user ∷ next ∷ users) h =
    let parts = both (nat_lt user.0 next.0) (is_user_list n (next ∷ users)) h in
    rw (parts.0) (of_more n m l (next ∷ users) parts.1)

pub members_in_order : (n : ℕ) → n ≤ 65_536 → (groups : List Group) → list_all (has_members_in n) groups ≡ true → list_all (is_user_list 65_536) (map (λ (g : Group). g.members) groups) ≡ true
members_in_order n l [] h = refl
members_in_order n l (group ∷ groups) h =
    let parts = both (is_user_list n group.members) (list_all (has_members_in n) groups) h in
    rw (of_more n 65_536 l group.members parts.0) (members_in_order n l groups parts.1)

-- where a group at a place has other members, so have queries
pub members_set : (groups : List Group) (place : ℕ) (members : List UserNo) → slice_set (map (λ (g : Group). g.members) groups) place members ≡ map (λ (g : Group). g.members) (with_members groups place members)
members_set [] place members = refl
members_set (group ∷ groups) zero members = refl
members_set (group ∷ groups) (suc place) members = ap (λ (rest : List (List UserNo)). group.members ∷ rest) (members_set groups place members)
